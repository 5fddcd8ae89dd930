-- Names of files, taken apart and put together.
use Rattle.std.proofs.Common.{◌≡◌, ℕ, ◌-◌, ◌<◌, ◌≤◌, Bool, true, false, ◌&&◌, ◌||◌, ◌==◌, List, [], ◌∷◌, ◌++◌, length, map, take, drop, slice_index, Option, Some, None, refl, sym, ap, subst, ◌∙◌, eqb-true, arith, ◌↔◌, ⊎_elim, ◌⊎◌, inl, inr, codes}
use Rattle.std.specs.List.{list_all}
use Rattle.std.specs.Str.{bytes_eq}
use Rattle.std.specs.Str.Parse.{digits_value}
use Rattle.std.proofs.lemmas.Bool.Decides.{nat_tests}
use Rattle.std.proofs.lemmas.List.{length-map}
use Rattle.std.proofs.lemmas.Slice.Eq.{bytes_eq-Decides}
use Rattle.work_ids.specs.Characters.{capital, is_capital_or_digit, is_digit}
use Rattle.work_ids.specs.Digits.{last_digits}
use Rattle.work_ids.specs.FileNames.{IsNameOf, file_name, is_file_name, is_name_end, is_sender_code, is_version_digit, name_end, number_in_name}
use Rattle.work_ids.specs.Segments.{transmission_number_in, is_in_segment}
use Rattle.work_ids.specs.declared.segment.Segment.TheVariants.{Year}
use Rattle.std.proofs.lemmas.Bool.{and_parts, or_cases}
use Rattle.work_ids.proofs.lemmas.Joined.{four_true}
use Rattle.work_ids.proofs.lemmas.LastDigits.{are_last_digits, last_digits_of, value_of_last_digits}
use Rattle.work_ids.proofs.lemmas.Marks.{is_written, written}

-- what stands in the name of a file
pub record HasNameForm (society : ℕ) (name : List ℕ) : Type 0 where
  pub long : (length name ≡ 18) ⊎ (length name ≡ 19)
  pub front : take 2 name ≡ codes "CW"
  pub year : list_all is_digit (take 2 (drop 2 name)) ≡ true
  pub sequence : list_all is_digit (take 4 (drop 4 name)) ≡ true
  pub sender : list_all is_capital_or_digit (take (length name - 16) (drop 8 name)) ≡ true
  pub end : is_name_end society (drop (length name - 8) name) ≡ true

formed : (long front year sequence sender end : Bool) → (((((long && front) && year) && sequence) && sender) && end) ≡ true → (long ≡ true) × (front ≡ true) × (year ≡ true) × (sequence ≡ true) × (sender ≡ true) × (end ≡ true)
formed long front year sequence sender end h =
    let all = and_parts ((((long && front) && year) && sequence) && sender) end h in
    let most = and_parts (((long && front) && year) && sequence) sender all.0 in
    let four = four_true long front year sequence most.0 in
    (four.0, four.1, four.2, four.3, most.1, all.1)

pub name_form : (society : ℕ) (name : List ℕ) → is_file_name society name ≡ true → HasNameForm society name
unfolding is_file_name
name_form society name h =
    let each =
    formed (length name == 18 || length name == 19) (bytes_eq (take 2 name) (codes "CW")) (list_all is_digit (take 2 (drop 2 name))) (list_all is_digit (take 4 (drop 4 name))) (list_all is_capital_or_digit (take (length name - 16) (drop 8 name))) (is_name_end society (drop (length name - 8) name)) h in
    record {
      long = ⊎_elim (λ (e : (length name == 18) ≡ true). inl (eqb-true (length name) 18 e)) (λ (e : (length name == 19) ≡ true). inr (eqb-true (length name) 19 e)) (or_cases (length name == 18) (length name == 19) each.0);
      front = (bytes_eq-Decides (take 2 name) (codes "CW")).0 each.1;
      year = each.2;
      sequence = each.3;
      sender = each.4;
      end = each.5;
    }

-- such a name has eighteen characters at least
pub at_least : (society : ℕ) (name : List ℕ) → HasNameForm society name → 18 ≤ length name
at_least society name form =
    ⊎_elim (λ (h : length name ≡ 18). omega (arith, h)) (λ (h : length name ≡ 19). omega (arith, h)) form.long

-- what holds of eighteen characters and of nineteen, each written out, holds of a name
at_either : (P : List ℕ → Type 0) (name : List ℕ) → ((length name ≡ 18) ⊎ (length name ≡ 19)) → P (written 18 name) → P (written 19 name) → P name
at_either P name long short_one long_one =
    ⊎_elim (λ (h : length name ≡ 18). subst P (sym (is_written 18 name h)) short_one) (λ (h : length name ≡ 19). subst P (sym (is_written 19 name h)) long_one) long

pub year_long : (society : ℕ) (name : List ℕ) → HasNameForm society name → length (take 2 (drop 2 name)) ≡ 2
year_long society name form =
    at_either (λ (ns : List ℕ). length (take 2 (drop 2 ns)) ≡ 2) name form.long refl refl

pub sequence_long : (society : ℕ) (name : List ℕ) → HasNameForm society name → length (take 4 (drop 4 name)) ≡ 4
sequence_long society name form =
    at_either (λ (ns : List ℕ). length (take 4 (drop 4 ns)) ≡ 4) name form.long refl refl

end_long : (society : ℕ) (name : List ℕ) → HasNameForm society name → length (drop (length name - 8) name) ≡ 8
end_long society name form =
    at_either (λ (ns : List ℕ). length (drop (length ns - 8) ns) ≡ 8) name form.long refl refl

-- the parts of a name, one after another
abbrev parts_of : List ℕ → List ℕ
parts_of ns = take 2 ns ++ take 2 (drop 2 ns) ++ take 4 (drop 4 ns) ++ take (length ns - 16) (drop 8 ns) ++ drop (length ns - 8) ns

parts : (society : ℕ) (name : List ℕ) → HasNameForm society name → name ≡ parts_of name
parts society name form =
    at_either (λ (ns : List ℕ). ns ≡ parts_of ns) name form.long refl refl

code_length : (n : ℕ) → (n ≡ 18) ⊎ (n ≡ 19) → (n - 16 == 2 || n - 16 == 3) ≡ true
code_length n long = ⊎_elim (λ (h : n ≡ 18). rw h refl) (λ (h : n ≡ 19). rw h refl) long

sender_length : (society : ℕ) (name : List ℕ) → HasNameForm society name → length (take (length name - 16) (drop 8 name)) ≡ length name - 16
sender_length society name form =
    at_either (λ (ns : List ℕ). length (take (length ns - 16) (drop 8 ns)) ≡ length ns - 16) name form.long refl refl

sender_is_code : (society : ℕ) (name : List ℕ) → HasNameForm society name → is_sender_code (take (length name - 16) (drop 8 name)) ≡ true
sender_is_code society name form =
    let n = sender_length society name form in
    let code = code_length (length name) form.long in
    rw (n, code, form.sender) refl

-- what stands in the end of a name
record HasEndForm (society : ℕ) (end : List ℕ) : Type 0 where
  mark : slice_index end 0 ≡ 95
  receiver : take 3 (drop 1 end) ≡ last_digits 3 society
  version : take 3 (drop 4 end) ≡ codes ".V2"
  digit : is_version_digit (slice_index end 7) ≡ true

end_form : (society : ℕ) (end : List ℕ) → is_name_end society end ≡ true → HasEndForm society end
unfolding is_name_end
end_form society end h =
    let each = four_true (slice_index end 0 == 95) (bytes_eq (take 3 (drop 1 end)) (last_digits 3 society)) (bytes_eq (take 3 (drop 4 end)) (codes ".V2")) (is_version_digit (slice_index end 7)) h in
    record {
      mark = eqb-true (slice_index end 0) 95 each.0;
      receiver = (bytes_eq-Decides (take 3 (drop 1 end)) (last_digits 3 society)).0 each.1;
      version = (bytes_eq-Decides (take 3 (drop 4 end)) (codes ".V2")).0 each.2;
      digit = each.3;
    }

end_parts : (end : List ℕ) → length end ≡ 8 → end ≡ slice_index end 0 ∷ (take 3 (drop 1 end) ++ take 3 (drop 4 end) ++ slice_index end 7 ∷ [])
end_parts end h = subst (λ (ts : List ℕ). ts ≡ slice_index ts 0 ∷ (take 3 (drop 1 ts) ++ take 3 (drop 4 ts) ++ slice_index ts 7 ∷ [])) (sym (is_written 8 end h)) refl

end_is : (society : ℕ) (end : List ℕ) → length end ≡ 8 → HasEndForm society end → end ≡ name_end society (slice_index end 7)
end_is society end long form =
    let v = slice_index end 7 in
    end_parts end long
    ∙ ap (λ (b : ℕ). b ∷ (take 3 (drop 1 end) ++ take 3 (drop 4 end) ++ v ∷ [])) form.mark
    ∙ ap (λ (r : List ℕ). 95 ∷ (r ++ take 3 (drop 4 end) ++ v ∷ [])) form.receiver
    ∙ ap (λ (t : List ℕ). 95 ∷ (last_digits 3 society ++ t ++ v ∷ [])) form.version

-- a name of that form is the one that its parts make
name_is : (society : ℕ) (name : List ℕ) → HasNameForm society name → name ≡ file_name (digits_value 10 (take 2 (drop 2 name))) (digits_value 10 (take 4 (drop 4 name))) (take (length name - 16) (drop 8 name)) (name_end society (slice_index (drop (length name - 8) name) 7))
name_is society name form =
    let y = take 2 (drop 2 name) in
    let s = take 4 (drop 4 name) in
    let sender = take (length name - 16) (drop 8 name) in
    let end = drop (length name - 8) name in
    let year : y ≡ last_digits 2 (digits_value 10 y) = sym (subst (λ (n : ℕ). last_digits n (digits_value 10 y) ≡ y) (year_long society name form) (last_digits_of y form.year)) in
    let sequence : s ≡ last_digits 4 (digits_value 10 s) = sym (subst (λ (n : ℕ). last_digits n (digits_value 10 s) ≡ s) (sequence_long society name form) (last_digits_of s form.sequence)) in
    parts society name form
    ∙ ap (λ (t : List ℕ). t ++ y ++ s ++ sender ++ end) form.front
    ∙ ap (λ (t : List ℕ). codes "CW" ++ t ++ s ++ sender ++ end) year
    ∙ ap (λ (t : List ℕ). codes "CW" ++ last_digits 2 (digits_value 10 y) ++ t ++ sender ++ end) sequence
    ∙ ap (λ (t : List ℕ). codes "CW" ++ last_digits 2 (digits_value 10 y) ++ last_digits 4 (digits_value 10 s) ++ sender ++ t) (end_is society end (end_long society name form) (end_form society end form.end))

-- a name of that form names its number
named : (society : ℕ) (name : List ℕ) → HasNameForm society (map capital name) → (number : ℕ) → transmission_number_in (Year (digits_value 10 (take 2 (drop 2 (map capital name))))) (digits_value 10 (take 4 (drop 4 (map capital name)))) ≡ Some number → IsNameOf society number name
named society name form number is =
    let capitals = map capital name in
    record {
      year = digits_value 10 (take 2 (drop 2 capitals));
      sequence = digits_value 10 (take 4 (drop 4 capitals));
      sender = take (length capitals - 16) (drop 8 capitals);
      version = slice_index (drop (length capitals - 8) capitals) 7;
      number_is = is;
      sender_is = sender_is_code society capitals form;
      version_is = (end_form society (drop (length capitals - 8) capitals) form.end).digit;
      name_is = name_is society capitals form;
    }

of_none : (society : ℕ) (name : List ℕ) → is_file_name society (map capital name) ≡ false → None ≡ number_in_name society name
unfolding number_in_name
of_none society name h = rw h refl

of_some : (society : ℕ) (name : List ℕ) → is_file_name society (map capital name) ≡ true → transmission_number_in (Year (digits_value 10 (take 2 (drop 2 (map capital name))))) (digits_value 10 (take 4 (drop 4 (map capital name)))) ≡ number_in_name society name
unfolding number_in_name
of_some society name h = rw h refl

read_as : (society : ℕ) (name : List ℕ) (formed : Bool) → is_file_name society (map capital name) ≡ formed → (number : ℕ) → number_in_name society name ≡ Some number → IsNameOf society number name
read_as society name true formed number read =
    named society name (name_form society (map capital name) formed) number (of_some society name formed ∙ read)
read_as society name false formed number read = let same = of_none society name formed ∙ read in absurd (cc)

within : (year sequence number : ℕ) (inside : Bool) → is_in_segment (Year year) sequence ≡ inside → transmission_number_in (Year year) sequence ≡ Some number → (year ≤ 99) × (sequence ≤ 9999)
within year sequence number true inside is = (grind (arith, nat_tests), grind (arith, nat_tests))
within year sequence number false inside is = let none : None ≡ transmission_number_in (Year year) sequence = rw inside refl in absurd (cc)

-- the characters of a name whose sender has a code of two
made_short : (a b c d e f g h i p q v society : ℕ) → list_all is_digit (a ∷ b ∷ []) ≡ true → list_all is_digit (c ∷ d ∷ e ∷ f ∷ []) ≡ true → list_all is_capital_or_digit (p ∷ q ∷ []) ≡ true → bytes_eq (g ∷ h ∷ i ∷ []) (last_digits 3 society) ≡ true → is_version_digit v ≡ true → is_file_name society (67 ∷ 87 ∷ a ∷ b ∷ c ∷ d ∷ e ∷ f ∷ p ∷ q ∷ 95 ∷ g ∷ h ∷ i ∷ 46 ∷ 86 ∷ 50 ∷ v ∷ []) ≡ true
unfolding is_file_name is_name_end
made_short a b c d e f g h i p q v society year sequence sender receiver version = rw (year, sequence, sender, receiver, version) refl

made_long : (a b c d e f g h i p q r v society : ℕ) → list_all is_digit (a ∷ b ∷ []) ≡ true → list_all is_digit (c ∷ d ∷ e ∷ f ∷ []) ≡ true → list_all is_capital_or_digit (p ∷ q ∷ r ∷ []) ≡ true → bytes_eq (g ∷ h ∷ i ∷ []) (last_digits 3 society) ≡ true → is_version_digit v ≡ true → is_file_name society (67 ∷ 87 ∷ a ∷ b ∷ c ∷ d ∷ e ∷ f ∷ p ∷ q ∷ r ∷ 95 ∷ g ∷ h ∷ i ∷ 46 ∷ 86 ∷ 50 ∷ v ∷ []) ≡ true
unfolding is_file_name is_name_end
made_long a b c d e f g h i p q r v society year sequence sender receiver version = rw (year, sequence, sender, receiver, version) refl

same_digits : (society : ℕ) → bytes_eq (last_digits 3 society) (last_digits 3 society) ≡ true
same_digits society = (bytes_eq-Decides (last_digits 3 society) (last_digits 3 society)).1 refl

made : (year sequence version society : ℕ) (sender : List ℕ) → is_sender_code sender ≡ true → is_version_digit version ≡ true → is_file_name society (file_name year sequence sender (name_end society version)) ≡ true
unfolding last_digits
made year sequence version society [] sender_is version_is = absurd (cc)
made year sequence version society (p ∷ []) sender_is version_is = absurd (cc)
made year sequence version society (p ∷ q ∷ []) sender_is version_is =
    made_short _ _ _ _ _ _ _ _ _ p q version society (are_last_digits 2 year) (are_last_digits 4 sequence) sender_is (same_digits society) version_is
made year sequence version society (p ∷ q ∷ r ∷ []) sender_is version_is =
    made_long _ _ _ _ _ _ _ _ _ p q r version society (are_last_digits 2 year) (are_last_digits 4 sequence) sender_is (same_digits society) version_is
made year sequence version society (p ∷ q ∷ r ∷ t ∷ more) sender_is version_is =
    let sender : List ℕ = p ∷ q ∷ r ∷ t ∷ more in
    let size = or_cases (length sender == 2) (length sender == 3) (and_parts (length sender == 2 || length sender == 3) (list_all is_capital_or_digit sender) sender_is).0 in
    ⊎_elim (λ (two : (length sender == 2) ≡ true). absurd (omega (arith, eqb-true (length sender) 2 two))) (λ (three : (length sender == 3) ≡ true). absurd (omega (arith, eqb-true (length sender) 3 three))) size

year_in : (year sequence : ℕ) (sender end : List ℕ) → take 2 (drop 2 (file_name year sequence sender end)) ≡ last_digits 2 year
unfolding last_digits
year_in year sequence sender end = refl

sequence_in : (year sequence : ℕ) (sender end : List ℕ) → take 4 (drop 4 (file_name year sequence sender end)) ≡ last_digits 4 sequence
unfolding last_digits
sequence_in year sequence sender end = refl

read_back : (society : ℕ) (name : List ℕ) (number : ℕ) → IsNameOf society number name → number_in_name society name ≡ Some number
read_back society name number is =
    let capitals = map capital name in
    let formed : is_file_name society capitals ≡ true = subst (λ (ns : List ℕ). is_file_name society ns ≡ true) (sym is.name_is) (made is.year is.sequence is.version society is.sender is.sender_is is.version_is) in
    let in_range = within is.year is.sequence number (is_in_segment (Year is.year) is.sequence) refl is.number_is in
    let year : digits_value 10 (take 2 (drop 2 capitals)) ≡ is.year =
    ap (λ (ns : List ℕ). digits_value 10 (take 2 (drop 2 ns))) is.name_is
    ∙ ap (λ (ns : List ℕ). digits_value 10 ns) (year_in is.year is.sequence is.sender (name_end society is.version))
    ∙ value_of_last_digits 2 is.year (omega (arith, in_range.0)) in
    let sequence : digits_value 10 (take 4 (drop 4 capitals)) ≡ is.sequence =
    ap (λ (ns : List ℕ). digits_value 10 (take 4 (drop 4 ns))) is.name_is
    ∙ ap (λ (ns : List ℕ). digits_value 10 ns) (sequence_in is.year is.sequence is.sender (name_end society is.version))
    ∙ value_of_last_digits 4 is.sequence (omega (arith, in_range.1)) in
    sym (of_some society name formed)
    ∙ ap (λ (n : ℕ). transmission_number_in (Year n) (digits_value 10 (take 4 (drop 4 capitals)))) year
    ∙ ap (λ (n : ℕ). transmission_number_in (Year is.year) n) sequence
    ∙ is.number_is

-- a number is read in a name exactly where it is the name of the file with that number
pub name_exact : (society : ℕ) (name : List ℕ) (read : Option ℕ) → read ≡ number_in_name society name → (number : ℕ) → (read ≡ Some number) ↔ IsNameOf society number name
name_exact society name read is number = (
  (λ (e : read ≡ Some number). read_as society name (is_file_name society (map capital name)) refl number (sym is ∙ e)),
  (λ (w : IsNameOf society number name). is ∙ read_back society name number w),
)

-- a longer name is none
pub long_name : (society : ℕ) (name : List ℕ) → 19 < length name → None ≡ number_in_name society name
long_name society name long = of_none society name (too_long (is_file_name society (map capital name)) refl)
  where
    too_long : (formed : Bool) → is_file_name society (map capital name) ≡ formed → is_file_name society (map capital name) ≡ false
    too_long true formed =
        let size = length-map name capital in
        ⊎_elim (λ (h : length (map capital name) ≡ 18). absurd (omega (arith, h, size, long))) (λ (h : length (map capital name) ≡ 19). absurd (omega (arith, h, size, long))) (name_form society (map capital name) formed).long
    too_long false formed = formed
