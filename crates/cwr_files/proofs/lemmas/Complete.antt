-- The lines of a file pass.
use Rattle.std.proofs.Common.{◌≡◌, ℕ, suc, ◌+◌, ◌-◌, true, false, cond, eqb, List, [], ◌∷◌, ◌++◌, length, refl, ap, sym, ◌∙◌, subst, arith, append_assoc, length-append}
use Rattle.std.specs.Prelude.{not, ◌&&◌, flat_map}
use Rattle.std.specs.List.{list_all}
use Rattle.std.proofs.lemmas.Bool.{and_parts, ne_eqb}
use Rattle.std.proofs.lemmas.List.Sums.{sum_by-cons}
use Rattle.cwr_records.specs.Lines.{is_blank}
use Rattle.cwr_files.specs.RecordTypes.{grh, trl, has_type, type_of_group}
use Rattle.cwr_files.specs.RightLines.{is_closing, is_trailer, is_record}
use Rattle.cwr_files.specs.File.{GroupLines, FileLines, group_lines, file_lines, AreFurther, AreTransactions, IsGroup, AreGroups, IsFile}
use Rattle.cwr_files.proofs.lemmas.LineFacts.{other_type}
use Rattle.cwr_files.proofs.lemmas.Passing.{Passes, passes-from}
use Rattle.cwr_files.proofs.lemmas.Steps.{at_header, at_between, at_end, at_within, header-faultless, after-header, opening-type, opening-faultless, after-opening, trailer-type, trailer-faultless, after-trailer, closing-type, closing-faultless, after-closing, IsGood, record-free, record-faultless, after-record, blank-faultless, after-blank}
use Rattle.cwr_files.proofs.lemmas.Sound.{joined, transaction_count}

-- after the trailer
blank-passes : (sender : List ℕ) (n m t : ℕ) (ls : List (List ℕ)) → list_all is_blank ls ≡ true → Passes sender (at_end n m t) ls
blank-passes sender n m t [] h = refl
blank-passes sender n m t (l ∷ ls) h =
    let p = and_parts (is_blank l) (list_all is_blank ls) h in
    (blank-faultless l p.0, passes-from sender _ _ ls (sym (after-blank n m t l)) (blank-passes sender (n + 1) m t ls p.1))

-- a record that begins no transaction
further-good : (kind : List ℕ) (j k : ℕ) (l : List ℕ) → has_type kind l ≡ false → is_record kind j k l ≡ true → IsGood kind (j + 1) k l
further-good kind j k l h e =
    let same : j ≡ j + 1 - 1 = omega arith in
    let some : eqb (j + 1) 0 ≡ false = ne_eqb (j + 1) 0 (λ z. absurd (omega arith)) in
    record {
      begun = ap (λ b. not b && eqb (j + 1) 0) h ∙ some;
      is_record' = ap (λ b. is_record kind (cond b (j + 1) (j + 1 - 1)) (cond b 0 k) l) h ∙ ap (λ x. is_record kind x k l) (sym same) ∙ e;
    }

first-good : (kind : List ℕ) (j k : ℕ) (l : List ℕ) → has_type kind l ≡ true → is_record kind j 0 l ≡ true → IsGood kind j k l
first-good kind j k l h e = record {
  begun = ap (λ b. not b && eqb j 0) h;
  is_record' = ap (λ b. is_record kind (cond b j (j - 1)) (cond b 0 k) l) h ∙ e;
}

further-pass : (sender kind : List ℕ) (j k q n m t : ℕ) (ls more : List (List ℕ)) → AreFurther kind j k ls → ((q' k' n' : ℕ) → q' ≡ q + length ls → n' ≡ n + length ls → Passes sender (at_within kind (j + 1) q' k' n' m t) more) → Passes sender (at_within kind (j + 1) q k n m t) (ls ++ more)
further-pass sender kind j k q n m t [] more a next = next q k n (omega arith) (omega arith)
further-pass sender kind j k q n m t (l ∷ ls) more a next = (
  record-faultless m (j + 1) q k kind l (further-good kind j k l a.0 a.1),
  passes-from sender _ _ (ls ++ more) (sym (after-record kind (j + 1) q k n m t l false (record-free kind j k l a.1).no_grt a.0))
      (further-pass sender kind j (k + 1) (q + 1) (n + 1) m t ls more a.2 (λ q' k' n' eq en. next q' k' n' (omega arith) (omega arith))),
)

transactions-pass : (sender kind : List ℕ) (j q k n m t : ℕ) (xs : List (List (List ℕ))) (more : List (List ℕ)) → AreTransactions kind j xs → ((r' q' k' n' t' : ℕ) → r' ≡ j + length xs → q' ≡ q + length (joined xs) → n' ≡ n + length (joined xs) → t' ≡ t + length xs → Passes sender (at_within kind r' q' k' n' m t') more) → Passes sender (at_within kind j q k n m t) (joined xs ++ more)
transactions-pass sender kind j q k n m t [] more a next = next j q k n t (omega arith) (omega arith) (omega arith) (omega arith)
transactions-pass sender kind j q k n m t ([] ∷ xs) more a next = absurd a.0
transactions-pass sender kind j q k n m t ((l ∷ ls) ∷ xs) more a next =
    let long : length (joined ((l ∷ ls) ∷ xs)) ≡ suc (length ls + length (joined xs)) = ap suc (length-append ls (joined xs)) in
    let rest : Passes sender (at_within kind (j + 1) (q + 1) 1 (n + 1) m (t + 1)) (ls ++ (joined xs ++ more)) =
    further-pass sender kind j 1 (q + 1) (n + 1) m (t + 1) ls (joined xs ++ more) a.0.2
    (λ q' k' n' eq en. transactions-pass sender kind (j + 1) q' k' n' m (t + 1) xs more a.1
    (λ r'' q'' k'' n'' t'' er eq' en' et. next r'' q'' k'' n'' t'' (omega arith) (omega arith) (omega arith) (omega arith))) in (
      record-faultless m j q k kind l (first-good kind j k l a.0.0 a.0.1),
      passes-from sender _ _ ((ls ++ joined xs) ++ more) (sym (after-record kind j q k n m t l true (record-free kind j 0 l a.0.1).no_grt a.0.0))
          (subst (λ ys. Passes sender (at_within kind (j + 1) (q + 1) 1 (n + 1) m (t + 1)) ys) (sym (append_assoc ls (joined xs) more)) rest),
    )

group-pass : (sender : List ℕ) (n m t : ℕ) (g : GroupLines) (more : List (List ℕ)) → IsGroup (m + 1) g → ((n' t' : ℕ) → n' ≡ n + length (group_lines g) → t' ≡ t + length g.transactions → Passes sender (at_between n' (m + 1) t') more) → Passes sender (at_between n m t) (group_lines g ++ more)
group-pass sender n m t g more is next =
    let kind = type_of_group g.opening in
    let long : length (group_lines g) ≡ length (joined g.transactions) + 2 = ap suc (length-append (joined g.transactions) (g.closing ∷ [])) ∙ omega arith in
    let rest : Passes sender (at_within (type_of_group g.opening) 0 1 1 (n + 1) (m + 1) t) (joined g.transactions ++ (g.closing ∷ more)) =
    transactions-pass sender (type_of_group g.opening) 0 1 1 (n + 1) (m + 1) t g.transactions (g.closing ∷ more) is.transactions
    (λ r' q' k' n' t' er eq en et.
    let counted : is_closing (m + 1) r' (q' + 1) g.closing ≡ true = closing-moved (m + 1) _ _ _ _ g.closing (omega arith) (omega (arith, long)) is.closing in (
      closing-faultless (m + 1) r' q' k' (type_of_group g.opening) g.closing counted,
      passes-from sender _ _ more (sym (after-closing (type_of_group g.opening) r' q' k' n' (m + 1) t' g.closing (closing-type (m + 1) _ _ g.closing is.closing)))
          (next (n' + 1) t' (omega (arith, long)) (omega arith)),
    )) in (
      opening-faultless m t n g.opening is.opening,
      passes-from sender _ _ ((joined g.transactions ++ g.closing ∷ []) ++ more) (sym (after-opening n m t g.opening (opening-type (m + 1) g.opening is.opening)))
          (subst (λ ys. Passes sender (at_within (type_of_group g.opening) 0 1 1 (n + 1) (m + 1) t) ys) (sym (append_assoc (joined g.transactions) (g.closing ∷ []) more)) rest),
    ) where
      closing-moved : (i a a' b b' : ℕ) (x : List ℕ) → a ≡ a' → b ≡ b' → is_closing i a b x ≡ true → is_closing i a' b' x ≡ true
      closing-moved i a a' b b' x ea eb e = sym (ap (λ y. is_closing i y b x) ea ∙ ap (λ y. is_closing i a' y x) eb) ∙ e

groups-pass : (sender : List ℕ) (n m t : ℕ) (gs : List GroupLines) (more : List (List ℕ)) → AreGroups (m + 1) gs → ((n' m' t' : ℕ) → n' ≡ n + length (flat_map group_lines gs) → m' ≡ m + length gs → t' ≡ t + transaction_count gs → Passes sender (at_between n' m' t') more) → Passes sender (at_between n m t) (flat_map group_lines gs ++ more)
groups-pass sender n m t [] more a next = next n m t (omega arith) (omega arith) (omega arith)
groups-pass sender n m t (g ∷ gs) more a next =
    let long : length (flat_map group_lines (g ∷ gs)) ≡ length (group_lines g) + length (flat_map group_lines gs) = length-append (group_lines g) (flat_map group_lines gs) in
    let sums : transaction_count (g ∷ gs) ≡ length g.transactions + transaction_count gs = sum_by-cons (λ x. length x.transactions) g gs in
    subst (λ ys. Passes sender (at_between n m t) ys) (sym (append_assoc (group_lines g) (flat_map group_lines gs) more))
    (group-pass sender n m t g (flat_map group_lines gs ++ more) a.0
    (λ n' t' en et. groups-pass sender n' (m + 1) t' gs more a.1
    (λ n'' m'' t'' en' em et'. next n'' m'' t'' (omega (arith, long)) (omega arith) (omega (arith, sums)))))

-- the lines of a file pass from the start
pub complete : (sender : List ℕ) (f : FileLines) → IsFile sender f → Passes sender at_header (file_lines f)
complete sender f is = (
  header-faultless sender f.header is.header,
  passes-from sender _ _ (flat_map group_lines f.groups ++ f.trailer ∷ f.rest) (sym (after-header f.header))
      (groups-pass sender 1 0 0 f.groups (f.trailer ∷ f.rest) is.groups
      (λ n m t en em et.
      let counted : is_trailer m t (n + 1) f.trailer ≡ true = trailer-moved _ _ _ _ _ _ f.trailer (omega arith) (omega arith) (omega arith) is.trailer in (
        trailer-faultless m t n f.trailer counted,
        passes-from sender _ _ f.rest (sym (after-trailer n m t f.trailer (other_type trl grh f.trailer refl (trailer-type m t (n + 1) f.trailer counted))))
            (blank-passes sender (n + 1) m t f.rest is.rest),
      ))),
) where
  trailer-moved : (a a' b b' c c' : ℕ) (x : List ℕ) → a ≡ a' → b ≡ b' → c ≡ c' → is_trailer a b c x ≡ true → is_trailer a' b' c' x ≡ true
  trailer-moved a a' b b' c c' x ea eb ec e = sym (ap (λ y. is_trailer y b c x) ea ∙ ap (λ y. is_trailer a' y c x) eb ∙ ap (λ y. is_trailer a' b' y x) ec) ∙ e
