-- Lines that pass are a file.
use Rattle.std.proofs.Common.{◌≡◌, ℕ, suc, ◌+◌, ◌-◌, true, false, cond, eqb, List, [], ◌∷◌, ◌++◌, length, refl, ap, sym, ◌∙◌, subst, arith, append_assoc, length-append, inl, inr}
use Rattle.std.specs.Prelude.{not, ◌&&◌, None, Some, flat_map, sum_by}
use Rattle.std.specs.List.{list_all}
use Rattle.std.proofs.lemmas.Bool.{cases_Bool, and_from, eqb-false}
use Rattle.std.proofs.lemmas.List.Sums.{sum_by-cons}
use Rattle.cwr_records.specs.Lines.{is_blank}
use Rattle.cwr_files.specs.RecordTypes.{grh, grt, has_type, type_of_group}
use Rattle.cwr_files.specs.RightLines.{is_opening, is_closing, is_trailer, is_record}
use Rattle.cwr_files.specs.File.{GroupLines, FileLines, group_lines, file_lines, AreFurther, AreTransactions, AreGroups, IsFile}
use Rattle.cwr_files.proofs.lemmas.Passing.{Passes, passes-from}
use Rattle.cwr_files.proofs.lemmas.Steps.{at_header, at_between, at_end, at_within, header-good, after-header, opening-good, after-opening, trailer-good, after-trailer, closing-good, after-closing, IsGood, record-good, after-record, blank-good, after-blank}

-- the lines of some transactions
abbrev pub joined : List (List (List ℕ)) → List (List ℕ)
joined xs = flat_map (λ (x : List (List ℕ)). x) xs

-- how many transactions some groups have
abbrev pub transaction_count : List GroupLines → ℕ
transaction_count gs = sum_by (λ g. length g.transactions) gs

-- what stands behind n lines, m groups and t transactions, between groups
record GroupsOn (n m t : ℕ) (ls : List (List ℕ)) : Type 0 where
  groups : List GroupLines
  trailer : List ℕ
  rest : List (List ℕ)
  are : ls ≡ flat_map group_lines groups ++ trailer ∷ rest
  are_groups : AreGroups (m + 1) groups
  counted : is_trailer (m + length groups) (t + transaction_count groups) (n + length (flat_map group_lines groups) + 1) trailer ≡ true
  blank : list_all is_blank rest ≡ true

-- what stands within a group behind r transactions and q lines of it
record RecordsOn (kind : List ℕ) (r q k n m t : ℕ) (ls : List (List ℕ)) : Type 0 where
  further : List (List ℕ)
  transactions : List (List (List ℕ))
  closing : List ℕ
  more : List (List ℕ)
  are : ls ≡ further ++ (joined transactions ++ closing ∷ more)
  going : r ≡ 0 → further ≡ []
  are_further : AreFurther kind (r - 1) k further
  are_transactions : AreTransactions kind r transactions
  counted : is_closing m (r + length transactions) (q + length further + length (joined transactions) + 1) closing ≡ true
  tail : GroupsOn (n + length further + length (joined transactions) + 1) m (t + length transactions) more

moved : (n n' m t t' : ℕ) (ls : List (List ℕ)) → n ≡ n' → t ≡ t' → GroupsOn n m t ls → GroupsOn n' m t' ls
moved n n' m t t' ls en et h = subst (λ x. GroupsOn x m t' ls) en (subst (λ x. GroupsOn n m x ls) et h)

blank-rest : (sender : List ℕ) (n m t : ℕ) (ls : List (List ℕ)) → Passes sender (at_end n m t) ls → list_all is_blank ls ≡ true
blank-rest sender n m t [] h = refl
blank-rest sender n m t (l ∷ ls) h =
    and_from _ _ (blank-good l h.0) (blank-rest sender (n + 1) m t ls (passes-from sender _ _ ls (after-blank n m t l) h.1))

closed : (kind : List ℕ) (r q k n m t : ℕ) (l : List ℕ) (ls : List (List ℕ)) → is_closing m r (q + 1) l ≡ true → GroupsOn (n + 1) m t ls → RecordsOn kind r q k n m t (l ∷ ls)
closed kind r q k n m t l ls c g = record {
  further = [];
  transactions = [];
  closing = l;
  more = ls;
  are = refl;
  going = λ _. refl;
  are_further = tt;
  are_transactions = tt;
  counted = subst (λ x. is_closing m x (q + 0 + 0 + 1) l ≡ true) (r-zero r) (subst (λ x. is_closing m r x l ≡ true) (q-zero q) c);
  tail = moved (n + 1) (n + 0 + 0 + 1) m t (t + 0) ls (q-zero n) (r-zero t) g;
} where
  r-zero : (x : ℕ) → x ≡ x + 0
  r-zero x = omega arith

  q-zero : (x : ℕ) → x + 1 ≡ x + 0 + 0 + 1
  q-zero x = omega arith

begun : (kind : List ℕ) (r q k n m t : ℕ) (l : List ℕ) (ls : List (List ℕ)) → has_type kind l ≡ true → IsGood kind r k l → RecordsOn kind (r + 1) (q + 1) 1 (n + 1) m (t + 1) ls → RecordsOn kind r q k n m t (l ∷ ls)
begun kind r q k n m t l ls h good o =
    let first : is_record kind r 0 l ≡ true = sym (ap (λ b. is_record kind (cond b r (r - 1)) (cond b 0 k) l) h) ∙ good.is_record' in
    let one : length (joined ((l ∷ o.further) ∷ o.transactions)) ≡ suc (length o.further + length (joined o.transactions)) = ap suc (length-append o.further (joined o.transactions)) in
    let same : r + 1 - 1 ≡ r = omega arith in
    record {
      further = [];
      transactions = (l ∷ o.further) ∷ o.transactions;
      closing = o.closing;
      more = o.more;
      are = ap (λ xs. l ∷ xs) (o.are ∙ sym (append_assoc o.further (joined o.transactions) (o.closing ∷ o.more)));
      going = λ _. refl;
      are_further = tt;
      are_transactions = ((h, first, subst (λ x. AreFurther kind x 1 o.further) same o.are_further), o.are_transactions);
      counted = subst (λ x. is_closing m x (q + 0 + length (joined ((l ∷ o.further) ∷ o.transactions)) + 1) o.closing ≡ true) (omega arith)
          (subst (λ x. is_closing m (r + 1 + length o.transactions) x o.closing ≡ true) (omega (arith, one)) o.counted);
      tail = moved _ _ m _ _ o.more (omega (arith, one)) (omega arith) o.tail;
    }

gone : (kind : List ℕ) (r q k n m t : ℕ) (l : List ℕ) (ls : List (List ℕ)) → has_type kind l ≡ false → IsGood kind r k l → RecordsOn kind r (q + 1) (k + 1) (n + 1) m t ls → RecordsOn kind r q k n m t (l ∷ ls)
gone kind r q k n m t l ls h good o =
    let here : is_record kind (r - 1) k l ≡ true = sym (ap (λ b. is_record kind (cond b r (r - 1)) (cond b 0 k) l) h) ∙ good.is_record' in
    let some : r ≡ 0 → ⊥ = eqb-false r 0 (sym (ap (λ b. not b && eqb r 0) h) ∙ good.begun) in
    record {
      further = l ∷ o.further;
      transactions = o.transactions;
      closing = o.closing;
      more = o.more;
      are = ap (λ xs. l ∷ xs) o.are;
      going = λ e. absurd (some e);
      are_further = (h, here, o.are_further);
      are_transactions = o.are_transactions;
      counted = subst (λ x. is_closing m (r + length o.transactions) x o.closing ≡ true) (omega arith) o.counted;
      tail = moved _ _ m _ _ o.more (omega arith) refl o.tail;
    }

ended : (n m t : ℕ) (l : List ℕ) (ls : List (List ℕ)) → is_trailer m t (n + 1) l ≡ true → list_all is_blank ls ≡ true → GroupsOn n m t (l ∷ ls)
ended n m t l ls c b = record {
  groups = [];
  trailer = l;
  rest = ls;
  are = refl;
  are_groups = tt;
  counted = subst (λ x. is_trailer (m + 0) (t + 0) x l ≡ true) (n-zero n) (subst (λ x. is_trailer (m + 0) x (n + 1) l ≡ true) (m-zero t) (subst (λ x. is_trailer x t (n + 1) l ≡ true) (m-zero m) c));
  blank = b;
} where
  m-zero : (x : ℕ) → x ≡ x + 0
  m-zero x = omega arith

  n-zero : (x : ℕ) → x + 1 ≡ x + 0 + 1
  n-zero x = omega arith

trailer-moved : (a a' b b' c c' : ℕ) (x : List ℕ) → a ≡ a' → b ≡ b' → c ≡ c' → is_trailer a b c x ≡ true → is_trailer a' b' c' x ≡ true
trailer-moved a a' b b' c c' x ea eb ec e = sym (ap (λ y. is_trailer y b c x) ea ∙ ap (λ y. is_trailer a' y c x) eb ∙ ap (λ y. is_trailer a' b' y x) ec) ∙ e

grouped : (n m t : ℕ) (l : List ℕ) (ls : List (List ℕ)) → is_opening (m + 1) l ≡ true → RecordsOn (type_of_group l) 0 1 1 (n + 1) (m + 1) t ls → GroupsOn n m t (l ∷ ls)
grouped n m t l ls h o =
    let g : GroupLines = record { opening = l; transactions = o.transactions; closing = o.closing } in
    let nothing : o.further ≡ [] = o.going refl in
    let none : length o.further ≡ 0 = ap length nothing in
    let long : length (group_lines g) ≡ length (joined o.transactions) + 2 = ap suc (length-append (joined o.transactions) (o.closing ∷ [])) ∙ omega arith in
    let all : length (flat_map group_lines (g ∷ o.tail.groups)) ≡ length (group_lines g) + length (flat_map group_lines o.tail.groups) = length-append (group_lines g) (flat_map group_lines o.tail.groups) in
    let sums : transaction_count (g ∷ o.tail.groups) ≡ length o.transactions + transaction_count o.tail.groups = sum_by-cons (λ x. length x.transactions) g o.tail.groups in
    record {
      groups = g ∷ o.tail.groups;
      trailer = o.tail.trailer;
      rest = o.tail.rest;
      are = ap (λ xs. l ∷ xs) (o.are ∙ ap (λ xs. xs ++ (joined o.transactions ++ o.closing ∷ o.more)) nothing ∙ ap (λ xs. joined o.transactions ++ o.closing ∷ xs) o.tail.are ∙ regrouped (joined o.transactions) o.closing (flat_map group_lines o.tail.groups) (o.tail.trailer ∷ o.tail.rest));
      are_groups = (
        record {
          opening = h;
          transactions = o.are_transactions;
          closing = subst (λ x. is_closing (m + 1) (length o.transactions) x o.closing ≡ true) (omega (arith, none, long)) (subst (λ x. is_closing (m + 1) x (1 + length o.further + length (joined o.transactions) + 1) o.closing ≡ true) (omega arith) o.counted);
        },
        o.tail.are_groups,
      );
      counted = trailer-moved _ _ _ _ _ _ o.tail.trailer (omega arith) (omega (arith, sums)) (omega (arith, none, long, all)) o.tail.counted;
      blank = o.tail.blank;
    } where
      regrouped : (xs : List (List ℕ)) (c : List ℕ) (ys zs : List (List ℕ)) → xs ++ c ∷ (ys ++ zs) ≡ ((xs ++ c ∷ []) ++ ys) ++ zs
      regrouped xs c ys zs = sym (append_assoc (xs ++ c ∷ []) ys zs ∙ append_assoc xs (c ∷ []) (ys ++ zs))

-- both places at once, by recursion on the lines
on : (sender : List ℕ) (ls : List (List ℕ)) → ((n m t : ℕ) → Passes sender (at_between n m t) ls → GroupsOn n m t ls) × ((kind : List ℕ) (r q k n m t : ℕ) → Passes sender (at_within kind r q k n m t) ls → RecordsOn kind r q k n m t ls)
on sender [] = (λ n m t h. absurd (no-end _ h), λ kind r q k n m t h. absurd (no-end _ h)) where
  no-end : {A : Type 0} (x : A) → Some x ≡ None → ⊥
  no-end x e = cc
on sender (l ∷ ls) =
    let rec = on sender ls in (
      λ n m t h. elim (cases_Bool (has_type grh l)) [
        | inl y ↦ grouped n m t l ls (opening-good m t n l h.0 y) (rec.1 (type_of_group l) 0 1 1 (n + 1) (m + 1) t (passes-from sender _ _ ls (after-opening n m t l y) h.1))
        | inr y ↦ ended n m t l ls (trailer-good m t n l h.0 y) (blank-rest sender (n + 1) m t ls (passes-from sender _ _ ls (after-trailer n m t l y) h.1))
      ],
      λ kind r q k n m t h. elim (cases_Bool (has_type grt l)) [
        | inl y ↦ closed kind r q k n m t l ls (closing-good m r q k kind l h.0 y) (rec.0 (n + 1) m t (passes-from sender _ _ ls (after-closing kind r q k n m t l y) h.1))
        | inr y ↦ elim (cases_Bool (has_type kind l)) [
          | inl z ↦ begun kind r q k n m t l ls z (record-good m r q k kind l h.0 y) (rec.1 kind (r + 1) (q + 1) 1 (n + 1) m (t + 1) (passes-from sender _ _ ls (after-record kind r q k n m t l true y z) h.1))
          | inr z ↦ gone kind r q k n m t l ls z (record-good m r q k kind l h.0 y) (rec.1 kind r (q + 1) (k + 1) (n + 1) m t (passes-from sender _ _ ls (after-record kind r q k n m t l false y z) h.1))
        ]
      ],
    )

-- lines that pass from the start are a file's
pub sound : (sender : List ℕ) (ls : List (List ℕ)) → Passes sender at_header ls → (f : FileLines) × (ls ≡ file_lines f) × IsFile sender f
sound sender [] h = absurd cc
sound sender (l ∷ ls) h =
    let o = (on sender ls).0 1 0 0 (passes-from sender _ _ ls (after-header l) h.1) in
    let f : FileLines = record { header = l; groups = o.groups; trailer = o.trailer; rest = o.rest } in
    let counted = trailer-moved _ _ _ _ _ _ o.trailer (omega arith) (omega arith) (omega arith) o.counted in
    (f, ap (λ xs. l ∷ xs) o.are, record { header = header-good sender l h.0; groups = o.are_groups; trailer = counted; rest = o.blank })
