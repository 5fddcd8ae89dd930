-- The loops that list what a body tells, one line after another.
use Rattle.std.proofs.Common.{◌≡◌, ℕ, ◌+◌, ◌≤◌, Bool, true, false, cond, List, [], ◌∷◌, ◌++◌, length, map, refl, ap, sym, ◌∙◌, arith, append_assoc}
use Rattle.std.specs.Prelude.{not, take_while}
use Rattle.std.specs.List.{enumerate_from}
use Rattle.std.proofs.lemmas.List.{append-nil, length_push}
use Rattle.std.proofs.lemmas.List.Sums.{take_while-cons}
use Rattle.cwr_records.specs.Lines.{lines, IsFirstLine}
use Rattle.cwr_records.specs.Records.{record_of, kind_of}
use Rattle.cwr_records.specs.declared.record.Record.{Record}
use Rattle.cwr_records.specs.declared.work.TransactionKind.{TransactionKind}
use Rattle.cwr_files.specs.declared.transmission.Transaction.{Transaction}
use Rattle.cwr_files.specs.declared.transmission.Group.{Group}
use Rattle.cwr_files.specs.RecordTypes.{grh, grt, has_type}
use Rattle.cwr_files.specs.Listed.{HasRecords, parts_of_group}
use Rattle.cwr_files.specs.Contents.{transaction_of, numbered_transactions, parts, group_part, group_in, groups_in}

-- what is left of a list that grows by one at a time
pushed : {X : Type 0} (xs ys zs : List X) (y : X) → xs ++ (y ∷ ys) ≡ zs → (xs ++ y ∷ []) ++ ys ≡ zs
pushed xs ys zs y e = append_assoc xs (y ∷ []) ys ∙ e

ended : {X : Type 0} (xs ys zs : List X) → xs ++ ys ≡ zs → ys ≡ [] → xs ≡ zs
ended xs ys zs e none = sym (append-nil xs) ∙ ap (λ r. xs ++ r) (sym none) ∙ e

-- the lines up to one of a type
pub until-it : (code l : List ℕ) (ls : List (List ℕ)) → has_type code l ≡ true → take_while (λ x. not (has_type code x)) (l ∷ ls) ≡ []
until-it code l ls e = take_while-cons (λ x. not (has_type code x)) l ls ∙ ap (λ b. cond (not b) (l ∷ take_while (λ x. not (has_type code x)) ls) []) e

pub until-other : (code l : List ℕ) (ls : List (List ℕ)) → has_type code l ≡ false → take_while (λ x. not (has_type code x)) (l ∷ ls) ≡ l ∷ take_while (λ x. not (has_type code x)) ls
until-other code l ls e = take_while-cons (λ x. not (has_type code x)) l ls ∙ ap (λ b. cond (not b) (l ∷ take_while (λ x. not (has_type code x)) ls) []) e

-- parts

pub parts-opens : (opens ends : List ℕ → Bool) (l : List ℕ) (ls : List (List ℕ)) → opens l ≡ true → parts opens ends (l ∷ ls) ≡ (l ∷ take_while (λ x. not (ends x)) ls) ∷ parts opens ends ls
parts-opens opens ends l ls e = ap (λ b. cond b ((l ∷ take_while (λ x. not (ends x)) ls) ∷ parts opens ends ls) (parts opens ends ls)) e

pub parts-passes : (opens ends : List ℕ → Bool) (l : List ℕ) (ls : List (List ℕ)) → opens l ≡ false → parts opens ends (l ∷ ls) ≡ parts opens ends ls
parts-passes opens ends l ls e = ap (λ b. cond b ((l ∷ take_while (λ x. not (ends x)) ls) ∷ parts opens ends ls) (parts opens ends ls)) e

-- a line that begins no transaction and ends no group is in none of the next ones
pub parts-beside : (kind rest line more : List ℕ) → IsFirstLine rest line more → has_type grt line ≡ false → has_type kind line ≡ false → parts_of_group kind rest ≡ parts_of_group kind more
parts-beside kind rest line more f g k =
    ap (λ ls. parts (has_type kind) (has_type kind) (group_part ls)) f.lines_are
    ∙ ap (parts (has_type kind) (has_type kind)) (until-other grt line (lines more) g)
    ∙ parts-passes (has_type kind) (has_type kind) line (group_part (lines more)) k

-- records

-- the lines that go on a transaction
abbrev pub further_part : List ℕ → List (List ℕ) → List (List ℕ)
further_part kind ls = take_while (λ l. not (has_type kind l)) (group_part ls)

pub record AreRecords (kind first after rest : List ℕ) (list : List Record) : Type 0 where
  pub listed : list ++ map record_of (further_part kind (lines rest)) ≡ map record_of (first ∷ further_part kind (lines after))
  pub further : parts_of_group kind rest ≡ parts_of_group kind after
  pub shorter : length rest ≤ length after

further-step : (kind line : List ℕ) (ls : List (List ℕ)) → has_type grt line ≡ false → has_type kind line ≡ false → further_part kind (line ∷ ls) ≡ line ∷ further_part kind ls
further-step kind line ls t k = ap (take_while (λ l. not (has_type kind l))) (until-other grt line ls t) ∙ until-other kind line (group_part ls) k

further-next : (kind line : List ℕ) (ls : List (List ℕ)) → has_type grt line ≡ false → has_type kind line ≡ true → further_part kind (line ∷ ls) ≡ []
further-next kind line ls t k = ap (take_while (λ l. not (has_type kind l))) (until-other grt line ls t) ∙ until-it kind line (group_part ls) k

pub records-step : (kind first after rest line more : List ℕ) (list grown : List Record) → AreRecords kind first after rest list → IsFirstLine rest line more → has_type grt line ≡ false → has_type kind line ≡ false → grown ≡ list ++ record_of line ∷ [] → AreRecords kind first after more grown
records-step kind first after rest line more list grown r f t k e =
    let here : further_part kind (lines rest) ≡ line ∷ further_part kind (lines more) = ap (further_part kind) f.lines_are ∙ further-step kind line (lines more) t k in
    let shown : list ++ (record_of line ∷ map record_of (further_part kind (lines more))) ≡ map record_of (first ∷ further_part kind (lines after)) = ap (λ ls. list ++ map record_of ls) (sym here) ∙ r.listed in
    record {
      listed = ap (λ xs. xs ++ map record_of (further_part kind (lines more))) e ∙ pushed list _ _ (record_of line) shown;
      further = sym (parts-beside kind rest line more f t k) ∙ r.further;
      shorter = omega (arith, f.shorter, r.shorter);
    }

records-stop : (kind first after rest : List ℕ) (list made : List Record) → made ≡ list → AreRecords kind first after rest list → further_part kind (lines rest) ≡ [] → HasRecords kind first after made rest
records-stop kind first after rest list made m r e = record { listed = m ∙ ended list _ _ r.listed (ap (map record_of) e); further = r.further; shorter = r.shorter }

pub records-next : (kind first after rest line more : List ℕ) (list made : List Record) → made ≡ list → AreRecords kind first after rest list → IsFirstLine rest line more → has_type grt line ≡ false → has_type kind line ≡ true → HasRecords kind first after made rest
records-next kind first after rest line more list made m r f t k = records-stop kind first after rest list made m r (ap (further_part kind) f.lines_are ∙ further-next kind line (lines more) t k)

-- transactions

-- the transactions of a group among lines
abbrev pub transaction_parts : List ℕ → List (List ℕ) → List (List (List ℕ))
transaction_parts kind ls = parts (has_type kind) (has_type kind) (group_part ls)

abbrev pub numbered : TransactionKind → ℕ → ℕ → List (List (List ℕ)) → List Transaction
numbered k group n xs = map (λ p. transaction_of k group p.0 p.1) (enumerate_from n xs)

pub record AreTransactions (kind : List ℕ) (group : ℕ) (after rest : List ℕ) (list : List Transaction) : Type 0 where
  pub listed : list ++ numbered (kind_of kind) group (length list) (transaction_parts kind (lines rest)) ≡ numbered_transactions (kind_of kind) group (transaction_parts kind (lines after))
  pub few : length list + length rest ≤ length after

pub transactions-step : (kind : List ℕ) (group : ℕ) (after rest line more : List ℕ) (list grown : List Transaction) (t : Transaction) → AreTransactions kind group after rest list → IsFirstLine rest line more → has_type grt line ≡ false → has_type kind line ≡ true → t ≡ transaction_of (kind_of kind) group (length list) (line ∷ further_part kind (lines more)) → grown ≡ list ++ t ∷ [] → AreTransactions kind group after more grown
transactions-step kind group after rest line more list grown t r f g k is e =
    let K = kind_of kind in
    let here : transaction_parts kind (lines rest) ≡ (line ∷ further_part kind (lines more)) ∷ transaction_parts kind (lines more) =
    ap (transaction_parts kind) f.lines_are
    ∙ ap (parts (has_type kind) (has_type kind)) (until-other grt line (lines more) g)
    ∙ parts-opens (has_type kind) (has_type kind) line (group_part (lines more)) k in
    let shown : list ++ (t ∷ numbered (kind_of kind) group (length list + 1) (transaction_parts kind (lines more))) ≡ numbered_transactions (kind_of kind) group (transaction_parts kind (lines after)) =
    ap (λ x. list ++ (x ∷ numbered (kind_of kind) group (length list + 1) (transaction_parts kind (lines more)))) is
    ∙ ap (λ ps. list ++ numbered (kind_of kind) group (length list) ps) (sym here) ∙ r.listed in
    let long : length grown ≡ length list + 1 = ap length e ∙ length_push list t in
    record {
      listed = ap (λ n. grown ++ numbered (kind_of kind) group n (transaction_parts kind (lines more))) long
          ∙ ap (λ xs. xs ++ numbered (kind_of kind) group (length list + 1) (transaction_parts kind (lines more))) e
          ∙ pushed list _ _ t shown;
      few = omega (arith, long, r.few, f.shorter);
    }

-- the listing goes on behind the records of a transaction
pub transactions-behind : (kind : List ℕ) (group : ℕ) (after more rest first : List ℕ) (list : List Transaction) (records : List Record) → AreTransactions kind group after more list → HasRecords kind first more records rest → AreTransactions kind group after rest list
transactions-behind kind group after more rest first list records r h = record {
  listed = ap (λ ps. list ++ numbered (kind_of kind) group (length list) ps) h.further ∙ r.listed;
  few = omega (arith, r.few, h.shorter);
}

pub transactions-pass : (kind : List ℕ) (group : ℕ) (after rest line more : List ℕ) (list : List Transaction) → AreTransactions kind group after rest list → IsFirstLine rest line more → has_type grt line ≡ false → has_type kind line ≡ false → AreTransactions kind group after more list
transactions-pass kind group after rest line more list r f g k =
    let here : transaction_parts kind (lines rest) ≡ transaction_parts kind (lines more) =
    ap (transaction_parts kind) f.lines_are
    ∙ ap (parts (has_type kind) (has_type kind)) (until-other grt line (lines more) g)
    ∙ parts-passes (has_type kind) (has_type kind) line (group_part (lines more)) k in
    record {
      listed = ap (λ ps. list ++ numbered (kind_of kind) group (length list) ps) (sym here) ∙ r.listed;
      few = omega (arith, r.few, f.shorter);
    }

-- groups

abbrev pub group_parts : List (List ℕ) → List (List (List ℕ))
group_parts ls = parts (has_type grh) (has_type grt) ls

abbrev pub numbered_groups : ℕ → List (List (List ℕ)) → List Group
numbered_groups n ps = map (λ p. group_in p.0 p.1) (enumerate_from n ps)

pub record AreGroupsIn (after rest : List ℕ) (list : List Group) : Type 0 where
  pub listed : list ++ numbered_groups (length list + 1) (group_parts (lines rest)) ≡ groups_in (lines after)
  pub few : length list + length rest ≤ length after

pub transaction-made : (k kind_is : TransactionKind) (group s n : ℕ) (ls : List (List ℕ)) (rs : List Record) → k ≡ kind_is → s ≡ n → rs ≡ map record_of ls → record { kind = k; group = group; sequence = s; records = rs } ≡ transaction_of kind_is group n ls
transaction-made k kind_is group s n ls rs a b c = rw (a, b, c) refl
