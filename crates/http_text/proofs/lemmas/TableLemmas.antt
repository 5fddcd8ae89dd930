-- Lemmas on tables.
use Rattle.std.proofs.Common.{◌≡◌, ℕ, ◌+◌, ◌<◌, ◌≤◌, List, [], ◌∷◌, ◌++◌, length, get_or, take, ◌∙◌, ap, sym, add-one}
use Rattle.std.proofs.lemmas.List.{flat_map_more, take_all}
use Rattle.std.proofs.Math.Seq.{take-suc}
use Rattle.csv.specs.Writing.{default_writer, row_text}
use Rattle.pool_split.specs.declared.claim.Credit.{Credit}
use Rattle.http_text.specs.Table.{credit_fields, credit_table_rows}

-- one more row
pub rows_more : (head : List ℕ) (credits : List Credit) (count : ℕ) (credit : Credit) → count < length credits → credit ≡ get_or credits count credit
    → (head ++ credit_table_rows (take count credits)) ++ row_text default_writer (credit_fields credit) ≡ head ++ credit_table_rows (take (count + 1) credits)
rows_more head credits count credit within is =
    let next : take (count + 1) credits ≡ take count credits ++ credit ∷ [] =
    ap (λ (n : ℕ). take n credits) (add-one count) ∙ take-suc credits count credit within ∙ ap (λ (c : Credit). take count credits ++ c ∷ []) (sym is) in
    rw next (flat_map_more (λ (c : Credit). row_text default_writer (credit_fields c)) head (take count credits) credit)

-- the rows of all credits
pub all_rows : (head : List ℕ) (credits : List Credit) (count : ℕ) → length credits ≤ count → head ++ credit_table_rows (take count credits) ≡ head ++ credit_table_rows credits
all_rows head credits count past = ap (λ (cs : List Credit). head ++ credit_table_rows cs) (take_all count credits past)
