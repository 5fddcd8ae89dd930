-- Rows are added one after another.
use Rattle.std.proofs.Common.{◌≡◌, ◌∙◌, ◌+◌, ◌<◌, Bor, ℕ, List, [], ◌∷◌, ◌++◌, add-one, ap, append_assoc, append-nil, get_or, length, map, subst, sym, take}
use Rattle.std.proofs.Math.Seq.{take-suc}
use Rattle.std.proofs.lemmas.Grind.{flat_map-append}
use Rattle.std.proofs.lemmas.List.{map-append}
use Rattle.std.specs.List.{flat_map}
use Rattle.std.specs.Prelude.{Vec}
use Rattle.std.specs.declared.alloc.Global.{Global}
use Rattle.csv.specs.Writing.{default_writer, row_text}
use Rattle.csv.specs.declared.writer.Writer.{Writer}
use Rattle.http_text.specs.Rows.{AddsRow, HasWrittenRows}
use Rattle.credit_listing.specs.Listed.{AddsRows}
use Rattle.credit_listing.specs.Rows.{rows_written}

-- none yet
pub adds_none : (table : Writer (Vec ℕ Global)) → AddsRows table table []
adds_none table rows written = subst (λ (r : List ℕ). HasWrittenRows table r) (sym (append-nil rows)) written

-- one row
pub adds_one : (table new_table : Writer (Vec ℕ Global)) (fields : List (List ℕ)) → AddsRow table new_table fields → AddsRows table new_table (fields ∷ [])
adds_one table new_table fields adds rows written =
    subst (λ (r : List ℕ). HasWrittenRows new_table (rows ++ r)) (sym (append-nil (row_text default_writer fields))) (adds rows written)

-- some, and then more
pub adds_more : (table middle new_table : Writer (Vec ℕ Global)) (first then : List (List (List ℕ))) → AddsRows table middle first → AddsRows middle new_table then
    → AddsRows table new_table (first ++ then)
adds_more table middle new_table first then adds more rows written =
    subst (λ (r : List ℕ). HasWrittenRows new_table r)
    (append_assoc rows (rows_written first) (rows_written then) ∙ ap (λ (r : List ℕ). rows ++ r) (sym (flat_map-append (λ (fields : List (List ℕ)). row_text default_writer fields) first then)))
    (more (rows ++ rows_written first) (adds rows written))

-- and then one more
pub adds_row : {A B : Type 0} (table middle new_table : Writer (Vec ℕ Global)) (row : A × B → List (List ℕ)) (yielded : List (Bor A × Bor B)) (item : Bor A × Bor B)
    → AddsRows table middle (map row (map (λ paid. (paid.0.now, paid.1.now)) yielded)) → AddsRow middle new_table (row (item.0.now, item.1.now))
    → AddsRows table new_table (map row (map (λ paid. (paid.0.now, paid.1.now)) (yielded ++ item ∷ [])))
adds_row {A} {B} table middle new_table row yielded item before adds =
    let now : Bor A × Bor B → A × B = λ paid. (paid.0.now, paid.1.now) in
    subst (λ (rows : List (List (List ℕ))). AddsRows table new_table rows)
    (sym (ap (map row) (map-append now yielded (item ∷ [])) ∙ map-append row (map now yielded) (now item ∷ [])))
    (adds_more table middle new_table (map row (map now yielded)) (row (now item) ∷ []) before (adds_one middle new_table (row (now item)) adds))

-- the rows of one more share
pub shares_more : {A : Type 0} (rows_of : A → List (List (List ℕ))) (shares : List A) (count : ℕ) (share : A) → count < length shares → share ≡ get_or shares count share
    → rows_written (flat_map rows_of (take count shares)) ++ rows_written (rows_of share) ≡ rows_written (flat_map rows_of (take (count + 1) shares))
shares_more {A} rows_of shares count share within is =
    let next : take (count + 1) shares ≡ take count shares ++ share ∷ [] =
    ap (λ (n : ℕ). take n shares) (add-one count) ∙ take-suc shares count share within ∙ ap (λ (s : A). take count shares ++ s ∷ []) (sym is) in
    let more : flat_map rows_of (take (count + 1) shares) ≡ flat_map rows_of (take count shares) ++ rows_of share =
    ap (flat_map rows_of) next ∙ flat_map-append rows_of (take count shares) (share ∷ []) ∙ ap (λ (r : List (List (List ℕ))). flat_map rows_of (take count shares) ++ r) (append-nil (rows_of share)) in
    sym (ap rows_written more ∙ flat_map-append (λ (fields : List (List ℕ)). row_text default_writer fields) (flat_map rows_of (take count shares)) (rows_of share))
