-- Logs: one more write, and the rows at places in a log.
use Rattle.std.proofs.Common.{◌≡◌, ℕ, ◌-◌, ◌<◌, ◌≤◌, All, List, [], ◌∷◌, ◌++◌, map, take, take-take, take_all, length, get_or, refl, sym, ap, ◌∙◌, arith}
use Rattle.std.proofs.lemmas.List.{take-append-le, get_or-map, length-map}
use Rattle.std.proofs.lemmas.List.Elements.{All-head, All-tail}
use Rattle.std.proofs.lemmas.List.Sums.{fold_push}
use Rattle.sqlite_trees.specs.Tree.{Trees, with_tree}
use Rattle.memory_store.specs.declared.rows.SortedRows.{SortedRows}
use Rattle.memory_store.specs.Pieces.{changed}
use Rattle.memory_store.specs.declared.logged.Logged.{Logged}
use Rattle.memory_store.specs.Log.{rows_at, replayed, rows_after}

-- one more write
pub led_on : (log : List Logged) (it : Logged) (db : Trees) → replayed (log ++ it ∷ []) db ≡ with_tree (replayed log db) it.tree (changed it.change (replayed log db it.tree))
led_on log it db = fold_push _ db log it

-- places in a log tell of the writes before them alone
pub same_places : (kept : List SortedRows) (old new : List Logged) (most : ℕ) (marks : List ℕ) → All (λ n. n ≤ most) marks → take most new ≡ take most old
    → map (rows_after kept new) marks ≡ map (rows_after kept old) marks
same_places kept old new most [] within same = refl
same_places kept old new most (n ∷ marks) within same =
    let low : n ≤ most = All-head (λ n. n ≤ most) n marks within in
    let front : take n new ≡ take n old = sym (take-take n most new low) ∙ ap (take n) same ∙ take-take n most old low in
    let rest : All (λ n. n ≤ most) marks = All-tail (λ n. n ≤ most) n marks within in
    rw (front, same_places kept old new most marks rest same)

pub places_stay : (kept : List SortedRows) (log : List Logged) (it : Logged) (marks : List ℕ) → All (λ n. n ≤ length log) marks → map (rows_after kept (log ++ it ∷ [])) marks ≡ map (rows_after kept log) marks
places_stay kept log it marks within = same_places kept log _ (length log) marks within (take-append-le _ log _ (omega arith))

-- the rows at the end of the log
pub at_the_end : (kept : List SortedRows) (log : List Logged) → rows_after kept log (length log) ≡ replayed log (rows_at kept)
at_the_end kept log = ap (λ l. replayed l (rows_at kept)) (take_all _ log (omega arith))

pub newest_rows : (f : ℕ → Trees) (marks : List ℕ) (d : Trees) → 0 < length marks → get_or (map f marks) (length (map f marks) - 1) d ≡ f (get_or marks (length marks - 1) 0)
newest_rows f marks d some = rw length-map (get_or-map f marks _ 0 d (omega arith))
