-- What the returns of an order come to, and that it is paid in the tables as in the book.
use Rattle.std.proofs.Common.{◌≡◌, ◌∙◌, ◌&&◌, is_some, ◌≤◌, ◌<◌, ◌+◌, ◌++◌, ◌∷◌, [], List, ℕ, IfOk, OnOk, Result, Ok, Err, true, ap, flat_map, get_or, length, take, append-nil}
use Rattle.std.proofs.lemmas.Grind.{flat_map-append}
use Rattle.share_rules.specs.declared.office.Office.{Office}
use Rattle.perf_returns.specs.declared.performance.Performance.{Performance}
use Rattle.society_core.specs.Book.{Book, is_applied, is_pool_entry, return_at}
use Rattle.society_core.specs.Candidates.{ReachesCut, rows_of_return}
use Rattle.society_core.specs.Orders.{Order}
use Rattle.society_core.specs.Points.{Tallies}
use Rattle.society_core.specs.declared.points.Tally.{Tally}
use Rattle.society_core.specs.declared.return_key.ReturnKey.{ReturnKey}
use Rattle.society_core.proofs.lemmas.Fronts.{first_holds, second_holds}
use Rattle.std.specs.List.{list_all}
use Rattle.work_ids.specs.Numbers.{is_pool_number}
use Rattle.society_rows.specs.declared.fault.RowFault.{RowFault}
use Rattle.sqlite_trees.specs.Tree.{Trees}
use Rattle.society_book.specs.Sources.{HoldsWorks}
use Rattle.society_closings.proofs.lemmas.money.PoolWrites.{take_next}

-- what a return adds to a tally, by an answer that may be an error
pub counted_by : (r : Result (Unit {0}) RowFault) (db : Trees) (old new : Tally) (rows : Book → List Performance)
    → ((o : Office) (b : Book) (before : List Performance) → HoldsWorks o b db → length before ≤ 9990000 → Tallies old before → OnOk r (Tallies new (before ++ rows b)))
    → ((o : Office) (b : Book) → HoldsWorks o b db → OnOk r (length (rows b) ≤ 10000))
    → IfOk r (λ _. (o : Office) (b : Book) (before : List Performance) → HoldsWorks o b db → length before ≤ 9990000 → Tallies old before → Tallies new (before ++ rows b) × (length (rows b) ≤ 10000))
counted_by (Ok x) db old new rows counts few = λ o b before holds short tallied. (counts o b before holds short tallied, few o b holds)
counted_by (Err e) db old new rows counts few = tt

-- the performances of one return more
pub rows_next : (b : Book) (keys : List ReturnKey) (i : ℕ) (key : ReturnKey) → i < length keys → key ≡ get_or keys i key
    → flat_map (rows_of_return b) (take (i + 1) keys) ≡ flat_map (rows_of_return b) (take i keys) ++ rows_of_return b key
rows_next b keys i key here is =
    ap (flat_map (rows_of_return b)) (take_next keys i key here is)
    ∙ flat_map-append (rows_of_return b) (take i keys) (key ∷ [])
    ∙ ap (λ l. flat_map (rows_of_return b) (take i keys) ++ l) (append-nil (rows_of_return b key))

-- what an answer that may be an error says of each book
pub by_each : {X : Type 0} (r : Result X RowFault) (P : Book → Type 0) (Q : Book → X → Type 0) → ((b : Book) → P b → IfOk r (Q b)) → IfOk r (λ x. (b : Book) → P b → Q b x)
by_each (Ok x) P Q h = h
by_each (Err e) P Q h = tt

-- an order that nothing refuses has a cut that is reached
pub cut_reached : (b : Book) (pool : ℕ) (order : Order) → is_pool_entry b pool order ≡ true → ReachesCut b order
cut_reached b pool order entry =
    let cuts = list_all (is_applied b) order.cut in
    let returns = list_all (λ (key : ReturnKey). is_some (return_at b key)) order.returns in
    second_holds (is_pool_number pool) cuts (first_holds (is_pool_number pool && cuts) returns entry)
