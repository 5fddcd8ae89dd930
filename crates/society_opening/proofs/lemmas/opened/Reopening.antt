-- What an opening finds of a store that was clean.
use Rattle.std.proofs.Common.{◌≡◌, ◌∙◌, ◌&&◌, IfErr, IfOk, IsTrue, Result, Ok, Err, ap, refl, subst, sym}
use Rattle.std.specs.Coded.{Coded-set}
use Rattle.std.proofs.Math.Logic.{∥∥₁_elim, ∥∥₁_map}
use Rattle.share_rules.specs.declared.office.Office.{Office}
use Rattle.sqlite.specs.Effect.{Database}
use Rattle.sqlite.specs.State.{HasCleanDisk, IsLive, State}
use Rattle.sqlite_trees.specs.Tree.{Trees}
use Rattle.sqlite_trees.specs.Objects.{catalog_tree}
use Rattle.sqlite_catalog.specs.Listing.{IsSound, Lists}
use Rattle.sqlite_catalog.proofs.ReadLemmas.{lists_once}
use Rattle.society_core.specs.PlainMaps.{coded_book}
use Rattle.society_rows.specs.Layouts.{IsFirst}
use Rattle.society_rows.specs.Stored.{HasLayout}
use Rattle.society_book.specs.BookRows.{book_of}
use Rattle.society_book.specs.Kept.{HoldsOwnBook, IsAtRest, LeftBy, Rests}
use Rattle.society_tables.specs.Laws.{IsLeftBy}
use Rattle.society_opening.specs.Older.{HoldsOne}
use Rattle.society_opening.specs.Opening.{IsOutside, ShowsAs}
use Rattle.society_opening.specs.declared.open_fault.OpenFault.{OpenFault}
use Rattle.society_opening.specs.declared.open_fault.OpenFault.TheVariants as fault
use Rattle.society_rows.proofs.lemmas.definitions.LayoutAlone.{layout_alone}
use Rattle.society_book.proofs.lemmas.shown.AskLemmas.{clean_is, first_true, second_true}

-- that a fault is outside is one fact
outside_alone : (e : OpenFault) (x y : IsOutside e) → x ≡ y
outside_alone fault.Memory x y = refl
outside_alone fault.Store x y = refl
outside_alone fault.Empty x y = absurd x
outside_alone fault.Schema x y = absurd x
outside_alone fault.OtherOffice x y = absurd x
outside_alone fault.Damaged x y = absurd x
outside_alone fault.Log x y = absurd x

module _ (o : Office) (s : State) (rests : ∥ IsAtRest o s ∥₁) (opened : IsTrue s.is_open) where
  -- the opening of a connection at rest shows its book
  pub kept_again : (new : State) → IsTrue (new.is_clean && new.is_open)
      → (HasCleanDisk new → IsTrue s.is_open → HasLayout s.committed → HoldsOne o s.committed.trees × ShowsAs s.committed new) → book_of new.now.trees ≡ book_of s.now.trees
  kept_again new live audited = ∥∥₁_elim rests (Coded-set coded_book _ _) (λ r.
      let clean = clean_is new.is_clean (first_true new.is_clean new.is_open live) in
      let shows = (audited clean opened (subst HasLayout r.same r.kept.layout)).1 (second_true new.is_clean new.is_open live) in
      ap (λ (db : Database). book_of db.trees) (shows.0 ∙ sym r.same))

  pub outside_again : (new : State) (e : OpenFault) → HasCleanDisk new
      → (HasCleanDisk new → IsTrue s.is_open → HasLayout s.committed → HoldsOne o s.committed.trees → IsOutside e) → IsOutside e
  outside_again new e clean opens = ∥∥₁_elim rests (outside_alone e) (λ r.
      opens clean opened (subst HasLayout r.same r.kept.layout) ∣ subst (λ (db : Database). HoldsOwnBook o db.trees) r.same r.kept.holds ∣₁)

module _ (o : Office) (s found : State) (rests : ∥ Rests o s ∥₁) (live : IsTrue (s.is_clean && s.is_open))
    (settled : (db : Trees) → IsTrue s.is_open → s.may_leave db → db ≡ s.committed.trees) (sound : IsLive s) (sound_too : IsLive found) (left : IsLeftBy s found) where
  same_trees : Rests o s → found.committed.trees ≡ s.now.trees
  same_trees r = settled found.committed.trees (second_true s.is_clean s.is_open live) left.left ∙ sym (ap (λ (db : Database). db.trees) (r live).same)

  -- what a crash leaves of a store at rest lists the tables that it had
  laid : Rests o s → HasLayout found.committed
  laid r =
      let sound_now : IsSound s.now.schema s.now.trees = (sound (second_true s.is_clean s.is_open live)).0 in
      let shown : IsSound found.committed.schema found.committed.trees = (sound_too left.is_open).1 in
      let same : found.committed.schema ≡ s.now.schema =
      lists_once (found.committed.trees catalog_tree) found.committed.schema s.now.schema shown.lists (subst (λ (db : Trees). Lists (db catalog_tree) s.now.schema) (sym (same_trees r)) sound_now.lists) in
      subst (IsFirst 14) (sym same) (r live).kept.layout

  holds_left : Rests o s → HoldsOwnBook o found.committed.trees
  holds_left r = subst (HoldsOwnBook o) (sym (same_trees r)) (r live).kept.holds

  pub taken_left : HasLayout found.committed × HoldsOne o found.committed.trees
  taken_left = (∥∥₁_elim rests (layout_alone found.committed.schema) laid, ∥∥₁_map rests holds_left)

  -- the opening of it shows the book of the store
  pub kept_left : (new : State) → IsTrue (new.is_clean && new.is_open)
      → (HasCleanDisk new → IsTrue found.is_open → HasLayout found.committed → HoldsOne o found.committed.trees × ShowsAs found.committed new) → book_of new.now.trees ≡ book_of s.now.trees
  kept_left new now_live audited = ∥∥₁_elim rests (Coded-set coded_book _ _) (λ r.
      let clean = clean_is new.is_clean (first_true new.is_clean new.is_open now_live) in
      let shows = (audited clean left.is_open (laid r)).1 (second_true new.is_clean new.is_open now_live) in
      ap (λ (db : Database). book_of db.trees) shows.0 ∙ ap book_of (same_trees r))

  pub outside_left : (new : State) (e : OpenFault) → HasCleanDisk new
      → (HasCleanDisk new → IsTrue found.is_open → HasLayout found.committed → HoldsOne o found.committed.trees → IsOutside e) → IsOutside e
  outside_left new e clean opens = opens clean left.is_open taken_left.0 taken_left.1

-- of any store the opening finds a book that a crash may leave
pub found_left : (o : Office) (s found new : State) → IsLeftBy s found → HasLayout found.committed → IsTrue (new.is_clean && new.is_open)
    → (HasCleanDisk new → IsTrue found.is_open → HasLayout found.committed → HoldsOne o found.committed.trees × ShowsAs found.committed new) → LeftBy o s (book_of new.now.trees)
found_left o s found new left has live audited =
    let clean = clean_is new.is_clean (first_true new.is_clean new.is_open live) in
    let shows = (audited clean left.is_open has).1 (second_true new.is_clean new.is_open live) in
    (found.committed.trees, left.left, λ _. ap (λ (db : Database). book_of db.trees) shows.0)

-- what follows of an answer, or of a fault
pub ok_so : {X E : Type 0} {P Q : X → Type 0} (r : Result X E) → ((x : X) → P x → Q x) → IfOk r P → IfOk r Q
ok_so (Ok x) f h = f x h
ok_so (Err e) f h = tt

pub err_so : {X E : Type 0} {P Q : E → Type 0} (r : Result X E) → ((e : E) → P e → Q e) → IfErr r P → IfErr r Q
err_so (Ok x) f h = tt
err_so (Err e) f h = f e h
