use Rattle.std.proofs.Common.{◌∙◌, [], ◌∷◌, Ok, Vec, ap, subst, sym, rules}
use Rattle.std.specs.List.{AllByRecursion}
use Rattle.std.specs.declared.alloc.Global.{Global}
use Rattle.sqlite_trees.specs.Tree.{Trees}
use Rattle.sqlite_value.specs.declared.value.Value.TheVariants.{Text}
use Rattle.sqlite_value.specs.Order.{Row}
use Rattle.society_rows.specs.Layout as layout
use Rattle.society_rows.specs.Reads.{Lists, has_key}
use Rattle.society_rows.specs.Stored.{rows_in}
use Rattle.society_book.specs.RightRows.{IsRightStated, KeepsUnsound}
use Rattle.society_book.proofs.lemmas.lines.RightRows.{all_listed, all_right_stated}
use Rattle.society_book.proofs.lemmas.together.ErrLemmas.{errs_as, blames_where}
use Rattle.sqlite.specs.Held.{state}
use Rattle.society_book.specs.EndLists.{end_shown}
use Rattle.society_book.proofs.lemmas.rows_alike.EndRows.{ends_found}
use Rattle.society_book.proofs.lemmas.together.StepLemmas.{looks_as, looks_of, more, on_ok}
use Rattle.society_book.proofs.ends_read.ends_in.Goals as goal

pub returns-clause-looks : goal.returns-clause-looks
returns-clause-looks g c = record {
  same_reference = search rules;
  says =
      let old = state g.S.Store c.args.tx.now.conn.now in
      let new = state g.S.Store c.answer.new.tx.conn.now in
      record {
        does = looks_as old new _ c.ends_shown.result _ _ (looks_of old new (Ok _) _ c.in_ok-rows.ensures.read.says)
            (λ lists. more c.ends_shown.result (λ ends is book has. is ∙ ap end_shown c.as_slice.ensures.value ∙ ends_found book _ has c.args.sender.now _ lists) c.ends_shown.ensures.shows);
        answered = λ clean inside. on_ok c.ends_shown.result (c.in_ok-rows.ensures.read.says.was_open clean);
      };
}

pub returns-clause-err : goal.returns-clause-err
returns-clause-err g c =
    let s = c.args.sender.now in
    let old = state g.S.Store c.args.tx.now.conn.now in
    let new = state g.S.Store c.answer.new.tx.conn.now in
    let rows = c.in_ok-rows.rows.items in
    let ListsEnds : Trees → Vec Row Global → Type 0 = λ db found. Lists layout.segment_ends (has_key (Text s ∷ [])) 2 db found.items in
    errs_as {X = Vec Row Global} KeepsUnsound old new c.in_ok-rows.rows c.ends_shown.result ListsEnds (looks_of old new (Ok c.in_ok-rows.rows) ListsEnds c.in_ok-rows.ensures.read.says)
    (λ lists. blames_where (AllByRecursion IsRightStated c.as_slice.result.now → ⊥) (KeepsUnsound old.now.trees) c.ends_shown.result c.ends_shown.ensures.blames
    (λ wrong b sound keeps. wrong (subst (AllByRecursion IsRightStated) (sym c.as_slice.ensures.value)
    (all_listed IsRightStated layout.segment_ends (has_key (Text s ∷ [])) 2 old.now.trees rows (all_right_stated b (rows_in layout.segment_ends old.now.trees) sound keeps.ends) lists))))
