use Rattle.std.proofs.Common.{List, ℕ, Ok, subst, sym, rules}
use Rattle.sqlite.specs.Held.{state}
use Rattle.sqlite_trees.specs.Tree.{Trees}
use Rattle.share_rules.specs.declared.office.Office.{Office}
use Rattle.society_book.specs.RightRows.{KeepsUnsound}
use Rattle.society_book.specs.Sources.{KeepsSent}
use Rattle.book_audit.specs.Entries.{AreEndsAbove, HoldsEntries}
use Rattle.book_audit.specs.OwnRows.{LacksOwn}
use Rattle.book_derivation.specs.Deriving.{Derives, LacksBook}
use Rattle.book_derivation.specs.Lines.{WritesLines}
use Rattle.book_derivation.specs.Money.{LacksLined}
use Rattle.book_derivation.proofs.lemmas.Derivings.{derives_examined, derives_not, derives_then}
use Rattle.book_derivation.proofs.lemmas.Derived.{lined, lined_of, no_money}
use Rattle.book_derivation.proofs.derivation.derive.Goals as goal

-- the rows of the entries are such as may stand in a book, whose senders these are, and what is derived of their lines is written
abbrev Lined : Office → List (List ℕ) → Trees → Trees → Type 0
Lined o senders before after = HoldsEntries senders before × AreEndsAbove before × WritesLines o senders before after

pub returns-in_err-senders : goal.returns-in_err-senders
returns-in_err-senders g c = record {
  derives = record {
    same_reference = search rules;
    says =
        let old = state g.S.Store c.args.tx.now.conn.now in
        let one = state g.S.Store c.entries_in.new.tx.conn.now in
        derives_not LacksOwn (LacksBook c.args.office.now) old one c.in_err-senders.field-0.0 c.from_residual.result _ _ (derives_examined LacksOwn old one _ _ c.in_err-senders.ensures.examined.says) c.from_residual.ensures.1
        (λ lacks b under. lacks b (record { sound = under.sound; kept = under.own }));
  };
}

pub returns-in_err-write_lines : goal.returns-in_err-write_lines
returns-in_err-write_lines g c = record {
  derives = record {
    same_reference = search rules;
    says =
        let old = state g.S.Store c.args.tx.now.conn.now in
        let one = state g.S.Store c.entries_in.new.tx.conn.now in
        let two = state g.S.Store c.write_lines.new.tx.conn.now in
        let r = c.from_residual-in_err-write_lines.result in
        derives_then LacksOwn KeepsUnsound (LacksBook c.args.office.now) old one two c.in_ok-senders.senders r _ (λ before after (done : Unit {0}). ⊥) _ (derives_examined LacksOwn old one _ _ c.in_ok-senders.ensures.examined.says)
        (derives_not KeepsUnsound KeepsUnsound one two c.in_err-write_lines.field-0.0 r _ _ c.in_err-write_lines.ensures.derives.says c.from_residual-in_err-write_lines.ensures.1 (λ wrong. wrong))
        (λ y first second entries never. absurd never)
        (λ keeps entries unsound b under. unsound b under.sound (subst (KeepsSent b) (sym entries.0) (record { transmissions = under.own.transmissions; ends = under.own.ends })));
  };
}

pub returns : goal.returns
returns g c = record {
  derives = record {
    same_reference = search rules;
    says =
        let old = state g.S.Store c.args.tx.now.conn.now in
        let one = state g.S.Store c.entries_in.new.tx.conn.now in
        let two = state g.S.Store c.write_lines.new.tx.conn.now in
        let new = state g.S.Store c.write_money.new.tx.conn.now in
        let o = c.args.office.now in
        let senders = c.in_ok-senders.senders.items in
        let lines : Derives (LacksBook o) old two (Ok tt) (λ before after (done : Unit {0}). Lined o senders before after) =
        derives_then LacksOwn KeepsUnsound (LacksBook o) old one two c.in_ok-senders.senders (Ok tt) _ _ (λ before after (done : Unit {0}). Lined o senders before after) (derives_examined LacksOwn old one _ _ c.in_ok-senders.ensures.examined.says)
        (rw c.as_slice.ensures.value at c.in_ok-write_lines.ensures.derives.says)
        (λ y first second entries written. (entries.1.0, entries.1.1, subst (λ (db : Trees). WritesLines o senders db two.now.trees) entries.0 written))
        (λ keeps entries unsound b under. unsound b under.sound (subst (KeepsSent b) (sym entries.0) (record { transmissions = under.own.transmissions; ends = under.own.ends }))) in
        derives_then (LacksBook o) (LacksLined o) (LacksBook o) old two new tt c.write_money.result _ _ _ lines c.write_money.ensures.derives.says
        (λ y first second before money registered none unpaid.
        money.holds (no_money old.now.trees two.now.trees before.2.others unpaid) (lined o senders old.now.trees two.now.trees before.0 before.1 first before.2 none registered unpaid))
        (λ keeps before lacks b under. lacks b (lined_of o senders old.now.trees two.now.trees before.0 before.1 keeps before.2 under.lines b under));
  };
}
