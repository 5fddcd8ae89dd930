use Rattle.std.proofs.Common.{refl}
use Rattle.society_book.proofs.lemmas.shown.AskLemmas.{clean_is}
use Rattle.society_tables.proofs.lemmas.EmptyTables.{begun_book, begun_rests}
use Rattle.society_tables.proofs.tables.Tables+MemoryStore.in_memory.Goals as goal

pub invariant_of-result-clause-rests : goal.invariant_of-result-clause-rests
invariant_of-result-clause-rests c =
    let made = c.in_ok-create.ensures.created (clean_is _ refl) in
    ∣ (λ live. begun_rests c.args.office.now _ _ (rw (c.from.ensures, c.from-2.ensures, c.name.ensures) refl) made.0 made.1) ∣₁

pub returns-clause-empty : goal.returns-clause-empty
returns-clause-empty c =
    let made = c.in_ok-create.ensures.created (clean_is _ refl) in
    begun_book c.args.office.now _ _ (rw (c.from.ensures, c.from-2.ensures, c.name.ensures) refl) made.0
