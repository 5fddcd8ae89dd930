use Rattle.std.proofs.Common.{ap, ◌∙◌, refl}
use Rattle.sqlite.specs.Held.{state}
use Rattle.memory_store.specs.Memory.{over_memory}
use Rattle.http_desk.proofs.lemmas.ServeLemmas.{no_turn}
use Rattle.society_book.specs.Kept.{tables_state}
use Rattle.society_commands.proofs.lemmas.ReplayLemmas.{replays_from, breaks_off_from}
use Rattle.society_commands.proofs.lemmas.TableLemmas.{no_tables}
use Rattle.society_commands.specs.Troubles.{Tells}
use Rattle.society_commands.proofs.replaying.replay.Goals as goal

pub returns-in_default-clause-broken_off : goal.returns-in_default-clause-broken_off
returns-in_default-clause-broken_off g c = λ one. no_tables c.args.office.now g.R.Read.remaining g.W.Write.contents c.args.reader.now c.args.out.now (Tells g.E.Write.contents c.args.err.now c.tell.new.err) c.tell.ensures.told

pub returns-in_default-clause-turns : goal.returns-in_default-clause-turns
returns-in_default-clause-turns g c = no_turn g.R.Read.remaining c.args.reader.now _ c.args.reader.now.reads_fit

pub returns-in-Ok-serve-clause-served : goal.returns-in-Ok-serve-clause-served
returns-in-Ok-serve-clause-served g c = λ zero.
    let first = c.new-desk.result in
    let last = c.serve.new.desk in
    let same = ap (λ s. s.office) c.new-desk.ensures ∙ c.in-Ok.ensures.office in
    let empty = ap (λ s. (tables_state s.office (state over_memory s.conn) s.failures).book) c.new-desk.ensures ∙ c.in-Ok.ensures.empty in
    replays_from first last (λ t. tables_state t.office (state over_memory t.conn) t.failures) c.args.office.now g.R.Read.remaining g.W.Write.contents c.args.reader.now c.serve.new.reader c.args.out.now c.serve.new.writer same empty refl c.in-Ok-serve.field-0.requests c.in-Ok-serve.ensures.served

pub returns-clause-broken_off : goal.returns-clause-broken_off
returns-clause-broken_off g c = λ one.
    let first = c.new-desk.result in
    let last = c.serve.new.desk in
    let same = ap (λ s. s.office) c.new-desk.ensures ∙ c.in-Ok.ensures.office in
    let empty = ap (λ s. (tables_state s.office (state over_memory s.conn) s.failures).book) c.new-desk.ensures ∙ c.in-Ok.ensures.empty in
    breaks_off_from first last (λ t. tables_state t.office (state over_memory t.conn) t.failures) c.args.office.now g.R.Read.remaining g.W.Write.contents c.args.reader.now c.serve.new.reader c.args.out.now c.serve.new.writer same empty refl c.in-Err.fault
    (Tells g.E.Write.contents c.args.err.now c.tell-in-Err.new.err) c.in-Err.ensures.err.breaks c.in-Err.ensures.err.cause c.tell-in-Err.ensures.told
