use Rattle.std.proofs.Common.{rules}
use Rattle.sqlite.specs.Held.{state}
use Rattle.society_book.proofs.lemmas.together.JudgedLemmas.{examines_reads}
use Rattle.book_audit.proofs.reading.ask.Goals as goal

pub returns : goal.returns
returns g c = record {
  examined = record {
    same_reference = search rules;
    says = examines_reads (state g.S.Store c.args.tx.now.conn.now) (state g.S.Store c.answer.new.tx.conn.now) c.answer.result _ c.answer.ensures.read.says c.answer.ensures.err c.answer.ensures.medium;
  };
}
