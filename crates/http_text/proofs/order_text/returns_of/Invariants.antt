use Rattle.http_text.specs.OrderText.{return_named}
use Rattle.http_text.proofs.lemmas.OrderLemmas.{ReadSoFar}
use Rattle.http_text.proofs.order_text.returns_of.Given as goal

abbrev pub invariant-loop-entry : goal.invariant-loop-entry
invariant-loop-entry l = ReadSoFar return_named l.entry-items l.entry-index l.returns.items
