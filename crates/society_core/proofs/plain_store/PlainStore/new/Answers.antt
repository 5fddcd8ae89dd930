use Rattle.society_core.proofs.lemmas.Books.{empty_book_sound}
use Rattle.society_core.proofs.plain_store.PlainStore.new.Goals as goal

pub invariant_of-result : goal.invariant_of-result
invariant_of-result c = record { sound = rw c.new.ensures empty_book_sound }
