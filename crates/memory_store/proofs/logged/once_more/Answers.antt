use Rattle.std.proofs.Math.Logic.{∥∥₁_elim}
use Rattle.sqlite_trees.specs.Props.{Trees-set}
use Rattle.memory_store.proofs.logged.once_more.Goals as goal

pub returns-in-Some : goal.returns-in-Some
returns-in-Some c = record { same = ∥∥₁_elim c.requires.mirrors (Trees-set _ _) (λ h. h _ c.in-Some.is) }
