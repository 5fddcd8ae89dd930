use Rattle.std.proofs.Common.{ℕ, List, ◌++◌, decimal, subst, ◌∙◌, codes}
use Rattle.desk_connections.specs.Connections.{Prints}
use Rattle.desk_connections.specs.Faults.{fault_name}
use Rattle.desk_connections.proofs.lemmas.ConnectionLemmas.{prints_on}
use Rattle.desk_connections.proofs.faults.print_fault.Goals as goal

pub returns : goal.returns
returns g c =
    let W = g.W.Write.contents in
    let out = c.args.out.now in
    let fault = c.args.fault.now in
    let named = subst (λ (l : List ℕ). Prints W out c.print.new.out l) (c.as_bytes.ensures.value ∙ c.fault_name.ensures) c.print.ensures in
    let two = prints_on W out c.print.new.out c.print-2.new.out (fault_name fault.kind) (codes " fault after ") named c.print-2.ensures in
    prints_on W out c.print-2.new.out c.print_number.new.out (fault_name fault.kind ++ codes " fault after ") (decimal fault.requests) two c.print_number.ensures
