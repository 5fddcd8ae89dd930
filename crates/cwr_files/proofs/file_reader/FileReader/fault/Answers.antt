use Rattle.std.proofs.Common.{ap, ◌∙◌}
use Rattle.cwr_files.specs.Fed.{Fed}
use Rattle.cwr_files.specs.FileFault.{file_fault}
use Rattle.cwr_files.proofs.lemmas.Settled.{known-some, settled-now}
use Rattle.cwr_files.proofs.file_reader.FileReader.fault.Goals as goal

pub returns-in-Some : goal.returns-in-Some
returns-in-Some c =
    let i = c.self.inside in
    settled-now i.sender i.body.items c.in-Some.fault (known-some i.sender i.body.items i.at i.fault c.in-Some.fault c.self.invariant c.in-Some.is)
    ∙ ap (λ (x : Fed). file_fault x.sender x.body) c.self.view_is

pub returns-in-None : goal.returns-in-None
returns-in-None c = (rw c.as_slice.ensures.value at c.last_fault.ensures) ∙ ap (λ (x : Fed). file_fault x.sender x.body) c.self.view_is
