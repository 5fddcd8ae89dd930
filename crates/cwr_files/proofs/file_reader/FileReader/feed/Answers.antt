use Rattle.std.proofs.Common.{◌≡◌, ◌+◌, ◌-◌, length, refl, ap, arith}
use Rattle.cwr_files.specs.Sizes.{max_body}
use Rattle.cwr_files.proofs.lemmas.Settled.{known-some, known-none, stops-again, stays-known, stays-open, stops-here, takes-piece, pending-small, seen-of, nothing-added, stays-as-it-was}
use Rattle.cwr_files.proofs.file_reader.FileReader.feed.Goals as goal

pub returns-in-Some-clause-feeds : goal.returns-in-Some-clause-feeds
returns-in-Some-clause-feeds c =
    let i = c.self.inside in
    stops-again (seen-of i.sender i.body.items) c.args.self.now c.args.piece.now c.in-Some.fault c.self.view_is (known-some i.sender i.body.items i.at i.fault c.in-Some.fault c.self.invariant c.in-Some.is)

pub returns-in-Some-clause-stays : goal.returns-in-Some-clause-stays
returns-in-Some-clause-stays c =
    let i = c.self.inside in
    stays-known (seen-of i.sender i.body.items) c.args.self.now c.in-Some.fault c.self.view_is (known-some i.sender i.body.items i.at i.fault c.in-Some.fault c.self.invariant c.in-Some.is)

pub overflow_sub-room : goal.overflow_sub-room
overflow_sub-room c =
    let i = c.self.inside in
    omega (arith, pending-small i.sender i.body.items i.at (known-none i.sender i.body.items i.at i.fault c.self.invariant c.in_default.is), c.len-2.ensures, i.body.ok.0)

pub returns-in-Ok-read_on-clause-feeds : goal.returns-in-Ok-read_on-clause-feeds
returns-in-Ok-read_on-clause-feeds c =
    let i = c.self.inside in
    let room : 1048577 - c.len-2.result ≡ max_body + 1 - length c.self.inside.body.items = omega (arith, c.len-2.ensures, i.body.ok.0) in
    takes-piece (seen-of i.sender i.body.items) c.args.self.now _ c.args.piece.now _ _ _ c.min-count.result c.in-Ok-read_on.at c.self.view_is refl c.in-Ok.ensures.items refl c.min-count.ensures room (rw c.as_slice.ensures.value at c.in-Ok-read_on.ensures)

pub returns-in-Ok-read_on-clause-stays : goal.returns-in-Ok-read_on-clause-stays
returns-in-Ok-read_on-clause-stays c =
    let i = c.self.inside in
    stays-open (seen-of i.sender i.body.items) c.args.self.now _ i.at _ c.self.view_is (known-none i.sender i.body.items i.at i.fault c.self.invariant c.in_default.is)

pub returns-in-Err-clause-feeds : goal.returns-in-Err-clause-feeds
returns-in-Err-clause-feeds c =
    let i = c.self.inside in
    stops-here (seen-of i.sender i.body.items) c.args.self.now _ c.args.piece.now _ _ c.min-count.result c.in-Err.fault c.self.view_is refl c.in-Ok.ensures.items refl (rw c.as_slice.ensures.value at c.in-Err.ensures)

pub returns-in-Err-clause-stays : goal.returns-in-Err-clause-stays
returns-in-Err-clause-stays c =
    let i = c.self.inside in
    stays-open (seen-of i.sender i.body.items) c.args.self.now _ i.at _ c.self.view_is (known-none i.sender i.body.items i.at i.fault c.self.invariant c.in_default.is)

pub returns-in_default-extend_from_slice-clause-feeds : goal.returns-in_default-extend_from_slice-clause-feeds
returns-in_default-extend_from_slice-clause-feeds c =
    let i = c.self.inside in
    let same : c.extend_from_slice.new.self.items ≡ c.self.inside.body.items = nothing-added c.extend_from_slice.result _ _ _ c.extend_from_slice.ensures.items c.in_default-extend_from_slice.not-Ok in
    stays-as-it-was (seen-of i.sender i.body.items) c.args.self.now _ i.at c.self.view_is (ap (seen-of i.sender) same) (known-none i.sender i.body.items i.at i.fault c.self.invariant c.in_default.is)

pub returns-in_default-extend_from_slice-clause-stays : goal.returns-in_default-extend_from_slice-clause-stays
returns-in_default-extend_from_slice-clause-stays c =
    let i = c.self.inside in
    stays-open (seen-of i.sender i.body.items) c.args.self.now _ i.at _ c.self.view_is (known-none i.sender i.body.items i.at i.fault c.self.invariant c.in_default.is)
