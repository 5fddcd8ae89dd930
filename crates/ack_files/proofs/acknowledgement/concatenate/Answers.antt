use Rattle.std.proofs.Common.{List, ℕ, ◌++◌, ap, ◌∙◌, refl, replicate}
use borrow.Rule.Slice.PartMut.{put_mid}
use Rattle.ack_files.proofs.lemmas.Fields.{put_behind}
use Rattle.ack_files.proofs.acknowledgement.concatenate.Goals as goal

pub returns : goal.returns
returns c =
    ap (λ (t : List ℕ). put_mid 9 11 (t ++ replicate 11 32) c.copy_from_slice-2.new.self) c.copy_from_slice.ensures.after
    ∙ put_behind 9 11 c.args.front.now (replicate 11 32) c.copy_from_slice-2.new.self c.requires refl
    ∙ ap (λ (t : List ℕ). c.args.front.now ++ t) c.copy_from_slice-2.ensures.after
