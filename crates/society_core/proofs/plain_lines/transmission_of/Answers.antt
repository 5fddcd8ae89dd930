use Rattle.std.proofs.Common.{ap, sym, ◌∙◌}
use Rattle.cwr_files.specs.FileFault.{file_fault}
use Rattle.society_core.proofs.lemmas.Books.{right_body}
use Rattle.society_core.proofs.plain_lines.transmission_of.Goals as goal

pub known_transmission-requires : goal.known_transmission-requires
known_transmission-requires c = record {
  right =
      ap (file_fault c.args.sender.now) c.deref.ensures.value
      ∙ right_body c.args.book.now c.args.sender.now c.args.number c.in-Some.body.now.items c.requires.sound (sym c.in-Some.ensures);
}
