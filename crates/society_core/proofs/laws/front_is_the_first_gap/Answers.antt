use Rattle.society_core.proofs.lemmas.Books.{sound_order}
use Rattle.society_core.proofs.lemmas.Statements.{plain_ends, plain_is_line, plain_numbers_are, sound_gap}
use Rattle.society_core.proofs.lemmas.LineNumbers.{in_line_is, line_is, there_in_line}
use Rattle.society_core.proofs.laws.front_is_the_first_gap.Goals as goal

pub returns : goal.returns
returns c = record {
  reached = there_in_line;
  led = in_line_is;
  whole = λ book sender sound. line_is book sender (sound_order book sound sender).right;
  gap = sound_gap;
  line = plain_is_line;
  numbers = plain_numbers_are;
  plain_gap = plain_ends;
}
