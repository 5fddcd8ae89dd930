use Rattle.std.proofs.Common.{◌≡◌, ◌++◌, map, take, drop}
use Rattle.work_ids.specs.Characters.{capital}
use Rattle.work_ids.proofs.characters.make_capitals.Given as goal

abbrev pub invariant-loop-character : goal.invariant-loop-character
invariant-loop-character l = l.characters ≡ map capital (take l.character-index l.fn.characters) ++ drop l.character-index l.fn.characters
