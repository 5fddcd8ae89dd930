use Rattle.std.proofs.Common.{◌≡◌, None}
use Rattle.std.specs.BTreeMap.{keys}
use Rattle.std.specs.List.{last_or}
use Rattle.society_core.specs.Ends.{place_stated}
use Rattle.society_core.specs.PlainLines.{numbers_passing}
use Rattle.society_core.proofs.lemmas.LineKeys.{is_key_past}
use Rattle.society_core.proofs.plain_book.number_past.Given as goal

-- the last that was found, or else the last of the rest, is the last of all
abbrev pub invariant-loop-key : goal.invariant-loop-key
invariant-loop-key l =
    let past = is_key_past l.sender (place_stated l.end) l.end.last in
    last_or l.last (numbers_passing past l.key-iterator) ≡ last_or None (numbers_passing past (keys l.entries))
