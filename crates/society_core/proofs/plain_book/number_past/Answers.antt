use Rattle.std.proofs.Common.{List, None, ap, false, sym, true, ◌∙◌}
use Rattle.std.specs.BTreeMap.{keys}
use Rattle.std.specs.List.{last_or}
use Rattle.society_core.specs.Ends.{place_stated}
use Rattle.society_core.specs.PlainLines.{numbers_passing}
use Rattle.society_core.specs.declared.transmission_key.TransmissionKey.{TransmissionKey}
use Rattle.society_core.proofs.lemmas.LineKeys.{is_key_past, last_is, last_next}
use Rattle.society_core.proofs.plain_book.number_past.Goals as goal

pub loop-key-init : goal.loop-key-init
loop-key-init c =
    let past = is_key_past c.args.sender.now (place_stated c.args.end.now) c.args.end.now.last in
    ap (λ (left : List TransmissionKey). last_or None (numbers_passing past left)) (c.into_iter-key-iterator.ensures.into_iter_gives ∙ c.keys-key-items.ensures.rest)

pub loop-key-preserved-then-is_key_past : goal.loop-key-preserved-then-is_key_past
loop-key-preserved-then-is_key_past c =
    let past = is_key_past c.args.sender.now (place_stated c.args.end.now) c.args.end.now.last in
    last_next past c.loop-key.last c.loop-key.key-iterator c.next.new.self c.in-Some.key.now true c.in-Some.ensures.steps (sym c.is_key_past.ensures ∙ c.if-is_key_past.true)
    ∙ c.loop-key.invariant

pub loop-key-preserved : goal.loop-key-preserved
loop-key-preserved c =
    let past = is_key_past c.args.sender.now (place_stated c.args.end.now) c.args.end.now.last in
    last_next past c.loop-key.last c.loop-key.key-iterator c.next.new.self c.in-Some.key.now false c.in-Some.ensures.steps (sym c.is_key_past.ensures ∙ c.if-is_key_past.false)
    ∙ c.loop-key.invariant

pub returns-clause-number : goal.returns-clause-number
returns-clause-number c =
    let past = is_key_past c.args.sender.now (place_stated c.args.end.now) c.args.end.now.last in
    sym (ap (λ (left : List TransmissionKey). last_or c.loop-key.last (numbers_passing past left)) c.in-None.ensures.steps.0)
    ∙ c.loop-key.invariant
    ∙ last_is (numbers_passing past (keys c.args.entries.now))
