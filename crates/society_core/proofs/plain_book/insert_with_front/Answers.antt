use Rattle.std.proofs.Common.{◌≡◌, ◌≤◌, ℕ, Vec, Global, true, unwrap_or, refl, ap, sym, subst, ◌∙◌}
use Rattle.std.specs.BTreeMap as tree
use Rattle.std.specs.FinMap as finite
use Rattle.sender_segments.specs.Ways.{is_reached}
use Rattle.society_core.specs.Book.{AreOrderly, Transmissions, ends_among, front_in, is_among}
use Rattle.society_core.specs.Keys.{bytes_cmp}
use Rattle.society_core.specs.PlainMaps.{IsReachedBy, ends_kept, transmissions_of}
use Rattle.society_core.proofs.lemmas.Fronts.{front_within}
use Rattle.society_core.proofs.lemmas.Kept.{one_kept}
use Rattle.society_core.proofs.lemmas.KeptFronts.{fronts_raised, other_there, same_front, taken_reaches}
use Rattle.society_core.proofs.lemmas.KeyOrders.{exact_transmissions, transmissions_total}
use Rattle.society_core.proofs.plain_book.insert_with_front.Goals as goal
use Rattle.work_ids.specs.Segments.{greatest_rank}

pub raise_front-requires-clause-reached : goal.raise_front-requires-clause-reached
raise_front-requires-clause-reached c =
    let m = transmissions_of c.args.transmissions.now in
    let ends = ends_kept c.args.ends.now in
    let s = c.args.key.sender in
    let put = one_kept transmissions_total exact_transmissions (λ (v : Vec ℕ Global). v.items) c.args.transmissions.now.entries c.insert.new.self.entries c.args.key c.args.body c.in_ok-insert.ensures.updates.0 in
    let is : unwrap_or (tree.get bytes_cmp c.keep_front.new.fronts s) 0 ≡ front_in m ends s = c.keep_front.ensures.same s ∙ c.requires.fronts s in
    subst (λ (t : Transmissions). IsReachedBy c.keep_front.new.fronts t ends s) (sym put)
    (subst (λ (n : ℕ). (is_reached (is_among (finite.insert m c.args.key c.args.body.items) s) (ends_among ends s) n ≡ true) × (n ≤ greatest_rank)) (sym is)
    (taken_reaches m ends c.args.key c.args.body.items c.requires.free, front_within m ends s (c.requires.orderly s)))

pub raise_front-requires-clause-orderly : goal.raise_front-requires-clause-orderly
raise_front-requires-clause-orderly c =
    let put = one_kept transmissions_total exact_transmissions (λ (v : Vec ℕ Global). v.items) c.args.transmissions.now.entries c.insert.new.self.entries c.args.key c.args.body c.in_ok-insert.ensures.updates.0 in
    subst (λ (t : Transmissions). AreOrderly t (ends_kept c.args.ends.now) c.args.key.sender) (sym put) (c.requires.after c.args.key.sender)

pub returns-clause-ok : goal.returns-clause-ok
returns-clause-ok c =
    one_kept transmissions_total exact_transmissions (λ (v : Vec ℕ Global). v.items) c.args.transmissions.now.entries c.insert.new.self.entries c.args.key c.args.body c.in_ok-insert.ensures.updates.0

pub returns-clause-fronts : goal.returns-clause-fronts
returns-clause-fronts c = λ sender.
    let m = transmissions_of c.args.transmissions.now in
    let ends = ends_kept c.args.ends.now in
    let n = finite.insert m c.args.key c.args.body.items in
    let put = one_kept transmissions_total exact_transmissions (λ (v : Vec ℕ Global). v.items) c.args.transmissions.now.entries c.insert.new.self.entries c.args.key c.args.body c.in_ok-insert.ensures.updates.0 in
    fronts_raised c.keep_front.new.fronts c.raise_front.new.fronts m n ends ends c.args.key.sender c.raise_front.result
    (λ s. c.keep_front.ensures.same s ∙ c.requires.fronts s) c.raise_front.ensures.put (c.raise_front.ensures.front ∙ ap (λ (t : Transmissions). front_in t ends c.args.key.sender) put)
    (λ s apart. same_front m n ends ends s (c.requires.after s) (other_there m c.args.key c.args.body.items s c.requires.free apart) (λ g. refl) (c.requires.orderly s)) sender
    ∙ ap (λ (t : Transmissions). front_in t ends sender) (sym put)
