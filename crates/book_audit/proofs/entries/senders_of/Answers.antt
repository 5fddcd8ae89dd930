use Rattle.std.proofs.Common.{◌≡◌, ◌++◌, IfOk, List, map, rules, subst, ◌∙◌, ℕ, ap}
use Rattle.std.proofs.lemmas.Cmp.{nat_list_cmp_total}
use Rattle.std.proofs.lemmas.Map.Lookups.{exact_bytes}
use Rattle.society_core.specs.Keys.{ascending, bytes_cmp}
use Rattle.society_core.specs.declared.segment_key.SegmentKey.{SegmentKey}
use Rattle.society_core.specs.declared.transmission_key.TransmissionKey.{TransmissionKey}
use Rattle.society_core.proofs.lemmas.Ascending.{collected_ascends}
use Rattle.book_audit.proofs.entries.senders_of.Goals as goal

pub returns : goal.returns
returns c =
    let listed : IfOk c.collect.result (λ list. list.items ≡ c.in_ok-set.set.keys) = search rules in
    let sent : List (List ℕ) = map (λ (key : TransmissionKey). key.sender) c.args.keys.now in
    let stated : List (List ℕ) = map (λ (last : SegmentKey × ℕ). last.0.sender) c.args.lasts.now in
    let all : c.add_stated.new.senders.items ≡ sent ++ stated =
    c.in_ok-add_stated.ensures ∙ ap (λ (l : List (List ℕ)). l ++ stated) (c.in_ok-add_sent.ensures ∙ ap (λ (l : List (List ℕ)). l ++ sent) c.new-senders.ensures.items) in
    subst (λ ks. IfOk c.collect.result (λ list. list.items ≡ ks))
    (collected_ascends nat_list_cmp_total exact_bytes c.add_stated.new.senders.items c.in_ok-set.set (rw c.as_slice.ensures.value at c.in_ok-set.ensures) ∙ ap (ascending bytes_cmp) all) listed
