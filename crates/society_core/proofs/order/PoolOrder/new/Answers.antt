use Rattle.std.proofs.Common.{◌≡◌, ◌∙◌, ◌||◌, ◌≤◌, ℕ, true, List, Option, None, is_none, length, map, nat_lt, not, ap, sym, subst, arith, rules, ltb-false, le-leb}
use Rattle.std.proofs.lemmas.List.{length-map}
use Rattle.std.proofs.lemmas.List.Folds.{list_all-map}
use Rattle.std.specs.List.{list_all}
use Rattle.share_rules.specs.declared.kind.Kind.{Kind}
use Rattle.work_ids.specs.Numbers.{is_return_number}
use Rattle.work_ids.specs.Segments.{is_transmission_number}
use Rattle.work_ids.specs.SenderKey.{is_sender_key}
use Rattle.society_core.specs.Keys.{ascending, return_cmp, return_key, transmission_cmp, transmission_key}
use Rattle.society_core.specs.Orders.{IsOrder, has_repeat, is_out_of_range, is_too_long, names_twice, order_fault, order_of, return_pair, same_numbered, same_sender, sent_pair}
use Rattle.society_core.specs.declared.order_fault.OrderFault.TheVariants.{OutOfRange, TooLong, NamedTwice}
use Rattle.society_core.specs.declared.return_key.ReturnKey.{ReturnKey}
use Rattle.society_core.specs.declared.transmission_key.TransmissionKey.{TransmissionKey}
use Rattle.society_core.proofs.lemmas.Ascending.{ascending_again, ascending_length}
use Rattle.society_core.proofs.lemmas.OrderFaults.{all_permuted, cut_permutes, fault_permutes, neither_holds, paid_permutes, told_none}
use Rattle.society_core.proofs.lemmas.KeyOrders.{exact_returns, exact_transmissions, returns_total, transmissions_total}
use Rattle.society_core.proofs.order.PoolOrder.new.Goals as goal

none_is : {X : Type 0} (o : Option X) → o ≡ None → is_none o ≡ true
none_is o e = ap is_none e

-- numbers that make an order, of senders, have its limits
order_is_kept : (kind : Kind) (amount : ℕ) (cut returns : List (List ℕ × ℕ)) → list_all (λ (c : List ℕ × ℕ). is_sender_key c.0) cut ≡ true → order_fault amount cut returns ≡ None → IsOrder (order_of kind amount cut returns)
order_is_kept kind amount cut returns senders_are none =
    let in_range = told_none (is_out_of_range amount cut returns) OutOfRange _ none in
    let short = told_none (is_too_long cut returns) TooLong _ in_range.1 in
    let sent_in_range = list_all (λ (c : List ℕ × ℕ). is_transmission_number c.1) cut in
    let returned_in_range = list_all (λ (r : List ℕ × ℕ). is_return_number r.1) returns in
    let large = (neither_holds (nat_lt 1000000000000 amount) (not sent_in_range) (neither_holds (nat_lt 1000000000000 amount || not sent_in_range) (not returned_in_range) in_range.0).0).0 in
    let few = neither_holds (nat_lt 200 (length cut)) (nat_lt 1000 (length returns)) short.0 in
    let once = told_none (names_twice cut returns) NamedTwice _ short.1 in
    let each = neither_holds (has_repeat same_sender cut) (has_repeat same_numbered returns) once.0 in
    let within : amount ≤ 1000000000000 = ltb-false 1000000000000 amount large in
    let senders : length cut ≤ 200 = ltb-false 200 (length cut) few.0 in
    let named : length returns ≤ 1000 = ltb-false 1000 (length returns) few.1 in
    let sent = map (λ (c : List ℕ × ℕ). transmission_key c.0 c.1) cut in
    let returned = map (λ (r : List ℕ × ℕ). return_key r.0 r.1) returns in
    let sent_length : length (ascending transmission_cmp sent) ≤ 200 = omega (arith, ascending_length transmissions_total sent, length-map cut (λ (c : List ℕ × ℕ). transmission_key c.0 c.1)) in
    let returned_length : length (ascending return_cmp returned) ≤ 1000 = omega (arith, ascending_length returns_total returned, length-map returns (λ (r : List ℕ × ℕ). return_key r.0 r.1)) in
    record {
      amount = le-leb amount 1000000000000 within;
      senders = le-leb (length (ascending transmission_cmp sent)) 200 sent_length;
      named = le-leb (length (ascending return_cmp returned)) 1000 returned_length;
      faultless = none_is (order_fault amount (map sent_pair (ascending transmission_cmp sent)) (map return_pair (ascending return_cmp returned)))
          (fault_permutes amount cut returns (map sent_pair (ascending transmission_cmp sent)) (map return_pair (ascending return_cmp returned)) (cut_permutes cut each.0) (paid_permutes returns each.1) none);
      sender_keys = sym (list_all-map (λ (c : List ℕ × ℕ). is_sender_key c.0) sent_pair (ascending transmission_cmp sent))
          ∙ sym (all_permuted (λ (c : List ℕ × ℕ). is_sender_key c.0) cut (map sent_pair (ascending transmission_cmp sent)) (cut_permutes cut each.0)) ∙ senders_are;
      cut = ascending_again transmissions_total exact_transmissions sent;
      returns = ascending_again returns_total exact_returns returned;
    }

pub invariant_of-result : goal.invariant_of-result
invariant_of-result c =
    let none : order_fault c.args.amount c.args.cut.now c.args.returns.now ≡ None = search rules in
    let kept = order_is_kept c.args.kind c.args.amount c.args.cut.now c.args.returns.now c.in_ok-cut.ensures.senders none in
    subst (λ (ks : List TransmissionKey). IsOrder (record { kind = c.args.kind; amount = c.args.amount; cut = ks; returns = c.in_ok-returns.returns.items })) (sym c.in_ok-cut.ensures.keys)
    (subst (λ (ks : List ReturnKey). IsOrder (record { kind = c.args.kind; amount = c.args.amount; cut = ascending transmission_cmp (map (λ k. transmission_key k.0 k.1) c.args.cut.now); returns = ks })) (sym c.in_ok-returns.ensures) kept)
