-- What holds of an order that nothing refuses.
use Rattle.std.proofs.Common.{◌≡◌, ◌&&◌, ◌||◌, ℕ, Bool, true, false, cond, List, [], ◌∷◌, Option, Some, None, is_some, refl, ap, sym, subst, ◌∙◌, ⊎_elim}
use Rattle.std.specs.FinMap as finite
use Rattle.std.specs.List.{find, list_all, list_any}
use Rattle.std.specs.Ordering.{eq_by_cmp, nat_cmp}
use Rattle.std.proofs.lemmas.Bool.{cases_Bool, false≢true}
use Rattle.society_core.specs.Answers.{close_refusal, cut_refusal, refusal_or_later, first_refusal, payer, payment_by, payment_refusal, pool_of, return_refusal}
use Rattle.society_core.specs.Book.{Book, front, is_applied, is_pool_entry, order_at, return_at}
use Rattle.society_core.specs.Orders.{Order, names_return, same_return_key}
use Rattle.society_core.specs.declared.refusal.Refusal.{Refusal}
use Rattle.society_core.specs.declared.refusal.Refusal.TheVariants as refusals
use Rattle.society_core.specs.declared.return_key.ReturnKey.{ReturnKey}
use Rattle.society_core.specs.declared.transmission_key.TransmissionKey.{TransmissionKey}
use Rattle.work_ids.specs.Numbers.{is_pool_number}
use Rattle.society_core.proofs.lemmas.Fronts.{both_hold}
use Rattle.society_core.proofs.lemmas.SameOrders.{same_return_is}

some_none : {X : Type 0} (x : X) → ◌≡◌ {A = Option X} (Some x) None → ⊥
some_none x e = cc

-- neither of two refusals
first_none : (a b : Option Refusal) → refusal_or_later a b ≡ None → a ≡ None
first_none (Some r) b e = absurd (some_none r e)
first_none None b e = refl

second_none : (a b : Option Refusal) → refusal_or_later a b ≡ None → b ≡ None
second_none (Some r) b e = absurd (some_none r e)
second_none None b e = e

-- where a list gives rise to no refusal, none of its elements does
none_refused : {X : Type 0} (f : X → Option Refusal) (test : X → Bool) (xs : List X) → ((x : X) → f x ≡ None → test x ≡ true) → first_refusal f xs ≡ None → list_all test xs ≡ true
none_refused f test [] passes e = refl
none_refused f test (x ∷ xs) passes e =
    both_hold (test x) (list_all test xs) (passes x (first_none (f x) (first_refusal f xs) e)) (none_refused f test xs passes (second_none (f x) (first_refusal f xs) e))

cut_passes : (b : Book) (key : TransmissionKey) → cut_refusal b key ≡ None → is_applied b key ≡ true
cut_passes b key e =
    ⊎_elim
    (λ (yes : is_applied b key ≡ true). yes)
    (λ (no : is_applied b key ≡ false).
    absurd (some_none (refusals.Cut key.sender (front b key.sender))
    (sym (ap (λ (t : Bool). cond t None (Some (refusals.Cut key.sender (front b key.sender)))) no) ∙ e)))
    (cases_Bool (is_applied b key))

return_passes : (b : Book) (key : ReturnKey) → return_refusal b key ≡ None → is_some (return_at b key) ≡ true
return_passes b key e = passes (return_at b key) (payer b key) e
  where
    passes : (o : Option (List ℕ)) (p : Option ℕ) → payment_refusal key (payment_by o p) ≡ None → is_some o ≡ true
    passes None p e = absurd (some_none (refusals.ReturnUnknown key) e)
    passes (Some body) p e = refl

unpaid_passes : (b : Book) (key : ReturnKey) → return_refusal b key ≡ None → payer b key ≡ None
unpaid_passes b key e = passes (return_at b key) (payer b key) e
  where
    passes : (o : Option (List ℕ)) (p : Option ℕ) → payment_refusal key (payment_by o p) ≡ None → p ≡ None
    passes None p e = absurd (some_none (refusals.ReturnUnknown key) e)
    passes (Some body) None e = refl
    passes (Some body) (Some pool) e = absurd (some_none (refusals.ReturnPaid key pool) e)

-- an order that nothing refuses may stand in the book
pub entry_of_close : (b : Book) (pool : ℕ) (order : Order) → is_pool_number pool ≡ true → close_refusal b order ≡ None → is_pool_entry b pool order ≡ true
entry_of_close b pool order number e =
    both_hold (is_pool_number pool && list_all (is_applied b) order.cut) (list_all (λ key. is_some (return_at b key)) order.returns)
    (both_hold (is_pool_number pool) (list_all (is_applied b) order.cut) number
    (none_refused (cut_refusal b) (is_applied b) order.cut (cut_passes b) (first_none (first_refusal (cut_refusal b) order.cut) (first_refusal (return_refusal b) order.returns) e)))
    (none_refused (return_refusal b) (λ (key : ReturnKey). is_some (return_at b key)) order.returns (return_passes b) (second_none (first_refusal (cut_refusal b) order.cut) (first_refusal (return_refusal b) order.returns) e))

-- no entry passes a test that none is found by
not_found : {X : Type 0} (test : X → Bool) (es : List (ℕ × X)) (q : ℕ) (x : X) → find (λ (e : ℕ × X). test e.1) es ≡ None → finite.find nat_cmp q es ≡ Some x → test x ≡ false
not_found test [] q x none there = absurd (none_some x there)
  where
    none_some : {Y : Type 0} (y : Y) → ◌≡◌ {A = Option Y} None (Some y) → ⊥
    none_some y e = cc
not_found test (e ∷ es) q x none there =
    ⊎_elim
    (λ (yes : test e.1 ≡ true). absurd (some_none e (sym (ap (λ (t : Bool). cond t (Some e) (find (λ f. test f.1) es)) yes) ∙ none)))
    (λ (no : test e.1 ≡ false).
    let rest : find (λ f. test f.1) es ≡ None = sym (ap (λ (t : Bool). cond t (Some e) (find (λ f. test f.1) es)) no) ∙ none in
    ⊎_elim
    (λ (here : eq_by_cmp nat_cmp q e.0 ≡ true).
    let same : Some e.1 ≡ Some x = sym (ap (λ (t : Bool). cond t (Some e.1) (finite.find nat_cmp q es)) here) ∙ there in
    subst (λ y. test y ≡ false) (one_of e.1 x same) no)
    (λ (later : eq_by_cmp nat_cmp q e.0 ≡ false).
    not_found test es q x rest (sym (ap (λ (t : Bool). cond t (Some e.1) (finite.find nat_cmp q es)) later) ∙ there))
    (cases_Bool (eq_by_cmp nat_cmp q e.0)))
    (cases_Bool (test e.1))
  where
    one_of : {Y : Type 0} (y z : Y) → ◌≡◌ {A = Option Y} (Some y) (Some z) → y ≡ z
    one_of y z e = cc

-- where a list gives rise to no refusal, no key that is among it does
each_free : (f : ReturnKey → Option Refusal) (keys : List ReturnKey) (k : ReturnKey) → list_any (λ named. same_return_key named k) keys ≡ true → first_refusal f keys ≡ None → f k ≡ None
each_free f [] k among e = absurd (false≢true among)
each_free f (x ∷ keys) k among e =
    ⊎_elim
    (λ (here : same_return_key x k ≡ true). subst (λ (y : ReturnKey). f y ≡ None) (same_return_is x k here) (first_none (f x) (first_refusal f keys) e))
    (λ (later : same_return_key x k ≡ false).
    each_free f keys k (sym (ap (λ (t : Bool). t || list_any (λ named. same_return_key named k) keys) later) ∙ among) (second_none (f x) (first_refusal f keys) e))
    (cases_Bool (same_return_key x k))

no_pool_found : (o : Option (ℕ × Order)) → pool_of o ≡ None → o ≡ None
no_pool_found None e = refl
no_pool_found (Some entry) e = absurd (some_none entry.0 e)

-- where nothing refuses an order, no pool names one of its returns
pub no_payer : (b : Book) (order : Order) → close_refusal b order ≡ None → (other : ℕ) (another : Order) (key : ReturnKey) → order_at b other ≡ Some another → names_return key order ≡ true → names_return key another ≡ true → ⊥
no_payer b order free other another key there names also =
    let none_due = second_none (first_refusal (cut_refusal b) order.cut) (first_refusal (return_refusal b) order.returns) free in
    let unpaid : payer b key ≡ None = unpaid_passes b key (each_free (return_refusal b) order.returns key names none_due) in
    let unnamed : names_return key another ≡ false = not_found (names_return key) (finite.entries b.pools) other another (no_pool_found (find (λ e. names_return key e.1) (finite.entries b.pools)) unpaid) (sym (finite.get-entries b.pools other) ∙ there) in
    false≢true (sym unnamed ∙ also)
