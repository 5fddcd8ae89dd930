-- Orders that pass the test are one.
use Rattle.std.proofs.Common.{◌≡◌, ◌&&◌, ◌==◌, ℕ, Bool, true, List, [], ◌∷◌, refl, ap, ◌∙◌}
use Rattle.std.specs.Cmp.Lexicographic.{pointwise}
use Rattle.std.specs.Str.{bytes_eq}
use Rattle.std.proofs.lemmas.Bool.{false≢true}
use Rattle.std.proofs.lemmas.Bool.Decides.{Decides-eqb}
use Rattle.std.proofs.lemmas.Slice.Eq.{bytes_eq-Decides}
use Rattle.share_rules.specs.declared.kind.Kind.{Kind}
use Rattle.share_rules.specs.declared.kind.Kind.TheVariants.{Performing, Mechanical}
use Rattle.society_core.specs.Keys.{return_key, transmission_key}
use Rattle.society_core.specs.Orders.{Order, same_kind, same_order, same_return_key, same_transmission_key}
use Rattle.society_core.specs.declared.return_key.ReturnKey.{ReturnKey}
use Rattle.society_core.specs.declared.transmission_key.TransmissionKey.{TransmissionKey}
use Rattle.society_core.proofs.lemmas.Fronts.{first_holds, second_holds}

same_key_is : (a b : TransmissionKey) → same_transmission_key a b ≡ true → a ≡ b
same_key_is a b h =
    let name : a.sender ≡ b.sender = (bytes_eq-Decides a.sender b.sender).0 (first_holds (bytes_eq a.sender b.sender) (a.number == b.number) h) in
    let number : a.number ≡ b.number = (Decides-eqb a.number b.number).0 (second_holds (bytes_eq a.sender b.sender) (a.number == b.number) h) in
    ap (λ (s : List ℕ). transmission_key s a.number) name ∙ ap (λ (n : ℕ). transmission_key b.sender n) number

-- keys of returns that are the same are one
pub same_return_is : (a b : ReturnKey) → same_return_key a b ≡ true → a ≡ b
same_return_is a b h =
    let name : a.reporter ≡ b.reporter = (bytes_eq-Decides a.reporter b.reporter).0 (first_holds (bytes_eq a.reporter b.reporter) (a.number == b.number) h) in
    let number : a.number ≡ b.number = (Decides-eqb a.number b.number).0 (second_holds (bytes_eq a.reporter b.reporter) (a.number == b.number) h) in
    ap (λ (r : List ℕ). return_key r a.number) name ∙ ap (λ (n : ℕ). return_key b.reporter n) number

same_lists : {X : Type 0} (same : X → X → Bool) → ((a b : X) → same a b ≡ true → a ≡ b) → (xs ys : List X) → pointwise same xs ys ≡ true → xs ≡ ys
same_lists same is [] [] h = refl
same_lists same is [] (y ∷ ys) h = absurd (false≢true h)
same_lists same is (x ∷ xs) [] h = absurd (false≢true h)
same_lists same is (x ∷ xs) (y ∷ ys) h =
    ap (λ z. z ∷ xs) (is x y (first_holds (same x y) (pointwise same xs ys) h))
    ∙ ap (λ zs. y ∷ zs) (same_lists same is xs ys (second_holds (same x y) (pointwise same xs ys) h))

same_kind_is : (a b : Kind) → same_kind a b ≡ true → a ≡ b
same_kind_is Performing Performing h = refl
same_kind_is Mechanical Mechanical h = refl
same_kind_is Performing Mechanical h = absurd (false≢true h)
same_kind_is Mechanical Performing h = absurd (false≢true h)

-- orders of equal fields are one
pub one_order : (a b : Order) → a.kind ≡ b.kind → a.amount ≡ b.amount → a.cut ≡ b.cut → a.returns ≡ b.returns → a ≡ b
one_order a b kind amount cut returns =
    ap (λ (k : Kind). let o : Order = record { kind = k; amount = a.amount; cut = a.cut; returns = a.returns } in o) kind
    ∙ ap (λ (n : ℕ). let o : Order = record { kind = b.kind; amount = n; cut = a.cut; returns = a.returns } in o) amount
    ∙ ap (λ (c : List TransmissionKey). let o : Order = record { kind = b.kind; amount = b.amount; cut = c; returns = a.returns } in o) cut
    ∙ ap (λ (r : List ReturnKey). let o : Order = record { kind = b.kind; amount = b.amount; cut = b.cut; returns = r } in o) returns

-- orders that are the same are one
pub same_order_is : (a b : Order) → same_order a b ≡ true → a ≡ b
same_order_is a b h =
    let kinds = same_kind a.kind b.kind in
    let amounts = a.amount == b.amount in
    let cuts = pointwise same_transmission_key a.cut b.cut in
    let returned = pointwise same_return_key a.returns b.returns in
    let three = first_holds (kinds && amounts && cuts) returned h in
    let two = first_holds (kinds && amounts) cuts three in
    one_order a b (same_kind_is a.kind b.kind (first_holds kinds amounts two)) ((Decides-eqb a.amount b.amount).0 (second_holds kinds amounts two))
    (same_lists same_transmission_key same_key_is a.cut b.cut (second_holds (kinds && amounts) cuts three))
    (same_lists same_return_key same_return_is a.returns b.returns (second_holds (kinds && amounts && cuts) returned h))
