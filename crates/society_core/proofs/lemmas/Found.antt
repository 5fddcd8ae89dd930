-- The first entry that passes a test, found on the way through a list.
use Rattle.std.proofs.Common.{◌≡◌, ℕ, Bool, true, false, cond, List, [], ◌∷◌, Option, Some, None, is_some, ap, sym, ◌∙◌}
use Rattle.std.specs.List.{find}
use Rattle.std.proofs.lemmas.Bool.{false≢true}
use Rattle.society_core.specs.Answers.{pool_of}
use Rattle.society_core.specs.Orders.{Order, names_return}
use Rattle.society_core.specs.declared.return_key.ReturnKey.{ReturnKey}

-- what was found, or else what is found later
abbrev pub or_later : Option ℕ → Option ℕ → Option ℕ
or_later (Some pool) later = Some pool
or_later None later = later

-- the pool of the first of some orders that names a return
abbrev pub first_in : ReturnKey → List (ℕ × Order) → Option ℕ
first_in key entries = pool_of (find (λ entry. names_return key entry.1) entries)

-- the order at hand names it, and none did before
pub found_now : (key : ReturnKey) (all payer : Option ℕ) (left rest : List (ℕ × Order)) (p : ℕ) (o : Order) → all ≡ or_later payer (first_in key left) → left ≡ (p, o) ∷ rest → is_some payer ≡ false → names_return key o ≡ true → all ≡ or_later (Some p) (first_in key rest)
found_now key all (Some q) left rest p o so_far next none names = absurd (false≢true (sym none))
found_now key all None left rest p o so_far next none names =
    so_far ∙ ap (first_in key) next ∙ ap (λ (t : Bool). pool_of (cond t (Some (p, o)) (find (λ (entry : ℕ × Order). names_return key entry.1) rest))) names

-- the order at hand does not name it
pub found_not : (key : ReturnKey) (all payer : Option ℕ) (left rest : List (ℕ × Order)) (p : ℕ) (o : Order) → all ≡ or_later payer (first_in key left) → left ≡ (p, o) ∷ rest → names_return key o ≡ false → all ≡ or_later payer (first_in key rest)
found_not key all payer left rest p o so_far next names =
    so_far ∙ ap (λ (es : List (ℕ × Order)). or_later payer (first_in key es)) next
    ∙ ap (λ (t : Bool). or_later payer (pool_of (cond t (Some (p, o)) (find (λ (entry : ℕ × Order). names_return key entry.1) rest)))) names

-- one was found before
pub found_before : (key : ReturnKey) (all payer : Option ℕ) (left rest : List (ℕ × Order)) → all ≡ or_later payer (first_in key left) → is_some payer ≡ true → all ≡ or_later payer (first_in key rest)
found_before key all (Some q) left rest so_far some = so_far
found_before key all None left rest so_far some = absurd (false≢true some)

-- at the end it is what was found
pub found_all : (key : ReturnKey) (all payer : Option ℕ) (left : List (ℕ × Order)) → all ≡ or_later payer (first_in key left) → left ≡ [] → payer ≡ all
found_all key all (Some q) left so_far done = sym so_far
found_all key all None left so_far done = sym (so_far ∙ ap (first_in key) done)
