-- What closed pools pay, one pool after another.
use Rattle.std.proofs.Common.{◌≡◌, ◌∙◌, ◌<◌, ◌+◌, ◌++◌, ◌∷◌, [], ℕ, List, get_or, length, take, ap, refl, subst, sym}
use Rattle.std.proofs.lemmas.Grind.{flat_map-append}
use Rattle.std.proofs.lemmas.List.{take_more}
use Rattle.pool_split.specs.declared.claim.Credit.{Credit}
use Rattle.share_rules.specs.declared.office.Office.{Office}
use Rattle.sqlite_trees.specs.Tree.{Trees}
use Rattle.society_core.specs.Candidates.{ReachesCut}
use Rattle.society_core.specs.Pools.{credits_of}
use Rattle.society_closings.specs.Closings.{PaysBy}
use Rattle.book_audit.specs.Balances.{AreTotalsOf}
use Rattle.book_audit.specs.Credits.{HasCredits}
use Rattle.book_audit.specs.Paying.{FindsPaid, credits_by}
use Rattle.book_audit.specs.declared.pool_orders.ClosedPool.{ClosedPool}
use Rattle.book_audit.specs.declared.totals.Totals.{Totals}
use Rattle.book_audit.proofs.lemmas.orders.Steps.{each_here, each_more}

-- nothing, and then each element
nothing_behind : {X : Type 0} (xs : List X) → xs ++ [] ≡ xs
nothing_behind [] = refl
nothing_behind (x ∷ xs) = ap (λ (l : List _). x ∷ l) (nothing_behind xs)

-- one pool more
pub paid_more : (o : Office) (closed : List ClosedPool) (i : ℕ) (one : ClosedPool) (db : Trees) (old new : Totals) (credits : List Credit) → i < length closed → one ≡ get_or closed i one
    → FindsPaid o closed (take i closed) db old → HasCredits one.pool credits db → PaysBy o one.order db credits → ((done : List Credit) → AreTotalsOf old done → AreTotalsOf new (done ++ credits)) → FindsPaid o closed (take (i + 1) closed) db new
paid_more o closed i one db old new credits within is before lines pays adds book works reached =
    let then = before book works reached in
    let its : credits ≡ credits_of o book one.order = pays book works (each_here (λ (c : ClosedPool). ReachesCut book c.order) closed i one within is reached) in
    let next : take (i + 1) closed ≡ take i closed ++ one ∷ [] = take_more closed i one within ∙ ap (λ (z : ClosedPool). take i closed ++ z ∷ []) (sym is) in
    let whole : credits_by o book (take i closed) ++ credits ≡ credits_by o book (take (i + 1) closed) =
    ap (λ (l : List Credit). credits_by o book (take i closed) ++ l) (its ∙ sym (nothing_behind (credits_of o book one.order)))
    ∙ sym (flat_map-append (λ (c : ClosedPool). credits_of o book c.order) (take i closed) (one ∷ [])) ∙ ap (credits_by o book) (sym next) in (
      each_more (λ (c : ClosedPool). HasCredits c.pool (credits_of o book c.order) db) closed i one within is then.0 (subst (λ (l : List Credit). HasCredits one.pool l db) its lines),
      subst (AreTotalsOf new) whole (adds (credits_by o book (take i closed)) then.1),
    )
