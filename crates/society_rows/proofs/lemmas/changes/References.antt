-- No statement sets off an action: each reference of layout 3 has NO ACTION.
use Rattle.std.proofs.Common.{◌≡◌, ◌⊎◌, ℕ, ◌==◌, Bool, true, false, cond, List, [], length, reverse, None, refl, sym, subst, subst₂, inl, inr}
use Rattle.sqlite_value.specs.Order.{Row}
use Rattle.sqlite_schema.specs.declared.schema.Keys.TheVariants.{Enforced}
use Rattle.sqlite_schema.specs.declared.schema.Action.TheVariants.{NoAction}
use Rattle.sqlite_schema.specs.declared.schema.Reference.{Reference}
use Rattle.sqlite_schema.specs.declared.schema.Schema.{Schema}
use Rattle.sqlite_rules.specs.Action.{deed_of, works}
use Rattle.society_rows.specs.Layout.{pool_cuts, pool_returns, written_out}
use Rattle.society_rows.specs.Layouts.{IsFirst, schema_to}
use Rattle.society_rows.proofs.lemmas.definitions.FirstTables.{ordered}

no_deed : (b : Bool) → deed_of Enforced b (cond b NoAction NoAction) ≡ None
no_deed true = refl
no_deed false = refl

abbrev IsQuiet : ℕ → List Row → List Row → List Reference → List Reference → Type 0
IsQuiet tree olds news cuts payments = works (schema_to 14 cuts payments) Enforced 0 tree olds news ≡ []

quiet_in : (tree : ℕ) (olds news : List Row) (cuts payments : List Reference) → (cuts ≡ pool_cuts.references) ⊎ (cuts ≡ reverse pool_cuts.references)
    → (payments ≡ pool_returns.references) ⊎ (payments ≡ reverse pool_returns.references) → IsQuiet tree olds news cuts payments
unfolding written_out
quiet_in tree olds news cuts payments (inl c) (inl p) = subst₂ (IsQuiet tree olds news) (sym c) (sym p) (rw (no_deed (length news == 0)))
quiet_in tree olds news cuts payments (inl c) (inr p) = subst₂ (IsQuiet tree olds news) (sym c) (sym p) (rw (no_deed (length news == 0)))
quiet_in tree olds news cuts payments (inr c) (inl p) = subst₂ (IsQuiet tree olds news) (sym c) (sym p) (rw (no_deed (length news == 0)))
quiet_in tree olds news cuts payments (inr c) (inr p) = subst₂ (IsQuiet tree olds news) (sym c) (sym p) (rw (no_deed (length news == 0)))

pub no_works : (schema : Schema) → IsFirst 14 schema → (tree : ℕ) (olds news : List Row) → works schema Enforced 0 tree olds news ≡ []
no_works schema laid tree olds news =
    let it = ordered laid in
    subst (λ s. works s Enforced 0 tree olds news ≡ []) (sym it.is) (quiet_in tree olds news it.cuts it.payments it.cuts_are it.payments_are)
