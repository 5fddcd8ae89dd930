-- The trees of a list with the rows beside it, where one tree of either is changed.
use Rattle.std.proofs.Common.{◌≡◌, ◌≢◌, ℕ, ◌^◌, ◌<◌, List, [], refl, sym, arith, eq-eqb, ne_eqb, inl, inr}
use Rattle.std.proofs.lemmas.Bool.{cases_eq}
use mathlib.Core.Path.{fun_ext}
use Rattle.sqlite_value.specs.Order.{Row}
use Rattle.sqlite_trees.specs.Tree.{Trees, with_tree}
use Rattle.sqlite_trees.specs.Objects.{catalog_tree, version_tree}
use Rattle.memory_store.specs.Shown.{over}

pub not_catalog : (t : ℕ) → t < 2 ^ 32 → t ≢ catalog_tree
not_catalog t low is = omega arith

pub not_version : (t : ℕ) → t < 2 ^ 32 → t ≢ version_tree
not_version t low is = omega arith

pub over-edit : (listed rows : Trees) (t : ℕ) (new : List Row) → t < 2 ^ 32 → over listed (with_tree rows t new) ≡ with_tree (over listed rows) t new
over-edit listed rows t new low = fun_ext (λ k. elim (cases_eq k t) [
  | inl same ↦ rw (same, ne_eqb t version_tree (not_version t low), ne_eqb t catalog_tree (not_catalog t low), eq-eqb t t refl)
  | inr other ↦ rw (ne_eqb k t other)
])

-- a tree is listed or taken off the list, and has no rows then
pub over-object : (listed rows now : Trees) (t : ℕ) (some objects : List Row) → t < 2 ^ 32 → ((k : ℕ) → k ≢ t → now k ≡ rows k) → now t ≡ []
    → over (with_tree (with_tree listed t some) catalog_tree objects) now ≡ with_tree (with_tree (over listed rows) t []) catalog_tree objects
over-object listed rows now t some objects low others none = fun_ext (λ k. elim (cases_eq k catalog_tree) [
  | inl same ↦ rw same
  | inr other ↦ elim (cases_eq k version_tree) [
    | inl same ↦ rw (same, ne_eqb version_tree t (λ e. not_version t low (sym e)))
    | inr past ↦ elim (cases_eq k t) [
      | inl same ↦ rw (same, ne_eqb t version_tree (not_version t low), ne_eqb t catalog_tree (not_catalog t low), eq-eqb t t refl) none
      | inr apart ↦ rw (ne_eqb k version_tree past, ne_eqb k catalog_tree other, ne_eqb k t apart) (others k apart)
    ]
  ]
])

pub over-version : (listed rows : Trees) (new : List Row) → over (with_tree listed version_tree new) rows ≡ with_tree (over listed rows) version_tree new
over-version listed rows new = fun_ext (λ k. elim (cases_eq k version_tree) [ inl same ↦ rw same | inr other ↦ rw (ne_eqb k version_tree other) ])
