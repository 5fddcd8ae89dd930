-- SELECT of one table, with WHERE and ORDER BY.
use Rattle.std.proofs.Common.{◌≡◌, ℕ, pos, negsuc, ◌<◌, ◌^◌, nat_le, ◌-◌, Bool, true, false, cond, List, [], ◌∷◌, ◌++◌, map, filter, take, flat_map, slice_get, None, unwrap_or, refl, sym, ap, subst, subst₂, ◌∙◌, ◌+◌, length, get_or, arith, Ordering, IsSorted, IsPermutation}
use Rattle.std.specs.List.{list_all, AllByRecursion}
use Rattle.std.specs.Ordering.{is_lt}
use Rattle.std.proofs.lemmas.List.{length-map, get_or-map}
use Rattle.std.proofs.lemmas.List.Elements.{All-from_recursion}
use Rattle.sqlite_trees.proofs.ListLemmas.{all-permutation}
use Rattle.std.proofs.lemmas.List.Sorted.{IsPermutation-map}
use Rattle.sqlite_value.specs.declared.value.Value.TheVariants.{Int}
use Rattle.sqlite_value.specs.declared.keys.Key.{Key}
use Rattle.sqlite_value.specs.Order.{Row}
use Rattle.sqlite_trees.specs.Tree.{Trees}
use Rattle.sqlite_sql.specs.Term.{Term, Env, lit, eval_all, holds}
use Rattle.sqlite_sql.specs.Query.{Query, inner, end, IsAnswer, Output, output, output_cmp, sort_cmp}
use Rattle.sqlite_sql.specs.Program.{overlay}

-- the rows of one table that pass every filter
abbrev pub picked : ℕ → List Term → List Term → List (Term × Key) → Query
picked tree filters project order = record {
  from = inner tree end;
  filter = filters;
  group = None;
  project = project;
  distinct = false;
  collations = [];
  order = order;
  limit = lit (Int (negsuc 0));
  offset = lit (Int (pos 0));
}

-- the same, and only the first of them
abbrev pub picked_first : ℕ → List Term → List Term → List (Term × Key) → Query
picked_first tree filters project order = record (picked tree filters project order) { limit = lit (Int (pos 1)) }

abbrev pub passes_in : List Term → Row → Row → Bool
passes_in filters params r = list_all (holds (params ∷ r ∷ [])) filters

abbrev pub shown_in : List Term → Row → Row → Row
shown_in project params r = eval_all project (params ∷ r ∷ [])

nothing_given : (b : Bool) (at : ℕ) → cond b (slice_get (let none : List (List Row) = [] in none) at) None ≡ None
nothing_given true at = refl
nothing_given false at = refl

pub overlay_none : (db : Trees) (t : ℕ) → overlay db [] t ≡ db t
overlay_none db t = ap (λ o. unwrap_or o (db t)) (nothing_given (nat_le (2 ^ 31) t) (t - 2 ^ 31))

staged_shows : (q : Query) (p : Row → Bool) (e : Row → Env) (xs : List Row)
    → map (λ (o : Output). o.1) (map (output q) (flat_map (λ r. cond (p r) (e r ∷ []) []) xs)) ≡ map (λ r. (output q (e r)).1) (filter p xs)
staged_shows q p e [] = refl
staged_shows q p e (x ∷ xs) = go (p x) (staged_shows q p e xs)
  where
    go : (b : Bool) → map (λ (o : Output). o.1) (map (output q) (flat_map (λ r. cond (p r) (e r ∷ []) []) xs)) ≡ map (λ r. (output q (e r)).1) (filter p xs)
        → map (λ (o : Output). o.1) (map (output q) (cond b (e x ∷ []) [] ++ flat_map (λ r. cond (p r) (e r ∷ []) []) xs)) ≡ map (λ r. (output q (e r)).1) (cond b (x ∷ filter p xs) (filter p xs))
    go true more = ap (λ l. (output q (e x)).1 ∷ l) more
    go false more = more

pub answers_are : (tree : ℕ) (filters project : List Term) (order : List (Term × Key)) (db : Trees) (params : Row) (rows : List Row)
    → IsAnswer (picked tree filters project order) (overlay db []) params rows → IsPermutation (map (shown_in project params) (filter (passes_in filters params) (db tree))) rows
answers_are tree filters project order db params rows a =
    let q = picked tree filters project order in
    let e = λ (r : Row). let env : Env = params ∷ r ∷ [] in env in
    let found = λ (rs : List Row). map (λ (o : Output). o.1) (map (output q) (flat_map (λ r. cond (passes_in filters params r) (e r ∷ []) []) rs)) in
    let kept : map (λ (o : Output). o.1) a.kept ≡ map (shown_in project params) (filter (passes_in filters params) (db tree)) =
    ap (map (λ (o : Output). o.1)) (a.distinct ∙ ap (map (output q)) a.grouped) ∙ ap found (overlay_none db tree) ∙ staged_shows q (passes_in filters params) e (db tree) in
    subst₂ (λ (x y : List Row). IsPermutation x y) kept (sym a.shown) (IsPermutation-map (λ (o : Output). o.1) a.kept a.ordered a.same)

module _ (tree : ℕ) (filters project : List Term) (order : List (Term × Key)) (db : Trees) (params : Row) where
  abbrev query : Query
  query = picked tree filters project order

  abbrev env_of : Row → Env
  env_of r = params ∷ r ∷ []

  -- an output is that of some row
  abbrev IsShown : Output → Type 0
  IsShown o = (r : Row) × (o ≡ output query (env_of r))

  staged_shown : (xs : List Row) → AllByRecursion IsShown (map (output query) (flat_map (λ r. cond (passes_in filters params r) (env_of r ∷ []) []) xs))
  staged_shown [] = tt
  staged_shown (x ∷ xs) = go (passes_in filters params x) (staged_shown xs)
    where
      go : (b : Bool) → AllByRecursion IsShown (map (output query) (flat_map (λ r. cond (passes_in filters params r) (env_of r ∷ []) []) xs))
          → AllByRecursion IsShown (map (output query) (cond b (env_of x ∷ []) [] ++ flat_map (λ r. cond (passes_in filters params r) (env_of r ∷ []) []) xs))
      go true more = ((x, refl), more)
      go false more = more

  -- the rows come in an order that they show
  pub answers_sorted : (cmp : Row → Row → Ordering) → ((a b : Row) → sort_cmp order (env_of a) (env_of b) ≡ cmp (shown_in project params a) (shown_in project params b))
      → (rows : List Row) → IsAnswer query (overlay db []) params rows → IsSorted cmp rows
  answers_sorted cmp shows rows a =
      let kept : AllByRecursion IsShown a.kept = subst (AllByRecursion IsShown) (sym (a.distinct ∙ ap (map (output query)) a.grouped)) (staged_shown (overlay db [] tree)) in
      let all = All-from_recursion IsShown a.ordered (all-permutation IsShown a.kept a.ordered a.same kept) in
      subst (IsSorted cmp) (sym a.shown) (λ k d low high.
      let none : Output = ([], d) in
      let within : k + 1 < length a.ordered = omega (arith, length-map a.ordered (λ (o : Output). o.1)) in
      let now = all k none (omega arith) in
      let next = all (k + 1) none within in
      let was = a.sorted k none low within in
      let there : is_lt (sort_cmp order (env_of next.0) (env_of now.0)) ≡ false = subst₂ (λ (x y : Output). is_lt (output_cmp query x y) ≡ false) next.1 now.1 was in
      let same : is_lt (cmp (get_or a.ordered (k + 1) none).1 (get_or a.ordered k none).1) ≡ false =
      subst₂ (λ (x y : Output). is_lt (cmp x.1 y.1) ≡ false) (sym next.1) (sym now.1) (ap is_lt (sym (shows next.0 now.0)) ∙ there) in
      subst₂ (λ (x y : Row). is_lt (cmp x y) ≡ false) (sym (get_or-map (λ (o : Output). o.1) a.ordered (k + 1) none d within)) (sym (get_or-map (λ (o : Output). o.1) a.ordered k none d (omega arith))) same)

-- the first of an answer
pub first_answer : (tree : ℕ) (filters project : List Term) (order : List (Term × Key)) (db : Trees) (params : Row) (rows : List Row)
    → IsAnswer (picked_first tree filters project order) db params rows → (all : List Row) × IsAnswer (picked tree filters project order) db params all × (rows ≡ take 1 all)
first_answer tree filters project order db params rows a =
    (map (λ (o : Output). o.1) a.ordered, record { staged = a.staged; grouped = a.grouped; kept = a.kept; distinct = a.distinct; ordered = a.ordered; same = a.same; sorted = a.sorted; shown = refl }, a.shown)
