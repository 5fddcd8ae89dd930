-- The recordings that are wanted, one after another, and a tally that has points for them.
use Rattle.std.proofs.Common.{◌≡◌, ℕ, Bool, true, false, ◌||◌, cond, List, [], ◌∷◌, ◌++◌, map, Some, None, is_some, refl, ap, sym, ◌∙◌}
use Rattle.std.proofs.lemmas.List.{map-append}
use Rattle.std.proofs.lemmas.List.Elements.{filter-append}
use Rattle.std.specs.BTreeMap as tree
use Rattle.std.specs.List.{filter, list_any}
use Rattle.std.specs.Str.{bytes_eq}
use Rattle.perf_returns.specs.declared.performance.Performance.{Performance}
use Rattle.society_closings.proofs.lemmas.cuts.CutLists.{among_turned}
use Rattle.society_core.specs.Keys.{bytes_cmp}
use Rattle.society_core.specs.Points.{Tallies, is_performance_of, is_tallied, points_in}
use Rattle.society_core.specs.declared.points.Tally.{Tally}
use Rattle.order_credits.specs.Looked.{Recordings, sought}
use Rattle.order_credits.specs.Shares.{Played, is_wanted}

one_sought : (wanted : Recordings) (p : Played) (b : Bool) → map (λ (q : Played). q.0) (cond b (p ∷ []) []) ≡ cond b (p.0 ∷ []) []
one_sought wanted p true = refl
one_sought wanted p false = refl

-- one recording more
pub sought_more : (wanted : Recordings) (ps : List Played) (p : Played) → sought wanted (ps ++ p ∷ []) ≡ sought wanted ps ++ cond (is_wanted wanted (Some p.0)) (p.0 ∷ []) []
sought_more wanted ps p =
    ap (map (λ (q : Played). q.0)) (filter-append (λ (q : Played). is_wanted wanted (Some q.0)) ps (p ∷ []))
    ∙ map-append (λ (q : Played). q.0) (filter (λ (q : Played). is_wanted wanted (Some q.0)) ps) (cond (is_wanted wanted (Some p.0)) (p ∷ []) [])
    ∙ ap (λ (r : List (List ℕ)). sought wanted ps ++ r) (one_sought wanted p (is_wanted wanted (Some p.0)))

some_where : (b : Bool) (n : ℕ) → is_some (cond b (Some n) None) ≡ b
some_where true n = refl
some_where false n = refl

any_row : (q : List ℕ) (rows : List Performance) → list_any (is_performance_of q) rows ≡ list_any (λ (one : List ℕ). bytes_eq one q) (map (λ (row : Performance). row.isrc) rows)
any_row q [] = refl
any_row q (row ∷ rows) = ap (λ (b : Bool). bytes_eq row.isrc q || b) (any_row q rows)

-- a recording is tallied where it is one of the recordings of what was tallied
pub tallied_of : (tally : Tally) (rows : List Performance) (isrcs : List (List ℕ)) → Tallies tally rows → map (λ (row : Performance). row.isrc) rows ≡ isrcs → (q : List ℕ) → is_tallied tally q ≡ list_any (bytes_eq q) isrcs
tallied_of tally rows isrcs tallies are q =
    ap is_some (tallies.points q)
    ∙ some_where (list_any (is_performance_of q) rows) (points_in rows q)
    ∙ any_row q rows
    ∙ ap (list_any (λ (one : List ℕ). bytes_eq one q)) are
    ∙ among_turned q isrcs
