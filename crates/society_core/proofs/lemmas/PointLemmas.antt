-- The points of recordings: what one more performance changes, their order, their least and their sum.
use Rattle.std.proofs.Common.{◌≡◌, ℕ, suc, ◌+◌, ◌*◌, ◌^◌, ◌-◌, ◌<◌, ◌≤◌, min, Bool, true, false, ◌||◌, cond, List, [], ◌∷◌, ◌++◌, length, map, filter, sum, sum_by, All, Option, Some, None, is_some, unwrap_or, refl, ap, sym, subst, ◌∙◌, arith, add-zero, true≢false}
use Rattle.std.proofs.lemmas.Bool.{false≢true}
use Rattle.std.proofs.lemmas.Cmp.{eq_by_cmp_equiv, nat_list_cmp_total}
use Rattle.std.proofs.lemmas.List.Elements.{All-from_recursion, filter-append}
use Rattle.std.proofs.lemmas.List.Folds.{list_any-append}
use Rattle.std.proofs.lemmas.List.Sums.{sum_by-append, sum_by-cons, sum-map}
use Rattle.std.proofs.lemmas.Map.Keys.{sorted_head, sorted_tail}
use Rattle.std.proofs.lemmas.Map.Lookups.{exact_bytes}
use Rattle.std.proofs.lemmas.Map.Made.{is_some-lookup}
use Rattle.std.proofs.lemmas.Map.Text.{is_eq-slice_cmp}
use Rattle.std.proofs.lemmas.Slice.Eq.{bytes_eq-Decides}
use Rattle.std.specs.BTreeMap as tree
use Rattle.std.specs.FinMap as finite
use Rattle.std.specs.FinMap.Entries.{find}
use Rattle.std.specs.List.{AllByRecursion, list_any}
use Rattle.std.specs.List.Sorted.{IsStrictlySortedBy}
use Rattle.std.specs.Map.{lookup}
use Rattle.std.specs.Ordering.{eq_by_cmp, is_eq}
use Rattle.std.specs.Str.{bytes_eq}
use Rattle.std.specs.declared.cmp.Ordering.TheVariants.{Less}
use Rattle.perf_returns.specs.declared.performance.Performance.{Performance}
use Rattle.society_core.specs.Keys.{bytes_cmp}
use Rattle.society_core.specs.Points.{HasPoints, Tallies, is_performance_of, is_tallied, points_by_recording, points_in, points_known, points_of, recordings_in}
use Rattle.society_core.specs.declared.points.Tally.{Tally}
use Rattle.society_core.proofs.lemmas.Ascending.{ascending_ascends, ascending_has}
use Rattle.society_core.proofs.lemmas.KeysOfMaps.{entries_in_order}

-- ---- one more performance

one_or_none : (row : Performance) (b : Bool) → sum_by points_of (cond b (row ∷ []) []) ≡ cond b (points_of row) 0
one_or_none row true = omega (arith, sum_by-cons points_of row [])
one_or_none row false = refl

points_more : (rows : List Performance) (row : Performance) (q : List ℕ) → points_in (rows ++ row ∷ []) q ≡ points_in rows q + cond (bytes_eq row.isrc q) (points_of row) 0
points_more rows row q =
    ap (sum_by points_of) (filter-append (is_performance_of q) rows (row ∷ []))
    ∙ sum_by-append points_of (filter (is_performance_of q) rows) (filter (is_performance_of q) (row ∷ []))
    ∙ ap (λ (n : ℕ). points_in rows q + n) (one_or_none row (bytes_eq row.isrc q))

points_none : (rows : List Performance) (q : List ℕ) → list_any (is_performance_of q) rows ≡ false → points_in rows q ≡ 0
points_none [] q h = refl
points_none (row ∷ rows) q h =
    (elim (bytes_eq row.isrc q) as (λ b. (b || list_any (is_performance_of q) rows) ≡ false → sum_by points_of (cond b (row ∷ filter (is_performance_of q) rows) (filter (is_performance_of q) rows)) ≡ 0) [
      | true ↦ λ e. absurd (true≢false e)
      | false ↦ λ e. points_none rows q e
    ]) h

known_points : (rows : List Performance) (q : List ℕ) → unwrap_or (points_known rows q) 0 ≡ points_in rows q
known_points rows q =
    let P : Bool → Type 0 = λ b. list_any (is_performance_of q) rows ≡ b → unwrap_or (cond b (Some (points_in rows q)) None) 0 ≡ points_in rows q in
    let at : (b : Bool) → P b = elim [
      | true ↦ λ e. refl
      | false ↦ λ e. sym (points_none rows q e)
    ] in
    at (list_any (is_performance_of q) rows) refl

known_shape : (a b : Bool) (n p : ℕ) → cond (a || (b || false)) (Some (n + cond b p 0)) None ≡ cond b (Some (n + p)) (cond a (Some n) None)
known_shape true true n p = refl
known_shape false true n p = refl
known_shape true false n p = ap (λ (k : ℕ). Some k) (add-zero n)
known_shape false false n p = refl

known_more : (rows : List Performance) (row : Performance) (q : List ℕ) → points_known (rows ++ row ∷ []) q ≡ cond (bytes_eq row.isrc q) (Some (points_in rows q + points_of row)) (points_known rows q)
known_more rows row q =
    ap (λ (b : Bool). cond b (Some (points_in (rows ++ row ∷ []) q)) None) (list_any-append (is_performance_of q) rows (row ∷ []))
    ∙ ap (λ (n : ℕ). cond (list_any (is_performance_of q) rows || (bytes_eq row.isrc q || false)) (Some n) None) (points_more rows row q)
    ∙ known_shape (list_any (is_performance_of q) rows) (bytes_eq row.isrc q) (points_in rows q) (points_of row)

points_within : (rows : List Performance) (q : List ℕ) → AllByRecursion HasPoints rows → points_in rows q ≤ length rows * 10000000000
points_within [] q h = omega arith
points_within (row ∷ rows) q h =
    let rest = points_within rows q h.1 in
    let most = h.0.1 in
    elim (bytes_eq row.isrc q) as (λ b. sum_by points_of (cond b (row ∷ filter (is_performance_of q) rows) (filter (is_performance_of q) rows)) ≤ suc (length rows) * 10000000000) [
      | true ↦ omega (arith, sum_by-cons points_of row (filter (is_performance_of q) rows))
      | false ↦ omega arith
    ]

played_more : (rows : List Performance) (row : Performance) → AllByRecursion HasPoints rows → HasPoints row → AllByRecursion HasPoints (rows ++ row ∷ [])
played_more [] row h has = (has, tt)
played_more (first ∷ rows) row h has = (h.0, played_more rows row h.1 has)

summed : (total known points more count : ℕ) → count < 10000000 → known ≡ points → points ≤ count * 10000000000 → more ≤ 10000000000 → total ≡ min (known + more) (2 ^ 64 - 1) → total ≡ points + more
summed total known points more count few same within most is = omega arith

-- a tally with the points of one more performance
pub tallies_more : (old new : Tally) (rows : List Performance) (row : Performance) (total : ℕ) → length rows < 10000000 → Tallies old rows → HasPoints row →
    total ≡ min (unwrap_or (tree.get bytes_cmp old.totals row.isrc) 0 + points_of row) (2 ^ 64 - 1) →
    ((q : List ℕ) → tree.get bytes_cmp new.totals q ≡ cond (eq_by_cmp bytes_cmp row.isrc q) (Some total) (tree.get bytes_cmp old.totals q)) →
    Tallies new (rows ++ row ∷ [])
tallies_more old new rows row total few before has is updates =
    let known : unwrap_or (tree.get bytes_cmp old.totals row.isrc) 0 ≡ points_in rows row.isrc = ap (λ (o : Option ℕ). unwrap_or o 0) (before.points row.isrc) ∙ known_points rows row.isrc in
    let within : points_in rows row.isrc ≤ length rows * 10000000000 = points_within rows row.isrc before.played in
    let most : points_of row ≤ 10000000000 = has.1 in
    let exact : total ≡ points_in rows row.isrc + points_of row = summed total (unwrap_or (tree.get bytes_cmp old.totals row.isrc) 0) (points_in rows row.isrc) (points_of row) (length rows) few known within most is in
    record {
      points = λ q.
          let P : Bool → Type 0 = λ b. bytes_eq row.isrc q ≡ b → cond b (Some total) (tree.get bytes_cmp old.totals q) ≡ cond b (Some (points_in rows q + points_of row)) (points_known rows q) in
          let at : (b : Bool) → P b = elim [
            | true ↦ λ e. ap (λ (k : ℕ). Some k) (exact ∙ ap (λ (r : List ℕ). points_in rows r + points_of row) ((bytes_eq-Decides row.isrc q).0 e))
            | false ↦ λ e. before.points q
          ] in
          updates q
          ∙ ap (λ (b : Bool). cond b (Some total) (tree.get bytes_cmp old.totals q)) (is_eq-slice_cmp row.isrc q)
          ∙ at (bytes_eq row.isrc q) refl
          ∙ sym (known_more rows row q);
      played = played_more rows row before.played has;
    }

-- ---- the points by recording

recorded : (rows : List Performance) (q : List ℕ) → list_any (eq_by_cmp bytes_cmp q) (map (λ (row : Performance). row.isrc) rows) ≡ list_any (is_performance_of q) rows
recorded [] q = refl
recorded (row ∷ rows) q =
    ap (λ (b : Bool). b || list_any (eq_by_cmp bytes_cmp q) (map (λ (r : Performance). r.isrc) rows)) ((eq_by_cmp_equiv nat_list_cmp_total).symm q row.isrc ∙ is_eq-slice_cmp row.isrc q)
    ∙ ap (λ (b : Bool). bytes_eq row.isrc q || b) (recorded rows q)

has_recording : (rows : List Performance) (q : List ℕ) → list_any (eq_by_cmp bytes_cmp q) (recordings_in rows) ≡ list_any (is_performance_of q) rows
has_recording rows q = ascending_has nat_list_cmp_total q (map (λ (row : Performance). row.isrc) rows) ∙ recorded rows q

keys_paired : (f : List ℕ → ℕ) (ks : List (List ℕ)) → map (λ (e : List ℕ × ℕ). e.0) (map (λ (k : List ℕ). (k, f k)) ks) ≡ ks
keys_paired f [] = refl
keys_paired f (k ∷ ks) = ap (λ (r : List (List ℕ)). k ∷ r) (keys_paired f ks)

lookup_paired : (f : List ℕ → ℕ) (ks : List (List ℕ)) (q : List ℕ) → lookup (tree.is_at (bytes_cmp q)) (map (λ (k : List ℕ). (k, f k)) ks) ≡ cond (list_any (eq_by_cmp bytes_cmp q) ks) (Some (f q)) None
lookup_paired f [] q = refl
lookup_paired f (k ∷ ks) q =
    let P : Bool → Type 0 = λ b. bytes_eq q k ≡ b → cond b (Some (f k)) (lookup (tree.is_at (bytes_cmp q)) (map (λ (k : List ℕ). (k, f k)) ks)) ≡ cond (b || list_any (eq_by_cmp bytes_cmp q) ks) (Some (f q)) None in
    let at : (b : Bool) → P b = elim [
      | true ↦ λ e. ap (λ (r : List ℕ). Some (f r)) (sym ((bytes_eq-Decides q k).0 e))
      | false ↦ λ e. lookup_paired f ks q
    ] in
    subst (λ (b : Bool). cond b (Some (f k)) (lookup (tree.is_at (bytes_cmp q)) (map (λ (k : List ℕ). (k, f k)) ks)) ≡ cond (b || list_any (eq_by_cmp bytes_cmp q) ks) (Some (f q)) None) (sym (is_eq-slice_cmp q k)) (at (bytes_eq q k) refl)

-- the recordings of some performances ascend, each once
pub recordings_ascend : (rows : List Performance) → IsStrictlySortedBy bytes_cmp (map (λ (e : List ℕ × ℕ). e.0) (points_by_recording rows))
recordings_ascend rows = subst (IsStrictlySortedBy bytes_cmp) (sym (keys_paired (points_in rows) (recordings_in rows))) (ascending_ascends nat_list_cmp_total (map (λ (row : Performance). row.isrc) rows))

find_is_lookup : (es : List (List ℕ × ℕ)) (q : List ℕ) → find bytes_cmp q es ≡ lookup (tree.is_at (bytes_cmp q)) es
find_is_lookup [] q = refl
find_is_lookup (e ∷ es) q = ap (cond (eq_by_cmp bytes_cmp q e.0) (Some e.1)) (find_is_lookup es q)

-- entries in order that answer alike are the same
alike_entries : (es fs : List (List ℕ × ℕ)) → IsStrictlySortedBy bytes_cmp (map (λ (e : List ℕ × ℕ). e.0) es) → IsStrictlySortedBy bytes_cmp (map (λ (e : List ℕ × ℕ). e.0) fs) →
    ((q : List ℕ) → lookup (tree.is_at (bytes_cmp q)) es ≡ lookup (tree.is_at (bytes_cmp q)) fs) → es ≡ fs
alike_entries es fs s t same =
    sym (entries_in_order nat_list_cmp_total exact_bytes es s)
    ∙ ap finite.entries (finite.same_map nat_list_cmp_total exact_bytes (finite.from_entries {R = bytes_cmp} es) (finite.from_entries {R = bytes_cmp} fs) (λ q.
    finite.get-from_entries nat_list_cmp_total es q ∙ find_is_lookup es q ∙ same q ∙ sym (finite.get-from_entries nat_list_cmp_total fs q ∙ find_is_lookup fs q)))
    ∙ entries_in_order nat_list_cmp_total exact_bytes fs t

-- the entries of a tally are the points by recording
pub tallied_entries : (tally : Tally) (rows : List Performance) → Tallies tally rows → tree.IsOrdered bytes_cmp tally.totals → tally.totals.entries ≡ points_by_recording rows
tallied_entries tally rows h ordered =
    alike_entries tally.totals.entries (points_by_recording rows) ordered (recordings_ascend rows)
    (λ q. h.points q ∙ sym (lookup_paired (points_in rows) (recordings_in rows) q ∙ ap (λ (b : Bool). cond b (Some (points_in rows q)) None) (has_recording rows q)))

first_of_pairs : (f : List ℕ → ℕ) (ks : List (List ℕ)) → map (λ (e : List ℕ × ℕ). e.0) (map (λ k. (k, f k)) ks) ≡ ks
first_of_pairs f [] = refl
first_of_pairs f (k ∷ ks) = ap (λ (rest : List (List ℕ)). k ∷ rest) (first_of_pairs f ks)

-- the keys of a tally are the recordings of what was tallied, ascending, each once
pub tallied_recordings : (tally : Tally) (rows : List Performance) → Tallies tally rows → tree.IsOrdered bytes_cmp tally.totals → map (λ (e : List ℕ × ℕ). e.0) tally.totals.entries ≡ recordings_in rows
tallied_recordings tally rows h ordered =
    ap (map (λ (e : List ℕ × ℕ). e.0)) (tallied_entries tally rows h ordered) ∙ first_of_pairs (points_in rows) (recordings_in rows)

any_alike : (q : List ℕ) (ks : List (List ℕ)) → list_any (tree.is_at (bytes_cmp q)) ks ≡ list_any (bytes_eq q) ks
any_alike q [] = refl
any_alike q (k ∷ ks) = ap (λ (b : Bool). b || list_any (tree.is_at (bytes_cmp q)) ks) (is_eq-slice_cmp q k) ∙ ap (λ (b : Bool). bytes_eq q k || b) (any_alike q ks)

-- a recording is tallied where it is among the keys
pub tallied_keys : (tally : Tally) (q : List ℕ) → is_tallied tally q ≡ list_any (bytes_eq q) (map (λ (e : List ℕ × ℕ). e.0) tally.totals.entries)
tallied_keys tally q = is_some-lookup (tree.is_at (bytes_cmp q)) tally.totals.entries ∙ any_alike q (map (λ (e : List ℕ × ℕ). e.0) tally.totals.entries)

-- ---- what can be paid

least_of : (rows : List Performance) (q : List ℕ) → AllByRecursion HasPoints rows → list_any (is_performance_of q) rows ≡ true → 1 ≤ points_in rows q
least_of [] q h any = absurd (false≢true any)
least_of (row ∷ rows) q h any =
    let least = h.0.0 in
    (elim (bytes_eq row.isrc q) as (λ b. (b || list_any (is_performance_of q) rows) ≡ true → 1 ≤ sum_by points_of (cond b (row ∷ filter (is_performance_of q) rows) (filter (is_performance_of q) rows))) [
      | true ↦ λ e. omega (arith, sum_by-cons points_of row (filter (is_performance_of q) rows))
      | false ↦ λ e. least_of rows q h.1 e
    ]) any

or_right : (a b : Bool) → b ≡ true → (a || b) ≡ true
or_right true b h = refl
or_right false b h = h

paired_least : (f : List ℕ → ℕ) (ks : List (List ℕ)) → ((k : List ℕ) → list_any (eq_by_cmp bytes_cmp k) ks ≡ true → 1 ≤ f k) → AllByRecursion (λ (e : List ℕ × ℕ). 1 ≤ e.1) (map (λ (k : List ℕ). (k, f k)) ks)
paired_least f [] least = tt
paired_least f (k ∷ ks) least = (
  least k (ap (λ (b : Bool). b || list_any (eq_by_cmp bytes_cmp k) ks) ((eq_by_cmp_equiv nat_list_cmp_total).refl k)),
  paired_least f ks (λ q h. least q (or_right (eq_by_cmp bytes_cmp q k) (list_any (eq_by_cmp bytes_cmp q) ks) h)),
)

-- each recording of performances with points has some
pub recordings_have_points : (rows : List Performance) → AllByRecursion HasPoints rows → All (λ (e : List ℕ × ℕ). 1 ≤ e.1) (points_by_recording rows)
recordings_have_points rows h =
    All-from_recursion (λ (e : List ℕ × ℕ). 1 ≤ e.1) (points_by_recording rows)
    (paired_least (points_in rows) (recordings_in rows) (λ k member. least_of rows k h (sym (has_recording rows k) ∙ member)))

paired_tallied : (p : List ℕ → Bool) (f : List ℕ → ℕ) (ks : List (List ℕ)) → ((k : List ℕ) → list_any (eq_by_cmp bytes_cmp k) ks ≡ true → p k ≡ true) → AllByRecursion (λ (e : List ℕ × ℕ). p e.0 ≡ true) (map (λ (k : List ℕ). (k, f k)) ks)
paired_tallied p f [] all = tt
paired_tallied p f (k ∷ ks) all = (
  all k (ap (λ (b : Bool). b || list_any (eq_by_cmp bytes_cmp k) ks) ((eq_by_cmp_equiv nat_list_cmp_total).refl k)),
  paired_tallied p f ks (λ q h. all q (or_right (eq_by_cmp bytes_cmp q k) (list_any (eq_by_cmp bytes_cmp q) ks) h)),
)

-- a tally of performances has points for each of their recordings
pub recordings_tallied : (tally : Tally) (rows : List Performance) → Tallies tally rows → AllByRecursion (λ (e : List ℕ × ℕ). is_tallied tally e.0 ≡ true) (points_by_recording rows)
recordings_tallied tally rows tallies =
    paired_tallied (is_tallied tally) (points_in rows) (recordings_in rows)
    (λ k member. ap is_some (tallies.points k ∙ ap (λ (b : Bool). cond b (Some (points_in rows k)) None) (sym (has_recording rows k) ∙ member)))

at_most : (b : Bool) (p : ℕ) → cond b p 0 ≤ p
at_most true p = omega arith
at_most false p = omega arith

-- one performance counts for one recording at most
counted_never : (isrc : List ℕ) (p : ℕ) (ks : List (List ℕ)) → AllByRecursion (λ k. bytes_cmp isrc k ≡ Less) ks → sum_by (λ k. cond (bytes_eq isrc k) p 0) ks ≡ 0
counted_never isrc p [] h = refl
counted_never isrc p (k ∷ ks) h =
    let apart : bytes_eq isrc k ≡ false = sym (is_eq-slice_cmp isrc k) ∙ ap is_eq h.0 in
    let none : cond (bytes_eq isrc k) p 0 ≡ 0 = ap (λ (b : Bool). cond b p 0) apart in
    omega (arith, sum_by-cons (λ (k : List ℕ). cond (bytes_eq isrc k) p 0) k ks, counted_never isrc p ks h.1)

counted_here : (isrc : List ℕ) (p : ℕ) (k : List ℕ) (ks : List (List ℕ)) → isrc ≡ k → IsStrictlySortedBy bytes_cmp (k ∷ ks) → sum_by (λ k. cond (bytes_eq isrc k) p 0) (k ∷ ks) ≤ p
counted_here isrc p k ks same h =
    let above = subst (λ (r : List ℕ). AllByRecursion (λ y. bytes_cmp r y ≡ Less) ks) (sym same) (sorted_head bytes_cmp k ks h) in
    let here : cond (bytes_eq isrc k) p 0 ≤ p = at_most (bytes_eq isrc k) p in
    omega (arith, sum_by-cons (λ (k : List ℕ). cond (bytes_eq isrc k) p 0) k ks, counted_never isrc p ks above)

counted_once : (isrc : List ℕ) (p : ℕ) (ks : List (List ℕ)) → IsStrictlySortedBy bytes_cmp ks → sum_by (λ k. cond (bytes_eq isrc k) p 0) ks ≤ p
counted_once isrc p [] h = omega arith
counted_once isrc p (k ∷ ks) h =
    let P : Bool → Type 0 = λ b. bytes_eq isrc k ≡ b → sum_by (λ (k : List ℕ). cond (bytes_eq isrc k) p 0) (k ∷ ks) ≤ p in
    let at : (b : Bool) → P b = elim [
      | true ↦ λ e. counted_here isrc p k ks ((bytes_eq-Decides isrc k).0 e) h
      | false ↦ λ e.
          let none : cond (bytes_eq isrc k) p 0 ≡ 0 = ap (λ (b : Bool). cond b p 0) e in
          omega (arith, sum_by-cons (λ (k : List ℕ). cond (bytes_eq isrc k) p 0) k ks, counted_once isrc p ks (sorted_tail bytes_cmp k ks h))
    ] in
    at (bytes_eq isrc k) refl

points_before : (rows : List Performance) (row : Performance) (q : List ℕ) → points_in (row ∷ rows) q ≡ cond (bytes_eq row.isrc q) (points_of row) 0 + points_in rows q
points_before rows row q =
    elim (bytes_eq row.isrc q) as (λ b. sum_by points_of (cond b (row ∷ filter (is_performance_of q) rows) (filter (is_performance_of q) rows)) ≡ cond b (points_of row) 0 + points_in rows q) [
      | true ↦ sum_by-cons points_of row (filter (is_performance_of q) rows)
      | false ↦ omega arith
    ]

points_by_key : (rows : List Performance) (row : Performance) (ks : List (List ℕ)) → sum_by (points_in (row ∷ rows)) ks ≡ sum_by (λ k. cond (bytes_eq row.isrc k) (points_of row) 0) ks + sum_by (points_in rows) ks
points_by_key rows row [] = refl
points_by_key rows row (k ∷ ks) =
    omega (arith, sum_by-cons (points_in (row ∷ rows)) k ks, sum_by-cons (λ (k : List ℕ). cond (bytes_eq row.isrc k) (points_of row) 0) k ks, sum_by-cons (points_in rows) k ks, points_by_key rows row ks, points_before rows row k)

no_points : (ks : List (List ℕ)) → sum_by (points_in []) ks ≤ 0
no_points [] = omega arith
no_points (k ∷ ks) = omega (arith, sum_by-cons (points_in []) k ks, no_points ks)

points_bounded : (rows : List Performance) (ks : List (List ℕ)) → IsStrictlySortedBy bytes_cmp ks → AllByRecursion HasPoints rows → sum_by (points_in rows) ks ≤ length rows * 10000000000
points_bounded [] ks s h = no_points ks
points_bounded (row ∷ rows) ks s h =
    let most = h.0.1 in
    omega (arith, points_by_key rows row ks, counted_once row.isrc (points_of row) ks s, points_bounded rows ks s h.1)

paired_values : (f : List ℕ → ℕ) (ks : List (List ℕ)) → map (λ (e : List ℕ × ℕ). e.1) (map (λ (k : List ℕ). (k, f k)) ks) ≡ map f ks
paired_values f [] = refl
paired_values f (k ∷ ks) = ap (λ (r : List ℕ). f k ∷ r) (paired_values f ks)

paired_sum : (f : List ℕ → ℕ) (ks : List (List ℕ)) → sum (map (λ (e : List ℕ × ℕ). e.1) (map (λ (k : List ℕ). (k, f k)) ks)) ≡ sum_by f ks
paired_sum f ks = ap sum (paired_values f ks) ∙ sum-map f ks

-- all points of at most 10,000,000 performances
pub all_points_within : (rows : List Performance) → AllByRecursion HasPoints rows → length rows ≤ 10000000 → sum (map (λ (e : List ℕ × ℕ). e.1) (points_by_recording rows)) ≤ 100000000000000000
all_points_within rows h few =
    omega (arith, paired_sum (points_in rows) (recordings_in rows), points_bounded rows (recordings_in rows) (ascending_ascends nat_list_cmp_total (map (λ (row : Performance). row.isrc) rows)) h)
