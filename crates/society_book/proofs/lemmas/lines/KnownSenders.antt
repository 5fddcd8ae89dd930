-- Of which senders a book has anything.
use Rattle.std.proofs.Common.{◌≡◌, ◌∙◌, ◌||◌, ℕ, Bool, true, false, cond, List, Option, Some, None, is_some, refl, ap, sym, subst, bytes_eq}
use Rattle.std.specs.FinMap as finite
use Rattle.std.specs.FinMap.{FinMap, IsAntisymmetric}
use Rattle.std.specs.Cmp.{IsTotalOrder}
use Rattle.std.specs.List.{list_any}
use Rattle.std.specs.Ordering.{eq_by_cmp, is_eq}
use Rattle.std.specs.declared.cmp.Ordering.{Ordering}
use Rattle.std.proofs.lemmas.Bool.{false_from_ne_true, false≢true, or_left, or_parts, or_right}
use Rattle.std.proofs.lemmas.Cmp.{tied_itself}
use Rattle.std.proofs.lemmas.Slice.Eq.{bytes_eq-Decides}
use Rattle.sender_segments.specs.Ways.{End}
use Rattle.society_core.specs.Book.{Book, end_at, is_there, with_end, with_transmission}
use Rattle.society_core.specs.Keys.{segment_key, transmission_key}
use Rattle.society_core.specs.declared.segment_key.SegmentKey.{SegmentKey}
use Rattle.society_core.specs.declared.transmission_key.TransmissionKey.{TransmissionKey}
use Rattle.society_core.proofs.lemmas.Inserts.{tied}
use Rattle.society_core.proofs.lemmas.KeyOrders.{exact_segments, exact_transmissions, segments_total, transmissions_total}
use Rattle.society_book.specs.DerivedRows.{has_sent, has_stated, knows_sender}
use Rattle.society_book.proofs.lemmas.rows_alike.KeyRows.{same_truth}
use Rattle.sqlite_rules.proofs.ListLemmas.{some_from, some_has}

module _ {K : Type 0} {R : K → K → Ordering} (total : IsTotalOrder R) (exact : IsAntisymmetric R) (sender_of : K → List ℕ) where
  -- whether some keys have one of a sender
  abbrev pub has_of : List K → List ℕ → Bool
  has_of keys t = list_any (λ key. bytes_eq (sender_of key) t) keys

  -- a key of a sender
  record IsOf (keys : List K) (t : List ℕ) : Type 0 where
    key : K
    its : sender_of key ≡ t
    there : list_any (eq_by_cmp R key) keys ≡ true

  itself : (key : K) → eq_by_cmp R key key ≡ true
  itself key = ap is_eq (tied_itself total key)

  one_of_them : (t : List ℕ) (keys : List K) → has_of keys t ≡ true → IsOf keys t
  one_of_them t keys h =
      let found = some_has (λ key. bytes_eq (sender_of key) t) keys h in
      record { key = found.0; its = (bytes_eq-Decides (sender_of found.0) t).0 found.2; there = some_from (eq_by_cmp R found.0) keys found.0 found.1 (itself found.0) }

  of_them : (key : K) (keys : List K) → list_any (eq_by_cmp R key) keys ≡ true → has_of keys (sender_of key) ≡ true
  of_them key keys h =
      let found = some_has (eq_by_cmp R key) keys h in
      some_from (λ other. bytes_eq (sender_of other) (sender_of key)) keys found.0 found.1 ((bytes_eq-Decides (sender_of found.0) (sender_of key)).1 (sym (ap sender_of (exact key found.0 (tied (R key found.0) found.2)))))

  module _ {V : Type 0} (m : FinMap R V) where
    -- a sender that has something in a map has it under a key
    pub key_there : (t : List ℕ) → has_of (finite.keys m) t ≡ true → (key : K) × (sender_of key ≡ t) × (is_some (finite.get m key) ≡ true)
    key_there t h = let found = one_of_them t (finite.keys m) h in (found.key, found.its, finite.contains_key-keys m found.key ∙ found.there)

    -- and the other way round
    pub has_there : (key : K) → is_some (finite.get m key) ≡ true → has_of (finite.keys m) (sender_of key) ≡ true
    has_there key h = of_them key (finite.keys m) (sym (finite.contains_key-keys m key) ∙ h)

    module _ (key : K) (v : V) where
      abbrev after : FinMap R V
      after = finite.insert m key v

      got : (q : K) → finite.get after q ≡ cond (eq_by_cmp R q key) (Some v) (finite.get m q)
      got q = finite.get-insert total m key v q

      some_if : (x : Bool) (o : Option V) → is_some o ≡ true → is_some (cond x (Some v) o) ≡ true
      some_if true o h = refl
      some_if false o h = h

      -- with one entry more its sender has something, and every other one what it had
      has_after : (t : List ℕ) → has_of (finite.keys after) t ≡ (bytes_eq (sender_of key) t || has_of (finite.keys m) t)
      has_after t = same_truth (has_of (finite.keys after) t) (bytes_eq (sender_of key) t || has_of (finite.keys m) t) from to
        where
          from : has_of (finite.keys after) t ≡ true → (bytes_eq (sender_of key) t || has_of (finite.keys m) t) ≡ true
          from h = let found = one_of_them t (finite.keys after) h in by_case found (eq_by_cmp R found.key key) refl
            where
              by_case : (found : IsOf (finite.keys after) t) (x : Bool) → eq_by_cmp R found.key key ≡ x → (bytes_eq (sender_of key) t || has_of (finite.keys m) t) ≡ true
              by_case found true is =
                  or_left (bytes_eq (sender_of key) t) (has_of (finite.keys m) t) ((bytes_eq-Decides (sender_of key) t).1 (sym (ap sender_of (exact found.key key (tied (R found.key key) is))) ∙ found.its))
              by_case found false is =
                  let some : is_some (finite.get m found.key) ≡ true = ap is_some (sym (got found.key ∙ ap (λ (x : Bool). cond x (Some v) (finite.get m found.key)) is)) ∙ finite.contains_key-keys after found.key ∙ found.there in
                  or_right (bytes_eq (sender_of key) t) (has_of (finite.keys m) t) (subst (λ (q : List ℕ). has_of (finite.keys m) q ≡ true) found.its (has_there found.key some))

          still : (q : K) → is_some (finite.get after q) ≡ true → sender_of q ≡ t → has_of (finite.keys after) t ≡ true
          still q some its = subst (λ (x : List ℕ). has_of (finite.keys after) x ≡ true) its (of_them q (finite.keys after) (sym (finite.contains_key-keys after q) ∙ some))

          to : (bytes_eq (sender_of key) t || has_of (finite.keys m) t) ≡ true → has_of (finite.keys after) t ≡ true
          to h = by_case (bytes_eq (sender_of key) t) refl h
            where
              by_case : (x : Bool) → bytes_eq (sender_of key) t ≡ x → (x || has_of (finite.keys m) t) ≡ true → has_of (finite.keys after) t ≡ true
              by_case true is some = still key (ap is_some (got key ∙ ap (λ (x : Bool). cond x (Some v) (finite.get m key)) (itself key))) ((bytes_eq-Decides (sender_of key) t).0 is)
              by_case false is some = let found = key_there t some in still found.0 (ap is_some (got found.0) ∙ some_if (eq_by_cmp R found.0 key) (finite.get m found.0) found.2) found.1

-- a sender has sent where a number of it is there
pub sent_there : (b : Book) (s : List ℕ) → has_sent b s ≡ true → (n : ℕ) × (is_there b s n ≡ true)
sent_there b s h =
    let found = key_there transmissions_total exact_transmissions (λ (key : TransmissionKey). key.sender) b.transmissions s h in
    (found.0.number, subst (λ (q : List ℕ). is_there b q found.0.number ≡ true) found.1 found.2)

pub there_sent : (b : Book) (s : List ℕ) (n : ℕ) → is_there b s n ≡ true → has_sent b s ≡ true
there_sent b s n h = has_there transmissions_total exact_transmissions (λ (key : TransmissionKey). key.sender) b.transmissions (transmission_key s n) h

-- and it has stated where a segment of it has an end
pub end_stated_there : (b : Book) (s : List ℕ) (g : ℕ) → is_some (end_at b s g) ≡ true → has_stated b s ≡ true
end_stated_there b s g h = has_there segments_total exact_segments (λ (key : SegmentKey). key.sender) b.ends (segment_key s g) h

-- of a sender of whom a book has nothing no number is there
pub nothing_sent : (b : Book) (s : List ℕ) → knows_sender b s ≡ false → (n : ℕ) → is_there b s n ≡ false
nothing_sent b s h n = false_from_ne_true (is_there b s n) (λ is. false≢true (sym (or_parts (has_sent b s) (has_stated b s) h).0 ∙ there_sent b s n is))

-- nor has a segment of it an end
pub nothing_stated : (b : Book) (s : List ℕ) → knows_sender b s ≡ false → (g : ℕ) → end_at b s g ≡ None
nothing_stated b s h g = by_case (end_at b s g) refl
  where
    by_case : (o : Option End) → end_at b s g ≡ o → o ≡ None
    by_case None is = refl
    by_case (Some end) is = absurd (false≢true (sym ((or_parts (has_sent b s) (has_stated b s) h).1) ∙ end_stated_there b s g (ap is_some is)))

-- with one transmission more a book has something of its sender
pub knows_sent : (b : Book) (s : List ℕ) (n : ℕ) (body : List ℕ) (t : List ℕ) → knows_sender (with_transmission b s n body) t ≡ (bytes_eq s t || knows_sender b t)
knows_sent b s n body t =
    ap (λ (x : Bool). x || has_stated b t) (has_after transmissions_total exact_transmissions (λ (key : TransmissionKey). key.sender) b.transmissions (transmission_key s n) body t)
    ∙ regroup (bytes_eq s t) (has_sent b t) (has_stated b t)
  where
    regroup : (x y z : Bool) → ((x || y) || z) ≡ (x || (y || z))
    regroup true y z = refl
    regroup false y z = refl

-- and so with one end more
pub knows_stated : (b : Book) (s : List ℕ) (g : ℕ) (end : End) (t : List ℕ) → knows_sender (with_end b s g end) t ≡ (bytes_eq s t || knows_sender b t)
knows_stated b s g end t =
    ap (λ (x : Bool). has_sent b t || x) (has_after segments_total exact_segments (λ (key : SegmentKey). key.sender) b.ends (segment_key s g) end t)
    ∙ regroup (bytes_eq s t) (has_sent b t) (has_stated b t)
  where
    regroup : (x y z : Bool) → (y || (x || z)) ≡ (x || (y || z))
    regroup true true z = refl
    regroup true false z = refl
    regroup false y z = refl
