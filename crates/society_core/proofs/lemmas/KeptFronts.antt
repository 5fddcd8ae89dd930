-- The fronts that are kept: a front of 0 for a sender that has none changes no front, and those of others stay.
use Rattle.std.proofs.Common.{◌≡◌, ◌≢◌, ◌+◌, ℕ, Bool, true, false, cond, List, Option, Some, None, BTreeMap, filter, is_some, unwrap_or, refl, ap, subst, sym, ◌∙◌, ⊎_elim}
use Rattle.std.specs.BTreeMap as tree
use Rattle.std.specs.BTreeMap.{is_at}
use Rattle.std.specs.FinMap as finite
use Rattle.std.specs.Ordering.{is_eq}
use Rattle.std.proofs.lemmas.Cmp.{nat_list_cmp_total, tied_itself}
use Rattle.std.proofs.lemmas.Bool.{cases_Bool, false≢true}
use Rattle.std.proofs.lemmas.Map.Lookups.{exact_bytes}
use Rattle.sender_segments.specs.Ways.{End, IsWithinEnd, is_reached, numbers_up_to}
use Rattle.sender_segments.proofs.lemmas.Grows.{same_numbers, still_reached}
use Rattle.work_ids.specs.Segments.{segment_of}
use Rattle.society_core.specs.Book.{AreOrderly, Book, Ends, IsSound, Transmissions, body_at, end_at, ends_among, ends_of, front, front_in, is_among, is_end_entry, is_entry, is_one_of, line, numbers_of, with_end, with_transmission}
use Rattle.society_core.specs.Keys.{bytes_cmp, segment_key, transmission_key}
use Rattle.society_core.specs.declared.segment_key.SegmentKey.{SegmentKey}
use Rattle.society_core.specs.declared.transmission_key.TransmissionKey.{TransmissionKey}
use Rattle.society_core.proofs.lemmas.Books.{AllBelow, front_fits, order_fits, some_body, sound_order, stated_order, taken_order}
use Rattle.society_core.proofs.lemmas.Fronts.{all_there, front_gap, front_led, front_only}
use Rattle.society_core.proofs.lemmas.KeyOrders.{exact_segments, exact_transmissions, segments_total, transmissions_total}
use Rattle.society_core.proofs.lemmas.Inserts.{inserted_from, inserted_keeps, tied}

none_or : (o : Option ℕ) → is_some o ≡ false → 0 ≡ unwrap_or o 0
none_or None h = refl
none_or (Some n) h = absurd (false≢true (sym h))

pub zero_kept : (old new : BTreeMap (List ℕ) ℕ) (sender : List ℕ) → ((q : List ℕ) → tree.get bytes_cmp new q ≡ cond (is_at (bytes_cmp sender) q) (Some 0) (tree.get bytes_cmp old q)) → is_some (tree.get bytes_cmp old sender) ≡ false → (s : List ℕ) → unwrap_or (tree.get bytes_cmp new s) 0 ≡ unwrap_or (tree.get bytes_cmp old s) 0
zero_kept old new sender puts free s =
    ⊎_elim
    (λ (here : is_at (bytes_cmp sender) s ≡ true).
    let same : sender ≡ s = exact_bytes sender s (tied (bytes_cmp sender s) here) in
    ap (λ (o : Option ℕ). unwrap_or o 0) (puts s ∙ ap (λ (t : Bool). cond t (Some 0) (tree.get bytes_cmp old s)) here)
    ∙ none_or (tree.get bytes_cmp old s) (subst (λ (q : List ℕ). is_some (tree.get bytes_cmp old q) ≡ false) same free))
    (λ (there : is_at (bytes_cmp sender) s ≡ false).
    ap (λ (o : Option ℕ). unwrap_or o 0) (puts s ∙ ap (λ (t : Bool). cond t (Some 0) (tree.get bytes_cmp old s)) there))
    (cases_Bool (is_at (bytes_cmp sender) s))

-- a front is within the end of its segment
pub kept_front_fits : (m : Transmissions) (ends : Ends) (s : List ℕ) → AreOrderly m ends s → IsWithinEnd (ends_among ends s) (front_in m ends s)
kept_front_fits m ends s order =
    let book : Book = record { transmissions = m; ends = ends; returns = finite.empty; pools = finite.empty } in
    front_fits book book s order.right (order_fits book s order) (λ k there. there)

-- ends that say the same of a sender, and transmissions that are the same of it, give it one front
pub same_front : (m n : Transmissions) (ends others : Ends) (s : List ℕ) → AreOrderly n others s
    → ((k : ℕ) → is_among m s k ≡ is_among n s k) → ((g : ℕ) → ends_among ends s g ≡ ends_among others s g)
    → AreOrderly m ends s → front_in m ends s ≡ front_in n others s
same_front m n ends others s order there stated before =
    front_only n others s order.right (front_in m ends s)
    (still_reached (ends_among ends s) (ends_among others s) (λ g e is. sym (stated g) ∙ is) (is_among m s) (is_among n s) (λ k h. sym (there k) ∙ h) (front_in m ends s) (all_there m ends s))
    (let gap = front_gap m ends s before in
    record { missing = sym (there (front_in m ends s + 1)) ∙ gap.missing; before_end = λ e is. gap.before_end e (stated (segment_of (front_in m ends s)) ∙ is) })

-- of another sender nothing comes
module _ (m : Transmissions) (key : TransmissionKey) (body : List ℕ) (t : List ℕ) (free : finite.get m key ≡ None) (apart : t ≢ key.sender) where
  pub other_there : (k : ℕ) → is_among m t k ≡ is_among (finite.insert m key body) t k
  other_there k = by_case (finite.get (finite.insert m key body) (transmission_key t k)) refl
    where
      by_case : (o : Option (List ℕ)) → finite.get (finite.insert m key body) (transmission_key t k) ≡ o → is_among m t k ≡ is_some o
      by_case (Some x) is =
          ⊎_elim
          (λ (now : (transmission_key t k ≡ key) × (body ≡ x)). absurd (apart (ap (λ (q : TransmissionKey). q.sender) now.0)))
          (λ (before : finite.get m (transmission_key t k) ≡ Some x). ap is_some before)
          (inserted_from transmissions_total exact_transmissions m key body (transmission_key t k) x is)
      by_case None is = none (finite.get m (transmission_key t k)) refl
        where
          apart_none : (x : List ℕ) → ◌≡◌ {A = Option (List ℕ)} None (Some x) → ⊥
          apart_none x e = cc

          none : (o : Option (List ℕ)) → finite.get m (transmission_key t k) ≡ o → is_some o ≡ false
          none None e = refl
          none (Some x) e = absurd (apart_none x (sym is ∙ inserted_keeps transmissions_total exact_transmissions m key body (transmission_key t k) x free e))

module _ (ends : Ends) (key : SegmentKey) (end : End) (t : List ℕ) (free : finite.get ends key ≡ None) (apart : t ≢ key.sender) where
  pub other_stated : (g : ℕ) → ends_among ends t g ≡ ends_among (finite.insert ends key end) t g
  other_stated g = by_case (finite.get (finite.insert ends key end) (segment_key t g)) refl
    where
      by_case : (o : Option End) → finite.get (finite.insert ends key end) (segment_key t g) ≡ o → ends_among ends t g ≡ o
      by_case (Some x) is =
          ⊎_elim
          (λ (now : (segment_key t g ≡ key) × (end ≡ x)). absurd (apart (ap (λ (q : SegmentKey). q.sender) now.0)))
          (λ (before : finite.get ends (segment_key t g) ≡ Some x). before)
          (inserted_from segments_total exact_segments ends key end (segment_key t g) x is)
      by_case None is = none (finite.get ends (segment_key t g)) refl
        where
          apart_none : (x : End) → ◌≡◌ {A = Option End} None (Some x) → ⊥
          apart_none x e = cc

          none : (o : Option End) → finite.get ends (segment_key t g) ≡ o → o ≡ None
          none None e = refl
          none (Some x) e = absurd (apart_none x (sym is ∙ inserted_keeps segments_total exact_segments ends key end (segment_key t g) x free e))

-- a sender's front is still reached when a transmission comes
pub taken_reaches : (m : Transmissions) (ends : Ends) (key : TransmissionKey) (body : List ℕ) → finite.get m key ≡ None → is_reached (is_among (finite.insert m key body) key.sender) (ends_among ends key.sender) (front_in m ends key.sender) ≡ true
taken_reaches m ends key body free =
    still_reached (ends_among ends key.sender) (ends_among ends key.sender) (λ g e is. is) (is_among m key.sender) (is_among (finite.insert m key body) key.sender)
    (λ k there. let found = some_body (finite.get m (transmission_key key.sender k)) there in ap is_some (inserted_keeps transmissions_total exact_transmissions m key body (transmission_key key.sender k) found.0 free found.1))
    (front_in m ends key.sender) (all_there m ends key.sender)

-- and when an end comes
pub stated_reaches : (m : Transmissions) (ends : Ends) (key : SegmentKey) (end : End) → finite.get ends key ≡ None → is_reached (is_among m key.sender) (ends_among (finite.insert ends key end) key.sender) (front_in m ends key.sender) ≡ true
stated_reaches m ends key end free =
    still_reached (ends_among ends key.sender) (ends_among (finite.insert ends key end) key.sender)
    (λ g e is. inserted_keeps segments_total exact_segments ends key end (segment_key key.sender g) e free is)
    (is_among m key.sender) (is_among m key.sender) (λ k there. there)
    (front_in m ends key.sender) (all_there m ends key.sender)

-- another sender's front stays when a transmission comes
pub other_front : (b : Book) (s : List ℕ) (n : ℕ) (body : List ℕ) → IsSound b → body_at b s n ≡ None → is_entry s n body ≡ true → IsWithinEnd (ends_of b s) n → (t : List ℕ) → t ≢ s → front b t ≡ front (with_transmission b s n body) t
other_front b s n body sound free entry fits t apart =
    same_front b.transmissions (with_transmission b s n body).transmissions b.ends b.ends t (taken_order b s n body sound free entry fits t)
    (other_there b.transmissions (transmission_key s n) body t free apart) (λ g. refl) (sound_order b sound t)

-- and when an end comes, with its line
pub other_end_front : (b : Book) (s : List ℕ) (g : ℕ) (end : End) → IsSound b → end_at b s g ≡ None → is_end_entry s g end ≡ true → AllBelow b s g end → (t : List ℕ) → t ≢ s
    → (front b t ≡ front (with_end b s g end) t) × (line b t ≡ line (with_end b s g end) t)
unfolding line
other_end_front b s g end sound free entry below t apart =
    let after = with_end b s g end in
    let stated = other_stated b.ends (segment_key s g) end t free apart in
    let same = same_front b.transmissions b.transmissions b.ends after.ends t (stated_order b s g end sound free entry below t) (λ k. refl) stated (sound_order b sound t) in
    let numbers = same_numbers (ends_of b t) (ends_of after t) (λ h e is. sym (stated h) ∙ is) (front b t) (front_led b.transmissions b.ends t) in
    (same, ap (λ (ns : List ℕ). filter (is_one_of ns) (numbers_of b t)) (sym numbers.0 ∙ ap (λ (f : ℕ). numbers_up_to (ends_of after t) f) same))

-- so the fronts that are kept are those of what is kept then, where those of the others stay
pub fronts_raised : (kept new : BTreeMap (List ℕ) ℕ) (m n : Transmissions) (ends others : Ends) (sender : List ℕ) (f : ℕ)
    → ((s : List ℕ) → unwrap_or (tree.get bytes_cmp kept s) 0 ≡ front_in m ends s)
    → ((s : List ℕ) → unwrap_or (tree.get bytes_cmp new s) 0 ≡ cond (is_at (bytes_cmp sender) s) f (unwrap_or (tree.get bytes_cmp kept s) 0))
    → f ≡ front_in n others sender → ((s : List ℕ) → s ≢ sender → front_in m ends s ≡ front_in n others s)
    → (s : List ℕ) → unwrap_or (tree.get bytes_cmp new s) 0 ≡ front_in n others s
fronts_raised kept new m n ends others sender f are puts is stay s =
    ⊎_elim
    (λ (here : is_at (bytes_cmp sender) s ≡ true).
    let same : sender ≡ s = exact_bytes sender s (tied (bytes_cmp sender s) here) in
    puts s ∙ ap (λ (c : Bool). cond c f (unwrap_or (tree.get bytes_cmp kept s) 0)) here ∙ is ∙ ap (front_in n others) same)
    (λ (there : is_at (bytes_cmp sender) s ≡ false).
    puts s ∙ ap (λ (c : Bool). cond c f (unwrap_or (tree.get bytes_cmp kept s) 0)) there
    ∙ are s ∙ stay s (λ same. false≢true (sym there ∙ subst (λ (q : List ℕ). is_at (bytes_cmp sender) q ≡ true) (sym same) (ap is_eq (tied_itself nat_list_cmp_total sender)))))
    (cases_Bool (is_at (bytes_cmp sender) s))
