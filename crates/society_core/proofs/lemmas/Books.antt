-- Which books are sound.
use Rattle.std.proofs.Common.{◌<◌, ◌≤◌, ◌⊎◌, inl, inr, ◌&&◌, ◌||◌, ◌++◌, nat_le, nat_lt, arith, append-nil, filter, is_some, is_none, ◌≡◌, ℕ, Bool, true, false, List, [], ◌∷◌, Option, Some, None, refl, ap, sym, subst, ◌∙◌, ⊎_elim}
use Rattle.std.specs.FinMap as finite
use Rattle.std.specs.List.{list_all}
use Rattle.std.specs.Ordering.{nat_cmp}
use Rattle.std.specs.Cmp.{nat_cmp_total}
use Rattle.std.proofs.lemmas.Bool.{cases_lt, false≢true}
use Rattle.std.proofs.lemmas.Bool.Decides.{nat_tests}
use Rattle.std.proofs.lemmas.List.Elements.{filter-append}
use Rattle.cwr_files.specs.FileFault.{file_fault}
use Rattle.work_ids.specs.Numbers.{is_pool_number}
use Rattle.work_ids.specs.Segments.{greatest_rank, is_transmission_number, most_in, segment_of, sequence_of}
use Rattle.work_ids.specs.SenderKey.{is_sender_key}
use Rattle.sender_segments.specs.Ascends.{Ascends}
use Rattle.sender_segments.specs.Ways.{AreRight, End, IsWithinEnd, leads_to, numbers_up_to}
use Rattle.sender_segments.proofs.lemmas.Grows.{same_numbers, still_reached}
use Rattle.sender_segments.proofs.lemmas.LedTo.{has_itself}
use Rattle.sender_segments.proofs.lemmas.Reached.{continues}
use Rattle.society_core.specs.Book.{AreOrderly, Book, IsSound, body_at, empty_book, end_at, ends_of, front, is_applied, is_end_entry, is_entry, is_in_line, is_one_of, is_pool_entry, is_return_entry, is_there, line, numbers_to, order_at, return_at, with_end, with_pool, with_return, with_transmission}
use Rattle.society_core.specs.Keys.{return_cmp, segment_cmp, segment_key, transmission_cmp, transmission_key}
use Rattle.society_core.specs.Orders.{IsOrder, Order, names_return}
use Rattle.society_core.specs.declared.return_key.ReturnKey.{ReturnKey}
use Rattle.society_core.specs.declared.segment_key.SegmentKey.{SegmentKey}
use Rattle.society_core.specs.declared.transmission_key.TransmissionKey.{TransmissionKey}
use Rattle.society_core.proofs.lemmas.Fronts.{all_there, both_hold, first_holds, front_led, front_only, front_reaches, front_within, second_holds}
use Rattle.society_core.proofs.lemmas.LineNumbers.{in_line_is, line_is, none_up_to, one_of_either, there_in_line}
use Rattle.society_core.proofs.lemmas.Inserts.{inserted_from, inserted_keeps}
use Rattle.society_core.proofs.lemmas.KeyOrders.{exact_numbers, exact_returns, exact_segments, exact_transmissions, returns_total, segments_total, transmissions_total}

-- nothing is there in the empty book
pub nothing_there : (s : List ℕ) (n : ℕ) → body_at empty_book s n ≡ None
nothing_there s n = finite.get-empty transmission_cmp (transmission_key s n)

none_found : {X : Type 0} (x : X) → ◌≡◌ {A = Option X} None (Some x) → ⊥
none_found x e = cc

pub empty_book_sound : IsSound empty_book
empty_book_sound = record {
  transmissions = λ s n body there. absurd (none_found body (sym (nothing_there s n) ∙ there));
  ends = λ s g end there. absurd (none_found end (sym (finite.get-empty segment_cmp (segment_key s g)) ∙ there));
  within = λ s n there end stated. absurd (none_found end (sym (finite.get-empty segment_cmp (segment_key s (segment_of n))) ∙ stated));
  returns = λ key body there. absurd (none_found body (sym (finite.get-empty return_cmp key) ∙ there));
  pools = λ pool order there. absurd (none_found order (sym (finite.get-empty nat_cmp pool) ∙ there));
  orders = λ pool order there. absurd (none_found order (sym (finite.get-empty nat_cmp pool) ∙ there));
  paid_once = λ pool other order another key there also one two. absurd (none_found order (sym (finite.get-empty nat_cmp pool) ∙ there));
}

-- a test that passes more passes all that another one passed
pub all_more : {X : Type 0} (p q : X → Bool) (xs : List X) → ((x : X) → p x ≡ true → q x ≡ true) → list_all p xs ≡ true → list_all q xs ≡ true
all_more p q [] more h = refl
all_more p q (x ∷ xs) more h =
    both_hold (q x) (list_all q xs) (more x (first_holds (p x) (list_all p xs) h)) (all_more p q xs more (second_holds (p x) (list_all p xs) h))

-- what is there stays there when a transmission comes under a free number
pub added_keeps : (b : Book) (s : List ℕ) (n : ℕ) (body : List ℕ) → body_at b s n ≡ None → (t : List ℕ) (m : ℕ) (x : List ℕ) → body_at b t m ≡ Some x → body_at (with_transmission b s n body) t m ≡ Some x
added_keeps b s n body free t m x there =
    inserted_keeps transmissions_total exact_transmissions b.transmissions (transmission_key s n) body (transmission_key t m) x free there

-- a body that is there
pub some_body : (o : Option (List ℕ)) → is_some o ≡ true → (x : List ℕ) × (o ≡ Some x)
some_body None h = absurd (false≢true h)
some_body (Some x) h = (x, refl)

-- an end that is stated stays when another comes
pub stated_keeps : (b : Book) (s : List ℕ) (g : ℕ) (end : End) → end_at b s g ≡ None → (t : List ℕ) (h : ℕ) (x : End) → end_at b t h ≡ Some x → end_at (with_end b s g end) t h ≡ Some x
stated_keeps b s g end free t h x there =
    inserted_keeps segments_total exact_segments b.ends (segment_key s g) end (segment_key t h) x free there

four_hold : (a b c d e : Bool) → (a && b && c && d && e) ≡ true → (a ≡ true) × (b ≡ true) × (c ≡ true) × (d ≡ true) × (e ≡ true)
four_hold true true true true true h = (refl, refl, refl, refl, refl)
four_hold true true true true false h = absurd (false≢true h)
four_hold true true true false e h = absurd (false≢true h)
four_hold true true false d e h = absurd (false≢true h)
four_hold true false c d e h = absurd (false≢true h)
four_hold false b c d e h = absurd (false≢true h)

le_of : (a b : ℕ) → nat_le a b ≡ true → a ≤ b
le_of a b h = grind (arith, nat_tests)

lt_of : (a b : ℕ) → nat_lt a b ≡ true → a < b
lt_of a b h = grind (arith, nat_tests)

-- what a sound book says of an end
pub record IsEnd (sender : List ℕ) (segment : ℕ) (end : End) : Type 0 where
  pub key : is_sender_key sender ≡ true
  pub place : segment ≤ 100
  pub last : end.last ≤ most_in segment
  pub later : segment < end.next
  pub year : end.next ≤ 100

pub end_says : (s : List ℕ) (g : ℕ) (end : End) → is_end_entry s g end ≡ true → IsEnd s g end
end_says s g end h =
    let parts = four_hold (is_sender_key s) (nat_le g 100) (nat_le end.last (most_in g)) (nat_lt g end.next) (nat_le end.next 100) h in
    record { key = parts.0; place = le_of g 100 parts.1; last = le_of end.last (most_in g) parts.2; later = lt_of g end.next parts.3; year = le_of end.next 100 parts.4 }

-- what is kept of a sender of a sound book is in order
pub sound_order : (b : Book) → IsSound b → (s : List ℕ) → AreOrderly b.transmissions b.ends s
sound_order b sound s = record {
  numbers = λ n there.
      let found = some_body (body_at b s n) there in
      second_holds (is_sender_key s) (is_transmission_number n) (first_holds (is_sender_key s && is_transmission_number n) (is_none (file_fault s found.0)) (sound.transmissions s n found.0 found.1));
  right = record {
    within = λ g end stated. (end_says s g end (sound.ends s g end stated)).last;
    later = λ g end stated. (end_says s g end (sound.ends s g end stated)).later;
  };
  years = λ g end stated. (end_says s g end (sound.ends s g end stated)).year;
  within = λ n there. sound.within s n there;
}

-- a front that is a number of its segment is there
pub front_there : (b : Book) (s : List ℕ) → AreRight (ends_of b s) → 1 ≤ sequence_of (front b s) → is_there b s (front b s) ≡ true
front_there b s right some = there_in_line b s (front b s) (in_line_is b s (front b s) ∙ has_itself (ends_of b s) right (front b s) some)

-- what is kept of a sender leads on by right ends, and no number is above the end of its segment
pub record AreFitting (b : Book) (s : List ℕ) : Type 0 where
  pub right : AreRight (ends_of b s)
  pub within : (n : ℕ) → is_there b s n ≡ true → IsWithinEnd (ends_of b s) n

pub order_fits : (b : Book) (s : List ℕ) → AreOrderly b.transmissions b.ends s → AreFitting b s
order_fits b s order = record { right = order.right; within = order.within }

-- so it is within the end of its segment, in each book that has it
pub front_fits : (b c : Book) (s : List ℕ) → AreRight (ends_of b s) → AreFitting c s → ((k : ℕ) → is_there b s k ≡ true → is_there c s k ≡ true) → IsWithinEnd (ends_of c s) (front b s)
front_fits b c s right fits more e stated =
    ⊎_elim
    (λ (none : sequence_of (front b s) < 1). omega (arith, none))
    (λ (some : 1 ≤ sequence_of (front b s)). fits.within (front b s) (more (front b s) (front_there b s right some)) e stated)
    (cases_lt (sequence_of (front b s)) 1)

-- where nothing is taken away, a sender's line goes on
pub record GrowsTo (b c : Book) (s : List ℕ) : Type 0 where
  pub more : List ℕ
  pub is : line c s ≡ line b s ++ more
  pub rises : Ascends (front b s) more (front c s)

pub line_grows : (b c : Book) (s : List ℕ) → AreRight (ends_of b s) → AreFitting c s
    → ((k : ℕ) → is_there b s k ≡ true → is_there c s k ≡ true) → ((g : ℕ) (e : End) → end_at b s g ≡ Some e → end_at c s g ≡ Some e)
    → GrowsTo b c s
line_grows b c s right fits more keeps =
    let f = front b s in
    let still = still_reached (ends_of b s) (ends_of c s) keeps (is_there b s) (is_there c s) more f (all_there b.transmissions b.ends s) in
    let above = front_reaches c.transmissions c.ends s fits.right f still in
    let on = continues (ends_of c s) fits.right f (front c s) above (first_holds (leads_to (ends_of c s) f) (list_all (is_there c s) (numbers_up_to (ends_of c s) f)) still) (front_led c.transmissions c.ends s) (front_fits b c s right fits more) in
    let same = same_numbers (ends_of b s) (ends_of c s) keeps f (front_led b.transmissions b.ends s) in
    record { more = on.more; is = line_is c s fits.right ∙ on.is ∙ ap (λ (l : List ℕ). l ++ on.more) (same.0 ∙ sym (line_is b s right)); rises = on.rises }

-- so what is in it stays in it
pub grown_keeps : (b c : Book) (s : List ℕ) → GrowsTo b c s → (n : ℕ) → is_in_line b s n ≡ true → is_in_line c s n ≡ true
grown_keeps b c s grows n h =
    ap (λ (ns : List ℕ). is_one_of ns n) grows.is ∙ one_of_either (line b s) grows.more n ∙ ap (λ (t : Bool). t || is_one_of grows.more n) h

-- and the numbers up to one of it are the same
pub grown_numbers : (b c : Book) (s : List ℕ) → GrowsTo b c s → (n : ℕ) → n ≤ front b s → numbers_to c s n ≡ numbers_to b s n
grown_numbers b c s grows n le =
    ap (filter (λ m. nat_le m n)) grows.is
    ∙ filter-append (λ m. nat_le m n) (line b s) grows.more
    ∙ ap (λ (l : List ℕ). numbers_to b s n ++ l) (none_up_to (front b s) (front c s) n grows.more grows.rises le)
    ∙ append-nil (numbers_to b s n)

-- what is kept of each sender is in order when a transmission comes that may stand there and is within the end of its segment
pub taken_order : (b : Book) (s : List ℕ) (n : ℕ) (body : List ℕ) → IsSound b → body_at b s n ≡ None → is_entry s n body ≡ true → IsWithinEnd (ends_of b s) n
    → (t : List ℕ) → AreOrderly (with_transmission b s n body).transmissions b.ends t
taken_order b s n body sound free entry fits t =
    let before = sound_order b sound t in
    record {
      numbers = λ k there. either k there (λ j. is_transmission_number j ≡ true) (second_holds (is_sender_key s) (is_transmission_number n) (first_holds (is_sender_key s && is_transmission_number n) (is_none (file_fault s body)) entry)) before.numbers;
      right = before.right;
      years = before.years;
      within = λ k there e stated. fits_own k there e stated;
    }
  where
    came : (k : ℕ) → is_there (with_transmission b s n body) t k ≡ true → ((t ≡ s) × (k ≡ n)) ⊎ (is_there b t k ≡ true)
    came k there =
        let found = some_body (body_at (with_transmission b s n body) t k) there in
        ⊎_elim
        (λ (now : (transmission_key t k ≡ transmission_key s n) × (body ≡ found.0)). inl (ap (λ (key : TransmissionKey). key.sender) now.0, ap (λ (key : TransmissionKey). key.number) now.0))
        (λ (earlier : body_at b t k ≡ Some found.0). inr (ap is_some earlier))
        (inserted_from transmissions_total exact_transmissions b.transmissions (transmission_key s n) body (transmission_key t k) found.0 found.1)

    either : (k : ℕ) → is_there (with_transmission b s n body) t k ≡ true → (P : ℕ → Type 0) → P n → ((j : ℕ) → is_there b t j ≡ true → P j) → P k
    either k there P its before =
        ⊎_elim (λ (now : (t ≡ s) × (k ≡ n)). subst P (sym now.1) its) (λ (earlier : is_there b t k ≡ true). before k earlier) (came k there)

    fits_own : (k : ℕ) → is_there (with_transmission b s n body) t k ≡ true → IsWithinEnd (ends_of b t) k
    fits_own k there =
        ⊎_elim
        (λ (now : (t ≡ s) × (k ≡ n)). subst (λ (q : List ℕ). IsWithinEnd (ends_of b q) k) (sym now.0) (subst (λ (j : ℕ). IsWithinEnd (ends_of b s) j) (sym now.1) fits))
        (λ (earlier : is_there b t k ≡ true). sound.within t k earlier)
        (came k there)

-- a line goes on when a transmission comes
pub taken_grows : (b : Book) (s : List ℕ) (n : ℕ) (body : List ℕ) → IsSound b → body_at b s n ≡ None → is_entry s n body ≡ true → IsWithinEnd (ends_of b s) n → (t : List ℕ) → GrowsTo b (with_transmission b s n body) t
taken_grows b s n body sound free entry fits t =
    line_grows b (with_transmission b s n body) t (sound_order b sound t).right (order_fits (with_transmission b s n body) t (taken_order b s n body sound free entry fits t))
    (λ k there. let found = some_body (body_at b t k) there in ap is_some (added_keeps b s n body free t k found.0 found.1))
    (λ g e stated. stated)

-- and so it is when an end comes that may stand there and is below no number of its segment
abbrev pub AllBelow : Book → List ℕ → ℕ → End → Type 0
AllBelow b s g end = (n : ℕ) → is_there b s n ≡ true → segment_of n ≡ g → sequence_of n ≤ end.last

stated_came : (b : Book) (s : List ℕ) (g : ℕ) (end : End) (t : List ℕ) (h : ℕ) (x : End) → end_at (with_end b s g end) t h ≡ Some x → ((t ≡ s) × (h ≡ g) × (end ≡ x)) ⊎ (end_at b t h ≡ Some x)
stated_came b s g end t h x stated =
    ⊎_elim
    (λ (now : (segment_key t h ≡ segment_key s g) × (end ≡ x)). inl (ap (λ (key : SegmentKey). key.sender) now.0, ap (λ (key : SegmentKey). key.segment) now.0, now.1))
    (λ (before : end_at b t h ≡ Some x). inr before)
    (inserted_from segments_total exact_segments b.ends (segment_key s g) end (segment_key t h) x stated)

pub stated_order : (b : Book) (s : List ℕ) (g : ℕ) (end : End) → IsSound b → end_at b s g ≡ None → is_end_entry s g end ≡ true → AllBelow b s g end
    → (t : List ℕ) → AreOrderly b.transmissions (with_end b s g end).ends t
stated_order b s g end sound free entry below t =
    let before = sound_order b sound t in
    let says = end_says s g end entry in
    record {
      numbers = before.numbers;
      right = record {
        within = λ h x stated. either h x stated (λ i y. y.last ≤ most_in i) says.last before.right.within;
        later = λ h x stated. either h x stated (λ i y. i < y.next) says.later before.right.later;
      };
      years = λ h x stated. either h x stated (λ i y. y.next ≤ 100) says.year before.years;
      within = λ n there x stated. fits n there x (stated_came b s g end t (segment_of n) x stated);
    }
  where
    either : (h : ℕ) (x : End) → end_at (with_end b s g end) t h ≡ Some x → (P : ℕ → End → Type 0) → P g end → ((i : ℕ) (y : End) → end_at b t i ≡ Some y → P i y) → P h x
    either h x stated P its before =
        ⊎_elim
        (λ (now : (t ≡ s) × (h ≡ g) × (end ≡ x)). subst (λ (i : ℕ). P i x) (sym now.1) (subst (P g) now.2 its))
        (λ (earlier : end_at b t h ≡ Some x). before h x earlier)
        (stated_came b s g end t h x stated)

    fits : (n : ℕ) → is_there b t n ≡ true → (x : End) → ((t ≡ s) × (segment_of n ≡ g) × (end ≡ x)) ⊎ (end_at b t (segment_of n) ≡ Some x) → sequence_of n ≤ x.last
    fits n there x (inl now) = subst (λ (y : End). sequence_of n ≤ y.last) now.2 (below n (subst (λ (q : List ℕ). is_there b q n ≡ true) now.0 there) now.1)
    fits n there x (inr earlier) = sound.within t n there x earlier

pub stated_grows : (b : Book) (s : List ℕ) (g : ℕ) (end : End) → IsSound b → end_at b s g ≡ None → is_end_entry s g end ≡ true → AllBelow b s g end → (t : List ℕ) → GrowsTo b (with_end b s g end) t
stated_grows b s g end sound free entry below t =
    line_grows b (with_end b s g end) t (sound_order b sound t).right (order_fits (with_end b s g end) t (stated_order b s g end sound free entry below t))
    (λ k there. there)
    (λ h e stated. stated_keeps b s g end free t h e stated)

-- the three tests of an entry
three_hold : (a b c d : Bool) → (a && b && c) ≡ true → (b ≡ true → d ≡ true) → (a && d && c) ≡ true
three_hold true true true d h more = ap (λ x. true && x && true) (more refl) ∙ refl
three_hold true true false d h more = absurd (false≢true h)
three_hold true false c d h more = absurd (false≢true h)
three_hold false b c d h more = absurd (false≢true h)

last_of_three : (a b c d : Bool) → (a && b && c) ≡ true → (c ≡ true → d ≡ true) → (a && b && d) ≡ true
last_of_three true true c d h more = more h
last_of_three true false c d h more = absurd (false≢true h)
last_of_three false b c d h more = absurd (false≢true h)

-- an order stands in a book whose senders' lines go on
entry_stays : (b c : Book) → ((t : List ℕ) → GrowsTo b c t) → c.returns ≡ b.returns → (pool : ℕ) (order : Order) → is_pool_entry b pool order ≡ true → is_pool_entry c pool order ≡ true
entry_stays b c grows same pool order h =
    ap (λ m. is_pool_number pool && list_all (is_applied c) order.cut && list_all (λ key. is_some (finite.get m key)) order.returns) same
    ∙ three_hold (is_pool_number pool) (list_all (is_applied b) order.cut) (list_all (λ key. is_some (return_at b key)) order.returns)
    (list_all (is_applied c) order.cut) h
    (all_more (is_applied b) (is_applied c) order.cut (λ key. grown_keeps b c key.sender (grows key.sender) key.number))

-- a sound book is sound with one transmission more
pub sound_with : (b : Book) (s : List ℕ) (n : ℕ) (body : List ℕ) → IsSound b → body_at b s n ≡ None → is_entry s n body ≡ true → IsWithinEnd (ends_of b s) n → IsSound (with_transmission b s n body)
sound_with b s n body sound free entry fits = record {
  transmissions = λ t m other there.
      ⊎_elim
      (λ (now : (transmission_key t m ≡ transmission_key s n) × (body ≡ other)).
      subst (λ (x : List ℕ). is_entry t m x ≡ true) now.1
      (subst (λ (key : TransmissionKey). is_entry key.sender key.number body ≡ true) (sym now.0) entry))
      (λ (before : body_at b t m ≡ Some other). sound.transmissions t m other before)
      (inserted_from transmissions_total exact_transmissions b.transmissions (transmission_key s n) body (transmission_key t m) other there);
  ends = sound.ends;
  within = λ t m there. (taken_order b s n body sound free entry fits t).within m there;
  returns = sound.returns;
  pools = λ pool order there. entry_stays b (with_transmission b s n body) (taken_grows b s n body sound free entry fits) refl pool order (sound.pools pool order there);
  orders = sound.orders;
  paid_once = sound.paid_once;
}

-- a sound book is sound with one end more
pub sound_with_end : (b : Book) (s : List ℕ) (g : ℕ) (end : End) → IsSound b → end_at b s g ≡ None → is_end_entry s g end ≡ true → AllBelow b s g end → IsSound (with_end b s g end)
sound_with_end b s g end sound free entry below = record {
  transmissions = sound.transmissions;
  ends = λ t h x stated.
      ⊎_elim
      (λ (now : (t ≡ s) × (h ≡ g) × (end ≡ x)).
      subst (λ (q : List ℕ). is_end_entry q h x ≡ true) (sym now.0) (subst (λ (i : ℕ). is_end_entry s i x ≡ true) (sym now.1) (subst (λ (y : End). is_end_entry s g y ≡ true) now.2 entry)))
      (λ (before : end_at b t h ≡ Some x). sound.ends t h x before)
      (stated_came b s g end t h x stated);
  within = λ t m there. (stated_order b s g end sound free entry below t).within m there;
  returns = sound.returns;
  pools = λ pool order there. entry_stays b (with_end b s g end) (stated_grows b s g end sound free entry below) refl pool order (sound.pools pool order there);
  orders = sound.orders;
  paid_once = sound.paid_once;
}

-- a sound book is sound with one return more
pub sound_with_return : (b : Book) (key : ReturnKey) (body : List ℕ) → IsSound b → return_at b key ≡ None → is_return_entry key body ≡ true → IsSound (with_return b key body)
unfolding line
sound_with_return b key body sound free entry = record {
  transmissions = sound.transmissions;
  ends = sound.ends;
  within = sound.within;
  returns = λ other found there.
      ⊎_elim
      (λ (now : (other ≡ key) × (body ≡ found)).
      subst (λ (x : List ℕ). is_return_entry other x ≡ true) now.1
      (subst (λ (k : ReturnKey). is_return_entry k body ≡ true) (sym now.0) entry))
      (λ (before : return_at b other ≡ Some found). sound.returns other found before)
      (inserted_from returns_total exact_returns b.returns key body other found there);
  pools = λ pool order there.
      last_of_three (is_pool_number pool) (list_all (is_applied b) order.cut) (list_all (λ k. is_some (return_at b k)) order.returns)
      (list_all (λ k. is_some (return_at (with_return b key body) k)) order.returns) (sound.pools pool order there)
      (all_more (λ (k : ReturnKey). is_some (return_at b k)) (λ (k : ReturnKey). is_some (return_at (with_return b key body) k)) order.returns
      (λ k is. let found = some_body (return_at b k) is in ap is_some (inserted_keeps returns_total exact_returns b.returns key body k found.0 free found.1)));
  orders = sound.orders;
  paid_once = sound.paid_once;
}

-- a sound book is sound with one pool more that may stand in it and whose returns no other pool names
pub sound_with_pool : (b : Book) (pool : ℕ) (order : Order) → IsSound b → is_pool_entry b pool order ≡ true → IsOrder order → ((other : ℕ) (another : Order) (key : ReturnKey) → order_at b other ≡ Some another → names_return key order ≡ true → names_return key another ≡ true → ⊥) → IsSound (with_pool b pool order)
unfolding line
sound_with_pool b pool order sound entry is unpaid = record {
  transmissions = sound.transmissions;
  ends = sound.ends;
  within = sound.within;
  returns = sound.returns;
  pools = λ other another there.
      ⊎_elim
      (λ (now : (other ≡ pool) × (order ≡ another)).
      subst (λ (o : Order). is_pool_entry b other o ≡ true) now.1 (subst (λ (p : ℕ). is_pool_entry b p order ≡ true) (sym now.0) entry))
      (λ (before : order_at b other ≡ Some another). sound.pools other another before)
      (from other another there);
  orders = λ other another there.
      ⊎_elim
      (λ (now : (other ≡ pool) × (order ≡ another)). subst IsOrder now.1 is)
      (λ (before : order_at b other ≡ Some another). sound.orders other another before)
      (from other another there);
  paid_once = λ p q one two key there also names also_names.
      ⊎_elim
      (λ (now : (p ≡ pool) × (order ≡ one)).
      ⊎_elim
      (λ (too : (q ≡ pool) × (order ≡ two)). now.0 ∙ sym too.0)
      (λ (before : order_at b q ≡ Some two). absurd (unpaid q two key before (subst (λ (o : Order). names_return key o ≡ true) (sym now.1) names) also_names))
      (from q two also))
      (λ (before : order_at b p ≡ Some one).
      ⊎_elim
      (λ (too : (q ≡ pool) × (order ≡ two)). absurd (unpaid p one key before (subst (λ (o : Order). names_return key o ≡ true) (sym too.1) also_names) names))
      (λ (earlier : order_at b q ≡ Some two). sound.paid_once p q one two key before earlier names also_names)
      (from q two also))
      (from p one there);
}
  where
    from : (q : ℕ) (o : Order) → order_at (with_pool b pool order) q ≡ Some o → ((q ≡ pool) × (order ≡ o)) ⊎ (order_at b q ≡ Some o)
    from q o there = inserted_from nat_cmp_total exact_numbers b.pools pool order q o there

-- in a sound book no front is past the last number of the last year
pub sound_front : (b : Book) (s : List ℕ) → IsSound b → front b s ≤ greatest_rank
sound_front b s sound = front_within b.transmissions b.ends s (sound_order b sound s)

none_is : {A : Type 0} (o : Option A) → is_none o ≡ true → o ≡ None
none_is None e = refl
none_is (Some x) e = absurd (false≢true e)

-- a kept body is a transmission of its sender
pub right_body : (b : Book) (s : List ℕ) (n : ℕ) (body : List ℕ) → IsSound b → body_at b s n ≡ Some body → file_fault s body ≡ None
right_body b s n body sound there = none_is (file_fault s body) (second_holds (is_sender_key s && is_transmission_number n) (is_none (file_fault s body)) (sound.transmissions s n body there))

-- nothing has come of anybody in the empty book
pub no_front : (s : List ℕ) → 0 ≡ front empty_book s
no_front s =
    front_only empty_book.transmissions empty_book.ends s (sound_order empty_book empty_book_sound s).right 0 refl
    (record { missing = ap is_some (nothing_there s 1); before_end = λ e stated. absurd (none_found e (sym (finite.get-empty segment_cmp (segment_key s 0)) ∙ stated)) })
