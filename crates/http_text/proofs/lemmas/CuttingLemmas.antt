-- Bytes are cut into requests in one way.
use Rattle.std.proofs.Common.{◌≡◌, ◌≢◌, inl, inr, ℕ, true, false, List, [], ◌∷◌, ◌++◌, Result, Ok, Err, OnErr, length, take, drop, refl, sym, ◌∙◌, ap, subst, arith, append_assoc, length-append}
use Rattle.std.specs.List.{flat_map, AllByRecursion}
use Rattle.std.proofs.lemmas.List.{take_at, drop_at}
use Rattle.httparse.specs.Grammar.{RequestHead, print_request}
use Rattle.http_text.specs.declared.connection_end.End.{End}
use Rattle.http_text.specs.declared.connection_end.End.TheVariants.{Quiet, Closed, Bad, TooLarge, Busy}
use Rattle.http_text.specs.declared.body_length.BodyLength.TheVariants.{Sized, Faulty, Large}
use Rattle.http_text.specs.BodyLength.{body_length, closes}
use Rattle.http_text.specs.Part.{Part, print_part, BeginsWithHead, IsPart, IsOpenPart}
use Rattle.http_text.specs.Reads.{Awaits, ReadsAsRequests, IsRemainder, IsBad, IsTooLarge, IsLast, HasNoPart}
use Rattle.http_text.proofs.lemmas.HeadLemmas.{Begins-unique, print_request-some}

pub begins_of : (part : Part) (bytes rest : List ℕ) → IsPart part → bytes ≡ print_part part ++ rest → BeginsWithHead bytes part.head (part.body ++ rest)
begins_of part bytes rest is e =
    record { reads = (is.valid, e ∙ append_assoc (print_request part.head) part.body rest); short = is.short; few = is.few }

same_size : (m n : ℕ) → Sized m ≡ Sized n → m ≡ n
same_size m n e = cc

same_part : (p q : Part) → p.head ≡ q.head → p.body ≡ q.body → p ≡ q
same_part p q h b = λ i. record { head = h i; body = b i }

part_unique : (p q : Part) (bytes r s : List ℕ) → IsPart p → IsPart q → bytes ≡ print_part p ++ r → bytes ≡ print_part q ++ s → (p ≡ q) × (r ≡ s)
part_unique p q bytes r s a b e f =
    let same = Begins-unique bytes _ _ _ _ (begins_of p bytes r a e) (begins_of q bytes s b f) in
    let long : length p.body ≡ length q.body = same_size _ _ (sym a.body ∙ ap body_length same.0 ∙ b.body) in
    let bodies : p.body ≡ q.body =
    sym (take_at p.body r (length p.body) refl) ∙ ap (λ (v : List ℕ). take (length p.body) v) same.1 ∙ take_at q.body s (length p.body) (sym long) in
    let rests : r ≡ s =
    sym (drop_at p.body r (length p.body) refl) ∙ ap (λ (v : List ℕ). drop (length p.body) v) same.1 ∙ drop_at q.body s (length p.body) (sym long) in
    (same_part p q same.0 bodies, rests)

-- ---- the ends are apart

not_nil : (bytes rest : List ℕ) (head : RequestHead) → BeginsWithHead bytes head rest → bytes ≡ [] → ⊥
not_nil bytes rest head b e =
    omega (arith, ap length b.reads.1, length-append (print_request head) rest, print_request-some head, ap length e)

sized_not_faulty : (n : ℕ) → Sized n ≡ Faulty → ⊥
sized_not_faulty n e = cc

sized_not_large : (n : ℕ) → Sized n ≡ Large → ⊥
sized_not_large n e = cc

faulty_not_large : Faulty ≡ Large → ⊥
faulty_not_large e = cc

bad_not_nil : (bytes : List ℕ) → IsBad bytes → bytes ≡ [] → ⊥
bad_not_nil bytes (inl bad) e = bad.0 e
bad_not_nil bytes (inr bad) e = not_nil bytes bad.1 bad.0 bad.2 e

bad_not_large : (bytes : List ℕ) → IsBad bytes → IsTooLarge bytes → ⊥
bad_not_large bytes (inl bad) large = bad.1 large.0 large.1 large.2
bad_not_large bytes (inr (head, rest, begins, inl faulty)) large =
    faulty_not_large (sym faulty ∙ ap body_length (Begins-unique bytes _ _ _ _ begins large.2).0 ∙ large.3)
bad_not_large bytes (inr (head, rest, begins, inr (size, sized, short))) large =
    sized_not_large size (sym sized ∙ ap body_length (Begins-unique bytes _ _ _ _ begins large.2).0 ∙ large.3)

bad_not_part : (bytes rest : List ℕ) (part : Part) → IsBad bytes → IsPart part → bytes ≡ print_part part ++ rest → ⊥
bad_not_part bytes rest part (inl bad) is e = bad.1 part.head (part.body ++ rest) (begins_of part bytes rest is e)
bad_not_part bytes rest part (inr (head, left, begins, inl faulty)) is e =
    let same = Begins-unique bytes _ _ _ _ begins (begins_of part bytes rest is e) in
    sized_not_faulty _ (sym is.body ∙ ap body_length (sym same.0) ∙ faulty)
bad_not_part bytes rest part (inr (head, left, begins, inr (size, sized, short))) is e =
    let same = Begins-unique bytes _ _ _ _ begins (begins_of part bytes rest is e) in
    let sizes = same_size _ _ (sym sized ∙ ap body_length same.0 ∙ is.body) in
    omega (arith, sizes, short, ap length same.1, length-append part.body rest)

large_not_part : (bytes rest : List ℕ) (part : Part) → IsTooLarge bytes → IsPart part → bytes ≡ print_part part ++ rest → ⊥
large_not_part bytes rest part large is e =
    let same = Begins-unique bytes _ _ _ _ large.2 (begins_of part bytes rest is e) in
    sized_not_large _ (sym is.body ∙ ap body_length (sym same.0) ∙ large.3)

nil_not_part : (bytes rest : List ℕ) (part : Part) → bytes ≡ [] → IsPart part → bytes ≡ print_part part ++ rest → ⊥
nil_not_part bytes rest part nil is e = not_nil bytes (part.body ++ rest) part.head (begins_of part bytes rest is e) nil

-- ---- no whole request yet

-- bytes of which more are awaited hold no request
pub none_while_awaited : (bytes : List ℕ) → Awaits bytes → HasNoPart bytes
none_while_awaited bytes (inl awaits) part rest is e =
    awaits.none part.head (part.body ++ rest) (begins_of part bytes rest is e).reads
none_while_awaited bytes (inr awaits) part rest is e =
    let same = Begins-unique bytes _ _ _ _ awaits.begins (begins_of part bytes rest is e) in
    let sizes = same_size _ _ (sym awaits.sized ∙ ap body_length same.0 ∙ is.body) in
    omega (arith, sizes, awaits.short, ap length same.1, length-append part.body rest)

-- what holds after a call holds where it failed
pub after_failure : {T E : Type 0} (r : Result T E) {P : Type 0} → P → OnErr r P
after_failure (Ok x) p = tt
after_failure (Err e) p = p

-- ---- ends

-- the ends that bytes tell, each with its last requests
data Stops : List ℕ → List Part → End → Type 0 where
  quiet : {bytes : List ℕ} → bytes ≡ [] → Stops bytes [] Quiet
  bad : {bytes : List ℕ} → IsBad bytes → Stops bytes [] Bad
  large : {bytes : List ℕ} → IsTooLarge bytes → Stops bytes [] TooLarge
  last : {bytes : List ℕ} {part : Part} → IsLast bytes part → Stops bytes (part ∷ []) Closed

stops : (society : ℕ) (bytes : List ℕ) (parts : List Part) (end : End) → IsRemainder society bytes parts end → end ≢ Busy → Stops bytes parts end
stops society bytes [] Quiet e n = quiet e
stops society bytes [] Closed e n = absurd e
stops society bytes [] Bad e n = bad e
stops society bytes [] TooLarge e n = large e
stops society bytes [] Busy e n = absurd (n refl)
stops society bytes (part ∷ []) Closed e n = last e
stops society bytes (part ∷ []) Quiet e n = absurd e
stops society bytes (part ∷ []) Bad e n = absurd e
stops society bytes (part ∷ []) TooLarge e n = absurd e
stops society bytes (part ∷ []) Busy e n = absurd e
stops society bytes (part ∷ other ∷ parts) end e n = absurd e

same_stop : (bytes : List ℕ) (ps qs : List Part) (e f : End) → Stops bytes ps e → Stops bytes qs f → (ps ≡ qs) × (e ≡ f)
same_stop bytes _ _ _ _ (quiet a) (quiet b) = (refl, refl)
same_stop bytes _ _ _ _ (quiet a) (bad b) = absurd (bad_not_nil bytes b a)
same_stop bytes _ _ _ _ (quiet a) (large b) = absurd (not_nil bytes b.1 b.0 b.2 a)
same_stop bytes _ _ _ _ (quiet a) (last {part = q} b) = absurd (nil_not_part bytes b.0 q a b.1 b.3)
same_stop bytes _ _ _ _ (bad a) (quiet b) = absurd (bad_not_nil bytes a b)
same_stop bytes _ _ _ _ (bad a) (bad b) = (refl, refl)
same_stop bytes _ _ _ _ (bad a) (large b) = absurd (bad_not_large bytes a b)
same_stop bytes _ _ _ _ (bad a) (last {part = q} b) = absurd (bad_not_part bytes b.0 q a b.1 b.3)
same_stop bytes _ _ _ _ (large a) (quiet b) = absurd (not_nil bytes a.1 a.0 a.2 b)
same_stop bytes _ _ _ _ (large a) (bad b) = absurd (bad_not_large bytes b a)
same_stop bytes _ _ _ _ (large a) (large b) = (refl, refl)
same_stop bytes _ _ _ _ (large a) (last {part = q} b) = absurd (large_not_part bytes b.0 q a b.1 b.3)
same_stop bytes _ _ _ _ (last {part = p} a) (quiet b) = absurd (nil_not_part bytes a.0 p b a.1 a.3)
same_stop bytes _ _ _ _ (last {part = p} a) (bad b) = absurd (bad_not_part bytes a.0 p b a.1 a.3)
same_stop bytes _ _ _ _ (last {part = p} a) (large b) = absurd (large_not_part bytes a.0 p b a.1 a.3)
same_stop bytes _ _ _ _ (last {part = p} a) (last {part = q} b) =
    (ap (λ (x : Part). x ∷ []) (part_unique p q bytes a.0 b.0 a.1 b.1 a.3 b.3).0, refl)

true_not_false : true ≡ false → ⊥
true_not_false e = cc

-- a request that leaves the connection open is no end
open_no_stop : (bytes rest : List ℕ) (part : Part) (qs : List Part) (e : End) → IsOpenPart part → bytes ≡ print_part part ++ rest → Stops bytes qs e → ⊥
open_no_stop bytes rest part _ _ is e (quiet a) = nil_not_part bytes rest part a is.is_part e
open_no_stop bytes rest part _ _ is e (bad a) = bad_not_part bytes rest part a is.is_part e
open_no_stop bytes rest part _ _ is e (large a) = large_not_part bytes rest part a is.is_part e
open_no_stop bytes rest part _ _ is e (last {part = q} a) =
    let same = part_unique part q bytes rest a.0 is.is_part a.1 e a.3 in
    true_not_false (sym a.2 ∙ ap (λ (x : Part). closes x.head) (sym same.0) ∙ is.open_after)

first_of_all : (part : Part) (parts : List Part) (bytes rest : List ℕ) → bytes ≡ flat_map print_part (part ∷ parts) ++ rest
    → bytes ≡ print_part part ++ (flat_map print_part parts ++ rest)
first_of_all part parts bytes rest e = e ∙ append_assoc (print_part part) (flat_map print_part parts) rest

one_way : (bytes r s : List ℕ) (ps qs ls ms : List Part) (e f : End) → AllByRecursion IsOpenPart ps → AllByRecursion IsOpenPart qs
    → bytes ≡ flat_map print_part ps ++ r → bytes ≡ flat_map print_part qs ++ s → Stops r ls e → Stops s ms f → (ps ++ ls ≡ qs ++ ms) × (e ≡ f)
one_way bytes r s [] [] ls ms e f a b x y u v =
    same_stop r ls ms e f u (let P : List ℕ → Type 0 = λ t. Stops t ms f in subst P (sym y ∙ x) v)
one_way bytes r s (p ∷ ps) [] ls ms e f a b x y u v =
    absurd (open_no_stop s _ p ms f a.0 (sym y ∙ first_of_all p ps bytes r x) v)
one_way bytes r s [] (q ∷ qs) ls ms e f a b x y u v =
    absurd (open_no_stop r _ q ls e b.0 (sym x ∙ first_of_all q qs bytes s y) u)
one_way bytes r s (p ∷ ps) (q ∷ qs) ls ms e f a b x y u v =
    let same = part_unique p q bytes _ _ a.0.is_part b.0.is_part (first_of_all p ps bytes r x) (first_of_all q qs bytes s y) in
    let later = one_way (flat_map print_part ps ++ r) r s ps qs ls ms e f a.1 b.1 refl same.1 u v in
    (ap (λ (t : Part). t ∷ (ps ++ ls)) same.0 ∙ ap (λ (ts : List Part). q ∷ ts) later.0, later.1)

pub one_reading : (society : ℕ) (bytes : List ℕ) (parts others : List Part) (end other : End) → ReadsAsRequests society bytes parts end → ReadsAsRequests society bytes others other
    → end ≢ Busy → other ≢ Busy → (parts ≡ others) × (end ≡ other)
one_reading society bytes parts others end other a b n m =
    let same = one_way bytes a.2 b.2 a.0 b.0 a.1 b.1 end other a.4.each b.4.each a.4.whole b.4.whole (stops society a.2 a.1 end a.5 n) (stops society b.2 b.1 other b.5 m) in
    (a.3 ∙ same.0 ∙ sym b.3, same.1)
