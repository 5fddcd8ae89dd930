-- Lemmas on heads at the front of bytes: what follows changes nothing.
use Rattle.std.proofs.Common.{◌≡◌, ◌≢◌, inl, inr, ℕ, ◌-◌, ◌<◌, ◌≤◌, List, [], ◌∷◌, ◌++◌, length, map, take, drop, refl, sym, ◌∙◌, ap, arith, length-drop, length-append}
use Rattle.std.specs.Prelude.{slice_range, false, ◌==◌}
use Rattle.std.proofs.lemmas.Bool.{false≢true}
use Rattle.std.proofs.lemmas.List.{take_at, take-append-le, drop-append-le, take-append-drop}
use Rattle.httparse.specs.Grammar.{RequestHead, print_request, print_blank, print_version, print_end, print_section, ReadsRequest, HasNoRequest}
use Rattle.httparse.specs.Spans.{IsRequestAt, RequestOverflows, name_and_value}
use Rattle.httparse.specs.declared.spans.HeaderSpan.{HeaderSpan}
use Rattle.httparse.specs.declared.spans.RequestSpans.{RequestSpans}
use Rattle.httparse.proofs.GrammarLemmas.{request_unique, request_prefix_free, ReadsRequest-append}
use Rattle.http_text.specs.declared.body_length.BodyLength.TheVariants.{Faulty, Large}
use Rattle.http_text.specs.BodyLength.{body_length, body_length_of, closes, ends_connection}
use Rattle.http_text.specs.Part.{BeginsWithHead, max_head, max_fields}
use Rattle.http_text.specs.Reads.{AwaitsHead, IsBad, IsTooLarge, HasNoHead}

pub print_request-some : (head : RequestHead) → 1 ≤ length (print_request head)
unfolding print_request
print_request-some head =
    some_in (print_blank head.blank ++ head.method) head.target (32 ∷ print_version head.minor) (print_end head.line_end) (print_section head.fields head.last) 32
  where
    some_in : (front t u v w : List ℕ) (x : ℕ) → 1 ≤ length (front ++ x ∷ t ++ u ++ v ++ w)
    some_in front t u v w x =
        omega (arith, length-append (front ++ x ∷ t ++ u ++ v) w, length-append (front ++ x ∷ t ++ u) v, length-append (front ++ x ∷ t) u, length-append front (x ∷ t))

-- no bytes are no head yet
none_in_nil : HasNoRequest []
none_in_nil head rest reads =
    omega (arith, ap length reads.1, length-append (print_request head) rest, print_request-some head)

pub awaits_first : (bytes : List ℕ) → length bytes ≡ 0 → AwaitsHead bytes
awaits_first [] e = record { none = none_in_nil; short = omega arith; possible = λ some. absurd (some refl) }
awaits_first (b ∷ bytes) e = absurd (omega arith)

pub Begins-append : (bytes more rest : List ℕ) (head : RequestHead) → BeginsWithHead bytes head rest → BeginsWithHead (bytes ++ more) head (rest ++ more)
Begins-append bytes more rest head b =
    record { reads = ReadsRequest-append bytes head rest more b.reads; short = b.short; few = b.few }

-- two heads at the front of the same bytes are one
pub Begins-unique : (bytes rest other : List ℕ) (head second : RequestHead) → BeginsWithHead bytes head rest → BeginsWithHead bytes second other → (head ≡ second) × (rest ≡ other)
Begins-unique bytes rest other head second a b = request_unique bytes head second rest other a.reads b.reads

pub slice_range-append : (front back : List ℕ) (start end : ℕ) → start ≤ end → end ≤ length front → slice_range (front ++ back) start end ≡ slice_range front start end
slice_range-append front back start end s e =
    ap (λ (xs : List ℕ). take (end - start) xs) (drop-append-le start front back (omega arith))
    ∙ take-append-le (end - start) (drop start front) back (omega (arith, length-drop start front))

-- a head that is too long is none, whatever follows
pub none_too_long : (bytes more rest : List ℕ) (head : RequestHead) → ReadsRequest bytes head rest → max_head < length (print_request head) → HasNoHead (bytes ++ more)
none_too_long bytes more rest head reads long other after begins =
    let same = request_prefix_free bytes more head other rest after reads begins.reads in
    let short : length (print_request head) ≤ max_head = rw same.0 begins.short in
    omega (arith, long, short)

-- bytes with no head in the window are none, whatever follows
pub none_in_window : (bytes more : List ℕ) → HasNoRequest bytes → max_head ≤ length bytes → HasNoHead (bytes ++ more)
none_in_window bytes more none long head rest begins =
    let text = print_request head in
    let short : length text ≤ length bytes = omega (arith, begins.short, long) in
    let front : take (length text) bytes ≡ text =
    sym (take-append-le (length text) bytes more short)
    ∙ ap (λ (xs : List ℕ). take (length text) xs) begins.reads.1
    ∙ take_at text rest (length text) refl in
    none head (drop (length text) bytes)
    (begins.reads.0, sym (take-append-drop (length text) bytes) ∙ ap (λ (xs : List ℕ). xs ++ drop (length text) bytes) front)

-- a parser with room for the most fields refused the bytes
pub none_refused : (bytes more : List ℕ) → RequestOverflows 64 bytes → HasNoHead (bytes ++ more)
none_refused bytes more over head rest begins = omega (arith, over more head rest begins.reads, begins.few)

pub some_bytes : (bytes : List ℕ) → false ≡ (length bytes == 0) → bytes ≢ []
some_bytes [] e h = absurd (false≢true e)
some_bytes (b ∷ bytes) e h = cc

nonempty-append : (bytes more : List ℕ) → bytes ≢ [] → bytes ++ more ≢ []
nonempty-append [] more some e = some refl
nonempty-append (b ∷ bytes) more some e = cc

pub bad_from_none : (bytes more : List ℕ) → bytes ≢ [] → HasNoHead (bytes ++ more) → IsBad (bytes ++ more)
bad_from_none bytes more some none = inl (nonempty-append bytes more some, none)

pub bad_from_faulty : (bytes more rest : List ℕ) (head : RequestHead) → BeginsWithHead bytes head rest → body_length head ≡ Faulty → IsBad (bytes ++ more)
bad_from_faulty bytes more rest head begins faulty =
    inr (head, rest ++ more, Begins-append bytes more rest head begins, inl faulty)

pub large_from_head : (bytes more rest : List ℕ) (head : RequestHead) → BeginsWithHead bytes head rest → body_length head ≡ Large → IsTooLarge (bytes ++ more)
large_from_head bytes more rest head begins large = (head, rest ++ more, Begins-append bytes more rest head begins, large)

-- ---- what the parser answered

pub begins_at : (bytes : List ℕ) (headers : List HeaderSpan) (spans : RequestSpans) (head : RequestHead)
    → IsRequestAt bytes headers spans head → length (print_request head) ≤ max_head → length head.fields ≤ max_fields
    → BeginsWithHead bytes head (drop spans.len bytes)
begins_at bytes headers spans head at short few = record { reads = at.reads; short = short; few = few }

pub body_length_at : (head : RequestHead) (method : List ℕ) (fields : List (List ℕ × List ℕ)) → method ≡ head.method
    → fields ≡ map name_and_value head.fields → body_length_of method fields ≡ body_length head
body_length_at head method fields m f = rw (m, f) refl

pub closes_at : (head : RequestHead) (minor : ℕ) (fields : List (List ℕ × List ℕ)) → minor ≡ head.minor
    → fields ≡ map name_and_value head.fields → ends_connection minor fields ≡ closes head
closes_at head minor fields m f = rw (m, f) refl

pub target_at : (bytes target rest : List ℕ) (head : RequestHead) (start end len : ℕ) → slice_range bytes start end ≡ target
    → bytes ≡ print_request head ++ rest → len ≡ length (print_request head) → start ≤ end → end ≤ len → slice_range (print_request head) start end ≡ target
target_at bytes target rest head start end len is reads l s e =
    sym (slice_range-append (print_request head) rest start end s (omega (arith, l, e)))
    ∙ ap (λ (xs : List ℕ). slice_range xs start end) (sym reads) ∙ is
