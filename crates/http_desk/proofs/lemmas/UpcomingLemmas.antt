-- Lemmas on reading on: what was read so far, and what stands at the front of it.
use Rattle.std.proofs.Common.{◌≡◌, inl, inr, ℕ, ◌+◌, ◌<◌, ◌≤◌, List, [], ◌∷◌, ◌++◌, length, take, drop, Option, Some, None, refl, sym, ◌∙◌, ap, subst, arith, append_assoc, length-append}
use Rattle.std.specs.Prelude.{unwrap_or, ◌^◌}
use Rattle.std.proofs.lemmas.List.{append-nil, take-append-drop, length-take-le, drop-append-le}
use Rattle.std.specs.Io.KnownBytes.{Consumes, IsAtEnd, Keeps}
use Rattle.std.specs.List.{AllByRecursion}
use Rattle.std.proofs.lemmas.Grind.{flat_map-append}
use Rattle.httparse.specs.Grammar.{RequestHead, print_request}
use Rattle.http_text.specs.declared.connection_end.End.{End}
use Rattle.http_text.specs.declared.connection_end.End.TheVariants.{Bad, TooLarge, Busy}
use Rattle.http_text.specs.declared.body_length.BodyLength.TheVariants.{Sized}
use Rattle.http_desk.specs.declared.head.Head.{Head}
use Rattle.http_desk.specs.declared.upcoming.Upcoming.{Upcoming}
use Rattle.http_desk.specs.declared.upcoming.Upcoming.TheVariants.{Request, Ended}
use Rattle.http_desk.specs.Head.{HasHead, IsHeadKept}
use Rattle.http_desk.specs.Input.{BeforeEach, IsPiece, ReadsOn, all_of}
use Rattle.http_desk.specs.Upcoming.{EndsSo, HasPart, IsUpcoming, IsUpcomingHead}
use Rattle.http_text.specs.Part.{BeginsWithHead}
use Rattle.http_text.specs.Path.{PutsTransmission}
use Rattle.http_text.specs.Reads.{Awaits, IsRemainder, IsBad, IsTooLarge, small_request}
use Rattle.http_desk.specs.Counted.{counted_on}
use Rattle.http_desk.proofs.lemmas.Known.{Consumes-none, Consumes-join, Keeps-consumes, counted_none, counted_join}
use Rattle.http_text.proofs.lemmas.HeadLemmas.{Begins-append}

-- ---- bytes behind others

-- what stands behind a place grows by what is put at the end
pub grown_behind : (old new piece given : List ℕ) (start : ℕ) → start ≤ length old → new ≡ old ++ piece → drop start old ≡ given → drop start new ≡ given ++ piece
grown_behind old new piece given start within grown is =
    ap (λ (v : List ℕ). drop start v) grown ∙ drop-append-le start old piece within ∙ ap (λ (v : List ℕ). v ++ piece) is

-- ---- before each piece

pub all_append : (ps qs : List (List ℕ)) → all_of (ps ++ qs) ≡ all_of ps ++ all_of qs
all_append ps qs = flat_map-append (λ (piece : List ℕ). piece) ps qs

pub pieces_append : (ps qs : List (List ℕ)) → AllByRecursion IsPiece ps → AllByRecursion IsPiece qs → AllByRecursion IsPiece (ps ++ qs)
pieces_append [] qs all more = more
pieces_append (p ∷ ps) qs all more = (all.0, pieces_append ps qs all.1 more)

-- it holds before each piece of two lists
before_append : (P : List ℕ → Type 0) (bytes : List ℕ) (ps qs : List (List ℕ)) → BeforeEach P bytes ps → BeforeEach P (bytes ++ all_of ps) qs → BeforeEach P bytes (ps ++ qs)
before_append P bytes [] qs first more = let Q : List ℕ → Type 0 = λ v. BeforeEach P v qs in subst Q (append-nil bytes) more
before_append P bytes (p ∷ ps) qs first more =
    let Q : List ℕ → Type 0 = λ v. BeforeEach P v qs in
    (first.0, before_append P (bytes ++ p) ps qs first.1 (subst Q (sym (append_assoc bytes p (all_of ps))) more))

-- before one piece at most it holds if it holds now
before_one : (P : List ℕ → Type 0) (bytes : List ℕ) (ps : List (List ℕ)) → P bytes → length ps ≤ 1 → BeforeEach P bytes ps
before_one P bytes [] now few = tt
before_one P bytes (p ∷ []) now few = (now, tt)
before_one P bytes (p ∷ q ∷ ps) now few = absurd (omega (arith, few))

-- behind other bytes something else holds
pub before_behind : (P Q : List ℕ → Type 0) (front : List ℕ) → ((v : List ℕ) → P v → Q (front ++ v)) → (bytes : List ℕ) (ps : List (List ℕ)) → BeforeEach P bytes ps → BeforeEach Q (front ++ bytes) ps
before_behind P Q front so_then bytes [] all = tt
before_behind P Q front so_then bytes (p ∷ ps) all =
    let R : List ℕ → Type 0 = λ v. BeforeEach Q v ps in
    (so_then bytes all.0, subst R (sym (append_assoc front bytes p)) (before_behind P Q front so_then (bytes ++ p) ps all.1))

pub before_join : (P : List ℕ → Type 0) (bytes next : List ℕ) (ps qs : List (List ℕ)) → next ≡ bytes ++ all_of ps → BeforeEach P bytes ps → BeforeEach P next qs → BeforeEach P bytes (ps ++ qs)
before_join P bytes next ps qs e first more = let Q : List ℕ → Type 0 = λ v. BeforeEach P v qs in before_append P bytes ps qs first (subst Q e more)

-- ---- reading on

pub ReadsOn-same : (P : List ℕ → Type 0) (old new : List ℕ) (turns new_turns : ℕ) (known : Option (List ℕ)) (reads : ℕ) → new ≡ old → new_turns ≡ turns → reads < 2 ^ 64
    → ReadsOn P old new turns new_turns known known reads reads
ReadsOn-same P old new turns new_turns known reads same kept fits = record {
  more = [];
  spent = 0;
  grown = same ∙ sym (append-nil old);
  consumed = Consumes-none known;
  turned = omega (arith, kept);
  counts = counted_none reads fits;
  most = omega arith;
  least = omega arith;
  pieces = [];
  joined = refl;
  number = refl;
  each = tt;
  needed = tt;
}

-- a read that failed gave nothing
pub ReadsOn-failed : (P : List ℕ → Type 0) (old new : List ℕ) (turns new_turns : ℕ) (known now : Option (List ℕ)) (reads now_reads : ℕ) → new ≡ old → new_turns ≡ turns
    → Keeps known now → now_reads ≡ reads → reads < 2 ^ 64 → ReadsOn P old new turns new_turns known now reads now_reads
ReadsOn-failed P old new turns new_turns known now reads now_reads same kept keeps counts fits = record {
  more = [];
  spent = 0;
  grown = same ∙ sym (append-nil old);
  consumed = Keeps-consumes known now keeps;
  turned = omega (arith, kept);
  counts = counts ∙ counted_none reads fits;
  most = omega arith;
  least = omega arith;
  pieces = [];
  joined = refl;
  number = refl;
  each = tt;
  needed = tt;
}

pub ReadsOn-join : (P : List ℕ → Type 0) (a b c : List ℕ) (x y z : ℕ) (k m n : Option (List ℕ)) (r s t : ℕ) → ReadsOn P a b x y k m r s → ReadsOn P b c y z m n s t
    → ReadsOn P a c x z k n r t
ReadsOn-join P a b c x y z k m n r s t p q = record {
  more = p.more ++ q.more;
  spent = p.spent + q.spent;
  grown = q.grown ∙ ap (λ (v : List ℕ). v ++ q.more) p.grown ∙ append_assoc a p.more q.more;
  consumed = Consumes-join k m n p.more q.more p.consumed q.consumed;
  turned = omega (arith, p.turned, q.turned);
  counts = q.counts ∙ ap (λ (v : ℕ). counted_on v q.spent) p.counts ∙ counted_join r p.spent q.spent;
  most = omega (arith, p.most, q.most, length-append p.more q.more);
  least = omega (arith, p.least, q.least, length-append p.more q.more);
  pieces = p.pieces ++ q.pieces;
  joined =
      ap (λ (v : List ℕ). v ++ q.more) p.joined ∙ ap (λ (v : List ℕ). all_of p.pieces ++ v) q.joined
      ∙ sym (all_append p.pieces q.pieces);
  number = omega (arith, p.number, q.number, length-append p.pieces q.pieces);
  each = pieces_append p.pieces q.pieces p.each q.each;
  needed = before_join P a b p.pieces q.pieces (p.grown ∙ ap (λ (v : List ℕ). a ++ v) p.joined) p.needed q.needed;
}

-- one read gave this piece
pub ReadsOn-piece : (P : List ℕ → Type 0) (old new piece : List ℕ) (turns spare : ℕ) (known now : Option (List ℕ)) (reads now_reads : ℕ) → P old → new ≡ old ++ piece → Consumes known now piece
    → turns ≡ spare + 1 → now_reads ≡ counted_on reads 1 → IsPiece piece → ReadsOn P old new turns spare known now reads now_reads
ReadsOn-piece P old new piece turns spare known now reads now_reads holds grown consumed turned counts is = record {
  more = piece;
  spent = 1;
  grown = grown;
  consumed = consumed;
  turned = turned;
  counts = counts;
  most = omega (arith, is.1);
  least = is.0;
  pieces = piece ∷ [];
  joined = sym (append-nil piece);
  number = refl;
  each = (is, tt);
  needed = (holds, tt);
}

-- one read gave a piece or none, and this held before it
pub ReadsOn-once : (P Q : List ℕ → Type 0) (a b : List ℕ) (x y : ℕ) (k m : Option (List ℕ)) (r s : ℕ) → P a → ReadsOn Q a b x y k m r s → x ≤ y + 1 → ReadsOn P a b x y k m r s
ReadsOn-once P Q a b x y k m r s now q one = record {
  more = q.more;
  spent = q.spent;
  grown = q.grown;
  consumed = q.consumed;
  turned = q.turned;
  counts = q.counts;
  most = q.most;
  least = q.least;
  pieces = q.pieces;
  joined = q.joined;
  number = q.number;
  each = q.each;
  needed = before_one P a q.pieces now (omega (arith, q.number, q.turned, one));
}

-- so after others
pub ReadsOn-read : (P Q : List ℕ → Type 0) (a b c : List ℕ) (x y z : ℕ) (k m n : Option (List ℕ)) (r s t : ℕ) → ReadsOn P a b x y k m r s → P b → ReadsOn Q b c y z m n s t → y ≤ z + 1
    → ReadsOn P a c x z k n r t
ReadsOn-read P Q a b c x y z k m n r s t p now q one = ReadsOn-join P a b c x y z k m n r s t p (ReadsOn-once P Q b c y z m n s t now q one)

-- the same behind other bytes
pub ReadsOn-behind : (P Q : List ℕ → Type 0) (front a b : List ℕ) (x y : ℕ) (k m : Option (List ℕ)) (r s : ℕ) → ((v : List ℕ) → P v → Q (front ++ v)) → ReadsOn P a b x y k m r s
    → ReadsOn Q (front ++ a) (front ++ b) x y k m r s
ReadsOn-behind P Q front a b x y k m r s so_then p = record {
  more = p.more;
  spent = p.spent;
  grown = ap (λ (v : List ℕ). front ++ v) p.grown ∙ sym (append_assoc front a p.more);
  consumed = p.consumed;
  turned = p.turned;
  counts = p.counts;
  most = p.most;
  least = p.least;
  pieces = p.pieces;
  joined = p.joined;
  number = p.number;
  each = p.each;
  needed = before_behind P Q front so_then a p.pieces p.needed;
}

pub ReadsOn-is : (P : List ℕ → Type 0) (a b c : List ℕ) (x y : ℕ) (k m : Option (List ℕ)) (r s : ℕ) → ReadsOn P a b x y k m r s → c ≡ b → ReadsOn P a c x y k m r s
ReadsOn-is P a b c x y k m r s p e = let Q : List ℕ → Type 0 = λ v. ReadsOn P a v x y k m r s in subst Q (sym e) p

pub ReadsOn-spare : (P : List ℕ → Type 0) (a b : List ℕ) (x y z : ℕ) (k m : Option (List ℕ)) (r s : ℕ) → ReadsOn P a b x y k m r s → z ≡ y → ReadsOn P a b x z k m r s
ReadsOn-spare P a b x y z k m r s p e = let Q : ℕ → Type 0 = λ n. ReadsOn P a b x n k m r s in subst Q (sym e) p

-- ---- heads stay

pub HasHead-append : (bytes more : List ℕ) (kept : Head) → HasHead bytes kept → HasHead (bytes ++ more) kept
HasHead-append bytes more kept h = (h.0, h.1 ++ more, Begins-append bytes more h.1 h.0 h.2, h.3)

pub HasHead-is : (bytes other : List ℕ) (kept : Head) → HasHead bytes kept → other ≡ bytes → HasHead other kept
HasHead-is bytes other kept h e = let P : List ℕ → Type 0 = λ v. HasHead v kept in subst P (sym e) h

-- ---- ends

so : (society : ℕ) (bytes : List ℕ) (known : Option (List ℕ)) (end : End) → ((left : List ℕ) → IsRemainder society (bytes ++ left) [] end) → EndsSo society bytes known end
so society bytes known end ends = ends (unwrap_or known [])

pub so_bad : (bytes : List ℕ) (known : Option (List ℕ)) → ((more : List ℕ) → IsBad (bytes ++ more)) → (society : ℕ) → EndsSo society bytes known Bad
so_bad bytes known bad society = so society bytes known Bad bad

pub so_large : (bytes : List ℕ) (known : Option (List ℕ)) → ((more : List ℕ) → IsTooLarge (bytes ++ more)) → (society : ℕ) → EndsSo society bytes known TooLarge
so_large bytes known large society = so society bytes known TooLarge large

none_left : (known : Option (List ℕ)) → IsAtEnd known → unwrap_or known [] ≡ []
none_left None is_end = refl
none_left (Some left) is_end = is_end

-- at the end of the bytes nothing is left
at_end : (society : ℕ) (bytes : List ℕ) (known : Option (List ℕ)) (end : End) → IsAtEnd known → IsRemainder society bytes [] end → EndsSo society bytes known end
at_end society bytes known end is_end ends =
    let P : List ℕ → Type 0 = λ v. IsRemainder society v [] end in
    subst P (sym (append-nil bytes) ∙ ap (λ (v : List ℕ). bytes ++ v) (sym (none_left known is_end))) ends

-- a head and less than its body
short_body : (bytes rest : List ℕ) (head : RequestHead) (kept : Head) → BeginsWithHead bytes head rest → IsHeadKept head kept
    → length bytes < kept.length + kept.body → length rest < kept.body
short_body bytes rest head kept begins is short =
    omega (arith, ap length begins.reads.1, length-append (print_request head) rest, is.size, short)

pub ended_short : (bytes : List ℕ) (known : Option (List ℕ)) (kept : Head) → IsAtEnd known → HasHead bytes kept
    → length bytes < kept.length + kept.body → (society : ℕ) → EndsSo society bytes known Bad
ended_short bytes known kept is_end h short society =
    at_end society bytes known Bad is_end
    (inr (h.0, h.1, h.2, inr (kept.body, h.3.body, short_body bytes h.1 h.0 kept h.2 h.3 short)))

pub ended_busy : (bytes : List ℕ) (known : Option (List ℕ)) (kept : Head) → HasHead bytes kept
    → small_request < kept.length + kept.body → (society : ℕ) → EndsSo society bytes known Busy
ended_busy bytes known kept h large society =
    so society bytes known Busy
    (λ left. (h.0, h.1 ++ left, Begins-append bytes left h.1 h.0 h.2, (kept.body, h.3.body, inl (omega (arith, h.3.size, large)))))

-- memory was refused for the body of a transmission
pub ended_refused : (society : ℕ) (bytes : List ℕ) (known : Option (List ℕ)) (kept : Head) → (h : HasHead bytes kept) → PutsTransmission society h.0
    → 1 ≤ kept.body → EndsSo society bytes known Busy
ended_refused society bytes known kept h puts some =
    so society bytes known Busy
    (λ rest. (h.0, h.1 ++ rest, Begins-append bytes rest h.1 h.0 h.2, (kept.body, h.3.body, inr (puts, some))))

pub awaits_body : (bytes : List ℕ) (kept : Head) → HasHead bytes kept → length bytes < kept.length + kept.body → Awaits bytes
awaits_body bytes kept h short =
    inr (record {
      head = h.0;
      rest = h.1;
      size = kept.body;
      begins = h.2;
      sized = h.3.body;
      short = short_body bytes h.1 h.0 kept h.2 h.3 short;
    })

-- a head and its body
pub whole_part : (bytes : List ℕ) (kept : Head) → HasHead bytes kept → kept.length + kept.body ≤ length bytes → HasPart bytes kept
whole_part bytes kept h enough =
    let text = print_request h.0 in
    let rest = h.1 in
    let fits : kept.body ≤ length rest = omega (arith, ap length h.2.reads.1, length-append text rest, h.3.size, enough) in
    let size : length (take kept.body rest) ≡ kept.body = length-take-le kept.body rest fits in
    record {
      part = record { head = h.0; body = take kept.body rest };
      rest = drop kept.body rest;
      whole =
          h.2.reads.1 ∙ ap (λ (v : List ℕ). text ++ v) (sym (take-append-drop kept.body rest))
          ∙ sym (append_assoc text (take kept.body rest) (drop kept.body rest));
      is_part = record {
        valid = h.2.reads.0;
        short = h.2.short;
        few = h.2.few;
        body = h.3.body ∙ ap Sized (sym size);
      };
      is_kept = h.3;
      size = sym size;
    }

-- a whole request begins with its head
pub part_head : (bytes : List ℕ) (kept : Head) → HasPart bytes kept → HasHead bytes kept
part_head bytes kept has = (
  has.part.head,
  has.part.body ++ has.rest,
  record {
    reads = (has.is_part.valid, has.whole ∙ append_assoc (print_request has.part.head) has.part.body has.rest);
    short = has.is_part.short;
    few = has.is_part.few;
  },
  has.is_kept,
)

pub upcoming_head : (society : ℕ) (next : Upcoming) (bytes : List ℕ) (known : Option (List ℕ)) → IsUpcoming society next bytes known → IsUpcomingHead society next bytes known
upcoming_head society (Request kept) bytes known is = part_head bytes kept is
upcoming_head society (Ended end) bytes known is = is
