-- Representation, not meaning: what is kept of a head that was read, and what reading one says of the bytes.
use Rattle.std.specs.Prelude.{◌≡◌, ◌≤◌, ℕ, List, ◌++◌, length, slice_range}
use Rattle.httparse.specs.Grammar.{RequestHead, print_request}
use Rattle.httparse.specs.Spans.{IsRequestAt, IsWithin}
use Rattle.httparse.specs.declared.spans.HeaderSpan.{HeaderSpan}
use Rattle.httparse.specs.declared.spans.RequestSpans.{RequestSpans}
use Rattle.http_text.specs.declared.body_length.BodyLength.TheVariants.{Sized}
use Rattle.http_desk.specs.declared.head.Head.{Head}
use Rattle.http_desk.specs.declared.head.Reading.{Reading}
use Rattle.http_desk.specs.declared.head.Reading.TheVariants.{Whole, Partial, Bad, TooLarge}
use Rattle.http_text.specs.BodyLength.{body_length, is_put, closes}
use Rattle.http_text.specs.Part.{BeginsWithHead, max_fields, max_head}
use Rattle.http_text.specs.Reads.{AwaitsHead, IsBad, IsTooLarge}

-- what is kept of a head: its method, where its target lies, its length, that of its body, and whether it ends the connection
pub record IsHeadKept (head : RequestHead) (kept : Head) : Type 0 where
  pub put : kept.put ≡ is_put head.method
  pub target : slice_range (print_request head) kept.target.start kept.target.end ≡ head.target
  pub within : IsWithin (length (print_request head)) kept.target
  pub size : kept.length ≡ length (print_request head)
  pub body : body_length head ≡ Sized kept.body
  pub last : kept.closes ≡ closes head

-- the bytes begin with a head within the limits, of which this is kept
abbrev pub HasHead : List ℕ → Head → Type 0
HasHead bytes kept = (head : RequestHead) × (rest : List ℕ) × BeginsWithHead bytes head rest × IsHeadKept head kept

-- what reading the head at the front of the bytes says of them, whatever follows
abbrev pub Means : Reading → List ℕ → Type 0
Means (Whole kept) bytes = HasHead bytes kept
Means Partial bytes = AwaitsHead bytes
Means Bad bytes = (more : List ℕ) → IsBad (bytes ++ more)
Means TooLarge bytes = (more : List ℕ) → IsTooLarge (bytes ++ more)

-- what a reading of a head within the limits, whose parts lie at these spans, says of the bytes
abbrev pub WeighsAs : List ℕ → List HeaderSpan → RequestSpans → Reading → Type 0
WeighsAs bytes headers spans reading =
    (head : RequestHead) → IsRequestAt bytes headers spans head → length (print_request head) ≤ max_head → length head.fields ≤ max_fields → Means reading bytes
