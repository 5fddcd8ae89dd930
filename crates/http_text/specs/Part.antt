-- One request as bytes: a head of the grammar and its body.
use Rattle.std.specs.Prelude.{◌≡◌, ℕ, ◌≤◌, false, List, ◌++◌, length}
use Rattle.httparse.specs.Grammar.{RequestHead, IsRequestHead, print_request, ReadsRequest}
use Rattle.http_text.specs.declared.body_length.BodyLength.TheVariants.{Sized}
use Rattle.http_text.specs.BodyLength.{body_length, closes}

-- the longest head, in bytes (profile)
abbrev pub max_head : ℕ
max_head = 8192

-- the most fields of a head (profile)
abbrev pub max_fields : ℕ
max_fields = 64

-- a request: its head and its body
pub record Part : Type 0 where
  pub head : RequestHead
  pub body : List ℕ

-- the bytes of a request
abbrev pub print_part : Part → List ℕ
print_part part = print_request part.head ++ part.body

-- the bytes are a head within the limits, and then rest
pub record BeginsWithHead (bytes : List ℕ) (head : RequestHead) (rest : List ℕ) : Type 0 where
  pub reads : ReadsRequest bytes head rest
  pub short : length (print_request head) ≤ max_head
  pub few : length head.fields ≤ max_fields

-- a head within the limits with the body that its fields announce
pub record IsPart (part : Part) : Type 0 where
  pub valid : IsRequestHead part.head
  pub short : length (print_request part.head) ≤ max_head
  pub few : length part.head.fields ≤ max_fields
  pub body : body_length part.head ≡ Sized (length part.body)

-- a request after whose answer the connection goes on
pub record IsOpenPart (part : Part) : Type 0 where
  pub is_part : IsPart part
  pub open_after : closes part.head ≡ false
