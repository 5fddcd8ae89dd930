-- Representation, not meaning: what the head or the request at the front of the bytes asks of the office.
use Rattle.std.specs.Prelude.{◌≡◌, ℕ, List}
use Rattle.http_text.specs.BodyLength.{is_put}
use Rattle.http_text.specs.Path.{query_for, request_of}
use Rattle.http_text.specs.Wanted.{asked_with}
use Rattle.http_text.specs.declared.requests.Wanted.{Wanted}
use Rattle.http_desk.specs.declared.head.Head.{Head}
use Rattle.http_desk.specs.Head.{HasHead}
use Rattle.http_desk.specs.Upcoming.{HasPart}

-- the head at the front of the bytes, of which this is kept, asks so of the office of a society, whatever its body
abbrev pub AsksFor : ℕ → List ℕ → Head → Wanted → Type 0
AsksFor society bytes kept wanted =
    (has : HasHead bytes kept) (body : List ℕ) → asked_with wanted body ≡ query_for society (is_put has.0.method) has.0.target body

-- the request at the front of the bytes, of whose head this is kept, asks so of the office of a society
abbrev pub PartAsks : ℕ → List ℕ → Head → Wanted → Type 0
PartAsks society bytes kept wanted = (has : HasPart bytes kept) → asked_with wanted has.part.body ≡ request_of society has.part
