-- Representation, not meaning: what a method and a target ask, before the body comes, and what is asked with it.
use Rattle.std.specs.Prelude.{◌≡◌, ℕ, List}
use Rattle.cwr_files.specs.Fed.{WasFed}
use Rattle.society_core.specs.Requests.{Query, Puts, PutsReturn, Inquires, AsksElsewhere, query_of}
use Rattle.http_text.specs.declared.asked.Asked.{Asked}
use Rattle.http_text.specs.declared.asked.Asked.TheVariants as asked
use Rattle.http_text.specs.declared.requests.Wanted.{Wanted}
use Rattle.http_text.specs.declared.requests.Wanted.TheVariants as wanted
use Rattle.http_text.specs.declared.requests.WithBody.{WithBody}
use Rattle.http_text.specs.declared.requests.WithBody.TheVariants.{Segment, Return, Pool, Show, Elsewhere}
use Rattle.http_text.specs.EndText.{state_query}
use Rattle.http_text.specs.OrderText.{close_query}

-- what is asked with this body, where it was read whole
abbrev pub asked_whole : WithBody → List ℕ → Query
asked_whole (Segment sender segment) body = state_query sender segment body
asked_whole (Return key) body = PutsReturn key body
asked_whole (Pool pool) body = close_query pool body
asked_whole (Show inquiry) body = Inquires inquiry
asked_whole Elsewhere body = AsksElsewhere

-- what is asked with this body, however it comes to the desk
abbrev pub asked_with : Wanted → List ℕ → Query
asked_with (wanted.Fed key) body = Puts key.sender key.number body
asked_with (wanted.Whole ask) body = asked_whole ask body

-- what is asked of the desk: of a transmission, its put with any bytes that its reader was fed
abbrev pub StandsFor : Asked → Query → Type 0
StandsFor (asked.Fed put) query = (bytes : List ℕ) × WasFed put.reader bytes × (query ≡ Puts put.key.sender put.key.number bytes)
StandsFor (asked.Whole request) query = query ≡ query_of request
