-- The entries of a book, and which of them a list of requests brought.
use Rattle.std.specs.Prelude.{ℕ, Bool, true, false, List, [], ◌∷◌, ◌≡◌, ◌⊎◌, Option, Some, None}
use Rattle.sender_segments.specs.Ways as ways
use Rattle.society_core.specs.Book.{Book, body_at, end_at, order_at, return_at}
use Rattle.society_core.specs.Ends.{place_stated}
use Rattle.society_core.specs.Orders.{Order}
use Rattle.society_core.specs.Requests.{Query, Puts, States, StatesFaulty, PutsReturn, Closes, ClosesFaulty, Inquires, AsksElsewhere, Reply, Arrived, Ended, Stored, Closed, Showed, Refused}
use Rattle.society_core.specs.declared.return_key.ReturnKey.{ReturnKey}

-- an entry: a transmission of a sender under its number, the end of a segment of a sender, a return under its key, or a pool with its order
pub data Entry : Type 0 where
  Transmission : List ℕ → ℕ → List ℕ → Entry
  End : List ℕ → ℕ → ways.End → Entry
  Return : ReturnKey → List ℕ → Entry
  Pool : ℕ → Order → Entry

-- an entry stands in a book
abbrev pub IsIn : Book → Entry → Type 0
IsIn book (Transmission sender number body) = body_at book sender number ≡ Some body
IsIn book (End sender segment end) = end_at book sender segment ≡ Some end
IsIn book (Return key body) = return_at book key ≡ Some body
IsIn book (Pool pool order) = order_at book pool ≡ Some order

-- the entry that a request is to make, none for a question
abbrev pub entry_of : Query → Option Entry
entry_of (Puts sender number body) = Some (Transmission sender number body)
entry_of (States sender stated) = Some (End sender (place_stated stated) (ways.end_stated stated))
entry_of (StatesFaulty fault) = None
entry_of (PutsReturn key body) = Some (Return key body)
entry_of (Closes pool order) = Some (Pool pool order)
entry_of (ClosesFaulty fault) = None
entry_of (Inquires inquiry) = None
entry_of AsksElsewhere = None

-- whether an answer says that what was sent is in the book (200, 201 or 202 of a put or a close)
abbrev pub is_acceptance : Reply → Bool
is_acceptance (Arrived arrival) = true
is_acceptance (Ended receipt front) = true
is_acceptance (Stored receipt) = true
is_acceptance (Closed receipt pool) = true
is_acceptance (Showed showing) = false
is_acceptance (Refused refusal) = false

-- a request was answered as accepted with this entry
abbrev pub Accepts : Query → Reply → Entry → Type 0
Accepts query reply entry = (entry_of query ≡ Some entry) × (is_acceptance reply ≡ true)

-- some request of a list was accepted with this entry
abbrev pub IsAccepted : List Query → List Reply → Entry → Type 0
IsAccepted [] replies entry = ⊥
IsAccepted (query ∷ queries) [] entry = ⊥
IsAccepted (query ∷ queries) (reply ∷ replies) entry = Accepts query reply entry ⊎ IsAccepted queries replies entry

-- the book of a list of requests and its answers: the entries of the opening book and those that were accepted; a set, which knows no order
abbrev pub BookOf : Book → List Query → List Reply → Entry → Type 0
BookOf book queries replies entry = IsIn book entry ⊎ IsAccepted queries replies entry

-- a book has exactly these entries
abbrev pub HoldsExactly : Book → (Entry → Type 0) → Type 0
HoldsExactly book Entries = (entry : Entry) → (IsIn book entry → Entries entry) × (Entries entry → IsIn book entry)
