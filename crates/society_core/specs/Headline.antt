-- What the book holds after any list of requests, whatever was lost, repeated or reordered.
use Rattle.std.specs.Prelude.{ℕ, List, [], ◌∷◌, ◌++◌, ◌≡◌, ◌≢◌, ◌≤◌, ◌⊎◌, ◌↔◌, Some, None, map, true}
use Rattle.std.specs.List.{AllByRecursion}
use Rattle.cwr_files.specs.FileFault.{file_fault}
use Rattle.perf_returns.specs.Returns.{return_fault}
use Rattle.work_ids.specs.Numbers.{is_pool_number, is_return_number}
use Rattle.work_ids.specs.Segments.{is_transmission_number, segment_of, sequence_of}
use Rattle.sender_segments.specs.Ways as ways
use Rattle.work_ids.specs.SenderKey.{is_sender_key}
use Rattle.society_core.specs.Book.{Book, body_at, front, is_end_entry, is_in_line, is_reporter, line}
use Rattle.society_core.specs.Entries.{Accepts, BookOf, End, Entry, Transmission, Return, Pool, HoldsExactly, IsIn, entry_of}
use Rattle.society_core.specs.Ends.{fault_stated}
use Rattle.society_core.specs.Orders.{IsOrder}
use Rattle.work_ids.specs.SegmentEnds.{StatedEnd}
use Rattle.society_core.specs.Requests.{Query, States, Reply, Refused, query_of, reply_of}
use Rattle.society_core.specs.declared.answers.Answer.{Answer}
use Rattle.society_core.specs.declared.refusal.Refusal.TheVariants.{Unavailable}
use Rattle.society_core.specs.declared.request.Request.{Request}
use Rattle.society_core.specs.declared.return_key.ReturnKey.{ReturnKey}

-- what a request states of a segment, if it does, has no fault
abbrev pub HasNoEndFault : Query → Type 0
HasNoEndFault query = (sender : List ℕ) (stated : StatedEnd) → query ≡ States sender stated → fault_stated stated ≡ None

-- a request brought an entry: a put without a fault that was not answered as unavailable, or a close that was accepted
abbrev pub BringsEntry : Query → Reply → Entry → Type 0
BringsEntry query reply (Transmission sender number body) =
    (entry_of query ≡ Some (Transmission sender number body)) × (file_fault sender body ≡ None) × (reply ≢ Refused Unavailable)
BringsEntry query reply (End sender segment end) = (entry_of query ≡ Some (End sender segment end)) × HasNoEndFault query × (reply ≢ Refused Unavailable)
BringsEntry query reply (Return key body) = (entry_of query ≡ Some (Return key body)) × (return_fault body ≡ None) × (reply ≢ Refused Unavailable)
BringsEntry query reply (Pool pool order) = Accepts query reply (Pool pool order)

-- some request of a list brought an entry
abbrev pub IsBrought : List Query → List Reply → Entry → Type 0
IsBrought [] replies entry = ⊥
IsBrought (query ∷ queries) [] entry = ⊥
IsBrought (query ∷ queries) (reply ∷ replies) entry = BringsEntry query reply entry ⊎ IsBrought queries replies entry

-- an entry came: it stands in the opening book, or some request of the list brought it
abbrev pub Came : Book → List Query → List Reply → Entry → Type 0
Came book queries replies entry = IsIn book entry ⊎ IsBrought queries replies entry

-- no number came with two contents: neither a sender's transmission number, nor a sender's segment, nor a reporter's return number; and no number came above the last that its sender stated of its segment
pub record OneContent (book : Book) (queries : List Query) (replies : List Reply) : Type 0 where
  pub transmissions : (s : List ℕ) (n : ℕ) (x y : List ℕ) → Came book queries replies (Transmission s n x) → Came book queries replies (Transmission s n y) → x ≡ y
  pub ends : (s : List ℕ) (g : ℕ) (x y : ways.End) → Came book queries replies (End s g x) → Came book queries replies (End s g y) → x ≡ y
  pub within : (s : List ℕ) (n : ℕ) (x : List ℕ) (e : ways.End) → Came book queries replies (Transmission s n x) → Came book queries replies (End s (segment_of n) e) → sequence_of n ≤ e.last
  pub returns : (key : ReturnKey) (x y : List ℕ) → Came book queries replies (Return key x) → Came book queries replies (Return key y) → x ≡ y

-- the book holds exactly what came
abbrev pub HoldsWhatCame : Book → List Query → List Reply → Book → Type 0
HoldsWhatCame book queries replies after = HoldsExactly after (Came book queries replies)

-- two lists were accepted with the same entries over one book, in whatever order and however often
abbrev pub AcceptedAlike : Book → List Query → List Reply → List Query → List Reply → Type 0
AcceptedAlike book queries replies others answers =
    (entry : Entry) → BookOf book queries replies entry ↔ BookOf book others answers entry

-- two lists brought the same entries, in whatever order and however often
abbrev pub BroughtAlike : Book → List Query → List Reply → List Query → List Reply → Type 0
BroughtAlike book queries replies others answers =
    (entry : Entry) → Came book queries replies entry ↔ Came book others answers entry

-- what was appended to the answers of requests tells what the book holds
abbrev pub TellsWhatCame : Book → Book → List Request → List Answer → List Answer → Type 0
TellsWhatCame before after requests old new =
    (more : List Answer) → new ≡ old ++ more → OneContent before (map query_of requests) (map reply_of more) → HoldsWhatCame before (map query_of requests) (map reply_of more) after

-- two books have the same transmissions of a sender up to its first gap: the same front and line, and the same bodies in it
pub record AlikeToTheGap (a b : Book) (sender : List ℕ) : Type 0 where
  pub same_front : front a sender ≡ front b sender
  pub same_line : line a sender ≡ line b sender
  pub same_bodies : (n : ℕ) → is_in_line a sender n ≡ true → body_at a sender n ≡ body_at b sender n

-- two books are alike to the gaps: of each sender the same transmissions up to its first gap, and the same returns and pools
pub record AlikeToTheGaps (a b : Book) : Type 0 where
  pub sent : (sender : List ℕ) → AlikeToTheGap a b sender
  pub returns : a.returns ≡ b.returns
  pub pools : a.pools ≡ b.pools

-- what an entry stands under is within the limits, and an order is in the form in which orders are kept
abbrev pub HasRightKey : Entry → Type 0
HasRightKey (Transmission sender number body) = (is_sender_key sender ≡ true) × (is_transmission_number number ≡ true)
HasRightKey (End sender segment end) = is_end_entry sender segment end ≡ true
HasRightKey (Return key body) = (is_reporter key.reporter ≡ true) × (is_return_number key.number ≡ true)
HasRightKey (Pool pool order) = (is_pool_number pool ≡ true) × IsOrder order

-- the entry that a request is to make, if any, has a right key
abbrev pub AsksRightly : Query → Type 0
AsksRightly query = (entry : Entry) → entry_of query ≡ Some entry → HasRightKey entry

-- all requests of a list ask rightly, as each request of `Request` does by its types
abbrev pub AllAskRightly : List Query → Type 0
AllAskRightly queries = AllByRecursion AsksRightly queries
