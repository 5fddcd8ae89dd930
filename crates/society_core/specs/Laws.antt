-- The laws of every run of requests, and of books, fronts, pools and owners.
use Rattle.std.specs.Prelude.{ℕ, ◌≡◌, ◌≢◌, ◌↔◌, ◌+◌, ◌<◌, ◌&&◌, List, None, Some, false, true, map, nat_le, not, sum}
use Rattle.std.specs.List.{range_with_len}
use Rattle.std.specs.FinMap.{values}
use Rattle.share_rules.specs.declared.office.Office.{Office}
use Rattle.work_ids.specs.declared.account.Account.{Account}
use Rattle.society_core.specs.Answers.{AnswersAlike, answer}
use Rattle.society_core.specs.Book.{Book, IsSound, body_at, end_at, front, held, is_in_line, is_one_of, is_there, line, order_at, return_at, with_end}
use Rattle.society_core.specs.Ends.{fault_stated, number_past, place_stated}
use Rattle.society_core.specs.Growth.{GoesOn}
use Rattle.sender_segments.specs.Ways.{end_stated}
use Rattle.sender_segments.specs.Ways as ways
use Rattle.work_ids.specs.SegmentEnds.{StatedEnd}
use Rattle.work_ids.specs.SenderKey.{is_sender_key}
use Rattle.society_core.specs.Entries.{BookOf, End, Entry, HoldsExactly, IsIn, Return, Transmission}
use Rattle.society_core.specs.Headline.{AcceptedAlike, AlikeToTheGap, AlikeToTheGaps, AllAskRightly, BroughtAlike, Came, HoldsWhatCame, OneContent}
use Rattle.society_core.specs.Keys.{ascending, return_cmp}
use Rattle.society_core.specs.Orders.{IsOrder, Order, names_return}
use Rattle.society_core.specs.Owners.{NamesAlone, Owns}
use Rattle.society_core.specs.Pools.{AreAllAccounts, balance}
use Rattle.society_core.specs.Requests.{Inquires, Puts, PutsReturn, Query, Refused, Reply, States}
use Rattle.society_core.specs.Runs.{Run}
use Rattle.society_core.specs.declared.inquiry.Inquiry.{Inquiry}
use Rattle.society_core.specs.declared.inquiry.Inquiry.TheVariants.{Credits}
use Rattle.society_core.specs.declared.refusal.Refusal.TheVariants.{Reused}
use Rattle.society_core.specs.declared.return_key.ReturnKey.{ReturnKey}

-- a law of every run, over its office, its opening book, its requests, their replies and the book after them
abbrev pub OfEachRun : (Office → Book → List Query → List Reply → Book → Type 0) → Type 0
OfEachRun Law =
    (office : Office) (before : Book) (queries : List Query) (replies : List Reply) (after : Book) → Run office before queries replies after → Law office before queries replies after

-- a law of every two runs of an office from one book on
abbrev pub OfTwoRuns : (Office → Book → List Query → List Reply → Book → List Query → List Reply → Book → Type 0) → Type 0
OfTwoRuns Law =
    (office : Office) (before : Book) (queries : List Query) (replies : List Reply) (after : Book) (others : List Query) (answers : List Reply) (end : Book)
    → Run office before queries replies after → Run office before others answers end → Law office before queries replies after others answers end

-- the book after a run has the entries of the opening book and those that were accepted
abbrev pub BookIsWhatWasAccepted : Type 0
BookIsWhatWasAccepted = OfEachRun (λ office before queries replies after. HoldsExactly after (BookOf before queries replies))

-- where no number came with two contents, the book after a run holds exactly what came
abbrev pub BookHoldsWhatCame : Type 0
BookHoldsWhatCame = OfEachRun (λ office before queries replies after. OneContent before queries replies → HoldsWhatCame before queries replies after)

-- where no end of a segment came, one content is asked of transmissions and returns alone
abbrev pub UnstatedIsOneContent : Type 0
UnstatedIsOneContent =
    (book : Book) (queries : List Query) (replies : List Reply) → ((s : List ℕ) (g : ℕ) (e : ways.End) → Came book queries replies (End s g e) → ⊥)
    → ((s : List ℕ) (n : ℕ) (x y : List ℕ) → Came book queries replies (Transmission s n x) → Came book queries replies (Transmission s n y) → x ≡ y)
    → ((key : ReturnKey) (x y : List ℕ) → Came book queries replies (Return key x) → Came book queries replies (Return key y) → x ≡ y)
    → OneContent book queries replies

-- a run keeps each entry of its opening book
abbrev pub EntriesStay : Type 0
EntriesStay = OfEachRun (λ office before queries replies after. (entry : Entry) → IsIn before entry → IsIn after entry)

-- each entry of the book after a run came
abbrev pub EntriesCame : Type 0
EntriesCame = OfEachRun (λ office before queries replies after. (entry : Entry) → IsIn after entry → Came before queries replies entry)

-- a put of other bytes under a number that has some is answered as reused
abbrev pub OtherBytesAreReused : Type 0
OtherBytesAreReused =
    (office : Office) (book : Book) (sender : List ℕ) (n : ℕ) (body other : List ℕ) → body_at book sender n ≡ Some body → other ≢ body → answer office book (Puts sender n other) ≡ Refused Reused

-- so is a put of another return under a key that has one
abbrev pub OtherReturnsAreReused : Type 0
OtherReturnsAreReused =
    (office : Office) (book : Book) (key : ReturnKey) (body other : List ℕ) → return_at book key ≡ Some body → other ≢ body → answer office book (PutsReturn key other) ≡ Refused Reused

-- and a statement of another end of a segment that has one, where the statement has no fault
abbrev pub OtherEndsAreReused : Type 0
OtherEndsAreReused =
    (office : Office) (book : Book) (sender : List ℕ) (stated : StatedEnd) (kept : ways.End) → fault_stated stated ≡ None → end_at book sender (place_stated stated) ≡ Some kept
    → end_stated stated ≢ kept → answer office book (States sender stated) ≡ Refused Reused

-- two runs that were accepted with the same entries leave one book
abbrev pub AcceptedAlikeIsOneBook : Type 0
AcceptedAlikeIsOneBook = OfTwoRuns (λ office before queries replies after others answers end. AcceptedAlike before queries replies others answers → after ≡ end)

-- two runs that brought the same leave one book, where no number came with two contents
abbrev pub BroughtAlikeIsOneBook : Type 0
BroughtAlikeIsOneBook =
    OfTwoRuns (λ office before queries replies after others answers end. OneContent before queries replies → BroughtAlike before queries replies others answers → after ≡ end)

-- two runs that were accepted with the same entries leave books that answer every request alike
abbrev pub AcceptedAlikeAnswersAlike : Type 0
AcceptedAlikeAnswersAlike =
    OfTwoRuns (λ office before queries replies after others answers end. AcceptedAlike before queries replies others answers → (query : Query) → AnswersAlike office after end query)

-- two books with the same transmissions of a sender up to its gap answer alike what is asked so of the sender
abbrev pub AnswersToTheGap : {X : Type 0} → (List ℕ → X → Inquiry) → Type 0
AnswersToTheGap {X} asked = (office : Office) (a b : Book) (sender : List ℕ) (x : X) → AlikeToTheGap a b sender → AnswersAlike office a b (Inquires (asked sender x))

-- two books that are alike up to each sender's gap, with the same returns and pools, answer alike what is asked so
abbrev pub AnswersToTheGaps : {X : Type 0} → (X → Inquiry) → Type 0
AnswersToTheGaps {X} asked = (office : Office) (a b : Book) (x : X) → IsSound a → AlikeToTheGaps a b → AnswersAlike office a b (Inquires (asked x))

-- the credits of a pool that is closed are answered as before, whatever comes after
abbrev pub ClosedPoolsStay : Type 0
ClosedPoolsStay =
    OfEachRun (λ office before queries replies after. IsSound before → (pool : ℕ) (order : Order) → order_at before pool ≡ Some order → AnswersAlike office after before (Inquires (Credits pool)))

-- a sender stated the end of no segment
abbrev pub StatesNothing : Book → List ℕ → Type 0
StatesNothing book sender = (segment : ℕ) → end_at book sender segment ≡ None

-- of a sender that stated nothing the line is from 1 to the front
abbrev pub PlainLinesCountFromOne : Type 0
PlainLinesCountFromOne = (book : Book) (sender : List ℕ) → StatesNothing book sender → line book sender ≡ range_with_len 1 (front book sender)

-- so a number is in it where it is 1 to the front
abbrev pub NumbersOfPlainLines : Type 0
NumbersOfPlainLines =
    (book : Book) (sender : List ℕ) → StatesNothing book sender → (n : ℕ) → is_in_line book sender n ≡ (nat_le 1 n && nat_le n (front book sender))

-- and where all its numbers are plain, the next one is not there
abbrev pub PlainLinesEndAtGaps : Type 0
PlainLinesEndAtGaps =
    (book : Book) (sender : List ℕ) → StatesNothing book sender → ((n : ℕ) → is_there book sender n ≡ true → n < 1000000) → is_there book sender (front book sender + 1) ≡ false

-- so where a sender stated nothing, one line with the same bodies in it is all that two books need to be alike to its gap
abbrev pub PlainLinesAreAlike : Type 0
PlainLinesAreAlike =
    (a b : Book) (sender : List ℕ) → StatesNothing a sender → StatesNothing b sender → line a sender ≡ line b sender
    → ((n : ℕ) → is_in_line a sender n ≡ true → body_at a sender n ≡ body_at b sender n) → AlikeToTheGap a b sender

-- what a sender states of a segment without an end, above which nothing is, lets its line go on by some numbers
abbrev pub StatementsLeadOn : Type 0
StatementsLeadOn =
    (book : Book) (sender : List ℕ) (stated : StatedEnd) → IsSound book → is_sender_key sender ≡ true → fault_stated stated ≡ None → end_at book sender (place_stated stated) ≡ None
    → number_past book sender (place_stated stated) stated.last ≡ None → (more : List ℕ) × GoesOn book (with_end book sender (place_stated stated) (end_stated stated)) sender more

-- the held numbers of a sender are those under which something is there that is not in its line
abbrev pub HeldNumbersWait : Type 0
HeldNumbersWait = (book : Book) (sender : List ℕ) (n : ℕ) → is_one_of (held book sender) n ≡ (not (is_in_line book sender n) && is_there book sender n)

-- the returns of a closed pool ascend, so each is named once
abbrev pub ReturnsAreNamedOnce : Type 0
ReturnsAreNamedOnce = (book : Book) (pool : ℕ) (order : Order) → IsSound book → order_at book pool ≡ Some order → ascending return_cmp order.returns ≡ order.returns

-- pools that name one return are one
abbrev pub ReturnsArePaidOnce : Type 0
ReturnsArePaidOnce =
    (book : Book) (pool other : ℕ) (order another : Order) (key : ReturnKey) → IsSound book → order_at book pool ≡ Some order → order_at book other ≡ Some another
    → names_return key order ≡ true → names_return key another ≡ true → pool ≡ other

-- a work owns a recording exactly where it alone names it at the cut
abbrev pub OwnersAreAlone : Type 0
OwnersAreAlone = (office : Office) (book : Book) (order : Order) (isrc sender work : List ℕ) → IsOrder order → Owns office book order isrc sender work ↔ NamesAlone office book order isrc sender work

-- the balances of all accounts add up to the amounts of all pools
abbrev pub BalancesAddUp : Type 0
BalancesAddUp =
    (office : Office) (book : Book) (accounts : List Account) → AreAllAccounts office book accounts → sum (map (balance office book) accounts) ≡ sum (map (λ (order : Order). order.amount) (values book.pools))

-- a run of requests that ask rightly leads from a sound book to a sound book
abbrev pub RunsKeepBooksSound : Type 0
RunsKeepBooksSound = OfEachRun (λ office before queries replies after. AllAskRightly queries → IsSound before → IsSound after)
