-- The rows that are derived from a book.
use Rattle.std.specs.Prelude.{ℕ, pos, ◌+◌, Bool, List, [], ◌∷◌, ◌++◌, ◌==◌, ◌||◌, Option, Some, None, filter, if◌then◌else◌, map, unwrap_or, bytes_eq}
use Rattle.std.specs.FinMap as finite
use Rattle.std.specs.List.{enumerate_from, flat_map, list_any, sum_by}
use Rattle.cwr_files.specs.Contents.{transactions_of, transmission_in}
use Rattle.cwr_files.specs.declared.transmission.Transaction.{Transaction}
use Rattle.pool_split.specs.Credits.{units_of}
use Rattle.pool_split.specs.declared.claim.Credit.{Credit}
use Rattle.share_rules.specs.declared.office.Office.{Office}
use Rattle.sqlite_value.specs.declared.value.Value.TheVariants.{Int, Text}
use Rattle.sqlite_value.specs.Order.{Row}
use Rattle.sqlite_trees.specs.Tree.{Trees}
use Rattle.society_core.specs.Book.{Book, body_at, front, line, order_at, transmissions_to, verdicts_in}
use Rattle.society_core.specs.Keys.{ascending, bytes_cmp}
use Rattle.society_core.specs.Orders.{Order}
use Rattle.society_core.specs.Pools.{all_credits, credits_of}
use Rattle.society_rows.specs.Layout as layout
use Rattle.society_rows.specs.Stored.{rows_in}
use Rattle.society_book.specs.Columns.{HasRows, whole_number_at, text_at}
use Rattle.work_ids.specs.Account.{account_text}
use Rattle.work_ids.specs.Blanks.{without_trailing_blanks}
use Rattle.works_core.specs.Line.{filled_number, line_of}
use Rattle.works_core.specs.Recordings.{isrcs_of}
use Rattle.works_core.specs.Versions.{judged_of, placed_line, Placed}
use Rattle.works_core.specs.Verdicts.{works_in}
use Rattle.works_core.specs.declared.verdict.Verdict.{Verdict}
use Rattle.works_core.specs.declared.verdict.Verdict.TheVariants.{Accepted, Rejected}

-- whether the first column names a sender, or an account
abbrev pub is_named : List ℕ → Row → Bool
is_named name row = bytes_eq (text_at 0 row) name

-- whether a book has a transmission of a sender
abbrev pub has_sent : Book → List ℕ → Bool
has_sent book sender = list_any (λ key. bytes_eq key.sender sender) (finite.keys book.transmissions)

-- whether a book has the end of a segment of a sender
abbrev pub has_stated : Book → List ℕ → Bool
has_stated book sender = list_any (λ key. bytes_eq key.sender sender) (finite.keys book.ends)

-- whether a book has anything of a sender: a transmission, or the end of a segment
abbrev pub knows_sender : Book → List ℕ → Bool
knows_sender book sender = has_sent book sender || has_stated book sender

-- a sender's line up to its front
abbrev pub line_at_front : Office → Book → List ℕ → List Placed
line_at_front office book sender = placed_line (line_of office (transmissions_to book sender (front book sender)))

-- how many NWR of a sender are accepted up to its front
abbrev pub works_to : Office → Book → List ℕ → ℕ
works_to office book sender = works_in (judged_of (line_at_front office book sender))

-- the row of a sender of whom the book has anything: sender, front, works (profile)
abbrev pub front_rows : Office → Book → List ℕ → List Row
front_rows office book sender =
    if knows_sender book sender then (Text sender ∷ Int (pos (front book sender)) ∷ Int (pos (works_to office book sender)) ∷ []) ∷ [] else []

-- a transaction's verdict with its place: a rejected one has its fault, an accepted one its ordinal and its revision (profile)
abbrev pub verdict_row : List ℕ → ℕ → ℕ → Verdict → Row
verdict_row sender number place (Rejected fault) =
    Text sender ∷ Int (pos number) ∷ Int (pos place) ∷ Int (pos fault) ∷ Int (pos 0) ∷ Int (pos 0) ∷ []
verdict_row sender number place (Accepted ordinal revision) =
    Text sender ∷ Int (pos number) ∷ Int (pos place) ∷ Int (pos 0) ∷ Int (pos ordinal) ∷ Int (pos revision) ∷ []

-- what a transaction adds to a table, by its sender, its transmission's number, its place there and its verdict
abbrev pub Telling : Type 0
Telling = List ℕ → ℕ → ℕ → Transaction → Verdict → List Row

-- a transaction's work number as text, without the blanks that fill it
abbrev pub work_text : Transaction → List ℕ
work_text transaction = without_trailing_blanks (filled_number transaction)

-- every transaction adds its verdict
abbrev pub tells_verdict : Telling
tells_verdict sender number place transaction verdict = verdict_row sender number place verdict ∷ []

-- an accepted transaction adds a version: sender, work, revision, number, place, ordinal
abbrev pub tells_version : Telling
tells_version sender number place transaction (Rejected fault) = []
tells_version sender number place transaction (Accepted ordinal revision) =
    (Text sender ∷ Text (work_text transaction) ∷ Int (pos revision) ∷ Int (pos number) ∷ Int (pos place) ∷ Int (pos ordinal) ∷ []) ∷ []

-- an accepted transaction adds its recordings, each ISRC once: sender, work, revision, ISRC
abbrev pub tells_recordings : Telling
tells_recordings sender number place transaction (Rejected fault) = []
tells_recordings sender number place transaction (Accepted ordinal revision) =
    map (λ isrc. Text sender ∷ Text (work_text transaction) ∷ Int (pos revision) ∷ Text isrc ∷ []) (ascending bytes_cmp (isrcs_of transaction))

-- what the transactions of a transmission add, each with its verdict, from a place on
abbrev pub told_from : Telling → List ℕ → ℕ → ℕ → List Transaction → List Verdict → List Row
told_from tells sender number place (transaction ∷ transactions) (verdict ∷ verdicts) =
    tells sender number place transaction verdict ++ told_from tells sender number (place + 1) transactions verdicts
told_from tells sender number place _ _ = []

-- what a sender's transmission adds to a table
abbrev pub told_by : Telling → Office → Book → List ℕ → ℕ → List Row
told_by tells office book sender number =
    told_from tells sender number 0 (transactions_of (transmission_in (unwrap_or (body_at book sender number) []))) (verdicts_in office book sender number)

-- what the transmissions of a sender's line add to a table (profile)
abbrev pub told_to_front : Telling → Office → Book → List ℕ → List Row
told_to_front tells office book sender = flat_map (told_by tells office book sender) (line book sender)

-- a line of a pool's credits: pool, line from 0, ISRC or -, account, units (profile)
abbrev pub credit_row : ℕ → ℕ → Credit → Row
credit_row pool line credit =
    Int (pos pool) ∷ Int (pos line) ∷ Text (unwrap_or credit.isrc (45 ∷ [])) ∷ Text (account_text credit.account) ∷ Int (pos credit.units) ∷ []

-- the credits of a pool that is closed, as rows
abbrev pub credit_rows_by : Office → Book → ℕ → Option Order → List Row
credit_rows_by office book pool (Some order) = map (λ line. credit_row pool line.0 line.1) (enumerate_from 0 (credits_of office book order))
credit_rows_by office book pool None = []

-- the lines of a pool's credits
abbrev pub credit_rows : Office → Book → ℕ → List Row
credit_rows office book pool = credit_rows_by office book pool (order_at book pool)

-- the credits of a book to the account of a text
abbrev pub credits_to : Office → Book → List ℕ → List Credit
credits_to office book account = filter (λ credit. bytes_eq account (account_text credit.account)) (all_credits office book)

-- the row of an account that some credits name, also where their units are 0 (profile)
abbrev pub balance_rows_by : List ℕ → List Credit → List Row
balance_rows_by account [] = []
balance_rows_by account (credit ∷ credits) = (Text account ∷ Int (pos (sum_by units_of (credit ∷ credits))) ∷ []) ∷ []

-- the row of an account
abbrev pub balance_rows : Office → Book → List ℕ → List Row
balance_rows office book account = balance_rows_by account (credits_to office book account)

-- the derived tables have exactly the rows that are derived from a book
pub record AreDerived (office : Office) (book : Book) (db : Trees) : Type 0 where
  pub fronts : HasRows is_named (front_rows office book) (rows_in layout.fronts db)
  pub verdicts : HasRows is_named (told_to_front tells_verdict office book) (rows_in layout.verdicts db)
  pub versions : HasRows is_named (told_to_front tells_version office book) (rows_in layout.versions db)
  pub recordings : HasRows is_named (told_to_front tells_recordings office book) (rows_in layout.recordings db)
  pub credits : HasRows (λ pool row. pool == whole_number_at 0 row) (credit_rows office book) (rows_in layout.credits_table db)
  pub balances : HasRows is_named (balance_rows office book) (rows_in layout.balances db)
