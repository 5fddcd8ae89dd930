-- The bytes of an answer (RFC 9112, section 4; the fields and bodies: profile).
use Rattle.std.specs.Prelude.{ℕ, Bool, true, false, List, [], ◌∷◌, ◌++◌, length, codes, decimal, if◌then◌else◌, unwrap_or}
use Rattle.http.specs.StatusCode.{reason_phrase}
use Rattle.society_core.specs.Ends.{end_fault_number}
use Rattle.society_core.specs.Orders.{order_fault_number}
use Rattle.society_core.specs.declared.answers.Arrival.{Arrival}
use Rattle.society_core.specs.declared.answers.Receipt.{Receipt}
use Rattle.society_core.specs.declared.answers.Receipt.TheVariants.{New, Repeated}
use Rattle.society_core.specs.declared.answers.Standing.{Standing}
use Rattle.society_core.specs.declared.answers.Standing.TheVariants.{Applied, Held}
use Rattle.society_core.specs.declared.refusal.Refusal.{Refusal}
use Rattle.society_core.specs.declared.refusal.Refusal.TheVariants.{Reused, File, Ended as EndedBefore, Segment, End as NoEnd, Csv, Order, Cut, ReturnUnknown, ReturnPaid, Unknown, Unavailable}
use Rattle.society_core.specs.Requests.{Reply, Arrived, Ended, Stored, Closed, Showed, Refused, Showing, Acknowledged, Stands, Described, Judged, Credited, Owed}
use Rattle.work_ids.specs.Blanks.{without_trailing_blanks}
use Rattle.http_text.specs.declared.status.ContentType.{ContentType}
use Rattle.http_text.specs.declared.status.ContentType.TheVariants as types
use Rattle.http_text.specs.declared.status.Status.{Status}
use Rattle.http_text.specs.declared.status.Status.TheVariants as statuses
use Rattle.http_text.specs.BodyLength.{closes}
use Rattle.http_text.specs.Json.{balance_json_text, sender_json_text, verdicts_json_text, work_json_text}
use Rattle.http_text.specs.NumberTexts.{number_text}
use Rattle.http_text.specs.Part.{Part}
use Rattle.http_text.specs.Table.{table_text}
use Rattle.http_text.specs.declared.connection_end.End.{End}
use Rattle.http_text.specs.declared.connection_end.End.TheVariants.{Quiet, Closed, Bad, TooLarge, Busy}

-- the code of a status
abbrev pub code_of : Status → ℕ
code_of statuses.Done = 200
code_of statuses.Created = 201
code_of statuses.Accepted = 202
code_of statuses.BadRequest = 400
code_of statuses.NotFound = 404
code_of statuses.Conflict = 409
code_of statuses.TooLarge = 413
code_of statuses.Unprocessable = 422
code_of statuses.Unavailable = 503

-- the phrase of a status
abbrev pub phrase_of : ℕ → List ℕ
phrase_of status = unwrap_or (reason_phrase status) []

-- the name of a content type
abbrev pub type_text : ContentType → List ℕ
type_text types.Json = codes "application/json"
type_text types.File = codes "application/octet-stream"
type_text types.Table = codes "text/csv"

-- the field that says that the connection ends after the answer, with the line end before it
abbrev pub connection_field : Bool → List ℕ
connection_field true = codes "\r\nConnection: close"
connection_field false = []

-- the status line of an answer, without its end
abbrev pub status_text : ℕ → List ℕ
status_text status = codes "HTTP/1.1 " ++ decimal status ++ codes " " ++ phrase_of status

-- the fields of an answer and the empty line, with the line end before them
abbrev pub fields_text : List ℕ → ℕ → Bool → List ℕ
fields_text content_type size close =
    codes "\r\nContent-Type: " ++ content_type
    ++ codes "\r\nContent-Length: " ++ decimal size
    ++ connection_field close ++ codes "\r\n\r\n"

-- the head of an answer
unfoldable pub head_text : ℕ → List ℕ → ℕ → Bool → List ℕ
head_text status content_type size close = status_text status ++ fields_text content_type size close

-- an answer: its head and its body
abbrev pub answer_text : Status → ContentType → List ℕ → Bool → List ℕ
answer_text status content_type body close =
    head_text (code_of status) (type_text content_type) (length body) close ++ body

-- whether a transmission is applied or waits
abbrev pub standing_text : Standing → List ℕ
standing_text Applied = codes "applied"
standing_text Held = codes "held"

-- the body of an accepted transmission: its sender's front and whether it is applied
abbrev pub arrival_text : Arrival → List ℕ
arrival_text arrival =
    codes "{\"front\":" ++ number_text arrival.front ++ codes ",\"state\":\"" ++ standing_text arrival.standing ++ codes "\"}"

-- the status of a transmission that was not there: applied at once, or held
abbrev pub standing_status : Standing → Status
standing_status Applied = statuses.Created
standing_status Held = statuses.Accepted

-- the status of an accepted transmission: OK for a repeat
abbrev pub arrival_status : Arrival → Status
arrival_status arrival = if arrival.known then statuses.Done else standing_status arrival.standing

-- the status of an end, a return or an order that was taken: OK for a repeat (profile)
abbrev pub receipt_status : Receipt → Status
receipt_status New = statuses.Created
receipt_status Repeated = statuses.Done

-- the body of an end that is taken down: its sender's front (profile)
abbrev pub ended_text : ℕ → List ℕ
ended_text front = codes "{\"front\":" ++ number_text front ++ codes ",\"state\":\"ended\"}"

-- the body of a return that is stored (profile)
abbrev pub stored_text : List ℕ
stored_text = codes "{\"state\":\"stored\"}"

-- the body of a pool that is closed (profile)
abbrev pub closed_text : ℕ → List ℕ
closed_text pool = codes "{\"pool\":" ++ decimal pool ++ codes ",\"state\":\"closed\"}"

-- the body of a cut that is not in its sender's line (profile)
abbrev pub cut_text : List ℕ → ℕ → List ℕ
cut_text sender front =
    codes "{\"error\":\"cut\",\"front\":" ++ number_text front ++ codes ",\"sender\":\"" ++ sender ++ codes "\"}"

-- the body of a return that is not there (profile)
abbrev pub return_text : List ℕ → ℕ → List ℕ
return_text reporter number =
    codes "{\"error\":\"return\",\"number\":" ++ decimal number
    ++ codes ",\"reporter\":\"" ++ without_trailing_blanks reporter ++ codes "\"}"

-- the body of a return that another pool has paid (profile)
abbrev pub paid_text : List ℕ → ℕ → ℕ → List ℕ
paid_text reporter number pool =
    codes "{\"error\":\"paid\",\"number\":" ++ decimal number ++ codes ",\"pool\":" ++ decimal pool
    ++ codes ",\"reporter\":\"" ++ without_trailing_blanks reporter ++ codes "\"}"

-- the body of a refusal (profile)
abbrev pub refusal_text : Refusal → List ℕ
refusal_text Reused = codes "{\"error\":\"reused\"}"
refusal_text (File fault) =
    codes "{\"error\":\"file\",\"fault\":" ++ decimal fault.number ++ codes ",\"line\":" ++ decimal fault.line ++ codes "}"
refusal_text (EndedBefore last) = codes "{\"error\":\"ended\",\"last\":" ++ decimal last ++ codes "}"
refusal_text (Segment number) = codes "{\"error\":\"segment\",\"number\":" ++ number_text number ++ codes "}"
refusal_text (NoEnd fault) = codes "{\"error\":\"segment\",\"fault\":" ++ decimal (end_fault_number fault) ++ codes "}"
refusal_text (Csv fault) =
    codes "{\"error\":\"csv\",\"fault\":" ++ decimal fault.number ++ codes ",\"row\":" ++ decimal fault.row ++ codes "}"
refusal_text (Order fault) = codes "{\"error\":\"order\",\"fault\":" ++ decimal (order_fault_number fault) ++ codes "}"
refusal_text (Cut sender front) = cut_text sender front
refusal_text (ReturnUnknown key) = return_text key.reporter key.number
refusal_text (ReturnPaid key pool) = paid_text key.reporter key.number pool
refusal_text Unknown = codes "{\"error\":\"unknown\"}"
refusal_text Unavailable = codes "{\"error\":\"busy\"}"

-- the status of a refusal (profile)
abbrev pub refusal_status : Refusal → Status
refusal_status Reused = statuses.Conflict
refusal_status (File fault) = statuses.Unprocessable
refusal_status (EndedBefore last) = statuses.Conflict
refusal_status (Segment number) = statuses.Conflict
refusal_status (NoEnd fault) = statuses.Unprocessable
refusal_status (Csv fault) = statuses.Unprocessable
refusal_status (Order fault) = statuses.Unprocessable
refusal_status (Cut sender front) = statuses.Conflict
refusal_status (ReturnUnknown key) = statuses.Conflict
refusal_status (ReturnPaid key pool) = statuses.Conflict
refusal_status Unknown = statuses.NotFound
refusal_status Unavailable = statuses.Unavailable

-- the bytes of a refusal
abbrev pub refused_text : Refusal → Bool → List ℕ
refused_text refusal close = answer_text (refusal_status refusal) types.Json (refusal_text refusal) close

-- the content type of what is shown: an acknowledgement is a file, the credits of a pool are a table
abbrev pub showing_type : Showing → ContentType
showing_type (Acknowledged bytes) = types.File
showing_type (Credited credits) = types.Table
showing_type other = types.Json

-- the body of what is shown
abbrev pub showing_text : Showing → List ℕ
showing_text (Acknowledged bytes) = bytes
showing_text (Stands front held) = sender_json_text front held
showing_text (Described work) = work_json_text work
showing_text (Judged verdicts) = verdicts_json_text verdicts
showing_text (Credited credits) = table_text credits
showing_text (Owed account units) = balance_json_text account units

-- the bytes of an answer; close says that the connection ends after it
abbrev pub reply_text : Reply → Bool → List ℕ
reply_text (Arrived arrival) close = answer_text (arrival_status arrival) types.Json (arrival_text arrival) close
reply_text (Ended receipt front) close = answer_text (receipt_status receipt) types.Json (ended_text front) close
reply_text (Stored receipt) close = answer_text (receipt_status receipt) types.Json stored_text close
reply_text (Closed receipt pool) close = answer_text (receipt_status receipt) types.Json (closed_text pool) close
reply_text (Showed showing) close = answer_text statuses.Done (showing_type showing) (showing_text showing) close
reply_text (Refused refusal) close = refused_text refusal close

-- the bytes of the answers to requests, one after another
abbrev pub texts : List Part → List Reply → List ℕ
texts [] replies = []
texts (part ∷ parts) [] = []
texts (part ∷ parts) (reply ∷ replies) = reply_text reply (closes part.head) ++ texts parts replies

-- the answer to bytes that are no request
abbrev pub bad_text : List ℕ
bad_text = answer_text statuses.BadRequest types.Json (codes "{\"error\":\"request\"}") true

-- the answer where memory was refused while a request was read
abbrev pub busy_text : List ℕ
busy_text = answer_text statuses.Unavailable types.Json (refusal_text Unavailable) true

-- the answer to a head that announces more than the greatest body
abbrev pub large_text : List ℕ
large_text = answer_text statuses.TooLarge types.Json (codes "{\"error\":\"size\"}") true

-- what is written for the end of a connection
abbrev pub ending : End → List ℕ
ending Quiet = []
ending Closed = []
ending Bad = bad_text
ending TooLarge = large_text
ending Busy = busy_text
