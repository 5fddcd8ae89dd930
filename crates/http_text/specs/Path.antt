-- The routes of the office, and the request that a method, a target and a body make.
use Rattle.std.specs.Prelude.{◌≡◌, ℕ, Bool, true, false, List, [], ◌==◌, ◌&&◌, ◌||◌, not, nat_lt, codes, if◌then◌else◌, Option, Some, None, Result, Ok, Err, option_and_then}
use Rattle.std.specs.List.{list_all}
use Rattle.std.specs.Option.{option_map}
use Rattle.std.specs.Result.{result_ok}
use Rattle.httparse.specs.Grammar.{RequestHead}
use Rattle.matchit.specs.Rows.{RowsOf}
use Rattle.matchit.specs.Route.{Scan, parse_route}
use Rattle.matchit.specs.Router.{RouteOf, route_from}
use Rattle.matchit.specs.Order.{placed}
use Rattle.matchit.specs.Params.{walk, named}
use Rattle.matchit.specs.Seek.{first}
use Rattle.matchit.specs.declared.error.InsertError.{InsertError}
use Rattle.percent_encoding.specs.Percent.{percent_decode}
use Rattle.work_ids.specs.Account.{account_of}
use Rattle.work_ids.specs.FileNames.{number_in_name}
use Rattle.work_ids.specs.Numbers.{is_plain_number, is_pool_number, is_return_number, number_in_text}
use Rattle.work_ids.specs.WorkNumber.{work_number_of}
use Rattle.work_ids.specs.declared.account.Account.{Account as AccountKey}
use Rattle.work_ids.specs.declared.segment.Segment.{Segment as NumberSegment}
use Rattle.society_core.specs.Keys.{return_key}
use Rattle.society_core.specs.Requests.{Query, Puts, PutsReturn, Inquires, AsksElsewhere}
use Rattle.society_core.specs.declared.inquiry.Inquiry.{Inquiry}
use Rattle.society_core.specs.declared.inquiry.Inquiry.TheVariants as inquiries
use Rattle.http_text.specs.declared.routes.Route.{Route}
use Rattle.http_text.specs.declared.routes.Route.TheVariants.{Transmission, File, Segment, Acknowledgement, Return, Sender, Verdicts, Work, Account, Pool}
use Rattle.http_text.specs.BodyLength.{is_put}
use Rattle.http_text.specs.EndText.{state_query}
use Rattle.http_text.specs.NumberTexts.{rank_in_text, segment_named}
use Rattle.http_text.specs.OrderText.{close_query, reporter_named, sender_of}
use Rattle.http_text.specs.Part.{Part}

-- a route's text that reads well takes its place among the routes
abbrev pub added : Result Scan InsertError → Route → RowsOf (RouteOf Route) → RowsOf (RouteOf Route)
added (Ok scan) route rows = placed (scan.pattern, route_from scan route) rows
added (Err error) route rows = rows

-- the routes with one more, given by its text
abbrev pub with_route : List ℕ → Route → RowsOf (RouteOf Route) → RowsOf (RouteOf Route)
with_route text route rows = added (parse_route text) route rows

-- the routes of what comes as a file, of its acknowledgement, and of the ends of segments (profile)
unfoldable pub with_file_routes : RowsOf (RouteOf Route) → RowsOf (RouteOf Route)
with_file_routes rows =
    with_route (codes "/v1/returns/{reporter}/{n}") Return
    (with_route (codes "/v1/senders/{sender}/acks/{n}") Acknowledgement
    (with_route (codes "/v1/senders/{sender}/segments/{segment}") Segment
    (with_route (codes "/v1/senders/{sender}/files/{name}") File
    (with_route (codes "/v1/senders/{sender}/transmissions/{n}") Transmission rows))))

-- the routes of what the book shows of senders and accounts, and of pools (profile)
unfoldable pub with_book_routes : RowsOf (RouteOf Route) → RowsOf (RouteOf Route)
with_book_routes rows =
    with_route (codes "/v1/pools/{pool}") Pool
    (with_route (codes "/v1/accounts/{account}") Account
    (with_route (codes "/v1/senders/{sender}/works/{work}") Work
    (with_route (codes "/v1/senders/{sender}/verdicts/{n}") Verdicts
    (with_route (codes "/v1/senders/{sender}") Sender rows))))

-- the routes of the office (profile)
unfoldable pub office_routes : RowsOf (RouteOf Route)
office_routes = with_book_routes (with_file_routes [])

-- the byte is ASCII, and begins neither a query nor a fragment
abbrev pub is_path_byte : ℕ → Bool
is_path_byte byte = nat_lt byte 128 && not (byte == 63 || byte == 35)

-- a target that can be a path of the office: no parameter of it can have another byte (profile)
abbrev pub is_path : List ℕ → Bool
is_path target = list_all is_path_byte target

-- what the parameter of this name takes of a path, percent-decoded once
abbrev pub parameter : List ℕ → List (List ℕ × List ℕ) → Option (List ℕ)
parameter name parts = option_map percent_decode (named name parts)

-- the sender in what the parameters of a route took
abbrev pub sender_in_path : List (List ℕ × List ℕ) → Option (List ℕ)
sender_in_path parts = option_and_then sender_of (parameter (codes "sender") parts)

-- the plain number of a transmission in it
abbrev pub plain_number_in_path : List (List ℕ × List ℕ) → Option ℕ
plain_number_in_path parts = option_and_then (number_in_text is_plain_number) (parameter (codes "n") parts)

-- the number of a transmission in it, plain or of a year
abbrev pub transmission_number_in_path : List (List ℕ × List ℕ) → Option ℕ
transmission_number_in_path parts = option_and_then rank_in_text (parameter (codes "n") parts)

-- the number in the name of a file in it, which is sent to this society
abbrev pub file_number_in_path : ℕ → List (List ℕ × List ℕ) → Option ℕ
file_number_in_path society parts = option_and_then (number_in_name society) (parameter (codes "name") parts)

-- the segment of a sender's numbers in it
abbrev pub segment_in_path : List (List ℕ × List ℕ) → Option NumberSegment
segment_in_path parts = option_and_then segment_named (parameter (codes "segment") parts)

-- the reporter in it
abbrev pub reporter_in_path : List (List ℕ × List ℕ) → Option (List ℕ)
reporter_in_path parts = option_and_then reporter_named (parameter (codes "reporter") parts)

-- the number of a return in it
abbrev pub return_number_in_path : List (List ℕ × List ℕ) → Option ℕ
return_number_in_path parts = option_and_then (number_in_text is_return_number) (parameter (codes "n") parts)

-- the number of a pool in it
abbrev pub pool_number_in_path : List (List ℕ × List ℕ) → Option ℕ
pool_number_in_path parts = option_and_then (number_in_text is_pool_number) (parameter (codes "pool") parts)

-- the work number in it
abbrev pub work_number_in_path : List (List ℕ × List ℕ) → Option (List ℕ)
work_number_in_path parts = option_and_then (λ bytes. result_ok (work_number_of bytes)) (parameter (codes "work") parts)

-- the account in it
abbrev pub account_in_path : List (List ℕ × List ℕ) → Option AccountKey
account_in_path parts = option_and_then (λ bytes. result_ok (account_of bytes)) (parameter (codes "account") parts)

-- what is made of a party and something of it, where both are there
abbrev pub of_both : {X Y : Type 0} → (List ℕ → X → Y) → Option (List ℕ) → Option X → Option Y
of_both makes (Some party) (Some thing) = Some (makes party thing)
of_both makes (Some party) None = None
of_both makes None thing = None

-- what is asked of a thing where it is there, else something that the office does not have
abbrev pub asked_of : {X : Type 0} → (X → Query) → Option X → Query
asked_of asks (Some thing) = asks thing
asked_of asks None = AsksElsewhere

-- what a put asks the office of a society of a route, by what its parameters took and the body: a route reads its own and no other
abbrev pub asked_by_put : ℕ → Route → List (List ℕ × List ℕ) → List ℕ → Query
asked_by_put society Transmission parts body =
    asked_of (λ query. query) (of_both (λ sender number. Puts sender number body) (sender_in_path parts) (plain_number_in_path parts))
asked_by_put society File parts body =
    asked_of (λ query. query) (of_both (λ sender number. Puts sender number body) (sender_in_path parts) (file_number_in_path society parts))
asked_by_put society Segment parts body =
    asked_of (λ query. query) (of_both (λ sender segment. state_query sender segment body) (sender_in_path parts) (segment_in_path parts))
asked_by_put society Return parts body =
    asked_of (λ query. query) (of_both (λ reporter number. PutsReturn (return_key reporter number) body) (reporter_in_path parts) (return_number_in_path parts))
asked_by_put society Pool parts body = asked_of (λ pool. close_query pool body) (pool_number_in_path parts)
asked_by_put society other parts body = AsksElsewhere

-- what a get asks to be shown of a route, whatever its body
abbrev pub inquiry_at : Route → List (List ℕ × List ℕ) → Option Inquiry
inquiry_at Acknowledgement parts = of_both inquiries.Acknowledgement (sender_in_path parts) (transmission_number_in_path parts)
inquiry_at Sender parts = option_map inquiries.Sender (sender_in_path parts)
inquiry_at Verdicts parts = of_both inquiries.Verdicts (sender_in_path parts) (transmission_number_in_path parts)
inquiry_at Work parts = of_both inquiries.Work (sender_in_path parts) (work_number_in_path parts)
inquiry_at Account parts = option_map inquiries.Balance (account_in_path parts)
inquiry_at Pool parts = option_map inquiries.Credits (pool_number_in_path parts)
inquiry_at other parts = None

-- what a get asks of a route
abbrev pub asked_by_get : Route → List (List ℕ × List ℕ) → Query
asked_by_get route parts = asked_of Inquires (inquiry_at route parts)

-- what is asked of a route, by whether the method is PUT
abbrev pub asked_of_route : ℕ → Bool → Route → List (List ℕ × List ℕ) → List ℕ → Query
asked_of_route society true route parts body = asked_by_put society route parts body
asked_of_route society false route parts body = asked_by_get route parts

-- what is asked, where a route takes the path
abbrev pub asked_by : ℕ → Bool → List ℕ → Option (RouteOf Route) → List ℕ → Query
asked_by society put path (Some route) body =
    asked_of_route society put route.value (walk route.pattern route.text path route.names 0 0) body
asked_by society put path None body = AsksElsewhere

-- what is asked of the office of a society by a method, a target and a body
abbrev pub query_for : ℕ → Bool → List ℕ → List ℕ → Query
query_for society put target body =
    if is_path target then asked_by society put target (first office_routes target) body else AsksElsewhere

-- what a request as bytes asks of the office of a society
abbrev pub request_of : ℕ → Part → Query
request_of society part = query_for society (is_put part.head.method) part.head.target part.body

-- a head asks the office of a society to put a transmission, whatever the body behind it
abbrev pub PutsTransmission : ℕ → RequestHead → Type 0
PutsTransmission society head =
    (sender : List ℕ) × (number : ℕ) × ((body : List ℕ) → query_for society (is_put head.method) head.target body ≡ Puts sender number body)
