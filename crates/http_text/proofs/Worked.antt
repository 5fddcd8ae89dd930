-- Worked values: how long the bodies after heads are, what paths ask for, and answers byte for byte.
use Rattle.std.specs.Prelude.{◌≡◌, ℕ, true, false, List, [], ◌∷◌, Option, Some, None, refl, codes}
use Rattle.std.specs.Fmt.{digits}
use Rattle.http1.specs.Fields.{elements}
use Rattle.http1.specs.Text.{eq_ignore_case}
use Rattle.httparse.specs.Grammar.{trim_ows}
use Rattle.percent_encoding.specs.Percent.{percent_decode}
use Rattle.work_ids.specs.Digits.{decimal_value, last_digits}
use Rattle.work_ids.specs.FileNames.{is_file_name, is_name_end, number_in_name}
use Rattle.work_ids.specs.SpelledNumber.{dated_in_text, is_dated_text}
use Rattle.work_ids.specs.declared.segment.Segment.TheVariants as segments
use Rattle.work_ids.specs.declared.segment_end.SegmentFault.TheVariants.{NotLater}
use Rattle.society_core.specs.Keys.{return_key}
use Rattle.society_core.specs.Requests.{Puts, PutsReturn, Inquires, AsksElsewhere, Arrived, Ended, Stored, Showed, Acknowledged, Refused}
use Rattle.society_core.specs.declared.end_fault.EndFault.TheVariants.{Numbers}
use Rattle.society_core.specs.declared.inquiry.Inquiry.TheVariants as inquiries
use Rattle.society_core.specs.declared.answers.Receipt.TheVariants.{New, Repeated}
use Rattle.society_core.specs.declared.refusal.Refusal.TheVariants.{Reused, File as NoFile, Ended as EndedBefore, Segment as Past, End as NoEnd, Csv, Cut, Unknown}
use Rattle.society_core.specs.declared.answers.Standing.TheVariants.{Applied, Held}
use Rattle.http_text.specs.declared.body_length.BodyLength.TheVariants.{Sized, Faulty, Large}
use Rattle.http_text.specs.declared.connection_end.End.TheVariants.{Bad, TooLarge, Busy}
use Rattle.http_text.specs.BodyLength.{body_length_of, ends_connection}
use Rattle.http_text.specs.EndText.{state_query}
use Rattle.http_text.specs.NumberTexts.{number_text}
use Rattle.http_text.specs.Path.{asked_of_route, file_number_in_path, is_path, parameter, plain_number_in_path, transmission_number_in_path}
use Rattle.http_text.specs.declared.routes.Route.TheVariants.{Transmission, File, Segment, Acknowledgement, Return}
use Rattle.http_text.specs.Text.{ending, head_text, refusal_text, reply_text}

-- one field
abbrev only : List ℕ → List ℕ → List (List ℕ × List ℕ)
only name value = (name, value) ∷ []

-- the fields of a head with this Content-Length
abbrev length_of : List ℕ → List (List ℕ × List ℕ)
length_of value = only (codes "content-LENGTH") value

-- ---- the body after a head

no_length : body_length_of (codes "GET") [] ≡ Sized 0
no_length = refl

zeros_in_front : body_length_of (codes "PUT") (length_of (codes "0007")) ≡ Sized 7
zeros_in_front = refl

greatest_body : body_length_of (codes "PUT") (length_of (codes "1048576")) ≡ Sized 1048576
greatest_body = refl

one_byte_more : body_length_of (codes "PUT") (length_of (codes "1048577")) ≡ Large
one_byte_more = refl

thirty_nines : body_length_of (codes "GET") (length_of (codes "999999999999999999999999999999")) ≡ Large
thirty_nines = refl

a_sign : body_length_of (codes "PUT") (length_of (codes "+5")) ≡ Faulty
a_sign = refl

an_empty_length : body_length_of (codes "PUT") (length_of []) ≡ Faulty
an_empty_length = refl

two_equal_lengths : body_length_of (codes "PUT") ((codes "Content-Length", codes "5") ∷ length_of (codes "5")) ≡ Faulty
two_equal_lengths = refl

another_method : body_length_of (codes "POST") (length_of (codes "1048577")) ≡ Faulty
another_method = refl

small_letters : body_length_of (codes "get") [] ≡ Faulty
small_letters = refl

an_empty_encoding : body_length_of (codes "PUT") ((codes "Transfer-Encoding", []) ∷ length_of (codes "1048577")) ≡ Faulty
an_empty_encoding = refl

-- ---- the end of the connection

closed_in_any_case : ends_connection 1 (only (codes "Connection") (codes "CLOSE")) ≡ true
unfolding elements eq_ignore_case trim_ows
closed_in_any_case = refl

closed_among_others : ends_connection 1 (only (codes "Connection") (codes "keep-alive ,\tClose,")) ≡ true
unfolding elements eq_ignore_case trim_ows
closed_among_others = refl

kept_by_longer_words : ends_connection 1 (only (codes "Connection") (codes "closed, x-close")) ≡ false
unfolding elements eq_ignore_case trim_ows
kept_by_longer_words = refl

closed_by_the_second : ends_connection 1 ((codes "connection", codes "keep-alive") ∷ only (codes "connection") (codes "close")) ≡ true
unfolding elements eq_ignore_case trim_ows
closed_by_the_second = refl

version_one_zero : ends_connection 0 (only (codes "Connection") (codes "keep-alive")) ≡ true
version_one_zero = refl

-- ---- numbers and paths

-- the plain number that this parameter has
abbrev plain : List ℕ → Option ℕ
plain text = plain_number_in_path ((codes "n", text) ∷ [])

last_number : plain (codes "999999") ≡ Some 999999
unfolding percent_decode
last_number = refl

past_the_last : plain (codes "1000000") ≡ None
unfolding percent_decode
past_the_last = refl

zero : plain (codes "0") ≡ None
unfolding percent_decode
zero = refl

zero_in_front : plain (codes "01") ≡ None
unfolding percent_decode
zero_in_front = refl

no_plain_number : plain (codes "26-0001") ≡ None
unfolding percent_decode
no_plain_number = refl

-- the number that this parameter has, plain or of a year
abbrev number : List ℕ → Option ℕ
number text = transmission_number_in_path ((codes "n", text) ∷ [])

plain_as_before : number (codes "999999") ≡ Some 999999
unfolding percent_decode dated_in_text is_dated_text
plain_as_before = refl

past_the_last_plain : number (codes "1260001") ≡ None
unfolding percent_decode dated_in_text is_dated_text
past_the_last_plain = refl

first_of_a_year : number (codes "26-0001") ≡ Some 1260001
unfolding percent_decode dated_in_text is_dated_text
first_of_a_year = refl

last_of_all : number (codes "99%2d9999") ≡ Some 1999999
unfolding percent_decode dated_in_text is_dated_text
last_of_all = refl

none_of_a_year : number (codes "26-0000") ≡ None
unfolding percent_decode dated_in_text is_dated_text
none_of_a_year = refl

digits_missing : number (codes "26-001") ≡ None
unfolding percent_decode dated_in_text is_dated_text
digits_missing = refl

-- the number in this name of a file that is sent to society 900
abbrev named : List ℕ → Option ℕ
named name = file_number_in_path 900 ((codes "name", name) ∷ [])

first_file : named (codes "CW260001EXA_900.V22") ≡ Some 1260001
unfolding percent_decode number_in_name is_file_name is_name_end last_digits
first_file = refl

in_small_letters : named (codes "cw260001ex_900.v21") ≡ Some 1260001
unfolding percent_decode number_in_name is_file_name is_name_end last_digits
in_small_letters = refl

no_number_of_a_file : named (codes "CW260000EXA_900.V22") ≡ None
unfolding percent_decode number_in_name is_file_name is_name_end last_digits
no_number_of_a_file = refl

of_another_society : named (codes "CW260001EXA_901.V22") ≡ None
unfolding percent_decode number_in_name is_file_name is_name_end last_digits
of_another_society = refl

of_another_version : named (codes "CW260001EXA_900.V30") ≡ None
unfolding percent_decode number_in_name is_file_name is_name_end last_digits
of_another_version = refl

-- a parameter is decoded once
decoded : parameter (codes "sender") ((codes "sender", codes "%50B000000012") ∷ (codes "n", codes "1") ∷ []) ≡ Some (codes "PB000000012")
unfolding percent_decode
decoded = refl

decoded_once : parameter (codes "n") ((codes "sender", codes "PB000000012") ∷ (codes "n", codes "%2531") ∷ []) ≡ Some (codes "%31")
unfolding percent_decode
decoded_once = refl

-- no path has a query or a fragment
a_query : is_path (codes "/v1/senders/PB000000012/acks/1?x") ≡ false
a_query = refl

-- a transmission is put, and its acknowledgement is asked for
abbrev parts : List (List ℕ × List ℕ)
parts = (codes "sender", codes "PB000000012") ∷ (codes "n", codes "1") ∷ []

put : asked_of_route 900 true Transmission parts (codes "HDR") ≡ Puts (codes "PB000000012") 1 (codes "HDR")
unfolding percent_decode
put = refl

get : asked_of_route 900 false Acknowledgement parts [] ≡ Inquires (inquiries.Acknowledgement (codes "PB000000012") 1)
unfolding percent_decode dated_in_text is_dated_text
get = refl

get_of_a_transmission : asked_of_route 900 false Transmission parts [] ≡ AsksElsewhere
get_of_a_transmission = refl

put_of_an_acknowledgement : asked_of_route 900 true Acknowledgement parts [] ≡ AsksElsewhere
put_of_an_acknowledgement = refl

-- a file is put under the number in its name
abbrev file_parts : List (List ℕ × List ℕ)
file_parts = (codes "sender", codes "PB000000012") ∷ (codes "name", codes "CW260001EXA_900.V22") ∷ []

put_file : asked_of_route 900 true File file_parts (codes "HDR") ≡ Puts (codes "PB000000012") 1260001 (codes "HDR")
unfolding percent_decode number_in_name is_file_name is_name_end last_digits
put_file = refl

put_file_of_another_society : asked_of_route 901 true File file_parts (codes "HDR") ≡ AsksElsewhere
unfolding percent_decode number_in_name is_file_name is_name_end last_digits
put_file_of_another_society = refl

get_of_a_file : asked_of_route 900 false File file_parts [] ≡ AsksElsewhere
get_of_a_file = refl

-- the end of a segment is put under the segment's name
abbrev segment_parts : List ℕ → List (List ℕ × List ℕ)
segment_parts name = (codes "sender", codes "PB000000012") ∷ (codes "segment", name) ∷ []

put_plain_end : asked_of_route 900 true Segment (segment_parts (codes "plain")) (codes "{}") ≡ state_query (codes "PB000000012") segments.Plain (codes "{}")
unfolding percent_decode
put_plain_end = refl

put_end_of_a_year : asked_of_route 900 true Segment (segment_parts (codes "05")) (codes "{}") ≡ state_query (codes "PB000000012") (segments.Year 5) (codes "{}")
unfolding percent_decode decimal_value
put_end_of_a_year = refl

put_end_of_no_year : asked_of_route 900 true Segment (segment_parts (codes "2026")) (codes "{}") ≡ AsksElsewhere
unfolding percent_decode
put_end_of_no_year = refl

put_end_in_capitals : asked_of_route 900 true Segment (segment_parts (codes "PLAIN")) (codes "{}") ≡ AsksElsewhere
unfolding percent_decode
put_end_in_capitals = refl

-- a return is put under a reporter of up to 20 bytes and a number
abbrev return_parts : List ℕ → List (List ℕ × List ℕ)
return_parts reporter = (codes "reporter", reporter) ∷ (codes "n", codes "7") ∷ []

put_return : asked_of_route 900 true Return (return_parts (codes "RADIO%31")) (codes "x") ≡ PutsReturn (return_key (codes "RADIO1              ") 7) (codes "x")
unfolding percent_decode
put_return = refl

put_return_of_nobody : asked_of_route 900 true Return (return_parts (codes "radio")) (codes "x") ≡ AsksElsewhere
unfolding percent_decode
put_return_of_nobody = refl

get_of_a_return : asked_of_route 900 false Return (return_parts (codes "RADIO1")) [] ≡ AsksElsewhere
get_of_a_return = refl

-- ---- answers

applied : reply_text (Arrived (record { known = false; front = 1; standing = Applied })) false ≡ codes "HTTP/1.1 201 Created\r\nContent-Type: application/json\r\nContent-Length: 29\r\n\r\n{\"front\":1,\"state\":\"applied\"}"
unfolding head_text number_text digits
applied = refl

applied_of_a_year : reply_text (Arrived (record { known = false; front = 1260001; standing = Applied })) false ≡ codes "HTTP/1.1 201 Created\r\nContent-Type: application/json\r\nContent-Length: 37\r\n\r\n{\"front\":\"26-0001\",\"state\":\"applied\"}"
unfolding head_text number_text digits last_digits
applied_of_a_year = refl

held : reply_text (Arrived (record { known = false; front = 0; standing = Held })) true ≡ codes "HTTP/1.1 202 Accepted\r\nContent-Type: application/json\r\nContent-Length: 26\r\nConnection: close\r\n\r\n{\"front\":0,\"state\":\"held\"}"
unfolding head_text number_text digits
held = refl

repeated : reply_text (Arrived (record { known = true; front = 1; standing = Held })) false ≡ codes "HTTP/1.1 200 OK\r\nContent-Type: application/json\r\nContent-Length: 26\r\n\r\n{\"front\":1,\"state\":\"held\"}"
unfolding head_text number_text digits
repeated = refl

acknowledged : reply_text (Showed (Acknowledged (codes "HDR"))) false ≡ codes "HTTP/1.1 200 OK\r\nContent-Type: application/octet-stream\r\nContent-Length: 3\r\n\r\nHDR"
unfolding head_text digits
acknowledged = refl

reused : reply_text (Refused Reused) false ≡ codes "HTTP/1.1 409 Conflict\r\nContent-Type: application/json\r\nContent-Length: 18\r\n\r\n{\"error\":\"reused\"}"
unfolding head_text digits
reused = refl

faulty : reply_text (Refused (NoFile (record { number = 8; line = 10 }))) false ≡ codes "HTTP/1.1 422 Unprocessable Entity\r\nContent-Type: application/json\r\nContent-Length: 36\r\n\r\n{\"error\":\"file\",\"fault\":8,\"line\":10}"
unfolding head_text digits
faulty = refl

ended : reply_text (Ended New 1260000) false ≡ codes "HTTP/1.1 201 Created\r\nContent-Type: application/json\r\nContent-Length: 35\r\n\r\n{\"front\":\"26-0000\",\"state\":\"ended\"}"
unfolding head_text number_text digits last_digits
ended = refl

ended_before : reply_text (Ended Repeated 1) false ≡ codes "HTTP/1.1 200 OK\r\nContent-Type: application/json\r\nContent-Length: 27\r\n\r\n{\"front\":1,\"state\":\"ended\"}"
unfolding head_text number_text digits
ended_before = refl

above_the_end : reply_text (Refused (EndedBefore 1)) false ≡ codes "HTTP/1.1 409 Conflict\r\nContent-Type: application/json\r\nContent-Length: 26\r\n\r\n{\"error\":\"ended\",\"last\":1}"
unfolding head_text digits
above_the_end = refl

end_below_a_number : reply_text (Refused (Past 2)) false ≡ codes "HTTP/1.1 409 Conflict\r\nContent-Type: application/json\r\nContent-Length: 30\r\n\r\n{\"error\":\"segment\",\"number\":2}"
unfolding head_text number_text digits
end_below_a_number = refl

end_below_a_number_of_a_year : refusal_text (Past 1260002) ≡ codes "{\"error\":\"segment\",\"number\":\"26-0002\"}"
unfolding number_text digits last_digits
end_below_a_number_of_a_year = refl

faulty_end : reply_text (Refused (NoEnd (Numbers NotLater))) false ≡ codes "HTTP/1.1 422 Unprocessable Entity\r\nContent-Type: application/json\r\nContent-Length: 29\r\n\r\n{\"error\":\"segment\",\"fault\":3}"
unfolding head_text digits
faulty_end = refl

cut_beside_the_line : refusal_text (Cut (codes "PB000000012") 1260001) ≡ codes "{\"error\":\"cut\",\"front\":\"26-0001\",\"sender\":\"PB000000012\"}"
unfolding number_text digits last_digits
cut_beside_the_line = refl

stored : reply_text (Stored New) false ≡ codes "HTTP/1.1 201 Created\r\nContent-Type: application/json\r\nContent-Length: 18\r\n\r\n{\"state\":\"stored\"}"
unfolding head_text digits
stored = refl

stored_before : reply_text (Stored Repeated) false ≡ codes "HTTP/1.1 200 OK\r\nContent-Type: application/json\r\nContent-Length: 18\r\n\r\n{\"state\":\"stored\"}"
unfolding head_text digits
stored_before = refl

faulty_return : reply_text (Refused (Csv (record { number = 3; row = 12 }))) false ≡ codes "HTTP/1.1 422 Unprocessable Entity\r\nContent-Type: application/json\r\nContent-Length: 34\r\n\r\n{\"error\":\"csv\",\"fault\":3,\"row\":12}"
unfolding head_text digits
faulty_return = refl

unknown : reply_text (Refused Unknown) false ≡ codes "HTTP/1.1 404 Not Found\r\nContent-Type: application/json\r\nContent-Length: 19\r\n\r\n{\"error\":\"unknown\"}"
unfolding head_text digits
unknown = refl

no_request : ending Bad ≡ codes "HTTP/1.1 400 Bad Request\r\nContent-Type: application/json\r\nContent-Length: 19\r\nConnection: close\r\n\r\n{\"error\":\"request\"}"
unfolding head_text digits
no_request = refl

too_large : ending TooLarge ≡ codes "HTTP/1.1 413 Payload Too Large\r\nContent-Type: application/json\r\nContent-Length: 16\r\nConnection: close\r\n\r\n{\"error\":\"size\"}"
unfolding head_text digits
too_large = refl

busy : ending Busy ≡ codes "HTTP/1.1 503 Service Unavailable\r\nContent-Type: application/json\r\nContent-Length: 16\r\nConnection: close\r\n\r\n{\"error\":\"busy\"}"
unfolding head_text digits
busy = refl
