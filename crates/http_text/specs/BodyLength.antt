-- What the fields of a head say of the body after it and of the connection (RFC 9110 and 9112, as far as the profile takes them).
use Rattle.std.specs.Prelude.{ℕ, Bool, List, [], ◌∷◌, ◌==◌, ◌&&◌, ◌||◌, nat_le, nat_lt, length, map, filter, codes, if◌then◌else◌, bytes_eq}
use Rattle.std.specs.Str.{str_eq_ignore_ascii_case}
use Rattle.std.specs.Str.Parse.{digits_value}
use Rattle.http1.specs.Fields.{elements_named, has_option}
use Rattle.httparse.specs.Grammar.{RequestHead}
use Rattle.httparse.specs.Spans.{name_and_value}
use Rattle.cwr_files.specs.Sizes.{max_body}
use Rattle.work_ids.specs.Digits.{is_number}
use Rattle.http_text.specs.declared.body_length.BodyLength.{BodyLength}
use Rattle.http_text.specs.declared.body_length.BodyLength.TheVariants.{Sized, Faulty, Large}

-- a field has this name; names are compared without case (RFC 9110, section 5.1)
abbrev pub is_field_named : List ℕ → List ℕ × List ℕ → Bool
is_field_named name field = str_eq_ignore_ascii_case field.0 name

-- the values of the fields of this name, in their order
abbrev pub field_values : List ℕ → List (List ℕ × List ℕ) → List (List ℕ)
field_values name fields = map (λ field. field.1) (filter (is_field_named name) fields)

-- the body of so many bytes, where it is not larger than a transmission may be (profile)
abbrev pub sized : ℕ → BodyLength
sized size = if nat_le size max_body then Sized size else Large

-- no Content-Length means no body; more than one, or one that is not all digits, is a fault (RFC 9110, section 8.6; profile)
abbrev pub body_length_by : List (List ℕ) → BodyLength
body_length_by [] = Sized 0
body_length_by (value ∷ []) = if is_number value then sized (digits_value 10 value) else Faulty
body_length_by (value ∷ other ∷ values) = Faulty

-- the method is PUT (profile)
abbrev pub is_put : List ℕ → Bool
is_put method = bytes_eq method (codes "PUT")

-- the method is one that the office knows, GET or PUT (profile)
abbrev pub is_known_method : List ℕ → Bool
is_known_method method = bytes_eq method (codes "GET") || is_put method

-- the length of the body by method and fields: no Transfer-Encoding field is taken (profile)
abbrev pub body_length_of : List ℕ → List (List ℕ × List ℕ) → BodyLength
body_length_of method fields =
    if is_known_method method && nat_lt (length (field_values (codes "transfer-encoding") fields)) 1
    then body_length_by (field_values (codes "content-length") fields)
    else Faulty

-- the length of the body after a head
abbrev pub body_length : RequestHead → BodyLength
body_length head = body_length_of head.method (map name_and_value head.fields)

-- a Connection field lists close, in any case (RFC 9110, section 7.6.1; RFC 9112, section 9.6)
abbrev pub says_close : List (List ℕ × List ℕ) → Bool
says_close fields = has_option (codes "close") (elements_named (codes "connection") fields)

-- version 1.0, or such a field, ends the connection after the answer (RFC 9112, section 9.3; profile)
abbrev pub ends_connection : ℕ → List (List ℕ × List ℕ) → Bool
ends_connection minor fields = minor == 0 || says_close fields

-- the connection ends after the answer to a head
abbrev pub closes : RequestHead → Bool
closes head = ends_connection head.minor (map name_and_value head.fields)
