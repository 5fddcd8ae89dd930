-- What the program's words ask for.
use Rattle.std.specs.Prelude.{String, map, string_bytes, ◌≡◌, ◌≢◌, ◌⊎◌, ◌^◌, ℕ, Bool, ◌&&◌, List, [], ◌∷◌, Option, Some, None, bytes_eq, codes, if◌then◌else◌, nat_lt, option_and_then, true, false, Result, IfOk, unwrap_or}
use Rattle.std.specs.Option.{option_map_or}
use Rattle.std.specs.List.{list_any}
use Rattle.std.specs.Str.Parse.{digits_value, without_leading_plus}
use Rattle.clap.specs.Faults.{fault_of}
use Rattle.clap.specs.Kinds.{Kinds}
use Rattle.clap.specs.Simple.{subcommand_of}
use Rattle.clap.specs.ValueTests.{is_numeral}
use Rattle.clap.specs.Walk.{Row, Text, first_of, one_of}
use Rattle.clap.specs.declared.error.kind.ErrorKind.{ErrorKind}
use Rattle.clap.specs.declared.error.kind.ErrorKind.TheVariants.{DisplayHelp, OutOfMemory}
use Rattle.share_rules.specs.Office.{IsOfficeOf, is_office}
use Rattle.share_rules.specs.declared.office.Office.{Office}
use Rattle.society_arguments.specs.CommandLine.{command_line}
use Rattle.society_arguments.specs.declared.words.Database.{Database}
use Rattle.society_arguments.specs.declared.words.Listening.{Listening}
use Rattle.society_arguments.specs.declared.words.Words.{Words}
use Rattle.society_arguments.specs.declared.words.Words.TheVariants as words

-- the number of so many bits that a text spells in decimal digits, a plus before them or not
abbrev pub number_spelled : ℕ → Text → Option ℕ
number_spelled bits text =
    let digits = without_leading_plus text in
    if is_numeral digits && nat_lt (digits_value 10 digits) (2 ^ bits) then Some (digits_value 10 digits) else None

-- the number that an option gives
abbrev pub number_given : ℕ → Text → List Row → Option ℕ
number_given bits option rows = option_and_then (number_spelled bits) (one_of option rows)

-- whether an option without a value is given: `clap` has the text `true` for it where it is
abbrev pub flag_given : Text → List Row → Bool
flag_given option rows = option_map_or (λ text. bytes_eq text (codes "true")) (first_of option rows) false

-- what words ask for: to replay at the office with this society, territory and name; to serve connections there at a place, over the database of a path, which has to be there already or not; to audit that database as the office's; to tell what orders would credit over it; to be told of the words; else the name is none, or the words are none that the program knows
pub data Asked : Type 0 where
  AsksReplay : ℕ → ℕ → Text → Asked
  AsksServe : Text → Bool → Listening → ℕ → ℕ → Text → Asked
  AsksAudit : Text → ℕ → ℕ → Text → Asked
  AsksCredit : Text → ℕ → ℕ → Text → Asked
  AsksHelp : Asked
  HasBadName : Asked
  HasBadWords : Asked

-- by the society, the territory and the name that are given: to replay there, or the name is at fault
abbrev pub asked_at : Option ℕ → Option ℕ → Option Text → Asked
asked_at (Some society) (Some territory) (Some name) = if is_office society territory name then AsksReplay society territory name else HasBadName
asked_at (Some society) (Some territory) None = HasBadWords
asked_at (Some society) None name = HasBadWords
asked_at None territory name = HasBadWords

-- what options ask for that name an office
abbrev pub asked_office : List Row → Asked
asked_office rows = asked_at (number_given 16 (codes "society") rows) (number_given 16 (codes "territory") rows) (first_of (codes "name") rows)

-- the place with a port, a count of connections, and a patience in seconds
abbrev pub place_at : Option ℕ → Option ℕ → ℕ → Option Listening
place_at (Some port) (Some connections) patience = Some (record { port = port; connections = connections; patience = patience })
place_at (Some port) None patience = None
place_at None connections patience = None

-- the patience in seconds that options give, 300 where they give none (profile)
abbrev pub patience_given : List Row → ℕ
patience_given rows = unwrap_or (number_given 32 (codes "patience") rows) 300

-- the place that options name
abbrev pub place_given : List Row → Option Listening
place_given rows = place_at (number_given 16 (codes "port") rows) (number_given 32 (codes "connections") rows) (patience_given rows)

-- where options name an office, what they ask for there; else what is wrong
abbrev pub at_office : (ℕ → ℕ → Text → Asked) → Asked → Asked
at_office asks (AsksReplay society territory name) = asks society territory name
at_office asks asked = asked

-- to serve the database of a path at a place, and whether it has to be there already; the rest names an office
abbrev pub serving : Option Text → Bool → Option Listening → Asked → Asked
serving (Some path) existing (Some place) asked = at_office (AsksServe path existing place) asked
serving (Some path) existing None asked = HasBadWords
serving None existing place asked = HasBadWords

-- what options of `serve` ask for
abbrev pub asked_serve : List Row → Asked
asked_serve rows = serving (first_of (codes "db") rows) (flag_given (codes "existing") rows) (place_given rows) (asked_office rows)

-- to audit the database of a path; the rest names an office
abbrev pub auditing : Option Text → Asked → Asked
auditing (Some path) asked = at_office (AsksAudit path) asked
auditing None asked = HasBadWords

-- what options of `audit` ask for
abbrev pub asked_audit : List Row → Asked
asked_audit rows = auditing (first_of (codes "db") rows) (asked_office rows)

-- to tell what orders would credit over the database of a path; the rest names an office
abbrev pub crediting : Option Text → Asked → Asked
crediting (Some path) asked = at_office (AsksCredit path) asked
crediting None asked = HasBadWords

-- what options of `credit` ask for
abbrev pub asked_credit : List Row → Asked
asked_credit rows = crediting (first_of (codes "db") rows) (asked_office rows)

-- what a command asks for with its options
abbrev pub asked_command : Text → List Row → Asked
asked_command command rows =
    if bytes_eq command (codes "serve") then asked_serve rows
    else (if bytes_eq command (codes "audit") then asked_audit rows
    else (if bytes_eq command (codes "credit") then asked_credit rows else asked_office rows))

-- what words ask for that the command line takes, by the command in them
abbrev pub asked_in : Option (Text × List Row) → Asked
asked_in (Some command) = asked_command command.0 command.1
asked_in None = HasBadWords

-- whether this is the request for help
abbrev pub is_help : ErrorKind → Bool
is_help DisplayHelp = true
is_help _ = false

-- what words ask for, by what the command line says against them and the command in them
abbrev pub asked_unless : Kinds → Option (Text × List Row) → Asked
asked_unless [] command = asked_in command
asked_unless (kind ∷ kinds) command = if list_any is_help (kind ∷ kinds) then AsksHelp else HasBadWords

-- what the words ask for, the program's name the first of them: what they give to the options of the command line
abbrev pub asked : List Text → Asked
asked words = asked_unless (fault_of command_line words) (subcommand_of command_line words)

-- what the program's words ask for
abbrev pub asks : {Z : Type 0} → List (String Z) → Asked
asks words = asked (map string_bytes words)

-- the database of this path, which has to be there already or not
abbrev pub IsDatabaseOf : Text → Bool → Database → Type 0
IsDatabaseOf path existing database = (database.path.now ≡ path) × (database.existing ≡ existing)

-- the program's reading of the words is what they ask for
abbrev pub IsReadAs : Asked → Words → Type 0
IsReadAs (AsksReplay society territory name) (words.Replay office) = IsOfficeOf society territory name office
IsReadAs (AsksServe path existing place society territory name) (words.Serve database read office) = IsDatabaseOf path existing database × (read ≡ place) × IsOfficeOf society territory name office
IsReadAs (AsksAudit path society territory name) (words.Audit opened office) = (opened.now ≡ path) × IsOfficeOf society territory name office
IsReadAs (AsksCredit path society territory name) (words.Credit opened office) = (opened.now ≡ path) × IsOfficeOf society territory name office
IsReadAs HasBadName words.BadName = Unit {0}
IsReadAs HasBadWords words.BadWords = Unit {0}
IsReadAs _ _ = ⊥

-- the words are refused for this: memory was, or they ask for help, or are wrong
abbrev pub IsRefusedAs : Asked → ErrorKind → Type 0
IsRefusedAs asked kind = (kind ≡ OutOfMemory) ⊎ (((kind ≡ DisplayHelp) × (asked ≡ AsksHelp)) ⊎ ((kind ≢ DisplayHelp) × (asked ≡ HasBadWords)))

-- the words ask for a replay at this office
abbrev pub AsksToReplay : Asked → Office → Type 0
AsksToReplay (AsksReplay society territory name) office = IsOfficeOf society territory name office
AsksToReplay _ office = ⊥

-- a database that is to be served as an office's: its path, whether it has to be there already, at which place, and whose it is
pub record Serving : Type 0 where
  pub path : Text
  pub existing : Bool
  pub place : Listening
  pub office : Office

-- a database, a place and an office, as what is to be served
abbrev pub serving_of : Database → Listening → Office → Serving
serving_of database place office = record { path = database.path.now; existing = database.existing; place = place; office = office }

-- the words ask to serve so
abbrev pub AsksToServe : Asked → Serving → Type 0
AsksToServe (AsksServe path existing place society territory name) s = (s.path ≡ path) × (s.existing ≡ existing) × (s.place ≡ place) × IsOfficeOf society territory name s.office
AsksToServe _ s = ⊥

-- the words ask to audit the database of this path as this office's
abbrev pub AsksToAudit : Asked → Text → Office → Type 0
AsksToAudit (AsksAudit asked society territory name) path office = (path ≡ asked) × IsOfficeOf society territory name office
AsksToAudit _ path office = ⊥

-- the words ask what orders would credit over the database of this path as this office's
abbrev pub AsksToCredit : Asked → Text → Office → Type 0
AsksToCredit (AsksCredit asked society territory name) path office = (path ≡ asked) × IsOfficeOf society territory name office
AsksToCredit _ path office = ⊥

-- the words ask for a replay
abbrev pub WantsReplay : Asked → Type 0
WantsReplay (AsksReplay society territory name) = Unit {0}
WantsReplay _ = ⊥

-- the words ask to serve a database
abbrev pub WantsServing : Asked → Type 0
WantsServing (AsksServe path existing place society territory name) = Unit {0}
WantsServing _ = ⊥

-- the words ask to audit one
abbrev pub WantsAudit : Asked → Type 0
WantsAudit (AsksAudit path society territory name) = Unit {0}
WantsAudit _ = ⊥

-- the words ask what orders would credit
abbrev pub WantsCredit : Asked → Type 0
WantsCredit (AsksCredit path society territory name) = Unit {0}
WantsCredit _ = ⊥

-- where the words ask for a replay, and it ended with this status, this holds of the office that they name
abbrev pub EndsReplay : {E : Type 0} → Asked → ℕ → Result ℕ E → (Office → Type 0) → Type 0
EndsReplay asked status result IsDone = WantsReplay asked → IfOk result (λ s. s ≡ status → (office : Office) × AsksToReplay asked office × IsDone office)

-- where they ask to serve, and that ended with this status, this holds of what they ask to serve
abbrev pub EndsServing : {E : Type 0} → Asked → ℕ → Result ℕ E → (Serving → Type 0) → Type 0
EndsServing asked status result IsDone = WantsServing asked → IfOk result (λ s. s ≡ status → (serving : Serving) × AsksToServe asked serving × IsDone serving)

-- where they ask to audit, and that ended with this status, this holds of the path and the office that they name
abbrev pub EndsAudit : {E : Type 0} → Asked → ℕ → Result ℕ E → (Text → Office → Type 0) → Type 0
EndsAudit asked status result IsDone = WantsAudit asked → IfOk result (λ s. s ≡ status → (path : Text) × (office : Office) × AsksToAudit asked path office × IsDone path office)

-- where they ask what orders would credit, and that ended with this status, this holds of the path and the office that they name
abbrev pub EndsCredit : {E : Type 0} → Asked → ℕ → Result ℕ E → (Text → Office → Type 0) → Type 0
EndsCredit asked status result IsDone = WantsCredit asked → IfOk result (λ s. s ≡ status → (path : Text) × (office : Office) × AsksToCredit asked path office × IsDone path office)

-- the words are wrong, or the name is
abbrev pub IsWrong : Asked → Type 0
IsWrong HasBadName = Unit {0}
IsWrong HasBadWords = Unit {0}
IsWrong _ = ⊥
