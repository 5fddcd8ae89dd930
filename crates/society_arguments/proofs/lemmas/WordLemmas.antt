-- What the options of the program give, and what its words are read as.
use Rattle.std.proofs.Common.{◌≡◌, ◌⊎◌, ◌∙◌, inl, inr, ◌^◌, ◌<◌, ◌&&◌, ap, ℕ, Bool, Option, List, true, false, refl, subst, [], ◌∷◌, Some, None, Result, Ok, Err, nat_lt, option_and_then, option_map}
use Rattle.std.proofs.lemmas.Bool.{ltb-true, lt-ltb}
use Rattle.std.specs.Char.{digit_value}
use Rattle.std.specs.List.{list_all}
use Rattle.std.specs.Str.Parse.{AllDigits, IsNumeral, ParsesUnsigned, digits_value, without_leading_plus}
use Rattle.clap.proofs.WalkLemmas.{both, one_text-rows}
use Rattle.clap.specs.Matches.{ReadsOne, one_text, subcommand_name_of}
use Rattle.clap.specs.Simple.{subcommand_rows, subcommand_rows_of}
use Rattle.clap.specs.declared.error.kind.ErrorKind.{ErrorKind}
use Rattle.clap.specs.declared.error.kind.ErrorKind.TheVariants.{OutOfMemory}
use Rattle.clap.specs.declared.parser.matches.ArgMatches.{ArgMatches}
use Rattle.clap.specs.declared.parser.matches.ArgMatches.TheViews.{out-ArgMatches, out-SubCommand}
use Rattle.clap.specs.declared.parser.matches.SubCommand.{SubCommand}
use Rattle.std.specs.Box.{box_value}
use Rattle.std.specs.Prelude.{Box, IfOk, IsErr}
use Rattle.std.specs.Borrow.{Bor}
use Rattle.clap.specs.ValueTests.{is_numeral}
use Rattle.clap.specs.Walk.{Row, Text, rows_of}
use Rattle.clap.specs.declared.parser.matches.Found.{Found}
use Rattle.share_rules.specs.Office.{IsOfficeOf}
use Rattle.share_rules.specs.declared.office.Office.{Office}
use Rattle.society_arguments.specs.Words.{Asked, AsksAudit, AsksCredit, AsksToReplay, AsksHelp, AsksReplay, AsksServe, AsksToAudit, AsksToCredit, AsksToServe, WantsAudit, WantsCredit, WantsReplay, WantsServing, HasBadName, HasBadWords, IsReadAs, IsRefusedAs, IsWrong, at_office, number_given, number_spelled, serving_of}
use Rattle.society_arguments.specs.declared.words.Database.{Database}
use Rattle.society_arguments.specs.declared.words.Listening.{Listening}
use Rattle.society_arguments.specs.declared.words.Words.{Words}
use Rattle.society_arguments.specs.declared.words.Words.TheVariants as words

digits_from : (ds : Text) → list_all (λ d. nat_lt (digit_value d) 10) ds ≡ true → AllDigits 10 ds
digits_from [] e = tt
digits_from (d ∷ ds) e = let parts = both _ _ e in (ltb-true _ _ parts.0, digits_from ds parts.1)

digits_back : (ds : Text) → AllDigits 10 ds → list_all (λ d. nat_lt (digit_value d) 10) ds ≡ true
digits_back [] h = refl
digits_back (d ∷ ds) h = rw (lt-ltb (digit_value d) 10 h.0) (digits_back ds h.1)

numeral_from : (ds : Text) → is_numeral ds ≡ true → IsNumeral 10 ds
numeral_from ds e = let parts = both _ _ e in (ltb-true _ _ parts.0, digits_from ds parts.1)

numeral_back : (ds : Text) → IsNumeral 10 ds → is_numeral ds ≡ true
numeral_back ds h = rw (lt-ltb _ _ h.0, digits_back ds h.1) refl

not_spelled : (bits : ℕ) (text : Text) (b : Bool) → (is_numeral (without_leading_plus text) && nat_lt (digits_value 10 (without_leading_plus text)) (2 ^ bits)) ≡ b
    → (IsNumeral 10 (without_leading_plus text) × (digits_value 10 (without_leading_plus text) < 2 ^ bits) → ⊥) → None ≡ number_spelled bits text
not_spelled bits text true test not = let parts = both _ _ test in absurd (not (numeral_from _ parts.0, ltb-true _ _ parts.1))
not_spelled bits text false test not = rw test refl

module _ {E : Type 0} (Gives : Text → Result ℕ E → Type 0) (bits : ℕ) (only : (text : Text) (x : Result ℕ E) → Gives text x → ParsesUnsigned bits 10 text x) where
  -- a number that is read of a text is the one that it spells
  number_read : (text : Text) (r : Option ℕ) → ReadsOne Gives text r → r ≡ number_spelled bits text
  number_read text (Some n) read =
      let parsed = only text (Ok n) read in
      rw (parsed.1, numeral_back _ parsed.0.0, lt-ltb _ _ parsed.0.1) refl
  number_read text None read = not_spelled bits text _ refl (only text (Err read.0) read.1)

  number_found : (o : Option Text) (r : Option ℕ) → (o ≡ None → r ≡ None) → ((text : Text) → o ≡ Some text → ReadsOne Gives text r) → r ≡ option_and_then (number_spelled bits) o
  number_found None r none value = none refl
  number_found (Some text) r none value = number_read text r (value text refl)

  -- a number that is read of an option is the one that it gives
  pub number_is : (f : Found) (option : Text) (r : Option ℕ) → (one_text f option ≡ None → r ≡ None) → ((text : Text) → one_text f option ≡ Some text → ReadsOne Gives text r)
      → r ≡ number_given bits option (rows_of f)
  number_is f option r none value = number_found (one_text f option) r none value ∙ ap (option_and_then (number_spelled bits)) (one_text-rows f option)

entered_from : {Z : Type 0} (o : Option (Box SubCommand Z)) (name : Text) (rows : List Row) → option_map (λ b. (out-SubCommand (box_value b)).name.now) o ≡ Some name
    → option_map (λ p. p.1) (subcommand_rows o) ≡ Some rows → subcommand_rows o ≡ Some (name, rows)
entered_from None name rows named given = cc
entered_from (Some b) name rows named given = cc

-- the command that the words name, and what they give to its options
pub entered_is : (m : ArgMatches) (name : Text) (rows : List Row) → subcommand_name_of m ≡ Some name → option_map (λ p. p.1) (subcommand_rows_of m) ≡ Some rows → subcommand_rows_of m ≡ Some (name, rows)
entered_is m name rows named given = entered_from (out-ArgMatches m).subcommand name rows named given

-- words that are read as a replay ask for one
pub asks_for : (a : Asked) (office : Office) → IsReadAs a (words.Replay office) → AsksToReplay a office
asks_for (AsksReplay society territory name) office reads = reads
asks_for (AsksServe path existing place society territory name) office reads = absurd reads
asks_for (AsksAudit path society territory name) office reads = absurd reads
asks_for (AsksCredit path society territory name) office reads = absurd reads
asks_for AsksHelp office reads = absurd reads
asks_for HasBadName office reads = absurd reads
asks_for HasBadWords office reads = absurd reads

-- words that are read so as to serve ask for it
pub asks_to_serve : (a : Asked) (database : Database) (place : Listening) (office : Office) → IsReadAs a (words.Serve database place office)
    → AsksToServe a (serving_of database place office)
asks_to_serve (AsksServe path existing there society territory name) database place office reads = (reads.0.0, reads.0.1, reads.1, reads.2)
asks_to_serve (AsksReplay society territory name) database place office reads = absurd reads
asks_to_serve (AsksAudit path society territory name) database place office reads = absurd reads
asks_to_serve (AsksCredit path society territory name) database place office reads = absurd reads
asks_to_serve AsksHelp database place office reads = absurd reads
asks_to_serve HasBadName database place office reads = absurd reads
asks_to_serve HasBadWords database place office reads = absurd reads

-- words that are read so as to audit ask for it
pub asks_to_audit : (a : Asked) (path : Bor Text) (office : Office) → IsReadAs a (words.Audit path office) → AsksToAudit a path.now office
asks_to_audit (AsksReplay society territory name) path office reads = absurd reads
asks_to_audit (AsksServe opened existing place society territory name) path office reads = absurd reads
asks_to_audit (AsksAudit asked society territory name) path office reads = reads
asks_to_audit (AsksCredit asked society territory name) path office reads = absurd reads
asks_to_audit AsksHelp path office reads = absurd reads
asks_to_audit HasBadName path office reads = absurd reads
asks_to_audit HasBadWords path office reads = absurd reads

-- words that are read so as to credit ask for it
pub asks_to_credit : (a : Asked) (path : Bor Text) (office : Office) → IsReadAs a (words.Credit path office) → AsksToCredit a path.now office
asks_to_credit (AsksReplay society territory name) path office reads = absurd reads
asks_to_credit (AsksServe opened existing place society territory name) path office reads = absurd reads
asks_to_credit (AsksCredit asked society territory name) path office reads = reads
asks_to_credit (AsksAudit asked society territory name) path office reads = absurd reads
asks_to_credit AsksHelp path office reads = absurd reads
asks_to_credit HasBadName path office reads = absurd reads
asks_to_credit HasBadWords path office reads = absurd reads

-- how words are read that ask for a replay, to serve, to audit or to credit
abbrev pub IsReplay : Words → Type 0
IsReplay (words.Replay office) = Unit {0}
IsReplay _ = ⊥

abbrev pub IsServing : Words → Type 0
IsServing (words.Serve database place office) = Unit {0}
IsServing _ = ⊥

abbrev pub IsAudit : Words → Type 0
IsAudit (words.Audit path office) = Unit {0}
IsAudit _ = ⊥

abbrev pub IsCredit : Words → Type 0
IsCredit (words.Credit path office) = Unit {0}
IsCredit _ = ⊥

pub replay_read : (a : Asked) (read : Words) → IsReadAs a read → WantsReplay a → IsReplay read
replay_read (AsksReplay society territory name) (words.Replay office) reads wants = tt
replay_read (AsksReplay society territory name) (words.Serve database place office) reads wants = absurd reads
replay_read (AsksReplay society territory name) (words.Audit path office) reads wants = absurd reads
replay_read (AsksReplay society territory name) (words.Credit path office) reads wants = absurd reads
replay_read (AsksReplay society territory name) words.BadName reads wants = absurd reads
replay_read (AsksReplay society territory name) words.BadWords reads wants = absurd reads
replay_read (AsksServe path existing place society territory name) read reads wants = absurd wants
replay_read (AsksAudit path society territory name) read reads wants = absurd wants
replay_read (AsksCredit path society territory name) read reads wants = absurd wants
replay_read AsksHelp read reads wants = absurd wants
replay_read HasBadName read reads wants = absurd wants
replay_read HasBadWords read reads wants = absurd wants

pub serving_read : (a : Asked) (read : Words) → IsReadAs a read → WantsServing a → IsServing read
serving_read (AsksServe path existing place society territory name) (words.Serve database at office) reads wants = tt
serving_read (AsksServe path existing place society territory name) (words.Replay office) reads wants = absurd reads
serving_read (AsksServe path existing place society territory name) (words.Audit opened office) reads wants = absurd reads
serving_read (AsksServe path existing place society territory name) (words.Credit opened office) reads wants = absurd reads
serving_read (AsksServe path existing place society territory name) words.BadName reads wants = absurd reads
serving_read (AsksServe path existing place society territory name) words.BadWords reads wants = absurd reads
serving_read (AsksReplay society territory name) read reads wants = absurd wants
serving_read (AsksAudit path society territory name) read reads wants = absurd wants
serving_read (AsksCredit path society territory name) read reads wants = absurd wants
serving_read AsksHelp read reads wants = absurd wants
serving_read HasBadName read reads wants = absurd wants
serving_read HasBadWords read reads wants = absurd wants

pub audit_read : (a : Asked) (read : Words) → IsReadAs a read → WantsAudit a → IsAudit read
audit_read (AsksAudit path society territory name) (words.Audit opened office) reads wants = tt
audit_read (AsksAudit path society territory name) (words.Replay office) reads wants = absurd reads
audit_read (AsksAudit path society territory name) (words.Serve database place office) reads wants = absurd reads
audit_read (AsksAudit path society territory name) (words.Credit opened office) reads wants = absurd reads
audit_read (AsksAudit path society territory name) words.BadName reads wants = absurd reads
audit_read (AsksAudit path society territory name) words.BadWords reads wants = absurd reads
audit_read (AsksReplay society territory name) read reads wants = absurd wants
audit_read (AsksServe path existing place society territory name) read reads wants = absurd wants
audit_read (AsksCredit path society territory name) read reads wants = absurd wants
audit_read AsksHelp read reads wants = absurd wants
audit_read HasBadName read reads wants = absurd wants
audit_read HasBadWords read reads wants = absurd wants

pub credit_read : (a : Asked) (read : Words) → IsReadAs a read → WantsCredit a → IsCredit read
credit_read (AsksCredit path society territory name) (words.Credit opened office) reads wants = tt
credit_read (AsksCredit path society territory name) (words.Replay office) reads wants = absurd reads
credit_read (AsksCredit path society territory name) (words.Serve database place office) reads wants = absurd reads
credit_read (AsksCredit path society territory name) (words.Audit opened office) reads wants = absurd reads
credit_read (AsksCredit path society territory name) words.BadName reads wants = absurd reads
credit_read (AsksCredit path society territory name) words.BadWords reads wants = absurd reads
credit_read (AsksReplay society territory name) read reads wants = absurd wants
credit_read (AsksServe path existing place society territory name) read reads wants = absurd wants
credit_read (AsksAudit path society territory name) read reads wants = absurd wants
credit_read AsksHelp read reads wants = absurd wants
credit_read HasBadName read reads wants = absurd wants
credit_read HasBadWords read reads wants = absurd wants

-- words that ask for something to be done are not wrong
not_wrong : (a : Asked) (read : Words) → IsReadAs a read → IsWrong a → (read ≡ words.BadName) ⊎ (read ≡ words.BadWords)
not_wrong (AsksReplay society territory name) read reads wrong = absurd wrong
not_wrong (AsksServe path existing place society territory name) read reads wrong = absurd wrong
not_wrong (AsksAudit path society territory name) read reads wrong = absurd wrong
not_wrong (AsksCredit path society territory name) read reads wrong = absurd wrong
not_wrong AsksHelp read reads wrong = absurd wrong
not_wrong HasBadName words.BadName reads wrong = inl refl
not_wrong HasBadName (words.Replay office) reads wrong = absurd reads
not_wrong HasBadName (words.Serve database place office) reads wrong = absurd reads
not_wrong HasBadName (words.Audit path office) reads wrong = absurd reads
not_wrong HasBadName (words.Credit path office) reads wrong = absurd reads
not_wrong HasBadName words.BadWords reads wrong = absurd reads
not_wrong HasBadWords words.BadWords reads wrong = inr refl
not_wrong HasBadWords (words.Replay office) reads wrong = absurd reads
not_wrong HasBadWords (words.Serve database place office) reads wrong = absurd reads
not_wrong HasBadWords (words.Audit path office) reads wrong = absurd reads
not_wrong HasBadWords (words.Credit path office) reads wrong = absurd reads
not_wrong HasBadWords words.BadName reads wrong = absurd reads

-- words that are read so as to be done are not wrong
pub replay_not_wrong : (a : Asked) (office : Office) → IsReadAs a (words.Replay office) → IsWrong a → ⊥
replay_not_wrong a office reads wrong = elim (not_wrong a (words.Replay office) reads wrong) [ inl is ↦ cc | inr is ↦ cc ]

pub serve_not_wrong : (a : Asked) (database : Database) (place : Listening) (office : Office) → IsReadAs a (words.Serve database place office) → IsWrong a → ⊥
serve_not_wrong a database place office reads wrong = elim (not_wrong a (words.Serve database place office) reads wrong) [ inl is ↦ cc | inr is ↦ cc ]

pub audit_not_wrong : (a : Asked) (path : Bor Text) (office : Office) → IsReadAs a (words.Audit path office) → IsWrong a → ⊥
audit_not_wrong a path office reads wrong = elim (not_wrong a (words.Audit path office) reads wrong) [ inl is ↦ cc | inr is ↦ cc ]

pub credit_not_wrong : (a : Asked) (path : Bor Text) (office : Office) → IsReadAs a (words.Credit path office) → IsWrong a → ⊥
credit_not_wrong a path office reads wrong = elim (not_wrong a (words.Credit path office) reads wrong) [ inl is ↦ cc | inr is ↦ cc ]

pub read_no_help : (a : Asked) (read : Words) → IsReadAs a read → a ≡ AsksHelp → ⊥
read_no_help a read reads help = no_help read (subst (λ (b : Asked). IsReadAs b read) help reads)
  where
    no_help : (read : Words) → IsReadAs AsksHelp read → ⊥
    no_help (words.Replay office) reads = reads
    no_help (words.Serve database place office) reads = reads
    no_help (words.Audit path office) reads = reads
    no_help (words.Credit path office) reads = reads
    no_help words.BadName reads = reads
    no_help words.BadWords reads = reads

-- words with a name that is none, and words that are none, are wrong
pub name_is_wrong : (a : Asked) → IsReadAs a words.BadName → IsWrong a
name_is_wrong (AsksReplay society territory name) reads = absurd reads
name_is_wrong (AsksServe path existing place society territory name) reads = absurd reads
name_is_wrong (AsksAudit path society territory name) reads = absurd reads
name_is_wrong (AsksCredit path society territory name) reads = absurd reads
name_is_wrong AsksHelp reads = absurd reads
name_is_wrong HasBadName reads = reads
name_is_wrong HasBadWords reads = absurd reads

pub words_are_wrong : (a : Asked) → IsReadAs a words.BadWords → IsWrong a
words_are_wrong (AsksReplay society territory name) reads = absurd reads
words_are_wrong (AsksServe path existing place society territory name) reads = absurd reads
words_are_wrong (AsksAudit path society territory name) reads = absurd reads
words_are_wrong (AsksCredit path society territory name) reads = absurd reads
words_are_wrong AsksHelp reads = absurd reads
words_are_wrong HasBadName reads = absurd reads
words_are_wrong HasBadWords reads = reads

-- words that name an office are read as what is asked for there
pub at_named : (asks : ℕ → ℕ → Text → Asked) (read : Words) (office : Office) → ((society territory : ℕ) (name : Text) → IsOfficeOf society territory name office → IsReadAs (asks society territory name) read)
    → (a : Asked) → IsReadAs a (words.Replay office) → IsReadAs (at_office asks a) read
at_named asks read office is (AsksReplay society territory name) reads = is society territory name reads
at_named asks read office is (AsksServe path existing place society territory name) reads = absurd reads
at_named asks read office is (AsksAudit path society territory name) reads = absurd reads
at_named asks read office is (AsksCredit path society territory name) reads = absurd reads
at_named asks read office is AsksHelp reads = absurd reads
at_named asks read office is HasBadName reads = absurd reads
at_named asks read office is HasBadWords reads = absurd reads

-- words that name none stay what they are
pub at_none : (asks : ℕ → ℕ → Text → Asked) (read : Words) (a : Asked) → ((office : Office) → read ≡ words.Replay office → ⊥) → IsReadAs a read → IsReadAs (at_office asks a) read
at_none asks (words.Replay office) (AsksReplay society territory name) other reads = absurd (other office refl)
at_none asks (words.Serve database place office) (AsksReplay society territory name) other reads = absurd reads
at_none asks (words.Audit path office) (AsksReplay society territory name) other reads = absurd reads
at_none asks (words.Credit path office) (AsksReplay society territory name) other reads = absurd reads
at_none asks words.BadName (AsksReplay society territory name) other reads = absurd reads
at_none asks words.BadWords (AsksReplay society territory name) other reads = absurd reads
at_none asks read (AsksServe path existing place society territory name) other reads = reads
at_none asks read (AsksAudit path society territory name) other reads = reads
at_none asks read (AsksCredit path society territory name) other reads = reads
at_none asks read AsksHelp other reads = reads
at_none asks read HasBadName other reads = reads
at_none asks read HasBadWords other reads = reads

-- where words are refused nothing else is done: memory was refused, or they ask for help, or they are wrong
refused_none : {E : Type 0} (P : ℕ → Type 0) (a : Asked) (kind : ErrorKind) (result : Result ℕ E) → IsRefusedAs a kind → (kind ≡ OutOfMemory → IsErr result)
    → (a ≡ AsksHelp → ⊥) → (a ≡ HasBadWords → ⊥) → IfOk result P
refused_none P a kind (Err e) refused memory help bad = tt
refused_none P a kind (Ok status) (inl none) memory help bad = absurd (let no : false ≡ true = memory none in cc)
refused_none P a kind (Ok status) (inr (inl (told, is))) memory help bad = absurd (help is)
refused_none P a kind (Ok status) (inr (inr (other, is))) memory help bad = absurd (bad is)

pub refused_replay : {E : Type 0} (P : ℕ → Type 0) (a : Asked) (kind : ErrorKind) (result : Result ℕ E) → IsRefusedAs a kind → (kind ≡ OutOfMemory → IsErr result) → WantsReplay a → IfOk result P
refused_replay P a kind result refused memory wants = refused_none P a kind result refused memory (λ is. subst WantsReplay is wants) (λ is. subst WantsReplay is wants)

pub refused_serving : {E : Type 0} (P : ℕ → Type 0) (a : Asked) (kind : ErrorKind) (result : Result ℕ E) → IsRefusedAs a kind → (kind ≡ OutOfMemory → IsErr result) → WantsServing a → IfOk result P
refused_serving P a kind result refused memory wants = refused_none P a kind result refused memory (λ is. subst WantsServing is wants) (λ is. subst WantsServing is wants)

pub refused_audit : {E : Type 0} (P : ℕ → Type 0) (a : Asked) (kind : ErrorKind) (result : Result ℕ E) → IsRefusedAs a kind → (kind ≡ OutOfMemory → IsErr result) → WantsAudit a → IfOk result P
refused_audit P a kind result refused memory wants = refused_none P a kind result refused memory (λ is. subst WantsAudit is wants) (λ is. subst WantsAudit is wants)

pub refused_credit : {E : Type 0} (P : ℕ → Type 0) (a : Asked) (kind : ErrorKind) (result : Result ℕ E) → IsRefusedAs a kind → (kind ≡ OutOfMemory → IsErr result) → WantsCredit a → IfOk result P
refused_credit P a kind result refused memory wants = refused_none P a kind result refused memory (λ is. subst WantsCredit is wants) (λ is. subst WantsCredit is wants)
