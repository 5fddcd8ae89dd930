-- The faults of a transaction: eleven sentences over its list of records.
use Rattle.std.specs.Prelude.{ℕ, Bool, false, not, ◌&&◌, ◌||◌, List, [], ◌∷◌, ◌++◌, Option, Some, None, is_ok, is_none, map, nat_lt}
use Rattle.std.specs.List.{list_any, sum}
use Rattle.cwr_records.specs.Lines.{is_blank}
use Rattle.cwr_records.specs.Typed.{share_of}
use Rattle.cwr_records.specs.declared.record.Record.{Record}
use Rattle.cwr_records.specs.declared.record.Record.TheVariants as kind
use Rattle.cwr_files.specs.Transaction.{iswc_of_work, number_of_work, title_of}
use Rattle.cwr_files.specs.Sentences.{Sentence, first_that_holds, sentence}
use Rattle.cwr_files.specs.declared.transmission.Transaction.{Transaction}
use Rattle.share_rules.specs.Parties.{collected, interests, is_interested_party, owned, party_in, row_in}
use Rattle.share_rules.specs.declared.office.Office.{Office}
use Rattle.share_rules.specs.declared.party.InterestedParty.{InterestedParty}
use Rattle.share_rules.specs.declared.share_fields.ShareFields.{ShareFields}
use Rattle.share_rules.specs.declared.party.Side.TheVariants as side
use Rattle.share_rules.specs.declared.territory_row.TerritoryRow.{TerritoryRow}
use Rattle.share_rules.specs.declared.shares.Shares.{Shares}
use Rattle.work_ids.specs.IpiName.{ipi_field_of}
use Rattle.work_ids.specs.Isrc.{isrc_field_of}
use Rattle.work_ids.specs.PartyNumber.{party_number_of}

-- 1: the title is blank (profile)
abbrev pub blank_title : ℕ
blank_title = 1

abbrev pub has_blank_title : Transaction → Bool
has_blank_title transaction = is_blank (title_of transaction)

-- 2: the work number is blank or not printable ASCII (profile)
abbrev pub no_work_number : ℕ
no_work_number = 2

abbrev pub has_no_work_number : Transaction → Bool
has_no_work_number transaction = not (is_ok (number_of_work transaction))

-- 3: the ISWC field is neither blank nor a right ISWC (profile)
abbrev pub wrong_iswc : ℕ
wrong_iswc = 3

abbrev pub has_wrong_iswc : Transaction → Bool
has_wrong_iswc transaction = not (is_ok (iswc_of_work transaction))

-- three shares, of which one is neither blank nor five digits, or is over 10000
abbrev pub are_wrong_shares : ShareFields → Bool
are_wrong_shares fields = is_none (share_of fields.performing) || is_none (share_of fields.mechanical) || is_none (share_of fields.synchronization)

-- whether there is an interested party with a wrong share
abbrev pub is_party_with_wrong_share : Option InterestedParty → Bool
is_party_with_wrong_share None = false
is_party_with_wrong_share (Some party) = are_wrong_shares party.shares

-- whether there is a territory row with a wrong share
abbrev pub is_row_with_wrong_share : Option TerritoryRow → Bool
is_row_with_wrong_share None = false
is_row_with_wrong_share (Some row) = are_wrong_shares row.shares

-- 4: a share in SPU, OPU, SPT, SWR, OWR or SWT is neither blank nor five digits, or is over 10000 (profile)
abbrev pub wrong_share : ℕ
wrong_share = 4

abbrev pub has_wrong_share : Record → Bool
has_wrong_share r = is_party_with_wrong_share (party_in r) || is_row_with_wrong_share (row_in r)

-- the greatest sum of shares that is let pass, in hundredths of a percent (profile)
abbrev pub sum_limit : ℕ
sum_limit = 10006

-- the shares of one right add up to more than the limit (profile)
abbrev pub exceed : List Shares → Bool
exceed shares =
    nat_lt sum_limit (sum (map (λ s. s.performing) shares)) || nat_lt sum_limit (sum (map (λ s. s.mechanical) shares)) || nat_lt sum_limit (sum (map (λ s. s.synchronization) shares))

-- 5: the ownership shares of a right, of all SPU, OPU, SWR and OWR, add up to more than the limit (profile)
abbrev pub excess_of_ownership : ℕ
excess_of_ownership = 5

abbrev pub owns_too_much : List Record → Bool
owns_too_much records = exceed (map owned (interests records))

-- a territory row has no interested party of its side with its number among the records before it
abbrev pub is_row_without_party : List Record → Option TerritoryRow → Bool
is_row_without_party before None = false
is_row_without_party before (Some row) = not (list_any (is_interested_party row.side row.number) before)

-- 6: an SPT has no SPU, or an SWT no SWR, with its IP # before it in the transaction (profile)
abbrev pub row_without_party : ℕ
row_without_party = 6

abbrev pub has_row_without_party : List Record → List Record → Bool
has_row_without_party before [] = false
has_row_without_party before (r ∷ more) = is_row_without_party before (row_in r) || has_row_without_party (before ++ r ∷ []) more

-- 7: a PWR names a publisher IP # that is not blank and that no SPU of the transaction has (profile)
abbrev pub no_publisher : ℕ
no_publisher = 7

abbrev pub names_no_publisher : List Record → Record → Bool
names_no_publisher records (kind.PublisherForWriter r) = not (is_blank r.publisher_party) && not (list_any (is_interested_party side.Publisher r.publisher_party) records)
names_no_publisher records _ = false

-- 8: the collection shares of a right at the office, over all holders, add up to more than the limit (profile)
abbrev pub excess_of_collection : ℕ
excess_of_collection = 8

abbrev pub collects_too_much : Office → List Record → Bool
collects_too_much office records = exceed (map (collected office) (interests records))

-- whether there is an interested party with a wrong IPI name number
abbrev pub is_party_with_wrong_ipi : Option InterestedParty → Bool
is_party_with_wrong_ipi None = false
is_party_with_wrong_ipi (Some party) = not (is_ok (ipi_field_of party.ipi_name))

-- 9: an IPI name number in SPU, OPU, SWR or OWR is not all digits after trimming (profile)
abbrev pub wrong_ipi : ℕ
wrong_ipi = 9

abbrev pub has_wrong_ipi : Record → Bool
has_wrong_ipi r = is_party_with_wrong_ipi (party_in r)

-- 10: the ISRC of a REC is neither blank nor a right ISRC (profile)
abbrev pub wrong_isrc : ℕ
wrong_isrc = 10

abbrev pub has_wrong_isrc : Record → Bool
has_wrong_isrc (kind.Recording r) = not (is_ok (isrc_field_of r.isrc))
has_wrong_isrc _ = false

-- the IP # that a record has: of a party or a row one, of a PWR the publisher's and the writer's (CISAC CWR 2.2)
abbrev pub party_numbers : Record → List (List ℕ)
party_numbers (kind.Publisher r) = r.party ∷ []
party_numbers (kind.PublisherTerritory r) = r.party ∷ []
party_numbers (kind.Writer r) = r.party ∷ []
party_numbers (kind.WriterTerritory r) = r.party ∷ []
party_numbers (kind.PublisherForWriter r) = r.publisher_party ∷ r.writer_party ∷ []
party_numbers _ = []

-- 11: an IP # in SPU, OPU, SPT, SWR, OWR, SWT or PWR is not printable ASCII (profile)
abbrev pub wrong_party_number : ℕ
wrong_party_number = 11

abbrev pub has_wrong_number : Record → Bool
has_wrong_number r = list_any (λ number. not (is_ok (party_number_of number))) (party_numbers r)

-- the sentences on a transaction, in the order of their faults (profile)
abbrev pub sentences : Office → Transaction → List Sentence
sentences office transaction =
    sentence blank_title (has_blank_title transaction)
    ∷ sentence no_work_number (has_no_work_number transaction)
    ∷ sentence wrong_iswc (has_wrong_iswc transaction)
    ∷ sentence wrong_share (list_any has_wrong_share transaction.records)
    ∷ sentence excess_of_ownership (owns_too_much transaction.records)
    ∷ sentence row_without_party (has_row_without_party [] transaction.records)
    ∷ sentence no_publisher (list_any (names_no_publisher transaction.records) transaction.records)
    ∷ sentence excess_of_collection (collects_too_much office transaction.records)
    ∷ sentence wrong_ipi (list_any has_wrong_ipi transaction.records)
    ∷ sentence wrong_isrc (list_any has_wrong_isrc transaction.records)
    ∷ sentence wrong_party_number (list_any has_wrong_number transaction.records)
    ∷ []

-- the least fault of a transaction, if it has one (profile)
unfoldable pub fault_of : Office → Transaction → Option ℕ
fault_of office transaction = first_that_holds (sentences office transaction)
