-- Representation, not meaning: how the parties of many records are looked up without a search for each, by keys, the places of these in a block, and what a block keeps at each.
use Rattle.std.specs.Prelude.{ℕ, ◌≡◌, ◌+◌, ◌*◌, ◌<◌, Bool, true, false, ◌&&◌, ◌==◌, nat_le, List, [], ◌∷◌, ◌++◌, take, drop, get_or, Option, Some, None, map, if◌then◌else◌}
use Rattle.std.specs.List.{sum, list_any}
use Rattle.cwr_records.specs.Blanks.{trimmed}
use Rattle.cwr_records.specs.Typed.{indicator_of}
use Rattle.cwr_records.specs.declared.record.Record.{Record}
use Rattle.cwr_records.specs.declared.record.Record.TheVariants as kind
use Rattle.share_rules.specs.Fault.{has_row_without_party}
use Rattle.share_rules.specs.Parties.{Interest, collected, counts, interests, is_interested_party, no_shares, row_in, share_in, shares_by, party_in}
use Rattle.share_rules.specs.Steps.{row_is}
use Rattle.share_rules.specs.Weights.{account_by, holder_of}
use Rattle.share_rules.specs.declared.holder.Holder.{Holder}
use Rattle.share_rules.specs.declared.holding.Basis.{Basis}
use Rattle.share_rules.specs.declared.office.Office.{Office}
use Rattle.share_rules.specs.declared.party.InterestedParty.{InterestedParty}
use Rattle.share_rules.specs.declared.party.Side.{Side}
use Rattle.share_rules.specs.declared.party.Side.TheVariants as side
use Rattle.share_rules.specs.declared.shares.Shares.{Shares}
use Rattle.share_rules.specs.declared.territory_row.TerritoryRow.{TerritoryRow}
use Rattle.share_rules.specs.declared.totals.Totals.{Totals}
use Rattle.work_ids.specs.IpiName.{ipi_field_of}
use Rattle.work_ids.specs.PartyNumber.{party_number_of}

-- each of some numbers is a byte
abbrev pub AreBytes : List ℕ → Type 0
AreBytes bytes = (k : ℕ) → get_or bytes k 0 < 256

-- the digit of a side in a key
abbrev pub side_digit : Side → ℕ
side_digit side.Publisher = 1
side_digit side.Writer = 2

-- one number for a side and some bytes: digits in base 257, a byte's one more than it
abbrev pub key_of : Side → List ℕ → ℕ
key_of s [] = side_digit s
key_of s (b ∷ bs) = key_of s bs * 257 + (b + 1)

-- the key of a side and a party's number, as it is compared
unfoldable pub party_key : Side → List ℕ → ℕ
party_key s number = key_of s (trimmed number)

-- the place that some steps lead to from one on, each taken where the key there is not greater
unfoldable pub descend : List ℕ → ℕ → List ℕ → ℕ → ℕ
descend keys key [] place = place
descend keys key (step ∷ steps) place = descend keys key steps (if nat_le (get_or keys (place + step) 0) key then place + step else place)

-- the place of a key in a block, where these steps lead to it
unfoldable pub place_of : List ℕ → List ℕ → ℕ → Option ℕ
place_of steps keys key = if get_or keys (descend keys key steps 0) 0 == key then Some (descend keys key steps 0) else None

-- the steps that halve a block of 2,048
abbrev pub halves : List ℕ
halves = 1024 ∷ 512 ∷ 256 ∷ 128 ∷ 64 ∷ 32 ∷ 16 ∷ 8 ∷ 4 ∷ 2 ∷ 1 ∷ []

-- the place in a block of a party of a side with a number
unfoldable pub place_in : List ℕ → Side → List ℕ → Option ℕ
place_in keys s number = place_of halves keys (party_key s number)

-- what is kept at the place of each party is the answer for its side and number
abbrev pub AreAnswers : {V : Type 0} → (Side → List ℕ → V) → List ℕ → List V → Type 0
AreAnswers {V} answer keys values =
    (s : Side) (number : List ℕ) (place : ℕ) (d : V) → AreBytes (trimmed number) → place_in keys s number ≡ Some place → get_or values place d ≡ answer s number

-- whether there is a row of a side with a number that counts at an office
abbrev pub counting_row_is : Office → Side → List ℕ → Option TerritoryRow → Bool
counting_row_is office s number None = false
counting_row_is office s number (Some row) = row_is s number (Some row) && counts office row

-- the shares of a row, where there is one
abbrev pub shares_in : Option TerritoryRow → Option Shares
shares_in None = None
shares_in (Some row) = Some (shares_by (indicator_of row.indicator) row.shares)

-- what is there, or else another
abbrev pub else_take : Option Shares → Option Shares → Option Shares
else_take (Some shares) other = Some shares
else_take None other = other

-- the shares of the last counting row of a side with a number before the next interested party of them, looking forward through records
abbrev pub latest : Office → Side → List ℕ → List Record → Option Shares
latest office s number [] = None
latest office s number (r ∷ more) =
    if is_interested_party s number r then None else else_take (latest office s number more) (if counting_row_is office s number (row_in r) then shares_in (row_in r) else None)

-- a block keeps the latest shares of its parties
abbrev pub AreLatest : Office → List ℕ → List (Option Shares) → List Record → Type 0
AreLatest office keys values records = AreAnswers (λ s number. latest office s number records) keys values

-- a block keeps whether its parties are among some records
abbrev pub AreFound : List ℕ → List Bool → List Record → Type 0
AreFound keys values records = AreAnswers (λ s number. list_any (is_interested_party s number) records) keys values

-- what a block keeps as one more record is put in front of others
abbrev pub TakesRecord : Office → List ℕ → List (Option Shares) → List (Option Shares) → Record → Type 0
TakesRecord office keys old new r = (more : List Record) → AreLatest office keys old more → AreLatest office keys new (r ∷ more)

-- the same where that record is an interested party
abbrev pub TakesParty : List ℕ → List (Option Shares) → List (Option Shares) → InterestedParty → Type 0
TakesParty keys old new party = (office : Office) (r : Record) → party_in r ≡ Some party → TakesRecord office keys old new r

-- the same where it is a territory row
abbrev pub TakesRow : Office → List ℕ → List (Option Shares) → List (Option Shares) → TerritoryRow → Type 0
TakesRow office keys old new row = (r : Record) → row_in r ≡ Some row → TakesRecord office keys old new r

-- what a block keeps as one more record is put behind others
abbrev pub FindsRecord : List ℕ → List Bool → List Bool → Record → Type 0
FindsRecord keys old new r = (before : List Record) → AreFound keys old before → AreFound keys new (before ++ r ∷ [])

-- the same where that record is an interested party
abbrev pub FindsParty : List ℕ → List Bool → List Bool → InterestedParty → Type 0
FindsParty keys old new party = (r : Record) → party_in r ≡ Some party → FindsRecord keys old new r

-- what a record collects by the records after it: nothing where it is no interested party
abbrev pub collected_in : Office → Option InterestedParty → List Record → Shares
collected_in office None after = no_shares
collected_in office (Some party) after = collected office (record { party = party; after = after })

-- the shares of each right, added up
abbrev pub totals_of : List Shares → Totals
totals_of shares = record {
  performing = sum (map (λ s. s.performing) shares);
  mechanical = sum (map (λ s. s.mechanical) shares);
  synchronization = sum (map (λ s. s.synchronization) shares);
}

-- the collection shares of the records from a place on, added up
abbrev pub collected_behind : Office → List Record → ℕ → Totals
collected_behind office records place = totals_of (map (collected office) (interests (drop place records)))

-- a territory row from a place on has no party of its side with its number before it
abbrev pub rows_from : List Record → ℕ → Bool
rows_from records place = has_row_without_party (take place records) (drop place records)

-- a holder: an interested party's account, and of some shares that of a right
abbrev pub holder_with : Basis → InterestedParty → Shares → Holder
holder_with basis party shares = record {
  account = account_by basis.sender.now (ipi_field_of party.ipi_name) (party_number_of party.number);
  weight = share_in basis.kind shares;
}

-- the holder of an interest on a basis
abbrev pub holder_on : Basis → Interest → Holder
holder_on basis = holder_of basis.kind basis.sender.now basis.office.now

-- the holder that an interested party is by the records after it, where there is one
abbrev pub holder_if : Basis → Option InterestedParty → List Record → List Holder
holder_if basis None after = []
holder_if basis (Some party) after = holder_on basis (record { party = party; after = after }) ∷ []

-- the holder that a record is by the records after it, where it is an interested party
abbrev pub holders_in : Basis → Record → List Record → List Holder
holders_in basis r after = holder_if basis (party_in r) after

-- the holders among the records from a place on
abbrev pub holders_from : Basis → List Record → ℕ → List Holder
holders_from basis records place = map (holder_on basis) (interests (drop place records))

-- whether a record links a writer to a publisher (CISAC CWR 2.2)
abbrev pub is_link : Record → Bool
is_link (kind.PublisherForWriter r) = true
is_link _ = false
