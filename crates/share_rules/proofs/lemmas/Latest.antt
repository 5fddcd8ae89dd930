-- The latest shares of a side with a number, one record further to the front, and what an interested party collects by them (representation).
use Rattle.std.proofs.Common.{◌≡◌, ℕ, Bool, true, false, ◌&&◌, List, [], ◌∷◌, Option, Some, None, if◌then◌else◌, is_some, unwrap_or, refl, sym, ap, ◌∙◌}
use Rattle.std.proofs.lemmas.Bool.{false≢true}
use Rattle.cwr_records.specs.Typed.{indicator_of}
use Rattle.cwr_records.specs.declared.record.Record.{Record}
use Rattle.cwr_records.specs.declared.record.Record.TheVariants as kind
use Rattle.share_rules.proofs.lemmas.Blocks.{alike}
use Rattle.share_rules.proofs.lemmas.Nearest.{collected_is, no_row_in, rows_among, up_to_next}
use Rattle.share_rules.specs.Blocks.{counting_row_is, else_take, latest, shares_in}
use Rattle.share_rules.specs.Parties.{collected, counts, is_interested_party, last_counting, later_or, no_shares, party_in, party_is, row_in, shares_at, shares_by}
use Rattle.share_rules.specs.Steps.{row_is, with_matching_row}
use Rattle.share_rules.specs.declared.office.Office.{Office}
use Rattle.share_rules.specs.declared.party.InterestedParty.{InterestedParty}
use Rattle.share_rules.specs.declared.party.Side.{Side}
use Rattle.share_rules.specs.declared.shares.Shares.{Shares}
use Rattle.share_rules.specs.declared.territory_row.TerritoryRow.{TerritoryRow}

else_none : (o : Option Shares) → else_take o None ≡ o
else_none None = refl
else_none (Some shares) = refl

-- a record that is a territory row is no interested party
pub no_party_in : (r : Record) (row : TerritoryRow) → row_in r ≡ Some row → party_in r ≡ None
no_party_in (kind.PublisherTerritory x) row e = refl
no_party_in (kind.WriterTerritory x) row e = refl
no_party_in _ row e = absurd cc

-- no record but an interested party of the side with the number ends what was found
latest_on : (office : Office) (t : Side) (m : List ℕ) (r : Record) (more : List Record) → is_interested_party t m r ≡ false → latest office t m (r ∷ more) ≡ else_take (latest office t m more) (if counting_row_is office t m (row_in r) then shares_in (row_in r) else None)
latest_on office t m r more other = ap (λ (b : Bool). if b then None else else_take (latest office t m more) (if counting_row_is office t m (row_in r) then shares_in (row_in r) else None)) other

-- what stands behind an interested party is not for one before it
pub party_ends : (office : Office) (t : Side) (m : List ℕ) (r : Record) (more : List Record) (party : InterestedParty) → party_in r ≡ Some party → alike party.side party.number t m ≡ true → latest office t m (r ∷ more) ≡ None
party_ends office t m r more party is same =
    let own : is_interested_party t m r ≡ true = ap (party_is t m) is ∙ same in
    ap (λ (b : Bool). if b then None else else_take (latest office t m more) (if counting_row_is office t m (row_in r) then shares_in (row_in r) else None)) own

pub party_passes : (office : Office) (t : Side) (m : List ℕ) (r : Record) (more : List Record) (party : InterestedParty) → party_in r ≡ Some party → alike party.side party.number t m ≡ false → latest office t m (r ∷ more) ≡ latest office t m more
party_passes office t m r more party is other =
    let not_own : is_interested_party t m r ≡ false = ap (party_is t m) is ∙ other in
    latest_on office t m r more not_own
    ∙ ap (λ (o : Option TerritoryRow). else_take (latest office t m more) (if counting_row_is office t m o then shares_in o else None)) (no_row_in r party is)
    ∙ else_none (latest office t m more)

row_on : (office : Office) (t : Side) (m : List ℕ) (r : Record) (more : List Record) (row : TerritoryRow) → row_in r ≡ Some row → latest office t m (r ∷ more) ≡ else_take (latest office t m more) (if (row_is t m (Some row) && counts office row) then shares_in (Some row) else None)
row_on office t m r more row is =
    latest_on office t m r more (ap (party_is t m) (no_party_in r row is))
    ∙ ap (λ (o : Option TerritoryRow). else_take (latest office t m more) (if counting_row_is office t m o then shares_in o else None)) is

-- a row of another party
pub row_passes : (office : Office) (t : Side) (m : List ℕ) (r : Record) (more : List Record) (row : TerritoryRow) → row_in r ≡ Some row → alike row.side row.number t m ≡ false → latest office t m (r ∷ more) ≡ latest office t m more
row_passes office t m r more row is other =
    row_on office t m r more row is
    ∙ ap (λ (b : Bool). else_take (latest office t m more) (if (b && counts office row) then shares_in (Some row) else None)) other
    ∙ else_none (latest office t m more)

-- a row of the party that counts
pub row_counts : (office : Office) (t : Side) (m : List ℕ) (r : Record) (more : List Record) (row : TerritoryRow) → row_in r ≡ Some row → counts office row ≡ true → alike row.side row.number t m ≡ true → latest office t m (r ∷ more) ≡ else_take (latest office t m more) (Some (shares_by (indicator_of row.indicator) row.shares))
row_counts office t m r more row is counted same =
    row_on office t m r more row is
    ∙ ap (λ (b : Bool). else_take (latest office t m more) (if (b && counts office row) then shares_in (Some row) else None)) same
    ∙ ap (λ (b : Bool). else_take (latest office t m more) (if b then shares_in (Some row) else None)) counted

-- the shares of the latest row, where rows are put in front of others
with_front : (office : Office) (s : Side) (n : List ℕ) (o : Option TerritoryRow) (rows : List TerritoryRow) → else_take (shares_in (last_counting office rows)) (if counting_row_is office s n o then shares_in o else None) ≡ shares_in (last_counting office (with_matching_row s n o rows))
with_front office s n None rows = else_none (shares_in (last_counting office rows))
with_front office s n (Some row) rows = by_case (row_is s n (Some row))
  where
    by_later : (b : Bool) → counts office row ≡ b → (later : Option TerritoryRow) → else_take (shares_in later) (if counts office row then shares_in (Some row) else None) ≡ shares_in (later_or office row later)
    by_later b is (Some x) = refl
    by_later true is None = ap (λ (c : Bool). if c then shares_in (Some row) else None) is ∙ sym (ap (λ (c : Bool). shares_in (if c then Some row else None)) is)
    by_later false is None = ap (λ (c : Bool). if c then shares_in (Some row) else None) is ∙ sym (ap (λ (c : Bool). shares_in (if c then Some row else None)) is)

    by_case : (b : Bool) → else_take (shares_in (last_counting office rows)) (if (b && counts office row) then shares_in (Some row) else None) ≡ shares_in (last_counting office (if b then row ∷ rows else rows))
    by_case true = by_later (counts office row) refl (last_counting office rows)
    by_case false = else_none (shares_in (last_counting office rows))

latest_is : (office : Office) (s : Side) (n : List ℕ) (rs : List Record) → latest office s n rs ≡ shares_in (last_counting office (rows_among s n (up_to_next s n rs)))
latest_is office s n [] = refl
latest_is office s n (r ∷ more) = by_case (is_interested_party s n r) (latest_is office s n more)
  where
    by_case : (b : Bool) → latest office s n more ≡ shares_in (last_counting office (rows_among s n (up_to_next s n more))) → (if b then None else else_take (latest office s n more) (if counting_row_is office s n (row_in r) then shares_in (row_in r) else None)) ≡ shares_in (last_counting office (rows_among s n (if b then [] else r ∷ up_to_next s n more)))
    by_case true recur = refl
    by_case false recur =
        ap (λ (o : Option Shares). else_take o (if counting_row_is office s n (row_in r) then shares_in (row_in r) else None)) recur
        ∙ with_front office s n (row_in r) (rows_among s n (up_to_next s n more))

shares_there : (o : Option TerritoryRow) → unwrap_or (shares_in o) no_shares ≡ shares_at o
shares_there None = refl
shares_there (Some row) = refl

-- an interested party collects its latest shares
pub latest_collected : (office : Office) (party : InterestedParty) (after : List Record) → unwrap_or (latest office party.side party.number after) no_shares ≡ collected office (record { party = party; after = after })
latest_collected office party after =
    ap (λ (o : Option Shares). unwrap_or o no_shares) (latest_is office party.side party.number after)
    ∙ shares_there (last_counting office (rows_among party.side party.number (up_to_next party.side party.number after)))
    ∙ collected_is office party after

-- no shares yet
pub first_taken : (o other : Option Shares) → is_some o ≡ false → else_take o other ≡ other
first_taken None other e = refl
first_taken (Some shares) other e = absurd (false≢true (sym e))

-- shares already
pub later_stays : (o other : Option Shares) → is_some o ≡ true → else_take o other ≡ o
later_stays None other e = absurd (false≢true e)
later_stays (Some shares) other e = refl
