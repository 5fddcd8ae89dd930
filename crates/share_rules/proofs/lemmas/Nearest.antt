-- The rows of an interested party, looking forward from it to the next one of its side with its number.
use Rattle.std.proofs.Common.{◌≡◌, ℕ, ◌+◌, ◌<◌, drop, get_or, length, Bool, true, false, not, ◌&&◌, ◌||◌, List, [], ◌∷◌, ◌++◌, Option, Some, None, if◌then◌else◌, refl, sym, ap, ◌∙◌}
use Rattle.std.specs.List.{list_any}
use Rattle.std.specs.Str.{bytes_eq}
use Rattle.std.proofs.lemmas.Bool.{false≢true}
use Rattle.std.proofs.lemmas.List.{at_drop_more}
use Rattle.std.proofs.lemmas.List.Folds.{list_any-append}
use Rattle.std.proofs.lemmas.Slice.Eq.{bytes_eq-Decides}
use Rattle.cwr_records.specs.Blanks.{trimmed}
use Rattle.cwr_records.specs.declared.record.Record.{Record}
use Rattle.cwr_records.specs.declared.record.Record.TheVariants as kind
use Rattle.share_rules.specs.Parties.{belongs, collected, is_interested_party, last_counting, later_or, no_shares, party_in, party_is, row_in, rows_behind, rows_of, same_number, same_side, shares_at, with_own_row}
use Rattle.share_rules.specs.Steps.{row_is, shares_after, shares_or, with_matching_row}
use Rattle.share_rules.specs.declared.office.Office.{Office}
use Rattle.share_rules.specs.declared.party.InterestedParty.{InterestedParty}
use Rattle.share_rules.specs.declared.party.Side.{Side}
use Rattle.share_rules.specs.declared.party.Side.TheVariants as side
use Rattle.share_rules.specs.declared.shares.Shares.{Shares}
use Rattle.share_rules.specs.declared.territory_row.TerritoryRow.{TerritoryRow}

-- the records up to the next interested party of a side with a number
abbrev pub up_to_next : Side → List ℕ → List Record → List Record
up_to_next s number [] = []
up_to_next s number (r ∷ more) = if is_interested_party s number r then [] else r ∷ up_to_next s number more

-- the territory rows of a side with a number
abbrev pub rows_among : Side → List ℕ → List Record → List TerritoryRow
rows_among s number [] = []
rows_among s number (r ∷ more) = with_matching_row s number (row_in r) (rows_among s number more)

one_side : (a b : Side) → same_side a b ≡ true → a ≡ b
one_side side.Publisher side.Publisher e = refl
one_side side.Writer side.Writer e = refl
one_side side.Publisher side.Writer e = absurd (false≢true e)
one_side side.Writer side.Publisher e = absurd (false≢true e)

side_turned : (a b : Side) → same_side a b ≡ same_side b a
side_turned side.Publisher side.Publisher = refl
side_turned side.Writer side.Writer = refl
side_turned side.Publisher side.Writer = refl
side_turned side.Writer side.Publisher = refl

bytes_turned : (a b : List ℕ) → bytes_eq a b ≡ bytes_eq b a
bytes_turned a b = by_case (bytes_eq a b) (bytes_eq b a) refl refl
  where
    by_case : (p q : Bool) → bytes_eq a b ≡ p → bytes_eq b a ≡ q → p ≡ q
    by_case true true e f = refl
    by_case false false e f = refl
    by_case true false e f = absurd (false≢true (sym f ∙ (bytes_eq-Decides b a).1 (sym ((bytes_eq-Decides a b).0 e))))
    by_case false true e f = absurd (false≢true (sym e ∙ (bytes_eq-Decides a b).1 (sym ((bytes_eq-Decides b a).0 f))))

both_of : (a b : Bool) → (a && b) ≡ true → (a ≡ true) × (b ≡ true)
both_of true b e = (refl, e)
both_of false b e = absurd (false≢true e)

-- a party is of a row's side with its number where the row is of the party's
turned : (party : InterestedParty) (row : TerritoryRow) → party_is row.side row.number (Some party) ≡ row_is party.side party.number (Some row)
turned party row =
    ap (λ (b : Bool). b && same_number party.number row.number) (side_turned party.side row.side)
    ∙ ap (λ (b : Bool). same_side row.side party.side && b) (bytes_turned (trimmed party.number) (trimmed row.number))

-- then the parties of the row's side with its number are those of the party's
alike : (party : InterestedParty) (row : TerritoryRow) (rs : List Record) → row_is party.side party.number (Some row) ≡ true → list_any (is_interested_party row.side row.number) rs ≡ list_any (is_interested_party party.side party.number) rs
alike party row rs e =
    let parts = both_of (same_side row.side party.side) (same_number row.number party.number) e in
    let s = one_side row.side party.side parts.0 in
    let n = (bytes_eq-Decides (trimmed row.number) (trimmed party.number)).0 parts.1 in
    ap (λ (x : Side). list_any (λ r. is_interested_party x row.number r) rs) s
    ∙ each rs n
  where
    one : (r : Record) → trimmed row.number ≡ trimmed party.number → is_interested_party party.side row.number r ≡ is_interested_party party.side party.number r
    one r n = in_one (party_in r) n
      where
        in_one : (o : Option InterestedParty) → trimmed row.number ≡ trimmed party.number → party_is party.side row.number o ≡ party_is party.side party.number o
        in_one None n = refl
        in_one (Some p) n = ap (λ (bs : List ℕ). same_side p.side party.side && bytes_eq (trimmed p.number) bs) n

    each : (xs : List Record) → trimmed row.number ≡ trimmed party.number → list_any (is_interested_party party.side row.number) xs ≡ list_any (is_interested_party party.side party.number) xs
    each [] n = refl
    each (r ∷ more) n = ap (λ (b : Bool). b || list_any (is_interested_party party.side row.number) more) (one r n) ∙ ap (λ (b : Bool). is_interested_party party.side party.number r || b) (each more n)

-- a row behind records of which none is of the party's side with its number belongs to the party where it is of these
own_row : (party : InterestedParty) (between : List Record) (o : Option TerritoryRow) (rows : List TerritoryRow) → list_any (is_interested_party party.side party.number) between ≡ false → with_own_row party between o rows ≡ with_matching_row party.side party.number o rows
own_row party between None rows none = refl
own_row party between (Some row) rows none = by_case (row_is party.side party.number (Some row)) refl
  where
    by_case : (b : Bool) → row_is party.side party.number (Some row) ≡ b → (if belongs party between row then row ∷ rows else rows) ≡ (if row_is party.side party.number (Some row) then row ∷ rows else rows)
    by_case true is =
        let own : belongs party between row ≡ true = ap (λ (b : Bool). b && not (list_any (is_interested_party row.side row.number) between)) (turned party row ∙ is) ∙ ap not (alike party row between is ∙ none) in
        ap (λ (b : Bool). if b then row ∷ rows else rows) (own ∙ sym is)
    by_case false is =
        let other : belongs party between row ≡ false = ap (λ (b : Bool). b && not (list_any (is_interested_party row.side row.number) between)) (turned party row ∙ is) in
        ap (λ (b : Bool). if b then row ∷ rows else rows) (other ∙ sym is)

-- behind another one no row belongs to the party
no_row : (party : InterestedParty) (between : List Record) (o : Option TerritoryRow) (rows : List TerritoryRow) → list_any (is_interested_party party.side party.number) between ≡ true → with_own_row party between o rows ≡ rows
no_row party between None rows some = refl
no_row party between (Some row) rows some = by_case (row_is party.side party.number (Some row)) refl
  where
    by_case : (b : Bool) → row_is party.side party.number (Some row) ≡ b → (if belongs party between row then row ∷ rows else rows) ≡ rows
    by_case true is =
        let other : belongs party between row ≡ false = ap (λ (b : Bool). b && not (list_any (is_interested_party row.side row.number) between)) (turned party row ∙ is) ∙ ap not (alike party row between is ∙ some) in
        ap (λ (b : Bool). if b then row ∷ rows else rows) other
    by_case false is =
        let other : belongs party between row ≡ false = ap (λ (b : Bool). b && not (list_any (is_interested_party row.side row.number) between)) (turned party row ∙ is) in
        ap (λ (b : Bool). if b then row ∷ rows else rows) other

or_true : (a b : Bool) → a ≡ true → (a || b) ≡ true
or_true true b e = refl
or_true false b e = absurd (false≢true e)

or_last : (a b : Bool) → b ≡ true → (a || (b || false)) ≡ true
or_last true b e = refl
or_last false true e = refl
or_last false false e = absurd (false≢true e)

or_none : (a b : Bool) → a ≡ false → b ≡ false → (a || (b || false)) ≡ false
or_none false false e f = refl
or_none true b e f = absurd (false≢true (sym e))
or_none false true e f = absurd (false≢true (sym f))

no_rows : (party : InterestedParty) (between more : List Record) → list_any (is_interested_party party.side party.number) between ≡ true → rows_behind party between more ≡ []
no_rows party between [] some = refl
no_rows party between (r ∷ more) some =
    let further = list_any-append (is_interested_party party.side party.number) between (r ∷ []) ∙ or_true (list_any (is_interested_party party.side party.number) between) (list_any (is_interested_party party.side party.number) (r ∷ [])) some in
    no_row party between (row_in r) (rows_behind party (between ++ r ∷ []) more) some ∙ no_rows party (between ++ r ∷ []) more further

-- a record that is an interested party is no territory row
pub no_row_in : (r : Record) (p : InterestedParty) → party_in r ≡ Some p → row_in r ≡ None
no_row_in (kind.Publisher x) p e = refl
no_row_in (kind.Writer x) p e = refl
no_row_in _ p e = absurd cc

party_there : (s : Side) (number : List ℕ) (o : Option InterestedParty) → party_is s number o ≡ true → (p : InterestedParty) × (o ≡ Some p)
party_there s number None e = absurd (false≢true e)
party_there s number (Some p) e = (p, refl)

own_rows : (party : InterestedParty) (between more : List Record) → list_any (is_interested_party party.side party.number) between ≡ false → rows_behind party between more ≡ rows_among party.side party.number (up_to_next party.side party.number more)
own_rows party between [] none = refl
own_rows party between (r ∷ more) none = by_case (is_interested_party party.side party.number r) refl (own_rows party (between ++ r ∷ []) more)
  where
    among : Bool → List TerritoryRow
    among b = rows_among party.side party.number (if b then [] else r ∷ up_to_next party.side party.number more)

    by_case : (b : Bool) → is_interested_party party.side party.number r ≡ b → (list_any (is_interested_party party.side party.number) (between ++ r ∷ []) ≡ false → rows_behind party (between ++ r ∷ []) more ≡ rows_among party.side party.number (up_to_next party.side party.number more)) → with_own_row party between (row_in r) (rows_behind party (between ++ r ∷ []) more) ≡ among (is_interested_party party.side party.number r)
    by_case true is recur =
        let there = party_there party.side party.number (party_in r) is in
        let further = list_any-append (is_interested_party party.side party.number) between (r ∷ []) ∙ or_last (list_any (is_interested_party party.side party.number) between) (is_interested_party party.side party.number r) is in
        ap (λ (o : Option TerritoryRow). with_own_row party between o (rows_behind party (between ++ r ∷ []) more)) (no_row_in r there.0 there.1)
        ∙ no_rows party (between ++ r ∷ []) more further
        ∙ ap among (sym is)
    by_case false is recur =
        let further = list_any-append (is_interested_party party.side party.number) between (r ∷ []) ∙ or_none (list_any (is_interested_party party.side party.number) between) (is_interested_party party.side party.number r) none is in
        own_row party between (row_in r) (rows_behind party (between ++ r ∷ []) more) none
        ∙ ap (with_matching_row party.side party.number (row_in r)) (recur further)
        ∙ ap among (sym is)

-- looking back from each row, or forward from the party, its rows are the same
pub rows_of_are : (party : InterestedParty) (after : List Record) → rows_of party after ≡ rows_among party.side party.number (up_to_next party.side party.number after)
rows_of_are party after = own_rows party [] after refl

-- the shares of the rows up to a record, and then of those behind it
pub rows_on : (office : Office) (s : Side) (number : List ℕ) (before : Shares) (o : Option TerritoryRow) (rows : List TerritoryRow) → shares_or (shares_or before (last_counting office (with_matching_row s number o []))) (last_counting office rows) ≡ shares_or before (last_counting office (with_matching_row s number o rows))
rows_on office s number before None rows = refl
rows_on office s number before (Some row) rows = by_case (row_is s number (Some row))
  where
    by_later : (later : Option TerritoryRow) → shares_or (shares_or before (later_or office row None)) later ≡ shares_or before (later_or office row later)
    by_later None = refl
    by_later (Some x) = refl

    by_case : (b : Bool) → shares_or (shares_or before (last_counting office (if b then row ∷ [] else []))) (last_counting office rows) ≡ shares_or before (last_counting office (if b then row ∷ rows else rows))
    by_case true = by_later (last_counting office rows)
    by_case false = refl

-- the same where the record is among those that are left
pub rows_next : (office : Office) (s : Side) (number : List ℕ) (before : Shares) (rs : List Record) (i : ℕ) (r : Record) → i < length rs → r ≡ get_or rs i r → is_interested_party s number r ≡ false → shares_or (shares_after office s number before r) (last_counting office (rows_among s number (up_to_next s number (drop (i + 1) rs)))) ≡ shares_or before (last_counting office (rows_among s number (up_to_next s number (drop i rs))))
rows_next office s number before rs i r within at other =
    let left : List Record → Shares = λ xs. shares_or before (last_counting office (rows_among s number (up_to_next s number xs))) in
    let here : left (r ∷ drop (i + 1) rs) ≡ shares_or before (last_counting office (with_matching_row s number (row_in r) (rows_among s number (up_to_next s number (drop (i + 1) rs))))) =
    ap (λ (b : Bool). shares_or before (last_counting office (rows_among s number (if b then [] else r ∷ up_to_next s number (drop (i + 1) rs))))) other in
    rows_on office s number before (row_in r) (rows_among s number (up_to_next s number (drop (i + 1) rs)))
    ∙ sym here
    ∙ ap (λ (x : Record). left (x ∷ drop (i + 1) rs)) at
    ∙ sym (at_drop_more left rs i r within)

-- the shares of the rows so far, where there are none
pub from_none : (o : Option TerritoryRow) → shares_or no_shares o ≡ shares_at o
from_none None = refl
from_none (Some row) = refl

-- what a party collects by the rows up to the next one
pub collected_is : (office : Office) (party : InterestedParty) (after : List Record) → shares_at (last_counting office (rows_among party.side party.number (up_to_next party.side party.number after))) ≡ collected office (record { party = party; after = after })
collected_is office party after = ap (λ (rows : List TerritoryRow). shares_at (last_counting office rows)) (sym (rows_of_are party after))
