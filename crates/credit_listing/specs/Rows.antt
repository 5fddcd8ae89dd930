-- How what an order credits is listed: rows of comma-separated values (RFC 4180; the columns: profile).
use Rattle.std.specs.Prelude.{ℕ, List, [], ◌∷◌, Option, Some, None, codes, decimal, map}
use Rattle.std.specs.List.{flat_map, zip}
use Rattle.csv.specs.Writing.{default_writer, row_text}
use Rattle.http_text.specs.Table.{isrc_field}
use Rattle.order_credits.specs.declared.share.OwnedVersion.{OwnedVersion}
use Rattle.order_credits.specs.declared.share.RecordingShare.{RecordingShare}
use Rattle.share_rules.specs.declared.holder.Holder.{Holder}
use Rattle.work_ids.specs.Account.{account_text}
use Rattle.work_ids.specs.Blanks.{without_trailing_blanks}
use Rattle.work_ids.specs.declared.account.Account.TheVariants.{Unclaimed}

-- what the columns are called
abbrev pub listing_columns : List (List ℕ)
listing_columns =
    codes "order" ∷ codes "isrc" ∷ codes "points" ∷ codes "units" ∷ codes "remainder" ∷ codes "sender" ∷ codes "work" ∷ codes "revision" ∷ codes "account"
    ∷ codes "weight" ∷ codes "part" ∷ []

-- the fields that each row of a share begins with: which order it is of, the recording or a hyphen, its points, its units, and the remainder
abbrev pub share_columns : ℕ → RecordingShare → List (List ℕ) → List (List ℕ)
share_columns number share more = decimal number ∷ isrc_field share.isrc ∷ decimal share.points ∷ decimal share.units ∷ decimal share.remainder ∷ more

-- the row of a holder of the version that owns it, with the weight and the part
abbrev pub holder_row : ℕ → RecordingShare → OwnedVersion → Holder × ℕ → List (List ℕ)
holder_row number share owner paid =
    share_columns number share
    (owner.sender ∷ without_trailing_blanks owner.work ∷ decimal owner.revision ∷ account_text paid.0.account ∷ decimal paid.0.weight ∷ decimal paid.1 ∷ [])

-- the row of a share that nobody owns: all of it is unclaimed
abbrev pub unowned_row : ℕ → RecordingShare → List (List ℕ)
unowned_row number share = share_columns number share ([] ∷ [] ∷ [] ∷ account_text Unclaimed ∷ [] ∷ decimal share.units ∷ [])

-- the rows of a share by the version that owns it: one for each of its holders, in order, or one where there is none
abbrev pub share_rows_by : ℕ → RecordingShare → Option OwnedVersion → List (List (List ℕ))
share_rows_by number share None = unowned_row number share ∷ []
share_rows_by number share (Some owner) = map (holder_row number share owner) (zip owner.holders share.parts)

-- the rows of a share
abbrev pub share_rows : ℕ → RecordingShare → List (List (List ℕ))
share_rows number share = share_rows_by number share share.owner

-- rows as text
abbrev pub rows_written : List (List (List ℕ)) → List ℕ
rows_written rows = flat_map (λ fields. row_text default_writer fields) rows

-- what is listed of an order of this number with these shares
abbrev pub shares_text : ℕ → List RecordingShare → List ℕ
shares_text number shares = rows_written (flat_map (share_rows number) shares)
