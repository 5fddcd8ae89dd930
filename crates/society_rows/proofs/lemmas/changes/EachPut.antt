-- Rows that are put in place of those under their key.
use Rattle.std.proofs.Common.{ℕ, true, ◌&&◌, List, codes, refl, inl, inr}
use Rattle.sqlite_value.specs.declared.value.Value.TheVariants.{Int, Text}
use Rattle.sqlite_value.specs.declared.keys.Collation.TheVariants.{Binary}
use Rattle.sqlite_value.specs.Keys.{first_key}
use Rattle.sqlite_value.specs.Order.{column}
use Rattle.sqlite_schema.specs.Rules.{equal, differ}
use Rattle.sqlite_tied.specs.Compute.{everything}
use Rattle.sqlite.specs.Listing.{understood}
use Rattle.society_rows.specs.declared.balances.BalanceRow.{BalanceRow}
use Rattle.society_rows.specs.declared.fronts.FrontRow.{FrontRow}
use Rattle.society_rows.specs.Layout.{written_out, balances, fronts}
use Rattle.society_rows.specs.Rows.{balance_values, front_values}
use Rattle.society_rows.proofs.lemmas.changes.Casts.{cast_null, cast_int}
use Rattle.society_rows.proofs.lemmas.changes.UpsertParts.{IsPut}
use Rattle.society_rows.proofs.lemmas.definitions.Booleans.{and_true, the_only, free_of}

abbrev pub put_front_text : List ℕ
put_front_text = codes "INSERT INTO fronts (sender, front, works) VALUES (?1, ?2, ?3) ON CONFLICT (sender) DO UPDATE SET sender = excluded.sender, front = excluded.front, works = excluded.works"

pub front_put : (row : FrontRow) → IsPut fronts 6 put_front_text (front_values row)
unfolding understood everything written_out first_key
front_put row = record {
  is = λ cuts payments. refl;
  given = refl;
  upserted = λ cuts payments. record {
    cast_none = simp (cast_null, cast_int);
    cast_some = λ id. simp cast_int;
    shows = λ id. refl;
    first = λ r. refl;
    conflicts_are = λ id r. the_only (equal Binary (column r 1) (Text row.sender.now));
    unique = λ db id r passes has same.
        free_of (λ x. (equal Binary (column x 1) (Text row.sender.now) && true) && differ (column x 0) (Int id)) (db 10) r (differ (column r 0) (Int id)) passes has (λ far. rw (same, far));
    listed = inr (inr (inr (inr (inr (inr (inl refl))))));
  };
  update = record { finds = λ there id r. and_true (equal Binary (column r 0) there); sets = λ there id r. refl };
}

abbrev pub put_balance_text : List ℕ
put_balance_text = codes "INSERT INTO balances (account, units) VALUES (?1, ?2) ON CONFLICT (account) DO UPDATE SET account = excluded.account, units = excluded.units"

pub balance_put : (row : BalanceRow) → IsPut balances 11 put_balance_text (balance_values row)
unfolding understood everything written_out first_key
balance_put row = record {
  is = λ cuts payments. refl;
  given = refl;
  upserted = λ cuts payments. record {
    cast_none = simp (cast_null, cast_int);
    cast_some = λ id. simp cast_int;
    shows = λ id. refl;
    first = λ r. refl;
    conflicts_are = λ id r. the_only (equal Binary (column r 1) (Text row.account.now));
    unique = λ db id r passes has same.
        free_of (λ x. (equal Binary (column x 1) (Text row.account.now) && true) && differ (column x 0) (Int id)) (db 20) r (differ (column r 0) (Int id)) passes has (λ far. rw (same, far));
    listed = inr (inr (inr (inr (inr (inr (inr (inr (inr (inr (inr (inl refl)))))))))));
  };
  update = record { finds = λ there id r. and_true (equal Binary (column r 0) there); sets = λ there id r. refl };
}
