use Rattle.std.proofs.lemmas.Result.{on_ok_weaker}
use Rattle.credit_listing.specs.Rows.{unowned_row}
use Rattle.credit_listing.proofs.lemmas.RowLemmas.{adds_one}
use Rattle.credit_listing.proofs.rows.put_share.Goals as goal

pub returns-in-Some : goal.returns-in-Some
returns-in-Some c = rw c.in-Some.is c.put_owned.ensures

pub returns-in-None : goal.returns-in-None
returns-in-None c = rw c.in-None.is (on_ok_weaker c.put_unowned.result (adds_one c.args.table.now c.put_unowned.new.table (unowned_row c.args.number c.args.share.now)) c.put_unowned.ensures)
