use Rattle.society_rows.proofs.lemmas.readings.Alike.{only_one, only_alike}
use Rattle.society_rows.proofs.shapes.is_only_key.Goals as goal

pub returns-in-len1 : goal.returns-in-len1
returns-in-len1 c =
    only_alike c.args.keys.now c.only-item.result c.args.key.now c.are_places.result (only_one c.args.keys.now c.only-item.result c.in-len1.len_at_least c.in-len1.len_below c.only-item.is) c.are_places.ensures
