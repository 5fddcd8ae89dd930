use Rattle.society_core.proofs.lemmas.FedLemmas.{puts-fed}
use Rattle.society_core.proofs.desk.Desk.put_fed.Goals as goal

pub returns : goal.returns
returns g c = λ bytes fed.
    let state = g.S.Store.state in
    puts-fed (state c.args.self.now) (state _) c.args.sender.now _ c.args.reader bytes _ (g.met.S.Store.laws c.args.self.now) c.requires fed c.put_kept.ensures
