use Rattle.society_core.proofs.lemmas.PoolLemmas.{pool_adds_up}
use Rattle.society_core.proofs.laws.pools_are_whole.Goals as goal

pub returns : goal.returns
returns c = record {
  whole = pool_adds_up;
  once = λ book pool order sound there. (sound.orders pool order there).returns;
  apart = λ book pool other order another key sound. sound.paid_once pool other order another key;
}
