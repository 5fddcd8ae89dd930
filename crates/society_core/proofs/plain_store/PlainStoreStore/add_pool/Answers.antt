use Rattle.std.proofs.Common.{refl, rules}
use Rattle.society_core.proofs.lemmas.Stores.{from_one, sound_after_pool}
use Rattle.society_core.proofs.plain_store.PlainStoreStore.add_pool.Goals as goal

pub invariant_of-self : goal.invariant_of-self
invariant_of-self c = record {
  sound =
      sound_after_pool c.insert_pool.result c.args.self.now.book c.insert_pool.new.self c.args.pool c.args.order.now c.insert_pool.ensures.ok c.insert_pool.ensures.err c.args.self.now.sound
      (from_one 99999 c.args.pool (search rules) (search rules)) c.insert_pool.ensures.order (c.requires.right refl);
}
