use Rattle.std.proofs.Common.{refl}
use Rattle.society_core.proofs.lemmas.Stores.{return_entry, sound_after_return}
use Rattle.society_core.proofs.plain_store.PlainStoreStore.add_return.Goals as goal

pub invariant_of-self : goal.invariant_of-self
invariant_of-self c = record {
  sound =
      sound_after_return c.insert_return.result c.args.self.now.book c.insert_return.new.self c.args.key.now c.args.body.now c.insert_return.ensures.ok c.insert_return.ensures.err c.args.self.now.sound (c.requires.free refl)
      (return_entry c.args.key.now _ c.args.body.now c.as_bytes-reporter.ensures.bytes c.as_bytes-reporter.ensures.back c.value-number.ensures.limits.0 c.value-number.ensures.limits.1 c.requires.right);
}
