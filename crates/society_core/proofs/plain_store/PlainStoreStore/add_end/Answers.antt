use Rattle.std.proofs.Common.{refl}
use Rattle.society_core.proofs.lemmas.Stores.{sound_after_end, sound_stated}
use Rattle.society_core.proofs.plain_store.PlainStoreStore.add_end.Goals as goal

pub insert_end-requires-clause-after : goal.insert_end-requires-clause-after
insert_end-requires-clause-after c =
    sound_stated c.args.self.now.book c.args.sender.now c.args.end.now c.args.self.now.sound (c.requires.free refl) c.as_bytes-key.ensures.key c.last-last.ensures.right (c.requires.above refl)

pub invariant_of-self : goal.invariant_of-self
invariant_of-self c =
    let after = sound_stated c.args.self.now.book c.args.sender.now c.args.end.now c.args.self.now.sound (c.requires.free refl) c.as_bytes-key.ensures.key c.last-last.ensures.right (c.requires.above refl) in
    record {
      sound = sound_after_end c.insert_end.result c.args.self.now.book c.insert_end.new.self c.args.sender.now c.args.end.now c.insert_end.ensures.ok c.insert_end.ensures.err c.args.self.now.sound after;
    }
