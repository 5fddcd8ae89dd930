use Rattle.memory_store.proofs.memory.MemoryStore.begin.Goals as goal

pub once_more-requires : goal.once_more-requires
once_more-requires c = record { mirrors = rw (c.take.ensures.value, c.as_slice.ensures.value) c.args.self.now.mirrors }
