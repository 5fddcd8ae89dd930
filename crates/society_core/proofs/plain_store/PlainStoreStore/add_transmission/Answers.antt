use Rattle.std.proofs.Common.{refl, ap, ap₂, ◌∙◌}
use Rattle.cwr_files.specs.FileFault.{file_fault}
use Rattle.society_core.specs.Book.{body_at}
use Rattle.society_core.specs.Ends.{ended_before}
use Rattle.society_core.proofs.lemmas.Stores.{sound_after, sound_taken, transmission_entry}
use Rattle.society_core.proofs.plain_store.PlainStoreStore.add_transmission.Goals as goal

pub insert_transmission-requires-clause-after : goal.insert_transmission-requires-clause-after
insert_transmission-requires-clause-after c =
    let book = c.args.self.now.book in
    let sender = c.sender.result.now in
    let number = c.args.number in
    let body = c.into_body-body.result.items in
    let free = ap (λ s. body_at book s number) c.sender.ensures ∙ c.requires.free refl in
    let within = ap (λ s. ended_before book s number) c.sender.ensures ∙ c.requires.within refl in
    let right = ap₂ file_fault c.sender.ensures c.into_body-body.ensures ∙ c.requires.right in
    sound_taken book sender number body c.args.self.now.sound free (transmission_entry sender number body c.as_bytes-key.ensures.key c.value-number.ensures.number right) within

pub invariant_of-self : goal.invariant_of-self
invariant_of-self c =
    let book = c.args.self.now.book in
    let sender = c.sender.result.now in
    let number = c.args.number in
    let body = c.into_body-body.result.items in
    let free = ap (λ s. body_at book s number) c.sender.ensures ∙ c.requires.free refl in
    let within = ap (λ s. ended_before book s number) c.sender.ensures ∙ c.requires.within refl in
    let right = ap₂ file_fault c.sender.ensures c.into_body-body.ensures ∙ c.requires.right in
    record {
      sound =
          sound_after c.insert_transmission.result book c.insert_transmission.new.self sender number body c.insert_transmission.ensures.ok c.insert_transmission.ensures.err c.args.self.now.sound
          (sound_taken book sender number body c.args.self.now.sound free (transmission_entry sender number body c.as_bytes-key.ensures.key c.value-number.ensures.number right) within);
    }
