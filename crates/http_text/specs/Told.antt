-- Representation, not meaning: an answer with the body that was made for it before it is sent.
use Rattle.std.specs.Prelude.{◌≡◌, ◌⊎◌, ℕ, Bool, List, ⊤}
use Rattle.society_core.specs.Requests.{Reply, Showed, Refused, Showing, Acknowledged, reply_of}
use Rattle.society_core.specs.declared.refusal.Refusal.TheVariants.{Unavailable}
use Rattle.http_text.specs.Text.{reply_text, showing_text}
use Rattle.http_text.specs.declared.told.Told.{Told}

-- memory is asked for the text of what is shown: not for that of an acknowledgement, which was looked up as it is sent
abbrev pub NeedsText : Showing → Type 0
NeedsText (Acknowledged bytes) = ⊥
NeedsText other = ⊤

-- these bytes are the text of what is shown, where memory is asked for it
abbrev pub HasText : Showing → List ℕ → Type 0
HasText (Acknowledged bytes) body = ⊤
HasText other body = body ≡ showing_text other

-- the reply answers a question that asks memory for its body
abbrev pub IsShown : Reply → Type 0
IsShown (Showed showing) = NeedsText showing
IsShown other = ⊥

-- these bytes are the body of such a reply; of another nothing is asked
abbrev pub HasBody : Reply → List ℕ → Type 0
HasBody (Showed showing) body = HasText showing body
HasBody other body = ⊤

-- what is told
abbrev pub told_reply : Told → Reply
told_reply told = reply_of told.answer

-- the text of what is told
abbrev pub told_text : Told → Bool → List ℕ
told_text told close = reply_text (told_reply told) close

-- the body that the answer asks was made
abbrev pub IsReadyToSend : Told → Type 0
IsReadyToSend told = HasBody (told_reply told) told.body.items

-- a reply is told as it is, or, where it is shown and memory was refused for its body, the office is unavailable
abbrev pub TellsReply : Reply → Reply → Type 0
TellsReply reply told = (told ≡ reply) ⊎ (IsShown reply × (told ≡ Refused Unavailable))
