-- What lists hold, and keys by their parts (representation).
use Rattle.std.specs.Prelude.{ℕ, List, [], Option, Vec, map, option_map, unwrap_or}
use Rattle.std.specs.declared.alloc.Global.{Global}
use Rattle.cwr_files.specs.Contents.{transmission_in}
use Rattle.cwr_files.specs.declared.transmission.Transmission.{Transmission}
use Rattle.pool_split.specs.declared.claim.Credit.{Credit}
use Rattle.society_core.specs.Keys.{return_key, transmission_key}
use Rattle.society_core.specs.declared.return_key.ReturnKey.{ReturnKey}
use Rattle.society_core.specs.declared.transmission_key.TransmissionKey.{TransmissionKey}
use Rattle.work_ids.specs.Account.{account_text}

-- what a list holds, where there is one
abbrev pub items_of : {X : Type 0} → Option (Vec X Global) → Option (List X)
items_of {X} shown = option_map (λ (list : Vec X Global). list.items) shown

-- the bytes of each text
abbrev pub bytes_of_each : List (Vec ℕ Global) → List (List ℕ)
bytes_of_each texts = map (λ (text : Vec ℕ Global). text.items) texts

-- the text of each credit's account
abbrev pub account_texts : List Credit → List (List ℕ)
account_texts credits = map (λ (credit : Credit). account_text credit.account) credits

-- the keys of a cut by their senders and numbers
abbrev pub transmission_keys : List (List ℕ × ℕ) → List TransmissionKey
transmission_keys parts = map (λ (key : List ℕ × ℕ). transmission_key key.0 key.1) parts

-- the keys of returns by their reporters and numbers
abbrev pub return_keys : List (List ℕ × ℕ) → List ReturnKey
return_keys parts = map (λ (key : List ℕ × ℕ). return_key key.0 key.1) parts

-- the transmission that a body is, where there is one
abbrev pub transmission_kept : Option (List ℕ) → Transmission
transmission_kept kept = transmission_in (unwrap_or kept [])
