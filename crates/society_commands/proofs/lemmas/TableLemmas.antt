-- What is shown of tables in memory, and a stream for which there were none.
use Rattle.std.proofs.Common.{◌≡◌, List, ℕ, Option, Some, None, [], refl, unwrap_or}
use Rattle.std.specs.Prelude.{IfSome, true}
use Rattle.http_desk.specs.Counted.{inner_of}
use Rattle.http_desk.specs.declared.counted.Counted.{Counted}
use Rattle.http_desk.specs.declared.fault.FaultKind.TheVariants.{Memory}
use Rattle.http_desk.proofs.lemmas.AnsweredLemmas.{none_answered}
use Rattle.share_rules.specs.declared.office.Office.{Office}
use Rattle.society_core.specs.Book.{empty_book}
use Rattle.society_core.specs.State.{State}
use Rattle.desk_connections.proofs.lemmas.ConnectionLemmas.{appends_nothing}
use Rattle.society_commands.proofs.lemmas.ReplayLemmas.{from_nothing}
use Rattle.society_commands.specs.Replays.{BreaksOff}
use Rattle.society_commands.specs.declared.trouble.Trouble.{Trouble}
use Rattle.society_commands.specs.declared.trouble.Trouble.TheVariants.{Stream}

-- a store of an office to which nothing has come
abbrev nothing_yet : Office → State
nothing_yet office = record { office = office; book = empty_book; failures = 0; faults = 0; is_clean = true; is_honest = true; left = λ book. ⊥ }

known_or_none : (known : Option (List ℕ)) → IfSome known (λ all. all ≡ unwrap_or known [])
known_or_none None = tt
known_or_none (Some all) = refl

-- where memory is refused for the tables, nothing is read and nothing is written
pub no_tables : {R W : Type 0} (office : Office) (remaining : R → Option (List ℕ)) (contents : W → Option (List ℕ)) (reader : Counted R) (out : Counted W) (Told : Trouble → Type 0)
    → Told (Stream (record { kind = Memory; requests = 0 })) → BreaksOff office remaining contents reader reader out out Told
no_tables office remaining contents reader out Told told = record {
  fault = record { kind = Memory; requests = 0 };
  bytes = unwrap_or (remaining (inner_of reader)) [];
  given = known_or_none (remaining (inner_of reader));
  parts = [];
  replies = [];
  answers = from_nothing nothing_yet office office office [] [] refl refl refl (none_answered nothing_yet office);
  written = (unwrap_or (remaining (inner_of reader)) [], record { whole = refl; each = tt }, appends_nothing (contents (inner_of out)));
  count = refl;
  cause = (refl, refl, refl);
  told = told;
}
