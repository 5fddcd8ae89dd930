-- The versions of works: the accepted transactions of a line, each where it stands.
use Rattle.std.specs.Prelude.{ℕ, ◌+◌, Bool, ◌&&◌, List, [], ◌∷◌, Option, Some, None, map, if◌then◌else◌}
use Rattle.works_core.specs.Numbered.{JudgedTransmission, up_to}
use Rattle.works_core.specs.Verdicts.{concerns, is_accepted, ordinal_of, registered_before, unregistered, versions_of}
use Rattle.cwr_records.specs.declared.work.TransactionKind.TheVariants.{Nwr, Rev}
use Rattle.works_core.specs.declared.judged.Judged.{Judged}
use Rattle.works_core.specs.declared.judged.Judged.TheVariants.{Clean, Faulty}
use Rattle.works_core.specs.declared.verdict.Verdict.{Verdict}
use Rattle.works_core.specs.declared.verdict.Verdict.TheVariants.{Accepted, Rejected}
use Rattle.works_core.specs.declared.version.WorkVersion.{WorkVersion}

-- a transaction of a line: its transmission's number, its place there from 0 among those of types NWR and REV, and what is judged of it
pub record Placed : Type 0 where
  pub transmission : ℕ
  pub place : ℕ
  pub judged : Judged

-- a transaction at its place
abbrev pub placed_at : ℕ → ℕ → Judged → Placed
placed_at transmission place judged = record { transmission = transmission; place = place; judged = judged }

-- what stands before, the nearest first, once the transactions of a transmission from a place on have come
abbrev pub placed_behind : List Placed → ℕ → ℕ → List Judged → List Placed
placed_behind past transmission place [] = past
placed_behind past transmission place (judged ∷ more) = placed_behind (placed_at transmission place judged ∷ past) transmission (place + 1) more

-- the same once all transactions of further transmissions have come, each under its number
abbrev pub placed_behind_all : List Placed → List JudgedTransmission → List Placed
placed_behind_all past [] = past
placed_behind_all past (x ∷ more) = placed_behind_all (placed_behind past x.number 0 x.judged) more

-- the transactions of a line, the nearest first, each where it stands
abbrev pub placed_line : List JudgedTransmission → List Placed
placed_line line = placed_behind_all [] line

-- what is judged of some transactions
abbrev pub judged_of : List Placed → List Judged
judged_of past = map (λ t. t.judged) past

-- whether a transaction behind others is an accepted one of a work
abbrev pub is_version : List ℕ → List Placed → Placed → Bool
is_version work past t = is_accepted (judged_of past) t.judged && concerns work t.judged

-- the version that an accepted transaction of a work is: the ordinal is the number of accepted NWR up to the work's own, the revision the number of accepted ones of the work before it (profile)
abbrev pub version_of : List ℕ → List Placed → Placed → WorkVersion
version_of work past t = record {
  transmission = t.transmission;
  place = t.place;
  ordinal = ordinal_of work (judged_of (t ∷ past));
  revision = versions_of work (judged_of past);
}

-- the last accepted transaction of a work, looking back, none where there is none (profile)
abbrev pub last_version : List ℕ → List Placed → Option WorkVersion
last_version work [] = None
last_version work (t ∷ past) = if is_version work past t then Some (version_of work past t) else last_version work past

-- the verdict of a transaction at the end of a line, by the last version of its work and the number of works that are accepted so far (profile)
abbrev pub next_verdict : Judged → Option WorkVersion → ℕ → Verdict
next_verdict (Faulty fault) last works = Rejected fault
next_verdict (Clean Nwr number) None works = Accepted (works + 1) 0
next_verdict (Clean Nwr number) (Some version) works = Rejected registered_before
next_verdict (Clean Rev number) None works = Rejected unregistered
next_verdict (Clean Rev number) (Some version) works = Accepted version.ordinal (version.revision + 1)

-- the version of a work at a cut: its last accepted transaction in the transmissions up to the cut; a cut above the last number is read as the last number (profile)
unfoldable pub work_at : List JudgedTransmission → List ℕ → ℕ → Option WorkVersion
work_at line work cut = last_version work (placed_line (up_to cut line))
