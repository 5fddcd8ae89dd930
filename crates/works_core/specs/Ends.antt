-- What is known at the end of a sender's line.
use Rattle.std.specs.Prelude.{ℕ, ◌+◌, ◌≡◌, ◌∷◌, ◌||◌, Bool, IsTrue, List, Option, Some, None, ⊤, if◌then◌else◌}
use Rattle.std.specs.List.{AllByRecursion}
use Rattle.std.specs.BTreeMap as tree
use Rattle.std.specs.Str.{bytes_eq}
use Rattle.cwr_records.specs.declared.work.TransactionKind.TheVariants.{Nwr, Rev}
use Rattle.works_core.specs.Tracks.{number_cmp, placed_in}
use Rattle.works_core.specs.Verdicts.{verdict_of, verdicts_from, works_in}
use Rattle.works_core.specs.Versions.{Placed, judged_of, last_version, placed_behind}
use Rattle.works_core.specs.declared.judged.Judged.{Judged}
use Rattle.works_core.specs.declared.judged.Judged.TheVariants.{Clean, Faulty}
use Rattle.works_core.specs.declared.line_end.LineEnd.{LineEnd}
use Rattle.works_core.specs.declared.verdict.Verdict.{Verdict}
use Rattle.works_core.specs.declared.version.WorkVersion.{WorkVersion}
use Rattle.works_core.specs.declared.works.TransactionPlace.{TransactionPlace}

-- the last version that is kept of a work
abbrev pub last_in : LineEnd → List ℕ → Option WorkVersion
last_in end work = tree.get number_cmp end.last work

-- the number of works, and the last versions of the works that are known, are those at the end of some transactions; no other version is told
pub record EndsAt (known : List ℕ → Bool) (past : List Placed) (end : LineEnd) : Type 0 where
  pub works : end.works ≡ works_in (judged_of past)
  pub last : (work : List ℕ) → IsTrue (known work) → last_in end work ≡ last_version work past
  pub right : (work : List ℕ) (version : WorkVersion) → last_in end work ≡ Some version → last_version work past ≡ Some version

-- the work of a transaction is known, where it is clean
abbrev pub KnowsWork : (List ℕ → Bool) → Judged → Type 0
KnowsWork known (Clean kind number) = IsTrue (known number)
KnowsWork known (Faulty fault) = ⊤

-- the works of all clean transactions are known
abbrev pub KnowsWorks : (List ℕ → Bool) → List Judged → Type 0
KnowsWorks known transactions = AllByRecursion (KnowsWork known) transactions

-- how many works there are behind one more accepted transaction
abbrev pub works_after : Judged → ℕ → ℕ
works_after (Clean Nwr number) works = works + 1
works_after (Clean Rev number) works = works
works_after (Faulty fault) works = works

-- the last version of each work behind one more accepted transaction, which is this version
abbrev pub last_after : Judged → WorkVersion → (List ℕ → Option WorkVersion) → List ℕ → Option WorkVersion
last_after (Clean kind number) version last work = if bytes_eq number work then Some version else last work
last_after (Faulty fault) version last work = last work

-- what is known of a transaction's work
abbrev pub known_version : LineEnd → Judged → Option WorkVersion
known_version end (Clean kind number) = last_in end number
known_version end (Faulty fault) = None

-- the last version of a work is learned at an end: the work is then known too, and the end is the same
abbrev pub Learns : LineEnd → List ℕ → Option WorkVersion → LineEnd → Type 0
Learns end work last new = (known : List ℕ → Bool) (past : List Placed) → EndsAt known past end → last ≡ last_version work past
    → EndsAt (λ other. known other || bytes_eq work other) past new

-- a verdict is that of the next transaction at an end, where its work is known there
abbrev pub TellsNext : LineEnd → Judged → Verdict → Type 0
TellsNext end judged verdict = (known : List ℕ → Bool) (past : List Placed) → EndsAt known past end → KnowsWork known judged
    → verdict ≡ verdict_of (judged_of past) judged

-- an end goes on by one transaction, which stands at a place: where its work is known there, the new end is the one behind it
abbrev pub EndsBehindOne : LineEnd → TransactionPlace → Judged → LineEnd → Type 0
EndsBehindOne end place judged new = (known : List ℕ → Bool) (past : List Placed) → EndsAt known past end → KnowsWork known judged
    → EndsAt known (placed_in place judged ∷ past) new

-- verdicts are those of the next transactions at an end, where their works are known there
abbrev pub TellsAll : LineEnd → List Judged → List Verdict → Type 0
TellsAll end transactions verdicts = (known : List ℕ → Bool) (past : List Placed) → EndsAt known past end → KnowsWorks known transactions
    → verdicts ≡ verdicts_from (judged_of past) transactions

-- an end goes on by the transactions of a transmission: where their works are known there, the new end is the one behind them
abbrev pub EndsBehind : LineEnd → ℕ → List Judged → LineEnd → Type 0
EndsBehind end transmission transactions new = (known : List ℕ → Bool) (past : List Placed) → EndsAt known past end → KnowsWorks known transactions
    → EndsAt known (placed_behind past transmission 0 transactions) new
