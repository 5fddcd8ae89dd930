-- The verdict of each transaction of a sender, by looking back over those before it, the nearest first.
use Rattle.std.specs.Prelude.{ℕ, ◌+◌, Bool, false, not, ◌&&◌, List, [], ◌∷◌, if◌then◌else◌}
use Rattle.std.specs.List.{list_any}
use Rattle.std.specs.Str.{bytes_eq}
use Rattle.cwr_records.specs.declared.work.TransactionKind.TheVariants.{Nwr, Rev}
use Rattle.works_core.specs.declared.judged.Judged.{Judged}
use Rattle.works_core.specs.declared.judged.Judged.TheVariants.{Clean, Faulty}
use Rattle.works_core.specs.declared.verdict.Verdict.{Verdict}
use Rattle.works_core.specs.declared.verdict.Verdict.TheVariants.{Accepted, Rejected}

-- whether a transaction is a clean NWR with this work number
abbrev pub registers : List ℕ → Judged → Bool
registers work (Clean Nwr number) = bytes_eq number work
registers work (Clean Rev number) = false
registers work (Faulty fault) = false

-- whether a transaction is clean and has this work number
abbrev pub concerns : List ℕ → Judged → Bool
concerns work (Clean kind number) = bytes_eq number work
concerns work (Faulty fault) = false

-- whether a clean NWR with this work number stands before (profile)
abbrev pub is_registered : List ℕ → List Judged → Bool
is_registered work past = list_any (registers work) past

-- a clean NWR is accepted exactly where no clean NWR with its work number stands before it, a clean REV exactly where one does (profile)
abbrev pub is_accepted : List Judged → Judged → Bool
is_accepted past (Clean Nwr number) = not (is_registered number past)
is_accepted past (Clean Rev number) = is_registered number past
is_accepted past (Faulty fault) = false

-- whether a transaction is an accepted NWR
abbrev pub begins_work : List Judged → Judged → Bool
begins_work past (Clean Nwr number) = not (is_registered number past)
begins_work past (Clean Rev number) = false
begins_work past (Faulty fault) = false

-- how many accepted NWR there are
abbrev pub works_in : List Judged → ℕ
works_in [] = 0
works_in (transaction ∷ past) = if begins_work past transaction then works_in past + 1 else works_in past

-- how many accepted transactions of a work there are
abbrev pub versions_of : List ℕ → List Judged → ℕ
versions_of work [] = 0
versions_of work (transaction ∷ past) =
    if is_accepted past transaction && concerns work transaction then versions_of work past + 1 else versions_of work past

-- the number of accepted NWR up to a work's own (profile)
abbrev pub ordinal_of : List ℕ → List Judged → ℕ
ordinal_of work [] = 0
ordinal_of work (transaction ∷ past) = if is_registered work past then ordinal_of work past else works_in (transaction ∷ past)

-- 20: a registration of a work that is registered (profile)
abbrev pub registered_before : ℕ
registered_before = 20

-- 21: a revision of a work that is not registered (profile)
abbrev pub unregistered : ℕ
unregistered = 21

-- the verdict of a transaction behind those before it: its fault; 20 for a work that is registered, 21 for one that is not; else the work's ordinal and the next revision (profile)
abbrev pub verdict_of : List Judged → Judged → Verdict
verdict_of past (Faulty fault) = Rejected fault
verdict_of past (Clean Nwr number) = if is_registered number past then Rejected registered_before else Accepted (works_in past + 1) 0
verdict_of past (Clean Rev number) = if is_registered number past then Accepted (ordinal_of number past) (versions_of number past) else Rejected unregistered

-- the verdicts of transactions in order, behind those before them
abbrev pub verdicts_from : List Judged → List Judged → List Verdict
verdicts_from past [] = []
verdicts_from past (transaction ∷ more) = verdict_of past transaction ∷ verdicts_from (transaction ∷ past) more

-- what stands before a transaction once some more transactions have come
abbrev pub behind : List Judged → List Judged → List Judged
behind past [] = past
behind past (transaction ∷ more) = behind (transaction ∷ past) more
