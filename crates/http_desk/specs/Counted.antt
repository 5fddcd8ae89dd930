-- Representation, not meaning: a reader or a writer whose failures, and reads that gave bytes, are counted.
use Rattle.std.specs.Prelude.{◌≡◌, ℕ, ◌+◌, ◌-◌, ◌^◌, ◌≤◌, Bool, true, false, zero, suc, min, List, ◌++◌, length, Option, Result, MatchResult}
use Rattle.std.specs.Io.KnownBytes.{Appends, Consumes}
use Rattle.http_desk.specs.declared.counted.Counted.{Counted}

-- what is wrapped
abbrev pub inner_of : {T : Type 0} → Counted T → T
inner_of counted = counted.inner

-- what is known of the bytes of a reader or a writer: those that it has left, or holds
abbrev pub Known : Type 0 → Type 0
Known T = T → Option (List ℕ)

-- what is known of the bytes of one that is counted
abbrev pub bytes_known : {T : Type 0} → Known T → Counted T → Option (List ℕ)
bytes_known known counted = known (inner_of counted)

-- how often it failed
abbrev pub failures_of : {T : Type 0} → Counted T → ℕ
failures_of counted = counted.failures

-- how often before and after
abbrev pub failures_between : {T : Type 0} → Counted T → Counted T → ℕ × ℕ
failures_between counted new_counted = (failures_of counted, failures_of new_counted)

-- how many of its reads gave bytes
abbrev pub reads_of : {T : Type 0} → Counted T → ℕ
reads_of counted = counted.reads

-- how many of its reads gave no byte
abbrev pub empty_reads_of : {T : Type 0} → Counted T → ℕ
empty_reads_of counted = counted.ends

-- a count after so many more, which stops at the greatest number of 64 bits
abbrev pub counted_on : ℕ → ℕ → ℕ
counted_on count more = min (count + more) (2 ^ 64 - 1)

-- the count of reads after one that gave so many bytes: one that gave none isn't counted
abbrev pub reads_after : ℕ → ℕ → ℕ
reads_after zero reads = reads
reads_after (suc bytes) reads = counted_on reads 1

-- the count of reads that gave no byte, after one that gave so many
abbrev pub ends_after : ℕ → ℕ → ℕ
ends_after zero ends = counted_on ends 1
ends_after (suc bytes) ends = ends

-- one more was counted at most, and none where a read was told to have given bytes
abbrev pub MeetsEnd : Bool → ℕ → ℕ → Type 0
MeetsEnd true ends new_ends = new_ends ≤ ends + 1
MeetsEnd false ends new_ends = new_ends ≡ ends

-- a front of these bytes was appended
abbrev pub AppendsFront : Option (List ℕ) → Option (List ℕ) → List ℕ → Type 0
AppendsFront old new bytes = (front : List ℕ) × (back : List ℕ) × (bytes ≡ front ++ back) × Appends old new front

-- all bytes were appended, or after a failure a front of them
abbrev pub WritesBytes : {T E : Type 0} → Result T E → Option (List ℕ) → Option (List ℕ) → List ℕ → Type 0
WritesBytes result old new bytes = MatchResult result (λ _. Appends old new bytes) (λ _. AppendsFront old new bytes)

-- at most so many bytes were read
abbrev pub TakesAtMost : Option (List ℕ) → Option (List ℕ) → ℕ → Type 0
TakesAtMost old new count = (taken : List ℕ) × Consumes old new taken × (length taken ≤ count)

-- at least so many bytes were read
abbrev pub TakesAtLeast : Option (List ℕ) → Option (List ℕ) → ℕ → Type 0
TakesAtLeast old new count = (taken : List ℕ) × Consumes old new taken × (count ≤ length taken)
