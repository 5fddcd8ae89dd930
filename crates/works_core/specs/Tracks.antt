-- Representation, not meaning: what is kept of the transactions that came so far.
use Rattle.std.specs.Prelude.{ℕ, ◌+◌, ◌≡◌, ◌<◌, ◌≤◌, ⊤, true, List, [], ◌∷◌, ◌++◌, Option, Some, None, get_or, if◌then◌else◌, is_some, length, vec_len}
use Rattle.std.specs.BTreeMap as tree
use Rattle.std.specs.Cmp.Lexicographic.{slice_cmp}
use Rattle.std.specs.Ordering.{nat_cmp}
use Rattle.std.specs.declared.cmp.Ordering.{Ordering}
use Rattle.std.specs.Vec.{vec_capacity}
use Rattle.works_core.specs.Verdicts.{is_accepted, works_in}
use Rattle.works_core.specs.Versions.{Placed, judged_of, is_version, placed_at, version_of}
use Rattle.works_core.specs.declared.judged.Judged.{Judged}
use Rattle.works_core.specs.declared.judged.Judged.TheVariants.{Clean, Faulty}
use Rattle.works_core.specs.declared.version.LinkedVersion.{LinkedVersion}
use Rattle.works_core.specs.declared.works.TransactionPlace.{TransactionPlace}
use Rattle.works_core.specs.declared.works.Works.{Works}

-- the order in which work numbers are kept
abbrev pub number_cmp : List ℕ → List ℕ → Ordering
number_cmp v w = slice_cmp nat_cmp v w

-- a place in the entry of a work, where there is an entry and it has a place
abbrev pub place_kept : Option (Option ℕ) → Option ℕ
place_kept None = None
place_kept (Some place) = place

-- the place of the last version that is kept of a work
abbrev pub kept_index : Works → List ℕ → Option ℕ
kept_index works work = place_kept (tree.get number_cmp works.last work)

-- the work of a transaction has an entry, where it is clean
abbrev pub HasEntry : Works → Judged → Type 0
HasEntry works (Clean kind number) = is_some (tree.get number_cmp works.last number) ≡ true
HasEntry works (Faulty fault) = ⊤

-- a transaction that stands at a place
abbrev pub placed_in : TransactionPlace → Judged → Placed
placed_in place judged = placed_at place.transmission place.place judged

-- the work number of a clean transaction
abbrev pub number_in : Judged → List ℕ
number_in (Clean kind number) = number
number_in (Faulty fault) = []

-- how many transactions are accepted
abbrev pub accepted_in : List Placed → ℕ
accepted_in [] = 0
accepted_in (t ∷ past) = if is_accepted (judged_of past) t.judged then accepted_in past + 1 else accepted_in past

-- the place of a work's last version among all accepted ones, counted from 0
abbrev pub last_index : List ℕ → List Placed → Option ℕ
last_index work [] = None
last_index work (t ∷ past) = if is_version work past t then Some (accepted_in past) else last_index work past

-- an accepted transaction as a version, with the place of the one before it of its work
abbrev pub linked_version : List Placed → Placed → LinkedVersion
linked_version past t = record { version = version_of (number_in t.judged) past t; before = last_index (number_in t.judged) past }

-- the accepted transactions as versions, in the order of the line
abbrev pub linked_versions : List Placed → List LinkedVersion
linked_versions [] = []
linked_versions (t ∷ past) =
    if is_accepted (judged_of past) t.judged then linked_versions past ++ linked_version past t ∷ [] else linked_versions past

-- the works that are kept are those of the transactions so far
pub record Tracks (works : Works) (past : List Placed) : Type 0 where
  pub last : (work : List ℕ) → kept_index works work ≡ last_index work past
  pub versions : works.versions.items ≡ linked_versions past
  pub count : works.count ≡ works_in (judged_of past)

-- the works that are kept are those of some transactions
pub record IsTracked (works : Works) : Type 0 where
  pub past : List Placed
  pub tracks : Tracks works past

-- no entry is gone
abbrev pub KeepsEntries : Works → Works → Type 0
KeepsEntries old new = (judged : Judged) → HasEntry old judged → HasEntry new judged

-- so many versions more can be taken in without memory
abbrev pub HasLinks : ℕ → Works → Type 0
HasLinks count works = vec_len works.versions + count ≤ vec_capacity works.versions

-- the works of these transactions have entries
abbrev pub HasEntries : Works → List Judged → Type 0
HasEntries works transactions = (k : ℕ) (judged : Judged) → k < length transactions → judged ≡ get_or transactions k judged → HasEntry works judged

-- these transactions can be taken in without memory
pub record HasRoomFor (transactions : List Judged) (works : Works) : Type 0 where
  pub entries : HasEntries works transactions
  pub links : HasLinks (length transactions) works

-- the same works are kept, perhaps with more entries
pub record KeepsWorks (old new : Works) : Type 0 where
  pub entries : KeepsEntries old new
  pub last : (work : List ℕ) → kept_index new work ≡ kept_index old work
  pub versions : new.versions ≡ old.versions
  pub count : new.count ≡ old.count
