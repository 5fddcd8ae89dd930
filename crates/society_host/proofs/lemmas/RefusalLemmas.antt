-- Files in which no database was opened are refused for what the kit says of them.
use Rattle.std.proofs.Common.{◌≡◌, ◌⊎◌, Bool, None, Option, Some, inl, inr, subst}
use Rattle.std.specs.Prelude.{IfSome, is_some}
use Rattle.sqlite.specs.Files.{FailsToOpenFiles, IsCleanLeft, LeavesFiles, faults_left, faults_of, image_of}
use Rattle.sqlite.specs.declared.error.Error.{Error}
use Rattle.sqlite.specs.declared.file.Leftover.{Leftover}
use Rattle.sqlite_disk.specs.Disk.{MoreFaults}
use Rattle.sqlite_disk.specs.declared.Disk.{Ghosts}
use Rattle.sqlite_disk.specs.declared.Files.{Files}
use Rattle.society_host.specs.Refusals.{FaultsAs, HoldsNone, LeavesRefusedFiles}
use Rattle.society_opening.specs.declared.open_fault.OpenFault.{OpenFault}
use Rattle.society_opening.specs.declared.open_fault.OpenFault.TheVariants as fault

no_memory : (told : OpenFault) → told ≡ fault.Memory → told ≡ fault.Damaged → ⊥
no_memory told memory damaged = cc

no_store : (told : OpenFault) → told ≡ fault.Store → told ≡ fault.Damaged → ⊥
no_store told store damaged = cc

module _ {D : Type 0} {g : Ghosts D} (IsToldNone : OpenFault → Type 0) where
  -- damage is told for what the files held, or since the disk failed
  damage : (files : Files D) (left : Leftover D g) (e : Error) (told : OpenFault) → FaultsAs IsToldNone e told → FailsToOpenFiles files left e → told ≡ fault.Damaged
      → HoldsNone (image_of g files) ⊎ MoreFaults (faults_of g files) (faults_left left)
  damage files left e told as_told (inl memory) damaged = absurd (no_memory told (subst (λ (x : Error). FaultsAs IsToldNone x told) memory as_told) damaged)
  damage files left e told as_told (inr (inl none)) damaged = inl none.1
  damage files left e told as_told (inr (inr (inl failed))) damaged = inr failed.1
  damage files left e told as_told (inr (inr (inr full))) damaged = absurd (no_store told (subst (λ (x : Error). FaultsAs IsToldNone x told) full.0 as_told) damaged)

  -- what the kit says of an opening that failed is what is said of a refusal
  pub refuses : (Fails : Bool → OpenFault → Type 0) (Log Base : D → Type 0) (e : Error) (told : OpenFault) (left : Option (Leftover D g)) → Fails (is_some left) told → FaultsAs IsToldNone e told
      → IfSome left (λ files. (held : Files D) × Log held.log × Base held.db × (IsCleanLeft files → FailsToOpenFiles held files e × LeavesFiles held files))
      → LeavesRefusedFiles Fails (λ files. Log files.log × Base files.db) told left
  refuses Fails Log Base e told None fails as_told cause = fails
  refuses Fails Log Base e told (Some left) fails as_told some =
      (fails, (some.0, (some.1, some.2), λ clean. (damage some.0 left e told as_told (some.3 clean).0, (some.3 clean).1)))
