-- A listing breaks off.
use Rattle.std.proofs.Common.{◌≡◌, ℕ, Bool, List, [], ◌++◌, Option, append_assoc, length, refl, subst, true}
use Rattle.std.specs.Io.KnownBytes.{Appends, Consumes}
use Rattle.csv.specs.Writing.{default_writer, row_text}
use Rattle.http_desk.proofs.lemmas.Known.{Consumes-join, Consumes-none}
use Rattle.http_desk.specs.Counted.{Known, bytes_known, failures_of, inner_of}
use Rattle.http_desk.specs.Input.{all_of, unread}
use Rattle.http_desk.specs.declared.counted.Counted.{Counted}
use Rattle.http_desk.specs.declared.fault.DeskFault.{DeskFault}
use Rattle.http_desk.specs.declared.fault.FaultKind.{FaultKind}
use Rattle.http_desk.specs.declared.fault.FaultKind.TheVariants.{Memory, Read, Turns, Write}
use Rattle.http_desk.specs.declared.input.Input.{Input}
use Rattle.share_rules.specs.declared.office.Office.{Office}
use Rattle.society_core.specs.State.{Rises}
use Rattle.sqlite_trees.specs.Tree.{Trees}
use Rattle.credit_listing.specs.Answered.{BreaksListing, HasWayFailed, IsWriteFault, TellsLines}
use Rattle.credit_listing.specs.Lines.{AreTaken, ComesBehind, IsReadFault}
use Rattle.credit_listing.specs.Rows.{listing_columns}

-- ---- what a fault's kind says

pub no_memory_read : (kind : FaultKind) → kind ≡ Memory → kind ≡ Read → ⊥
no_memory_read kind memory read = cc

pub no_turns_read : (kind : FaultKind) → kind ≡ Turns → kind ≡ Read → ⊥
no_turns_read kind turns read = cc

pub no_write_read : (kind : FaultKind) → kind ≡ Write → kind ≡ Read → ⊥
no_write_read kind write read = cc

-- no line could be read
pub failed_reading : (kind : FaultKind) (r new_r w new_w : ℕ) → IsReadFault kind r new_r → HasWayFailed kind r new_r w new_w
failed_reading Read r new_r w new_w rises = rises
failed_reading Write r new_r w new_w none = absurd none
failed_reading Turns r new_r w new_w any = tt
failed_reading Memory r new_r w new_w any = tt

-- rows could not be written
pub failed_writing : {W : Type 0} (kind : FaultKind) (out new_out : Counted W) (r new_r w : ℕ) → failures_of out ≡ w → IsWriteFault kind out new_out → HasWayFailed kind r new_r w (failures_of new_out)
failed_writing Write out new_out r new_r w same rises = subst (λ (n : ℕ). Rises n (failures_of new_out)) same rises
failed_writing Read out new_out r new_r w same none = absurd none
failed_writing Turns out new_out r new_r w same none = absurd none
failed_writing Memory out new_out r new_r w same kept = tt

pub no_write_fault_read : {W : Type 0} (kind : FaultKind) (out new_out : Counted W) → IsWriteFault kind out new_out → kind ≡ Read → ⊥
no_write_fault_read kind out new_out fault read = subst (λ (k : FaultKind). IsWriteFault k out new_out) read fault

-- ---- where it broke off

module _ {R W E : Type 0} (office : Office) (remaining : Known R) (contents : W → Option (List ℕ)) (says : E → Option (List ℕ)) (db : Trees) where
  -- before any line
  pub broke_early : (reader : Counted R) (out new_out : Counted W) (err : Counted E) (fault : DeskFault) → fault.requests ≡ 0 → (fault.kind ≡ Read → ⊥)
      → HasWayFailed fault.kind (failures_of reader) (failures_of reader) (failures_of out) (failures_of new_out)
      → BreaksListing office remaining contents says reader reader out new_out err err db fault
  broke_early reader out new_out err fault none never cause = record {
    lines = [];
    count = none;
    read = record { each = tt; rest = []; all = Consumes-none (bytes_known remaining reader) };
    begun = out;
    last = out;
    all = true;
    told = (refl, refl, refl);
    written = λ read. absurd (never read);
    cause = cause;
  }

  -- behind lines that were told
  pub broke_at : (reader mid new_reader : Counted R) (out begun last new_out : Counted W) (err new_err : Counted E) (input between : Input) (lines : List (List ℕ)) (all : Bool) (fault : DeskFault)
      → fault.requests ≡ length lines → AreTaken remaining reader mid input lines → ComesBehind remaining mid new_reader input between
      → TellsLines office db contents says 1 lines all begun last err new_err
      → (fault.kind ≡ Read → Appends (contents (inner_of out)) (contents (inner_of begun)) (row_text default_writer listing_columns) × (new_out ≡ last))
      → HasWayFailed fault.kind (failures_of reader) (failures_of new_reader) (failures_of out) (failures_of new_out)
      → BreaksListing office remaining contents says reader new_reader out new_out err new_err db fault
  broke_at reader mid new_reader out begun last new_out err new_err input between lines all fault count taken comes told written cause = record {
    lines = lines;
    count = count;
    read =
        record {
          each = taken.each;
          rest = unread input ++ comes.0;
          all =
              subst (Consumes (bytes_known remaining reader) (bytes_known remaining new_reader)) (append_assoc (all_of lines) (unread input) comes.0)
              (Consumes-join (bytes_known remaining reader) (bytes_known remaining mid) (bytes_known remaining new_reader) (all_of lines ++ unread input) comes.0 taken.all comes.2);
        };
    begun = begun;
    last = last;
    all = all;
    told = told;
    written = written;
    cause = cause;
  }
