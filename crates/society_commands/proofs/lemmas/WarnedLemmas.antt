-- What is told of a database is told behind whether others may write its file.
use Rattle.std.proofs.Common.{◌≡◌, Bor, List, Option, Result, Ok, Err, inl, inr, subst, sym, ℕ}
use Rattle.std.proofs.lemmas.Bool.{false≢true}
use Rattle.std.specs.Prelude.{IfOk, IsErr}
use Rattle.clap.specs.declared.error.kind.ErrorKind.{ErrorKind}
use Rattle.clap.specs.declared.error.kind.ErrorKind.TheVariants.{OutOfMemory}
use Rattle.http_desk.specs.declared.counted.Counted.{Counted}
use Rattle.share_rules.specs.declared.office.Office.{Office}
use Rattle.sqlite_disk.specs.declared.Disk.{Ghosts}
use Rattle.society_arguments.specs.Words.{Asked, AsksAudit, AsksCredit, AsksHelp, AsksReplay, AsksServe, HasBadName, HasBadWords, IsReadAs, IsRefusedAs}
use Rattle.society_arguments.specs.declared.words.Database.{Database}
use Rattle.society_arguments.specs.declared.words.Listening.{Listening}
use Rattle.society_arguments.specs.declared.words.Words.TheVariants as words
use Rattle.society_commands.specs.Troubles.{TellsDone, TellsQuietly}
use Rattle.society_commands.specs.declared.left.Left.{Left}
use Rattle.society_commands.specs.declared.machine.OpenDatabase.{Ghosts as Opens}
use Rattle.society_commands.specs.declared.starting.NoWords.{NoWords}

-- what is told of the database that words name, where all that they ask for is done
module _ {D O E : Type 0} {g : Ghosts D} (opens : Opens O D) (contents : E → Option (List ℕ)) (err new_err : Counted E) (rest : Left D O g) where
  at_path : (read path : List ℕ) → read ≡ path → TellsDone opens contents err new_err read rest → TellsDone opens contents err new_err path rest
  at_path read path same told = subst (λ (p : List ℕ). TellsDone opens contents err new_err p rest) same told

  pub serving_told : (asked : Asked) (database : Database) (place : Listening) (office : Office) → IsReadAs asked (words.Serve database place office)
      → TellsDone opens contents err new_err database.path.now rest → TellsQuietly opens contents err new_err rest asked
  serving_told (AsksServe path existing at society territory name) database place office is told = at_path database.path.now path is.0.0 told
  serving_told (AsksReplay society territory name) database place office is told = absurd is
  serving_told (AsksAudit path society territory name) database place office is told = absurd is
  serving_told (AsksCredit path society territory name) database place office is told = absurd is
  serving_told AsksHelp database place office is told = absurd is
  serving_told HasBadName database place office is told = absurd is
  serving_told HasBadWords database place office is told = absurd is

  pub audit_told : (asked : Asked) (path : Bor (List ℕ)) (office : Office) → IsReadAs asked (words.Audit path office)
      → TellsDone opens contents err new_err path.now rest → TellsQuietly opens contents err new_err rest asked
  audit_told (AsksAudit asked society territory name) path office is told = at_path path.now asked is.0 told
  audit_told (AsksCredit asked society territory name) path office is told = absurd is
  audit_told (AsksServe asked existing at society territory name) path office is told = absurd is
  audit_told (AsksReplay society territory name) path office is told = absurd is
  audit_told AsksHelp path office is told = absurd is
  audit_told HasBadName path office is told = absurd is
  audit_told HasBadWords path office is told = absurd is

  pub credit_told : (asked : Asked) (path : Bor (List ℕ)) (office : Office) → IsReadAs asked (words.Credit path office)
      → TellsDone opens contents err new_err path.now rest → TellsQuietly opens contents err new_err rest asked
  credit_told (AsksCredit asked society territory name) path office is told = at_path path.now asked is.0 told
  credit_told (AsksAudit asked society territory name) path office is told = absurd is
  credit_told (AsksServe asked existing at society territory name) path office is told = absurd is
  credit_told (AsksReplay society territory name) path office is told = absurd is
  credit_told AsksHelp path office is told = absurd is
  credit_told HasBadName path office is told = absurd is
  credit_told HasBadWords path office is told = absurd is

  pub replay_told : (asked : Asked) (office : Office) → IsReadAs asked (words.Replay office) → new_err ≡ err → TellsQuietly opens contents err new_err rest asked
  replay_told (AsksReplay society territory name) office is same = same
  replay_told (AsksAudit path society territory name) office is same = absurd is
  replay_told (AsksCredit path society territory name) office is same = absurd is
  replay_told (AsksServe path existing at society territory name) office is same = absurd is
  replay_told AsksHelp office is same = absurd is
  replay_told HasBadName office is same = absurd is
  replay_told HasBadWords office is same = absurd is

  pub refused_told : (asked : Asked) (kind : ErrorKind) (result : Result ℕ NoWords) → IsRefusedAs asked kind → (kind ≡ OutOfMemory → IsErr result)
      → IfOk result (λ status. status ≡ 0 → new_err ≡ err) → IfOk result (λ status. status ≡ 0 → TellsQuietly opens contents err new_err rest asked)
  refused_told asked kind (Err why) refused memory quiet = tt
  refused_told asked kind (Ok status) (inl none) memory quiet = absurd (false≢true (memory none))
  refused_told asked kind (Ok status) (inr (inl (helps, is))) memory quiet = λ zero. subst (λ (a : Asked). TellsQuietly opens contents err new_err rest a) (sym is) (quiet zero)
  refused_told asked kind (Ok status) (inr (inr (no_help, is))) memory quiet = λ zero. subst (λ (a : Asked). TellsQuietly opens contents err new_err rest a) (sym is) (quiet zero)
