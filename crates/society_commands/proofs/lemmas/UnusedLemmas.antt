-- Where words ask to serve, to audit or to credit, nothing is said of the opener; else it is unused. What listens, and the reader, likewise.
use Rattle.share_rules.specs.declared.office.Office.{Office}
use Rattle.sqlite_disk.specs.declared.Disk.{Ghosts}
use Rattle.std.proofs.Common.{◌≡◌, Bor, List, ℕ}
use Rattle.http_desk.specs.declared.counted.Counted.{Counted}
use Rattle.society_arguments.specs.Words.{Asked, AsksAudit, AsksCredit, AsksHelp, AsksReplay, AsksServe, HasBadName, HasBadWords, IsReadAs}
use Rattle.society_arguments.specs.declared.words.Database.{Database}
use Rattle.society_arguments.specs.declared.words.Listening.{Listening}
use Rattle.society_arguments.specs.declared.words.Words.TheVariants as words
use Rattle.society_commands.specs.Connections.{IsUnheard, IsUnused, ListensNowhere, ReadsNothing, UsesNothing}
use Rattle.society_commands.specs.declared.listened.Listened.{Listened}
use Rattle.society_commands.specs.declared.left.Left.{Left}

module _ {F O : Type 0} {g : Ghosts F} (opener : O) (rest : Left F O g) where
  pub unused : (asked : Asked) → IsUnused opener rest → UsesNothing asked opener rest
  unused (AsksReplay society territory name) is = is
  unused (AsksServe path existing place society territory name) is = tt
  unused (AsksAudit path society territory name) is = tt
  unused (AsksCredit path society territory name) is = tt
  unused AsksHelp is = is
  unused HasBadName is = is
  unused HasBadWords is = is

  pub serves : (asked : Asked) (database : Database) (place : Listening) (office : Office) → IsReadAs asked (words.Serve database place office) → UsesNothing asked opener rest
  serves (AsksServe path existing at society territory name) database place office is = tt
  serves (AsksReplay society territory name) database place office is = absurd is
  serves (AsksAudit path society territory name) database place office is = absurd is
  serves (AsksCredit path society territory name) database place office is = absurd is
  serves AsksHelp database place office is = absurd is
  serves HasBadName database place office is = absurd is
  serves HasBadWords database place office is = absurd is

  pub audits : (asked : Asked) (path : Bor (List ℕ)) (office : Office) → IsReadAs asked (words.Audit path office) → UsesNothing asked opener rest
  audits (AsksAudit asked society territory name) path office is = tt
  audits (AsksCredit asked society territory name) path office is = absurd is
  audits (AsksServe asked existing at society territory name) path office is = absurd is
  audits (AsksReplay society territory name) path office is = absurd is
  audits AsksHelp path office is = absurd is
  audits HasBadName path office is = absurd is
  audits HasBadWords path office is = absurd is

  pub credits : (asked : Asked) (path : Bor (List ℕ)) (office : Office) → IsReadAs asked (words.Credit path office) → UsesNothing asked opener rest
  credits (AsksCredit asked society territory name) path office is = tt
  credits (AsksAudit asked society territory name) path office is = absurd is
  credits (AsksServe asked existing at society territory name) path office is = absurd is
  credits (AsksReplay society territory name) path office is = absurd is
  credits AsksHelp path office is = absurd is
  credits HasBadName path office is = absurd is
  credits HasBadWords path office is = absurd is

module _ {N D : Type 0} (net : N) (listened : Listened N D) where
  pub unheard : (asked : Asked) → IsUnheard net listened → ListensNowhere asked net listened
  unheard (AsksReplay society territory name) is = is
  unheard (AsksServe path existing place society territory name) is = tt
  unheard (AsksAudit path society territory name) is = is
  unheard (AsksCredit path society territory name) is = is
  unheard AsksHelp is = is
  unheard HasBadName is = is
  unheard HasBadWords is = is

  pub serves_somewhere : (asked : Asked) (database : Database) (place : Listening) (office : Office) → IsReadAs asked (words.Serve database place office) → ListensNowhere asked net listened
  serves_somewhere (AsksServe path existing at society territory name) database place office is = tt
  serves_somewhere (AsksReplay society territory name) database place office is = absurd is
  serves_somewhere (AsksAudit path society territory name) database place office is = absurd is
  serves_somewhere (AsksCredit path society territory name) database place office is = absurd is
  serves_somewhere AsksHelp database place office is = absurd is
  serves_somewhere HasBadName database place office is = absurd is
  serves_somewhere HasBadWords database place office is = absurd is

module _ {R : Type 0} (reader new_reader : Counted R) where
  pub unread : (asked : Asked) → new_reader ≡ reader → ReadsNothing asked reader new_reader
  unread (AsksReplay society territory name) is = tt
  unread (AsksServe path existing place society territory name) is = is
  unread (AsksAudit path society territory name) is = is
  unread (AsksCredit path society territory name) is = tt
  unread AsksHelp is = is
  unread HasBadName is = is
  unread HasBadWords is = is

  pub replay_reads : (asked : Asked) (office : Office) → IsReadAs asked (words.Replay office) → ReadsNothing asked reader new_reader
  replay_reads (AsksReplay society territory name) office is = tt
  replay_reads (AsksCredit path society territory name) office is = tt
  replay_reads (AsksServe path existing place society territory name) office is = absurd is
  replay_reads (AsksAudit path society territory name) office is = absurd is
  replay_reads AsksHelp office is = absurd is
  replay_reads HasBadName office is = absurd is
  replay_reads HasBadWords office is = absurd is

  pub credit_reads : (asked : Asked) (path : Bor (List ℕ)) (office : Office) → IsReadAs asked (words.Credit path office) → ReadsNothing asked reader new_reader
  credit_reads (AsksCredit asked society territory name) path office is = tt
  credit_reads (AsksReplay society territory name) path office is = tt
  credit_reads (AsksServe asked existing place society territory name) path office is = absurd is
  credit_reads (AsksAudit asked society territory name) path office is = absurd is
  credit_reads AsksHelp path office is = absurd is
  credit_reads HasBadName path office is = absurd is
  credit_reads HasBadWords path office is = absurd is
