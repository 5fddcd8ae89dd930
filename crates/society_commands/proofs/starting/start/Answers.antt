use Rattle.std.proofs.Common.{inr, refl}
use Rattle.society_arguments.proofs.lemmas.WordLemmas.{asks_for, asks_to_audit, asks_to_credit, asks_to_serve, audit_not_wrong, audit_read, credit_not_wrong, credit_read, name_is_wrong, read_no_help, refused_audit, refused_credit, refused_replay, refused_serving, replay_not_wrong, replay_read, serve_not_wrong, serving_read, words_are_wrong}
use Rattle.society_arguments.specs.Words.{serving_of}
use Rattle.society_commands.proofs.lemmas.UnusedLemmas.{audits, credit_reads, credits, replay_reads, serves, serves_somewhere, unheard, unread, unused}
use Rattle.society_commands.proofs.lemmas.WarnedLemmas.{audit_told, credit_told, refused_told, replay_told, serving_told}
use Rattle.society_commands.specs.declared.left.Left.TheVariants as left
use Rattle.society_commands.proofs.starting.start.Goals as goal

pub returns-in-Ok-Replay-clause-wrong : goal.returns-in-Ok-Replay-clause-wrong
returns-in-Ok-Replay-clause-wrong g c = λ wrong. absurd (replay_not_wrong _ c.in-Ok-Replay.office (rw c.in-Ok-Replay.field-0-is at c.in-Ok-Replay.ensures.ok) wrong)

pub returns-in-Ok-Replay-clause-help : goal.returns-in-Ok-Replay-clause-help
returns-in-Ok-Replay-clause-help g c = λ help. absurd (read_no_help _ _ c.in-Ok-Replay.ensures.ok help)

pub returns-in-Ok-Replay-clause-replayed : goal.returns-in-Ok-Replay-clause-replayed
returns-in-Ok-Replay-clause-replayed g c = λ wants zero. (c.in-Ok-Replay.office, asks_for _ c.in-Ok-Replay.office (rw c.in-Ok-Replay.field-0-is at c.in-Ok-Replay.ensures.ok), c.replay-status.ensures.served zero)

pub returns-in-Ok-Replay-clause-broken_off : goal.returns-in-Ok-Replay-clause-broken_off
returns-in-Ok-Replay-clause-broken_off g c = λ wants one. (c.in-Ok-Replay.office, asks_for _ c.in-Ok-Replay.office (rw c.in-Ok-Replay.field-0-is at c.in-Ok-Replay.ensures.ok), c.replay-status.ensures.broken_off one)

pub returns-in-Ok-Replay-clause-served : goal.returns-in-Ok-Replay-clause-served
returns-in-Ok-Replay-clause-served g c = λ wants. absurd (serving_read _ _ (rw c.in-Ok-Replay.field-0-is at c.in-Ok-Replay.ensures.ok) wants)

pub returns-in-Ok-Replay-clause-stopped : goal.returns-in-Ok-Replay-clause-stopped
returns-in-Ok-Replay-clause-stopped g c = λ wants. absurd (serving_read _ _ (rw c.in-Ok-Replay.field-0-is at c.in-Ok-Replay.ensures.ok) wants)

pub returns-in-Ok-Replay-clause-sound : goal.returns-in-Ok-Replay-clause-sound
returns-in-Ok-Replay-clause-sound g c = λ wants. absurd (audit_read _ _ (rw c.in-Ok-Replay.field-0-is at c.in-Ok-Replay.ensures.ok) wants)

pub returns-in-Ok-Replay-clause-credited : goal.returns-in-Ok-Replay-clause-credited
returns-in-Ok-Replay-clause-credited g c = λ wants. absurd (credit_read _ _ (rw c.in-Ok-Replay.field-0-is at c.in-Ok-Replay.ensures.ok) wants)

pub returns-in-Ok-Replay-clause-unsound : goal.returns-in-Ok-Replay-clause-unsound
returns-in-Ok-Replay-clause-unsound g c = λ wants. absurd (audit_read _ _ (rw c.in-Ok-Replay.field-0-is at c.in-Ok-Replay.ensures.ok) wants)

pub returns-in-Ok-Replay-clause-uncredited : goal.returns-in-Ok-Replay-clause-uncredited
returns-in-Ok-Replay-clause-uncredited g c = λ wants. absurd (credit_read _ _ (rw c.in-Ok-Replay.field-0-is at c.in-Ok-Replay.ensures.ok) wants)

pub returns-in-Ok-Serve-clause-wrong : goal.returns-in-Ok-Serve-clause-wrong
returns-in-Ok-Serve-clause-wrong g c = λ wrong. absurd (serve_not_wrong _ c.in-Ok-Serve.database c.in-Ok-Serve.place c.in-Ok-Serve.office (rw c.in-Ok-Serve.field-0-is at c.in-Ok-Serve.ensures.ok) wrong)

pub returns-in-Ok-Serve-clause-help : goal.returns-in-Ok-Serve-clause-help
returns-in-Ok-Serve-clause-help g c = λ help. absurd (read_no_help _ _ c.in-Ok-Serve.ensures.ok help)

pub returns-in-Ok-Serve-clause-replayed : goal.returns-in-Ok-Serve-clause-replayed
returns-in-Ok-Serve-clause-replayed g c = λ wants. absurd (replay_read _ _ (rw c.in-Ok-Serve.field-0-is at c.in-Ok-Serve.ensures.ok) wants)

pub returns-in-Ok-Serve-clause-broken_off : goal.returns-in-Ok-Serve-clause-broken_off
returns-in-Ok-Serve-clause-broken_off g c = λ wants. absurd (replay_read _ _ (rw c.in-Ok-Serve.field-0-is at c.in-Ok-Serve.ensures.ok) wants)

pub returns-in-Ok-Serve-clause-served : goal.returns-in-Ok-Serve-clause-served
returns-in-Ok-Serve-clause-served g c = λ wants zero.
    (serving_of c.in-Ok-Serve.database c.in-Ok-Serve.place c.in-Ok-Serve.office, asks_to_serve _ c.in-Ok-Serve.database c.in-Ok-Serve.place c.in-Ok-Serve.office (rw c.in-Ok-Serve.field-0-is at c.in-Ok-Serve.ensures.ok), c.serve_file-status.ensures.served zero)

pub returns-in-Ok-Serve-clause-stopped : goal.returns-in-Ok-Serve-clause-stopped
returns-in-Ok-Serve-clause-stopped g c = λ wants one.
    (serving_of c.in-Ok-Serve.database c.in-Ok-Serve.place c.in-Ok-Serve.office, asks_to_serve _ c.in-Ok-Serve.database c.in-Ok-Serve.place c.in-Ok-Serve.office (rw c.in-Ok-Serve.field-0-is at c.in-Ok-Serve.ensures.ok), c.serve_file-status.ensures.broken_off one)

pub returns-in-Ok-Serve-clause-sound : goal.returns-in-Ok-Serve-clause-sound
returns-in-Ok-Serve-clause-sound g c = λ wants. absurd (audit_read _ _ (rw c.in-Ok-Serve.field-0-is at c.in-Ok-Serve.ensures.ok) wants)

pub returns-in-Ok-Serve-clause-credited : goal.returns-in-Ok-Serve-clause-credited
returns-in-Ok-Serve-clause-credited g c = λ wants. absurd (credit_read _ _ (rw c.in-Ok-Serve.field-0-is at c.in-Ok-Serve.ensures.ok) wants)

pub returns-in-Ok-Serve-clause-unsound : goal.returns-in-Ok-Serve-clause-unsound
returns-in-Ok-Serve-clause-unsound g c = λ wants. absurd (audit_read _ _ (rw c.in-Ok-Serve.field-0-is at c.in-Ok-Serve.ensures.ok) wants)

pub returns-in-Ok-Serve-clause-uncredited : goal.returns-in-Ok-Serve-clause-uncredited
returns-in-Ok-Serve-clause-uncredited g c = λ wants. absurd (credit_read _ _ (rw c.in-Ok-Serve.field-0-is at c.in-Ok-Serve.ensures.ok) wants)

pub returns-in-Ok-Audit-clause-wrong : goal.returns-in-Ok-Audit-clause-wrong
returns-in-Ok-Audit-clause-wrong g c = λ wrong. absurd (audit_not_wrong _ c.in-Ok-Audit.path c.in-Ok-Audit.office (rw c.in-Ok-Audit.field-0-is at c.in-Ok-Audit.ensures.ok) wrong)

pub returns-in-Ok-Credit-clause-wrong : goal.returns-in-Ok-Credit-clause-wrong
returns-in-Ok-Credit-clause-wrong g c = λ wrong. absurd (credit_not_wrong _ c.in-Ok-Credit.path c.in-Ok-Credit.office (rw c.in-Ok-Credit.field-0-is at c.in-Ok-Credit.ensures.ok) wrong)

pub returns-in-Ok-Audit-clause-help : goal.returns-in-Ok-Audit-clause-help
returns-in-Ok-Audit-clause-help g c = λ help. absurd (read_no_help _ _ c.in-Ok-Audit.ensures.ok help)

pub returns-in-Ok-Credit-clause-help : goal.returns-in-Ok-Credit-clause-help
returns-in-Ok-Credit-clause-help g c = λ help. absurd (read_no_help _ _ c.in-Ok-Credit.ensures.ok help)

pub returns-in-Ok-Audit-clause-replayed : goal.returns-in-Ok-Audit-clause-replayed
returns-in-Ok-Audit-clause-replayed g c = λ wants. absurd (replay_read _ _ (rw c.in-Ok-Audit.field-0-is at c.in-Ok-Audit.ensures.ok) wants)

pub returns-in-Ok-Credit-clause-replayed : goal.returns-in-Ok-Credit-clause-replayed
returns-in-Ok-Credit-clause-replayed g c = λ wants. absurd (replay_read _ _ (rw c.in-Ok-Credit.field-0-is at c.in-Ok-Credit.ensures.ok) wants)

pub returns-in-Ok-Audit-clause-broken_off : goal.returns-in-Ok-Audit-clause-broken_off
returns-in-Ok-Audit-clause-broken_off g c = λ wants. absurd (replay_read _ _ (rw c.in-Ok-Audit.field-0-is at c.in-Ok-Audit.ensures.ok) wants)

pub returns-in-Ok-Credit-clause-broken_off : goal.returns-in-Ok-Credit-clause-broken_off
returns-in-Ok-Credit-clause-broken_off g c = λ wants. absurd (replay_read _ _ (rw c.in-Ok-Credit.field-0-is at c.in-Ok-Credit.ensures.ok) wants)

pub returns-in-Ok-Audit-clause-served : goal.returns-in-Ok-Audit-clause-served
returns-in-Ok-Audit-clause-served g c = λ wants. absurd (serving_read _ _ (rw c.in-Ok-Audit.field-0-is at c.in-Ok-Audit.ensures.ok) wants)

pub returns-in-Ok-Credit-clause-served : goal.returns-in-Ok-Credit-clause-served
returns-in-Ok-Credit-clause-served g c = λ wants. absurd (serving_read _ _ (rw c.in-Ok-Credit.field-0-is at c.in-Ok-Credit.ensures.ok) wants)

pub returns-in-Ok-Audit-clause-stopped : goal.returns-in-Ok-Audit-clause-stopped
returns-in-Ok-Audit-clause-stopped g c = λ wants. absurd (serving_read _ _ (rw c.in-Ok-Audit.field-0-is at c.in-Ok-Audit.ensures.ok) wants)

pub returns-in-Ok-Credit-clause-stopped : goal.returns-in-Ok-Credit-clause-stopped
returns-in-Ok-Credit-clause-stopped g c = λ wants. absurd (serving_read _ _ (rw c.in-Ok-Credit.field-0-is at c.in-Ok-Credit.ensures.ok) wants)

pub returns-in-Ok-Audit-clause-sound : goal.returns-in-Ok-Audit-clause-sound
returns-in-Ok-Audit-clause-sound g c = λ wants zero. (c.in-Ok-Audit.path.now, c.in-Ok-Audit.office, asks_to_audit _ c.in-Ok-Audit.path c.in-Ok-Audit.office (rw c.in-Ok-Audit.field-0-is at c.in-Ok-Audit.ensures.ok), c.audit_file-status.ensures.sound zero)

pub returns-in-Ok-Audit-clause-credited : goal.returns-in-Ok-Audit-clause-credited
returns-in-Ok-Audit-clause-credited g c = λ wants. absurd (credit_read _ _ (rw c.in-Ok-Audit.field-0-is at c.in-Ok-Audit.ensures.ok) wants)

pub returns-in-Ok-Credit-clause-sound : goal.returns-in-Ok-Credit-clause-sound
returns-in-Ok-Credit-clause-sound g c = λ wants. absurd (audit_read _ _ (rw c.in-Ok-Credit.field-0-is at c.in-Ok-Credit.ensures.ok) wants)

pub returns-in-Ok-Credit-clause-credited : goal.returns-in-Ok-Credit-clause-credited
returns-in-Ok-Credit-clause-credited g c = λ wants zero. (c.in-Ok-Credit.path.now, c.in-Ok-Credit.office, asks_to_credit _ c.in-Ok-Credit.path c.in-Ok-Credit.office (rw c.in-Ok-Credit.field-0-is at c.in-Ok-Credit.ensures.ok), c.credit_file-status.ensures.credited zero)

pub returns-in-Ok-Audit-clause-unsound : goal.returns-in-Ok-Audit-clause-unsound
returns-in-Ok-Audit-clause-unsound g c = λ wants one. (c.in-Ok-Audit.path.now, c.in-Ok-Audit.office, asks_to_audit _ c.in-Ok-Audit.path c.in-Ok-Audit.office (rw c.in-Ok-Audit.field-0-is at c.in-Ok-Audit.ensures.ok), c.audit_file-status.ensures.err one)

pub returns-in-Ok-Audit-clause-uncredited : goal.returns-in-Ok-Audit-clause-uncredited
returns-in-Ok-Audit-clause-uncredited g c = λ wants. absurd (credit_read _ _ (rw c.in-Ok-Audit.field-0-is at c.in-Ok-Audit.ensures.ok) wants)

pub returns-in-Ok-Credit-clause-unsound : goal.returns-in-Ok-Credit-clause-unsound
returns-in-Ok-Credit-clause-unsound g c = λ wants. absurd (audit_read _ _ (rw c.in-Ok-Credit.field-0-is at c.in-Ok-Credit.ensures.ok) wants)

pub returns-in-Ok-Credit-clause-uncredited : goal.returns-in-Ok-Credit-clause-uncredited
returns-in-Ok-Credit-clause-uncredited g c = λ wants one. (c.in-Ok-Credit.path.now, c.in-Ok-Credit.office, asks_to_credit _ c.in-Ok-Credit.path c.in-Ok-Credit.office (rw c.in-Ok-Credit.field-0-is at c.in-Ok-Credit.ensures.ok), c.credit_file-status.ensures.stopped one)

pub returns-in-Ok-BadName-clause-help : goal.returns-in-Ok-BadName-clause-help
returns-in-Ok-BadName-clause-help g c = λ help. absurd (read_no_help _ _ c.in-Ok-BadName.ensures.ok help)

pub returns-in-Ok-BadName-clause-status : goal.returns-in-Ok-BadName-clause-status
returns-in-Ok-BadName-clause-status g c = inr (inr (c.refuse.ensures.status, name_is_wrong _ (rw c.in-Ok-BadName.field-0-is at c.in-Ok-BadName.ensures.ok)))

pub returns-in-Ok-BadName-clause-replayed : goal.returns-in-Ok-BadName-clause-replayed
returns-in-Ok-BadName-clause-replayed g c = λ wants. absurd (replay_read _ _ (rw c.in-Ok-BadName.field-0-is at c.in-Ok-BadName.ensures.ok) wants)

pub returns-in-Ok-BadName-clause-broken_off : goal.returns-in-Ok-BadName-clause-broken_off
returns-in-Ok-BadName-clause-broken_off g c = λ wants. absurd (replay_read _ _ (rw c.in-Ok-BadName.field-0-is at c.in-Ok-BadName.ensures.ok) wants)

pub returns-in-Ok-BadName-clause-served : goal.returns-in-Ok-BadName-clause-served
returns-in-Ok-BadName-clause-served g c = λ wants. absurd (serving_read _ _ (rw c.in-Ok-BadName.field-0-is at c.in-Ok-BadName.ensures.ok) wants)

pub returns-in-Ok-BadName-clause-stopped : goal.returns-in-Ok-BadName-clause-stopped
returns-in-Ok-BadName-clause-stopped g c = λ wants. absurd (serving_read _ _ (rw c.in-Ok-BadName.field-0-is at c.in-Ok-BadName.ensures.ok) wants)

pub returns-in-Ok-BadName-clause-sound : goal.returns-in-Ok-BadName-clause-sound
returns-in-Ok-BadName-clause-sound g c = λ wants. absurd (audit_read _ _ (rw c.in-Ok-BadName.field-0-is at c.in-Ok-BadName.ensures.ok) wants)

pub returns-in-Ok-BadName-clause-credited : goal.returns-in-Ok-BadName-clause-credited
returns-in-Ok-BadName-clause-credited g c = λ wants. absurd (credit_read _ _ (rw c.in-Ok-BadName.field-0-is at c.in-Ok-BadName.ensures.ok) wants)

pub returns-in-Ok-BadName-clause-unsound : goal.returns-in-Ok-BadName-clause-unsound
returns-in-Ok-BadName-clause-unsound g c = λ wants. absurd (audit_read _ _ (rw c.in-Ok-BadName.field-0-is at c.in-Ok-BadName.ensures.ok) wants)

pub returns-in-Ok-BadName-clause-uncredited : goal.returns-in-Ok-BadName-clause-uncredited
returns-in-Ok-BadName-clause-uncredited g c = λ wants. absurd (credit_read _ _ (rw c.in-Ok-BadName.field-0-is at c.in-Ok-BadName.ensures.ok) wants)

pub returns-in-Ok-BadWords-clause-help : goal.returns-in-Ok-BadWords-clause-help
returns-in-Ok-BadWords-clause-help g c = λ help. absurd (read_no_help _ _ c.in-Ok-BadWords.ensures.ok help)

pub returns-in-Ok-BadWords-clause-status : goal.returns-in-Ok-BadWords-clause-status
returns-in-Ok-BadWords-clause-status g c = inr (inr (c.refuse-in-Ok-BadWords.ensures.status, words_are_wrong _ (rw c.in-Ok-BadWords.field-0-is at c.in-Ok-BadWords.ensures.ok)))

pub returns-in-Ok-BadWords-clause-replayed : goal.returns-in-Ok-BadWords-clause-replayed
returns-in-Ok-BadWords-clause-replayed g c = λ wants. absurd (replay_read _ _ (rw c.in-Ok-BadWords.field-0-is at c.in-Ok-BadWords.ensures.ok) wants)

pub returns-in-Ok-BadWords-clause-broken_off : goal.returns-in-Ok-BadWords-clause-broken_off
returns-in-Ok-BadWords-clause-broken_off g c = λ wants. absurd (replay_read _ _ (rw c.in-Ok-BadWords.field-0-is at c.in-Ok-BadWords.ensures.ok) wants)

pub returns-in-Ok-BadWords-clause-served : goal.returns-in-Ok-BadWords-clause-served
returns-in-Ok-BadWords-clause-served g c = λ wants. absurd (serving_read _ _ (rw c.in-Ok-BadWords.field-0-is at c.in-Ok-BadWords.ensures.ok) wants)

pub returns-in-Ok-BadWords-clause-stopped : goal.returns-in-Ok-BadWords-clause-stopped
returns-in-Ok-BadWords-clause-stopped g c = λ wants. absurd (serving_read _ _ (rw c.in-Ok-BadWords.field-0-is at c.in-Ok-BadWords.ensures.ok) wants)

pub returns-in-Ok-BadWords-clause-sound : goal.returns-in-Ok-BadWords-clause-sound
returns-in-Ok-BadWords-clause-sound g c = λ wants. absurd (audit_read _ _ (rw c.in-Ok-BadWords.field-0-is at c.in-Ok-BadWords.ensures.ok) wants)

pub returns-in-Ok-BadWords-clause-credited : goal.returns-in-Ok-BadWords-clause-credited
returns-in-Ok-BadWords-clause-credited g c = λ wants. absurd (credit_read _ _ (rw c.in-Ok-BadWords.field-0-is at c.in-Ok-BadWords.ensures.ok) wants)

pub returns-in-Ok-BadWords-clause-unsound : goal.returns-in-Ok-BadWords-clause-unsound
returns-in-Ok-BadWords-clause-unsound g c = λ wants. absurd (audit_read _ _ (rw c.in-Ok-BadWords.field-0-is at c.in-Ok-BadWords.ensures.ok) wants)

pub returns-in-Ok-BadWords-clause-uncredited : goal.returns-in-Ok-BadWords-clause-uncredited
returns-in-Ok-BadWords-clause-uncredited g c = λ wants. absurd (credit_read _ _ (rw c.in-Ok-BadWords.field-0-is at c.in-Ok-BadWords.ensures.ok) wants)

pub returns-in-Err-clause-replayed : goal.returns-in-Err-clause-replayed
returns-in-Err-clause-replayed g c = λ wants. refused_replay _ _ _ c.explain.result c.in-Err.ensures.err c.explain.ensures.memory wants

pub returns-in-Err-clause-broken_off : goal.returns-in-Err-clause-broken_off
returns-in-Err-clause-broken_off g c = λ wants. refused_replay _ _ _ c.explain.result c.in-Err.ensures.err c.explain.ensures.memory wants

pub returns-in-Err-clause-served : goal.returns-in-Err-clause-served
returns-in-Err-clause-served g c = λ wants. refused_serving _ _ _ c.explain.result c.in-Err.ensures.err c.explain.ensures.memory wants

pub returns-in-Err-clause-stopped : goal.returns-in-Err-clause-stopped
returns-in-Err-clause-stopped g c = λ wants. refused_serving _ _ _ c.explain.result c.in-Err.ensures.err c.explain.ensures.memory wants

pub returns-in-Err-clause-sound : goal.returns-in-Err-clause-sound
returns-in-Err-clause-sound g c = λ wants. refused_audit _ _ _ c.explain.result c.in-Err.ensures.err c.explain.ensures.memory wants

pub returns-in-Err-clause-credited : goal.returns-in-Err-clause-credited
returns-in-Err-clause-credited g c = λ wants. refused_credit _ _ _ c.explain.result c.in-Err.ensures.err c.explain.ensures.memory wants

pub returns-in-Err-clause-unsound : goal.returns-in-Err-clause-unsound
returns-in-Err-clause-unsound g c = λ wants. refused_audit _ _ _ c.explain.result c.in-Err.ensures.err c.explain.ensures.memory wants

pub returns-in-Err-clause-uncredited : goal.returns-in-Err-clause-uncredited
returns-in-Err-clause-uncredited g c = λ wants. refused_credit _ _ _ c.explain.result c.in-Err.ensures.err c.explain.ensures.memory wants

pub returns-in-Ok-Replay-clause-kept : goal.returns-in-Ok-Replay-clause-kept
returns-in-Ok-Replay-clause-kept g c = λ wants zero. (c.in-Ok-Replay.office, asks_for _ c.in-Ok-Replay.office (rw c.in-Ok-Replay.field-0-is at c.in-Ok-Replay.ensures.ok), c.replay-status.ensures.kept zero)

pub returns-in-Ok-Serve-clause-unused : goal.returns-in-Ok-Serve-clause-unused
returns-in-Ok-Serve-clause-unused g c = serves _ _ _ c.in-Ok-Serve.database c.in-Ok-Serve.place c.in-Ok-Serve.office (rw c.in-Ok-Serve.field-0-is at c.in-Ok-Serve.ensures.ok)

pub returns-in-Ok-Audit-clause-unused : goal.returns-in-Ok-Audit-clause-unused
returns-in-Ok-Audit-clause-unused g c = audits _ _ _ c.in-Ok-Audit.path c.in-Ok-Audit.office (rw c.in-Ok-Audit.field-0-is at c.in-Ok-Audit.ensures.ok)

pub returns-in-Ok-Credit-clause-unused : goal.returns-in-Ok-Credit-clause-unused
returns-in-Ok-Credit-clause-unused g c = credits _ _ _ c.in-Ok-Credit.path c.in-Ok-Credit.office (rw c.in-Ok-Credit.field-0-is at c.in-Ok-Credit.ensures.ok)

pub returns-in-Ok-BadName-clause-unused : goal.returns-in-Ok-BadName-clause-unused
returns-in-Ok-BadName-clause-unused g c = unused _ _ _ refl

pub returns-in-Err-clause-unused : goal.returns-in-Err-clause-unused
returns-in-Err-clause-unused g c = unused _ _ _ refl

pub returns-in-Ok-Serve-clause-kept : goal.returns-in-Ok-Serve-clause-kept
returns-in-Ok-Serve-clause-kept g c = λ wants. absurd (replay_read _ _ (rw c.in-Ok-Serve.field-0-is at c.in-Ok-Serve.ensures.ok) wants)

pub returns-in-Ok-Serve-clause-turns : goal.returns-in-Ok-Serve-clause-turns
returns-in-Ok-Serve-clause-turns g c = λ wants. absurd (replay_read _ _ (rw c.in-Ok-Serve.field-0-is at c.in-Ok-Serve.ensures.ok) wants)

pub returns-in-Ok-Audit-clause-kept : goal.returns-in-Ok-Audit-clause-kept
returns-in-Ok-Audit-clause-kept g c = λ wants. absurd (replay_read _ _ (rw c.in-Ok-Audit.field-0-is at c.in-Ok-Audit.ensures.ok) wants)

pub returns-in-Ok-Credit-clause-kept : goal.returns-in-Ok-Credit-clause-kept
returns-in-Ok-Credit-clause-kept g c = λ wants. absurd (replay_read _ _ (rw c.in-Ok-Credit.field-0-is at c.in-Ok-Credit.ensures.ok) wants)

pub returns-in-Ok-Audit-clause-turns : goal.returns-in-Ok-Audit-clause-turns
returns-in-Ok-Audit-clause-turns g c = λ wants. absurd (replay_read _ _ (rw c.in-Ok-Audit.field-0-is at c.in-Ok-Audit.ensures.ok) wants)

pub returns-in-Ok-Credit-clause-turns : goal.returns-in-Ok-Credit-clause-turns
returns-in-Ok-Credit-clause-turns g c = λ wants. absurd (replay_read _ _ (rw c.in-Ok-Credit.field-0-is at c.in-Ok-Credit.ensures.ok) wants)

pub returns-in-Ok-BadName-clause-turns : goal.returns-in-Ok-BadName-clause-turns
returns-in-Ok-BadName-clause-turns g c = λ wants. absurd (replay_read _ _ (rw c.in-Ok-BadName.field-0-is at c.in-Ok-BadName.ensures.ok) wants)

pub returns-in-Ok-Serve-clause-quiet : goal.returns-in-Ok-Serve-clause-quiet
returns-in-Ok-Serve-clause-quiet g c = λ zero. serving_told g.O.OpenDatabase g.E.Write.contents c.args.err.now c.serve_file-status.new.err c.serve_file-status.result.1 _ c.in-Ok-Serve.database c.in-Ok-Serve.place c.in-Ok-Serve.office (rw c.in-Ok-Serve.field-0-is at c.in-Ok-Serve.ensures.ok) (c.serve_file-status.ensures.quiet zero)

pub returns-in-Ok-Audit-clause-quiet : goal.returns-in-Ok-Audit-clause-quiet
returns-in-Ok-Audit-clause-quiet g c = λ zero. audit_told g.O.OpenDatabase g.E.Write.contents c.args.err.now c.audit_file-status.new.err c.audit_file-status.result.1 _ c.in-Ok-Audit.path c.in-Ok-Audit.office (rw c.in-Ok-Audit.field-0-is at c.in-Ok-Audit.ensures.ok) (c.audit_file-status.ensures.quiet zero)

pub returns-in-Ok-Credit-clause-quiet : goal.returns-in-Ok-Credit-clause-quiet
returns-in-Ok-Credit-clause-quiet g c = λ zero. credit_told g.O.OpenDatabase g.E.Write.contents c.args.err.now c.credit_file-status.new.err c.credit_file-status.result.1 _ c.in-Ok-Credit.path c.in-Ok-Credit.office (rw c.in-Ok-Credit.field-0-is at c.in-Ok-Credit.ensures.ok) (c.credit_file-status.ensures.quiet zero)

pub returns-in-Ok-Replay-clause-quiet : goal.returns-in-Ok-Replay-clause-quiet
returns-in-Ok-Replay-clause-quiet g c = λ zero. replay_told {g = g.O.File.Disk} g.O.OpenDatabase g.E.Write.contents c.args.err.now c.replay-status.new.err (left.Unused c.args.opener) _ c.in-Ok-Replay.office (rw c.in-Ok-Replay.field-0-is at c.in-Ok-Replay.ensures.ok) (c.replay-status.ensures.quiet zero)

pub returns-in-Err-clause-quiet : goal.returns-in-Err-clause-quiet
returns-in-Err-clause-quiet g c = refused_told {g = g.O.File.Disk} g.O.OpenDatabase g.E.Write.contents c.args.err.now c.explain.new.err (left.Unused c.args.opener) _ _ c.explain.result c.in-Err.ensures.err c.explain.ensures.memory c.explain.ensures.quiet

pub returns-in-Ok-Serve-clause-unheard : goal.returns-in-Ok-Serve-clause-unheard
returns-in-Ok-Serve-clause-unheard g c = serves_somewhere _ _ _ c.in-Ok-Serve.database c.in-Ok-Serve.place c.in-Ok-Serve.office (rw c.in-Ok-Serve.field-0-is at c.in-Ok-Serve.ensures.ok)

pub returns-in-Ok-Replay-clause-unread : goal.returns-in-Ok-Replay-clause-unread
returns-in-Ok-Replay-clause-unread g c = replay_reads _ _ _ c.in-Ok-Replay.office (rw c.in-Ok-Replay.field-0-is at c.in-Ok-Replay.ensures.ok)

pub returns-in-Ok-Credit-clause-unread : goal.returns-in-Ok-Credit-clause-unread
returns-in-Ok-Credit-clause-unread g c = credit_reads _ _ _ c.in-Ok-Credit.path c.in-Ok-Credit.office (rw c.in-Ok-Credit.field-0-is at c.in-Ok-Credit.ensures.ok)

pub returns-in-Ok-Replay-clause-unheard : goal.returns-in-Ok-Replay-clause-unheard
returns-in-Ok-Replay-clause-unheard g c = unheard _ _ _ refl

pub returns-in-Ok-Audit-clause-unheard : goal.returns-in-Ok-Audit-clause-unheard
returns-in-Ok-Audit-clause-unheard g c = unheard _ _ _ refl

pub returns-in-Ok-Credit-clause-unheard : goal.returns-in-Ok-Credit-clause-unheard
returns-in-Ok-Credit-clause-unheard g c = unheard _ _ _ refl

pub returns-in-Ok-BadName-clause-unheard : goal.returns-in-Ok-BadName-clause-unheard
returns-in-Ok-BadName-clause-unheard g c = unheard _ _ _ refl

pub returns-in-Ok-BadWords-clause-unheard : goal.returns-in-Ok-BadWords-clause-unheard
returns-in-Ok-BadWords-clause-unheard g c = unheard _ _ _ refl

pub returns-in-Err-clause-unheard : goal.returns-in-Err-clause-unheard
returns-in-Err-clause-unheard g c = unheard _ _ _ refl

pub returns-in-Ok-Serve-clause-unread : goal.returns-in-Ok-Serve-clause-unread
returns-in-Ok-Serve-clause-unread g c = unread _ _ _ refl

pub returns-in-Ok-Audit-clause-unread : goal.returns-in-Ok-Audit-clause-unread
returns-in-Ok-Audit-clause-unread g c = unread _ _ _ refl

pub returns-in-Ok-BadName-clause-unread : goal.returns-in-Ok-BadName-clause-unread
returns-in-Ok-BadName-clause-unread g c = unread _ _ _ refl

pub returns-in-Ok-BadWords-clause-unread : goal.returns-in-Ok-BadWords-clause-unread
returns-in-Ok-BadWords-clause-unread g c = unread _ _ _ refl

pub returns-in-Err-clause-unread : goal.returns-in-Err-clause-unread
returns-in-Err-clause-unread g c = unread _ _ _ refl
