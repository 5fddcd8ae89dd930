-- The query of each question, and the values of its parameters (representation).
use Rattle.std.specs.Prelude.{ℕ, pos, List, [], ◌∷◌, codes}
use Rattle.sqlite_value.specs.declared.value.Value.TheVariants.{Int, Text}
use Rattle.sqlite_value.specs.Order.{Row}
use Rattle.society_rows.specs.declared.questions.Question.{Question}
use Rattle.society_rows.specs.declared.questions.Question.TheVariants as question
use Rattle.society_rows.specs.declared.tables.TableName.TheVariants as name
use Rattle.society_rows.specs.FirstColumns.{first_column_text}
use Rattle.society_rows.specs.TableNames.{listing_text}

-- the query of a question
abbrev pub question_text : Question → List ℕ
question_text question.Office = listing_text name.Office
question_text (question.Front sender) = codes "SELECT sender, front, works FROM fronts WHERE sender = ?1 ORDER BY sender"
question_text (question.Transmission sender number) = codes "SELECT sender, number, body FROM transmissions WHERE sender = ?1 AND number = ?2 ORDER BY sender, number"
question_text (question.NumbersAbove sender number) = codes "SELECT sender, number FROM transmissions WHERE sender = ?1 AND number > ?2 ORDER BY sender, number"
question_text (question.NumbersBetween sender above below) = codes "SELECT sender, number FROM transmissions WHERE sender = ?1 AND number > ?2 AND number < ?3 ORDER BY sender, number"
question_text (question.Ends sender) = codes "SELECT sender, segment, last, next FROM segment_ends WHERE sender = ?1 ORDER BY sender, segment"
question_text (question.Return reporter number) = codes "SELECT reporter, number, body FROM returns WHERE reporter = ?1 AND number = ?2 ORDER BY reporter, number"
question_text (question.HasReturn reporter number) = codes "SELECT reporter, number FROM returns WHERE reporter = ?1 AND number = ?2 ORDER BY reporter, number"
question_text question.TransmissionKeys = codes "SELECT sender, number FROM transmissions ORDER BY sender, number"
question_text question.ReturnKeys = codes "SELECT reporter, number FROM returns ORDER BY reporter, number"
question_text (question.Pool pool) = codes "SELECT pool, amount FROM pools WHERE pool = ?1 ORDER BY pool"
question_text (question.Mechanical pool) = codes "SELECT pool FROM mechanical_pools WHERE pool = ?1 ORDER BY pool"
question_text (question.Cuts pool) = codes "SELECT pool, sender, number FROM pool_cuts WHERE pool = ?1 ORDER BY pool, sender"
question_text (question.Payer reporter number) = codes "SELECT reporter, number, pool FROM pool_returns WHERE reporter = ?1 AND number = ?2 ORDER BY reporter, number"
question_text (question.PaidBy pool) = codes "SELECT reporter, number, pool FROM pool_returns WHERE pool = ?1 ORDER BY reporter, number"
question_text (question.Verdicts sender number) = codes "SELECT sender, number, place, fault, ordinal, revision FROM verdicts WHERE sender = ?1 AND number = ?2 ORDER BY sender, number, place"
question_text (question.Versions sender work) = codes "SELECT sender, work, revision, number, place, ordinal FROM versions WHERE sender = ?1 AND work = ?2 ORDER BY sender, work, revision"
question_text (question.LastVersion sender work) =
    codes "SELECT sender, work, revision, number, place, ordinal FROM versions WHERE sender = ?1 AND work = ?2 ORDER BY sender DESC, work DESC, revision DESC LIMIT 1"
question_text (question.SenderVerdicts sender) = codes "SELECT sender, number, place, fault, ordinal, revision FROM verdicts WHERE sender = ?1 ORDER BY sender, number, place"
question_text (question.SenderVersions sender) = codes "SELECT sender, work, revision, number, place, ordinal FROM versions WHERE sender = ?1 ORDER BY sender, work, revision"
question_text (question.SenderRecordings sender) = codes "SELECT sender, work, revision, isrc FROM recordings WHERE sender = ?1 ORDER BY sender, work, revision, isrc"
question_text (question.Credits pool) = codes "SELECT pool, line, isrc, account, units FROM credits WHERE pool = ?1 ORDER BY pool, line"
question_text (question.Balance account) = codes "SELECT account, units FROM balances WHERE account = ?1 ORDER BY account"
question_text (question.FirstColumns table) = first_column_text table

-- the values of its parameters
abbrev pub question_params : Question → Row
question_params question.Office = []
question_params (question.Front sender) = Text sender.now ∷ []
question_params (question.Transmission sender number) = Text sender.now ∷ Int (pos number) ∷ []
question_params (question.NumbersAbove sender number) = Text sender.now ∷ Int (pos number) ∷ []
question_params (question.NumbersBetween sender above below) = Text sender.now ∷ Int (pos above) ∷ Int (pos below) ∷ []
question_params (question.Ends sender) = Text sender.now ∷ []
question_params (question.Return reporter number) = Text reporter.now ∷ Int (pos number) ∷ []
question_params (question.HasReturn reporter number) = Text reporter.now ∷ Int (pos number) ∷ []
question_params question.TransmissionKeys = []
question_params question.ReturnKeys = []
question_params (question.Pool pool) = Int (pos pool) ∷ []
question_params (question.Mechanical pool) = Int (pos pool) ∷ []
question_params (question.Cuts pool) = Int (pos pool) ∷ []
question_params (question.Payer reporter number) = Text reporter.now ∷ Int (pos number) ∷ []
question_params (question.PaidBy pool) = Int (pos pool) ∷ []
question_params (question.Verdicts sender number) = Text sender.now ∷ Int (pos number) ∷ []
question_params (question.Versions sender work) = Text sender.now ∷ Text work.now ∷ []
question_params (question.LastVersion sender work) = Text sender.now ∷ Text work.now ∷ []
question_params (question.SenderVerdicts sender) = Text sender.now ∷ []
question_params (question.SenderVersions sender) = Text sender.now ∷ []
question_params (question.SenderRecordings sender) = Text sender.now ∷ []
question_params (question.Credits pool) = Int (pos pool) ∷ []
question_params (question.Balance account) = Text account.now ∷ []
question_params (question.FirstColumns table) = []
