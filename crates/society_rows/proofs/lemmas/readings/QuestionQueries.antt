-- What the query of each question finds.
use Rattle.std.proofs.Common.{List, [], ◌∷◌, ◌++◌, refl}
use Rattle.sqlite_value.specs.declared.keys.Collation.TheVariants.{Binary}
use Rattle.sqlite_sql.specs.declared.ops.BinaryOp.TheVariants.{Compare}
use Rattle.sqlite_sql.specs.declared.ops.CompareOp.TheVariants.{Gt, Lt}
use Rattle.sqlite_sql.specs.Term.{Term, col, op2}
use Rattle.society_rows.specs.Finding.{is_same}
use Rattle.sqlite_tied.specs.Compute.{everything}
use Rattle.sqlite.specs.Listing.{understood}
use Rattle.society_rows.specs.declared.questions.Question.{Question}
use Rattle.society_rows.specs.declared.questions.Question.TheVariants as question
use Rattle.society_rows.specs.Layout.{written_out, office, transmissions, returns, pools, pool_cuts, pool_returns, fronts, verdicts, versions, recordings, credits_table, balances, segment_ends, mechanical_pools}
use Rattle.society_rows.specs.Questions.{RowsAnswer}
use Rattle.society_rows.specs.QuestionTexts.{question_text, question_params}
use Rattle.society_rows.proofs.lemmas.definitions.Booleans.{and_true}
use Rattle.society_rows.proofs.lemmas.readings.Queries.{IsReading}
use Rattle.society_rows.proofs.lemmas.readings.TableQueries.{owned}
use Rattle.society_rows.proofs.lemmas.readings.Selections.{keyed_by, lists, lists_keys, lists_first}

-- under the first parameter as sender, and above the second as number
abbrev above : List Term
above = op2 is_same (col 1 1) (col 0 0) ∷ op2 (Compare Gt Binary) (col 1 2) (col 0 1) ∷ []

-- and below the third
abbrev between : List Term
between = above ++ op2 (Compare Lt Binary) (col 1 2) (col 0 2) ∷ []

pub asked : (q : Question) → IsReading 14 (question_params q) (question_text q) (RowsAnswer q)
unfolding understood everything written_out
asked question.Office = lists office [] 1 (λ r. refl) (λ a b. refl) (λ _ _ _ _. refl)
asked (question.Front sender) = lists fronts (keyed_by fronts 1) 1 (λ r. refl) (λ a b. refl) (λ _ _ _ _. refl)
asked (question.Transmission sender number) = lists transmissions (keyed_by transmissions 2) 2 (λ r. refl) (λ a b. refl) (λ _ _ _ _. refl)
asked (question.NumbersAbove sender number) = lists_keys transmissions above 2 (λ r. simp and_true) (λ a b. refl) (λ env. refl) (λ _ _ _ _. refl)
asked (question.NumbersBetween sender low high) = lists_keys transmissions between 2 (λ r. simp and_true) (λ a b. refl) (λ env. refl) (λ _ _ _ _. refl)
asked (question.Ends sender) = lists segment_ends (keyed_by segment_ends 1) 2 (λ r. refl) (λ a b. refl) (λ _ _ _ _. refl)
asked (question.Return reporter number) = lists returns (keyed_by returns 2) 2 (λ r. refl) (λ a b. refl) (λ _ _ _ _. refl)
asked (question.HasReturn reporter number) = lists_keys returns (keyed_by returns 2) 2 (λ r. refl) (λ a b. refl) (λ env. refl) (λ _ _ _ _. refl)
asked question.TransmissionKeys = lists_keys transmissions [] 2 (λ r. refl) (λ a b. refl) (λ env. refl) (λ _ _ _ _. refl)
asked question.ReturnKeys = lists_keys returns [] 2 (λ r. refl) (λ a b. refl) (λ env. refl) (λ _ _ _ _. refl)
asked (question.Pool pool) = lists pools (keyed_by pools 1) 1 (λ r. refl) (λ a b. refl) (λ _ _ _ _. refl)
asked (question.Mechanical pool) = lists mechanical_pools (keyed_by mechanical_pools 1) 1 (λ r. refl) (λ a b. refl) (λ _ _ _ _. refl)
asked (question.Cuts pool) = lists pool_cuts (keyed_by pool_cuts 1) 2 (λ r. refl) (λ a b. refl) (λ _ _ _ _. refl)
asked (question.Payer reporter number) = lists pool_returns (keyed_by pool_returns 2) 2 (λ r. refl) (λ a b. refl) (λ _ _ _ _. refl)
asked (question.PaidBy pool) = lists pool_returns (op2 is_same (col 1 3) (col 0 0) ∷ []) 2 (λ r. simp and_true) (λ a b. refl) (λ _ _ _ _. refl)
asked (question.Verdicts sender number) = lists verdicts (keyed_by verdicts 2) 3 (λ r. refl) (λ a b. refl) (λ _ _ _ _. refl)
asked (question.Versions sender work) = lists versions (keyed_by versions 2) 3 (λ r. refl) (λ a b. refl) (λ _ _ _ _. refl)
asked (question.LastVersion sender work) = lists_first versions (keyed_by versions 2) 3 (λ r. refl) (λ a b. refl) (λ _ _ _ _. refl)
asked (question.SenderVerdicts sender) = lists verdicts (keyed_by verdicts 1) 3 (λ r. refl) (λ a b. refl) (λ _ _ _ _. refl)
asked (question.SenderVersions sender) = lists versions (keyed_by versions 1) 3 (λ r. refl) (λ a b. refl) (λ _ _ _ _. refl)
asked (question.SenderRecordings sender) = lists recordings (keyed_by recordings 1) 4 (λ r. refl) (λ a b. refl) (λ _ _ _ _. refl)
asked (question.Credits pool) = lists credits_table (keyed_by credits_table 1) 2 (λ r. refl) (λ a b. refl) (λ _ _ _ _. refl)
asked (question.Balance account) = lists balances (keyed_by balances 1) 1 (λ r. refl) (λ a b. refl) (λ _ _ _ _. refl)
asked (question.FirstColumns table) = owned table
