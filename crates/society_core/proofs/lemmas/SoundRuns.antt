-- A run keeps a book sound, and what is held pays nothing.
use Rattle.std.proofs.Common.{◌≡◌, ◌&&◌, ◌++◌, ℕ, List, [], ◌∷◌, Option, Some, None, is_none, map, refl, ap, sym, subst, ◌∙◌, ⊎_elim}
use Rattle.std.specs.FinMap as finite
use Rattle.std.specs.List.{AllByRecursion, flat_map}
use Rattle.pool_split.specs.declared.claim.Credit.{Credit}
use Rattle.share_rules.specs.declared.office.Office.{Office}
use Rattle.work_ids.specs.declared.account.Account.{Account}
use Rattle.society_core.specs.Answers.{answer}
use Rattle.cwr_files.specs.FileFault.{file_fault}
use Rattle.perf_returns.specs.Returns.{return_fault}
use Rattle.work_ids.specs.Numbers.{is_return_number}
use Rattle.work_ids.specs.Segments.{is_transmission_number, segment_of, sequence_of}
use Rattle.work_ids.specs.SenderKey.{is_sender_key}
use Rattle.society_core.specs.Book.{Book, IsSound, end_at, is_reporter, order_at}
use Rattle.society_core.specs.Entries.{End, Entry, Transmission, Return, Pool}
use Rattle.society_core.specs.Headline.{BringsEntry}
use Rattle.society_core.specs.Headline.{AlikeToTheGaps, AllAskRightly, AsksRightly, HasRightKey}
use Rattle.society_core.specs.Orders.{Order}
use Rattle.society_core.specs.Pools.{credits_of, units_to}
use Rattle.society_core.specs.Requests.{Inquires, Credited, Owed, Query, Reply, Showed}
use Rattle.society_core.specs.declared.inquiry.Inquiry.TheVariants as inquiries
use Rattle.society_core.specs.Runs.{Run, Step}
use Rattle.society_core.proofs.lemmas.Books.{sound_with, sound_with_end, sound_with_pool, sound_with_return}
use Rattle.society_core.proofs.lemmas.Changes.{Adds, IsFree, IsUnrefused, Stays, step_changes, with_entry}
use Rattle.society_core.proofs.lemmas.Closes.{entry_of_close, no_payer}
use Rattle.society_core.proofs.lemmas.ClosedPools.{PaysAlike, credits_same, credits_shown}
use Rattle.society_core.proofs.lemmas.Fronts.{both_hold}
use Rattle.society_core.proofs.lemmas.Gaps.{alike_to}
use Rattle.society_core.proofs.lemmas.HeadlineLemmas.{is_not_ended, past_is_none}
use Rattle.society_core.proofs.lemmas.PoolLemmas.{IsPool, each_pool}

sound_entry : (b : Book) (q : Query) (r : Reply) (e : Entry) → IsSound b → HasRightKey e → IsFree b e → IsUnrefused b e → BringsEntry q r e → IsSound (with_entry b e)
sound_entry b q r (Transmission s n x) sound key free unrefused brings =
    sound_with b s n x sound free
    (both_hold (is_sender_key s && is_transmission_number n) (is_none (file_fault s x)) (both_hold (is_sender_key s) (is_transmission_number n) key.0 key.1) (ap is_none brings.1))
    (λ e stated. is_not_ended (sequence_of n) (end_at b s (segment_of n)) unrefused e stated)
sound_entry b q r (End s g x) sound key free unrefused brings =
    sound_with_end b s g x sound free key (λ n there same. past_is_none b s g x.last n unrefused.1 there same)
sound_entry b q r (Return key x) sound right free unrefused brings =
    sound_with_return b key x sound free
    (both_hold (is_reporter key.reporter && is_return_number key.number) (is_none (return_fault x)) (both_hold (is_reporter key.reporter) (is_return_number key.number) right.0 right.1) (ap is_none brings.1))
sound_entry b q r (Pool p o) sound key free unrefused brings =
    sound_with_pool b p o sound (entry_of_close b p o key.0 unrefused) key.1 (no_payer b o unrefused)

sound_step : (o : Office) (b : Book) (q : Query) (r : Reply) (c : Book) → Step o b q r c → AsksRightly q → IsSound b → IsSound c
sound_step o b q r c step rightly sound =
    ⊎_elim
    (λ (stays : Stays b q r c). subst IsSound (sym stays.same) sound)
    (λ (adds : Adds b q r c).
    subst IsSound (sym adds.next) (sound_entry b q r adds.entry sound (rightly adds.entry adds.accepts.0) adds.free adds.unrefused adds.brings))
    (step_changes o b q r c step)

-- a run of requests that ask rightly keeps a book sound
pub run_is_sound : (o : Office) (before : Book) (qs : List Query) (rs : List Reply) (after : Book) → Run o before qs rs after → AllAskRightly qs → IsSound before → IsSound after
run_is_sound o before [] [] after run rightly sound = subst IsSound (sym run) sound
run_is_sound o before [] (r ∷ rs) after run rightly sound = absurd run
run_is_sound o before (q ∷ qs) [] after run rightly sound = absurd run
run_is_sound o before (q ∷ qs) (r ∷ rs) after run rightly sound =
    run_is_sound o run.0 qs rs after run.2 rightly.1 (sound_step o before q r run.0 run.1 rightly.0 sound)

-- books that are alike to the gaps pay alike
gaps_pay : (a b : Book) → AlikeToTheGaps a b → PaysAlike a b
gaps_pay a b alike = record {
  sent = λ s n is. alike_to a b s n (alike.sent s);
  returned = λ key there. ap (λ m. finite.get m key) alike.returns;
}

-- so their pools have the same credits
pub held_credits : (o : Office) (a b : Book) (pool : ℕ) → IsSound a → AlikeToTheGaps a b → answer o a (Inquires (inquiries.Credits pool)) ≡ answer o b (Inquires (inquiries.Credits pool))
held_credits o a b pool sound alike =
    by_case (order_at a pool) refl ∙ ap (credits_shown o b) (ap (λ m. finite.get m pool) alike.pools)
  where
    by_case : (x : Option Order) → order_at a pool ≡ x → credits_shown o a x ≡ credits_shown o b x
    by_case None is = refl
    by_case (Some order) is = ap (λ (cs : List Credit). Showed (Credited cs)) (credits_same o a b pool order (gaps_pay a b alike) (sound.pools pool order is))

same_credits : (o : Office) (a b : Book) → IsSound a → AlikeToTheGaps a b → (es : List (ℕ × Order)) → AllByRecursion (IsPool a) es → flat_map (credits_of o a) (map (λ e. e.1) es) ≡ flat_map (credits_of o b) (map (λ e. e.1) es)
same_credits o a b sound alike [] there = refl
same_credits o a b sound alike (e ∷ es) there =
    ap (λ (cs : List Credit). cs ++ flat_map (credits_of o a) (map (λ e. e.1) es)) (credits_same o a b e.0 e.1 (gaps_pay a b alike) (sound.pools e.0 e.1 there.0))
    ∙ ap (λ (cs : List Credit). credits_of o b e.1 ++ cs) (same_credits o a b sound alike es there.1)

-- and all accounts the same balances
pub held_balances : (o : Office) (a b : Book) (account : Account) → IsSound a → AlikeToTheGaps a b → answer o a (Inquires (inquiries.Balance account)) ≡ answer o b (Inquires (inquiries.Balance account))
held_balances o a b account sound alike =
    ap (λ (cs : List Credit). Showed (Owed account (units_to account cs)))
    (same_credits o a b sound alike (finite.entries a.pools) (each_pool a) ∙ ap (λ m. flat_map (credits_of o b) (finite.values m)) alike.pools)
