-- The credits of a closed pool are the same in every book that keeps what was there.
use Rattle.std.proofs.Common.{◌≡◌, ◌&&◌, ◌++◌, ℕ, Bool, true, cond, List, [], ◌∷◌, Option, Some, Result, Ok, Err, is_some, map, option_map, unwrap_or, refl, ap, sym, ◌∙◌}
use Rattle.std.specs.List.{enumerate_from, filter, flat_map, list_all}
use Rattle.cwr_files.specs.Contents.{transactions_of}
use Rattle.cwr_files.specs.Transaction.{number_of_work}
use Rattle.cwr_files.specs.declared.transmission.Transaction.{Transaction}
use Rattle.perf_returns.specs.Returns.{performances_in}
use Rattle.perf_returns.specs.declared.performance.Performance.{Performance}
use Rattle.pool_split.specs.Credits.{credits}
use Rattle.pool_split.specs.declared.claim.Claim.{Claim}
use Rattle.pool_split.specs.declared.claim.Credit.{Credit}
use Rattle.share_rules.specs.declared.office.Office.{Office}
use Rattle.work_ids.specs.Numbers.{is_pool_number}
use Rattle.work_ids.specs.declared.fault.IdFault.{IdFault}
use Rattle.works_core.specs.Line.{NumberedTransmission, line_of}
use Rattle.works_core.specs.Versions.{work_at}
use Rattle.society_core.specs.Answers.{answer, shown_answer}
use Rattle.society_core.specs.Book.{Book, IsSound, body_at, is_applied, is_in_line, is_pool_entry, order_at, numbers_to, return_at, sent_under, transmissions_to}
use Rattle.society_core.specs.Entries as entries
use Rattle.society_core.specs.Entries.{Entry, IsIn}
use Rattle.society_core.specs.Orders.{Order}
use Rattle.society_core.specs.Owners.{CutWork, cut_work, is_at, is_version_at, names_recording, sole, versions_at_cut, versions_of_transmission, works_of_cut}
use Rattle.society_core.specs.Points.{points_by_recording, rows_named}
use Rattle.society_core.specs.Pools.{credits_of, holders_of}
use Rattle.society_core.specs.Requests.{Inquires, Credited, Query, Reply, Showed}
use Rattle.society_core.specs.declared.inquiry.Inquiry.TheVariants as inquiries
use Rattle.society_core.specs.Runs.{Run}
use Rattle.society_core.specs.declared.return_key.ReturnKey.{ReturnKey}
use Rattle.society_core.specs.declared.transmission_key.TransmissionKey.{TransmissionKey}
use Rattle.society_core.proofs.lemmas.Books.{AreFitting, grown_numbers, line_grows, order_fits, some_body, sound_order}
use Rattle.society_core.proofs.lemmas.Fronts.{first_holds, second_holds}
use Rattle.society_core.proofs.lemmas.Gaps.{alike_over}
use Rattle.society_core.proofs.lemmas.HeadlineLemmas.{run_fits, run_keeps}
use Rattle.society_core.proofs.lemmas.LineNumbers.{in_line_of_to, in_line_within, there_in_line}

filter_alike : {X : Type 0} (p q : X → Bool) (xs : List X) → ((x : X) → p x ≡ q x) → filter p xs ≡ filter q xs
filter_alike p q [] h = refl
filter_alike p q (x ∷ xs) h =
    ap (λ (t : Bool). cond t (x ∷ filter p xs) (filter p xs)) (h x) ∙ ap (λ ys. cond (q x) (x ∷ ys) ys) (filter_alike p q xs h)

flat_map_alike : {X Y : Type 0} (f g : X → List Y) (xs : List X) → ((x : X) → f x ≡ g x) → flat_map f xs ≡ flat_map g xs
flat_map_alike f g [] h = refl
flat_map_alike f g (x ∷ xs) h = ap (λ ys. ys ++ flat_map f xs) (h x) ∙ ap (λ ys. g x ++ ys) (flat_map_alike f g xs h)

-- the same where each element passes a test
flat_map_where : {X Y : Type 0} (test : X → Bool) (f g : X → List Y) (xs : List X) → list_all test xs ≡ true → ((x : X) → test x ≡ true → f x ≡ g x) → flat_map f xs ≡ flat_map g xs
flat_map_where test f g [] all h = refl
flat_map_where test f g (x ∷ xs) all h =
    ap (λ ys. ys ++ flat_map f xs) (h x (first_holds (test x) (list_all test xs) all))
    ∙ ap (λ ys. g x ++ ys) (flat_map_where test f g xs (second_holds (test x) (list_all test xs) all) h)

version_same : (o : Office) (a b : Book) (key : TransmissionKey) (n place : ℕ) (r : Result (List ℕ) IdFault) → transmissions_to a key.sender key.number ≡ transmissions_to b key.sender key.number → is_version_at o a key n place r ≡ is_version_at o b key n place r
version_same o a b key n place (Ok work) same = ap (λ (ts : List NumberedTransmission). is_at n place (work_at (line_of o ts) work key.number)) same
version_same o a b key n place (Err fault) same = refl

-- a cut shows the same works where the transmissions up to it are the same
versions_same : (o : Office) (a b : Book) (key : TransmissionKey) → transmissions_to a key.sender key.number ≡ transmissions_to b key.sender key.number → versions_at_cut o a key ≡ versions_at_cut o b key
versions_same o a b key same =
    ap (flat_map (λ (sent : NumberedTransmission). versions_of_transmission o a key sent.0 (transactions_of sent.1))) same
    ∙ flat_map_alike (λ (sent : NumberedTransmission). versions_of_transmission o a key sent.0 (transactions_of sent.1)) (λ (sent : NumberedTransmission). versions_of_transmission o b key sent.0 (transactions_of sent.1)) (transmissions_to b key.sender key.number)
    (λ sent. ap (map (λ (placed : ℕ × Transaction). cut_work key.sender placed.1))
    (filter_alike (λ (placed : ℕ × Transaction). is_version_at o a key sent.0 placed.0 (number_of_work placed.1)) (λ (placed : ℕ × Transaction). is_version_at o b key sent.0 placed.0 (number_of_work placed.1)) (enumerate_from 0 (transactions_of sent.1))
    (λ placed. version_same o a b key sent.0 placed.0 (number_of_work placed.1) same)))

-- two books show the same to the cuts and the returns of the first: its senders' transmissions up to each number of their lines, and its returns
pub record PaysAlike (a b : Book) : Type 0 where
  pub sent : (s : List ℕ) (n : ℕ) → is_in_line a s n ≡ true → transmissions_to a s n ≡ transmissions_to b s n
  pub returned : (key : ReturnKey) → is_some (return_at a key) ≡ true → return_at a key ≡ return_at b key

-- what a book has stays in another
pub record Keeps (a b : Book) : Type 0 where
  pub kept : (e : Entry) → IsIn a e → IsIn b e

-- a book that keeps what another has pays alike
pub kept_pays : (a b : Book) → IsSound a → ((s : List ℕ) → AreFitting b s) → Keeps a b → PaysAlike a b
kept_pays a b sound fits keeps = record {
  sent = λ s n is.
      let order = sound_order a sound s in
      let grows = line_grows a b s order.right (fits s)
      (λ k there. let found = some_body (body_at a s k) there in ap is_some (keeps.kept (entries.Transmission s k found.0) found.1))
      (λ g e stated. keeps.kept (entries.End s g e) stated) in
      alike_over a b s (numbers_to a s n) (λ k one.
      let found = some_body (body_at a s k) (there_in_line a s k (in_line_of_to a s n k one)) in
      found.1 ∙ sym (keeps.kept (entries.Transmission s k found.0) found.1))
      ∙ ap (map (sent_under b s)) (sym (grown_numbers a b s grows n (in_line_within a s order.right n is)));
  returned = λ key is. let found = some_body (return_at a key) is in found.1 ∙ sym (keeps.kept (entries.Return key found.0) found.1);
}

-- the cut shows the same works
works_same : (o : Office) (a b : Book) (order : Order) → PaysAlike a b → list_all (is_applied a) order.cut ≡ true → works_of_cut o a order ≡ works_of_cut o b order
works_same o a b order alike applied =
    flat_map_where (is_applied a) (versions_at_cut o a) (versions_at_cut o b) order.cut applied (λ key is. versions_same o a b key (alike.sent key.sender key.number is))

-- the returns have the same rows
rows_same : (a b : Book) (order : Order) → PaysAlike a b → list_all (λ key. is_some (return_at a key)) order.returns ≡ true → rows_named a order ≡ rows_named b order
rows_same a b order alike there =
    flat_map_where (λ (key : ReturnKey). is_some (return_at a key)) (λ (key : ReturnKey). performances_in (unwrap_or (return_at a key) [])) (λ (key : ReturnKey). performances_in (unwrap_or (return_at b key) [])) order.returns there
    (λ key is. ap (λ (o : Option (List ℕ)). performances_in (unwrap_or o [])) (alike.returned key is))

-- so the credits are the same
pub credits_same : (o : Office) (a b : Book) (pool : ℕ) (order : Order) → PaysAlike a b → is_pool_entry a pool order ≡ true → credits_of o a order ≡ credits_of o b order
unfolding credits_of
credits_same o a b pool order alike entry =
    let cut = list_all (is_applied a) order.cut in
    let returns = list_all (λ (key : ReturnKey). is_some (return_at a key)) order.returns in
    let both = first_holds (is_pool_number pool && cut) returns entry in
    let works = works_same o a b order alike (second_holds (is_pool_number pool) cut both) in
    let rows = rows_same a b order alike (second_holds (is_pool_number pool && cut) returns entry) in
    ap (credits order.amount)
    (ap (λ (ws : List CutWork). map (claim_by ws) (points_by_recording (rows_named a order))) works
    ∙ ap (λ (rs : List Performance). map (claim_by (works_of_cut o b order)) (points_by_recording rs)) rows)
  where
    claim_by : List CutWork → List ℕ × ℕ → Claim
    claim_by ws played = record { isrc = played.0; points = played.1; holders = option_map (holders_of order.kind o) (sole (filter (names_recording played.0) ws)) }

-- what is answered of the credits of a pool, by its order
abbrev pub credits_shown : Office → Book → Option Order → Reply
credits_shown o b order = shown_answer (option_map (λ (x : Order). Credited (credits_of o b x)) order)

-- in every book that a run leads to
pub closed_pool_stays : (o : Office) (before : Book) (qs : List Query) (rs : List Reply) (after : Book) → Run o before qs rs after → IsSound before → (pool : ℕ) (order : Order) → order_at before pool ≡ Some order → answer o after (Inquires (inquiries.Credits pool)) ≡ answer o before (Inquires (inquiries.Credits pool))
closed_pool_stays o before qs rs after run sound pool order closed =
    let keeps : Keeps before after = record { kept = λ e there. run_keeps o before qs rs after run e there } in
    let still : order_at after pool ≡ Some order = keeps.kept (entries.Pool pool order) closed in
    ap (credits_shown o after) still
    ∙ ap (λ (cs : List Credit). Showed (Credited cs)) (sym (credits_same o before after pool order (kept_pays before after sound (run_fits o before qs rs after run (λ s. order_fits before s (sound_order before sound s))) keeps) (sound.pools pool order closed)))
    ∙ sym (ap (credits_shown o before) closed)
