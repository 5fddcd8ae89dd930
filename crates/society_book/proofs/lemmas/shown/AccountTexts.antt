-- The texts of accounts that a book credits, and the units under a text.
use Rattle.std.proofs.Common.{◌≡◌, ◌∙◌, ◌++◌, ◌-◌, ◌≤◌, ◌&&◌, ℕ, Bool, true, false, cond, List, [], ◌∷◌, length, take, drop, replicate, map, filter, nat_le, Option, Some, None, option_map, Result, Ok, Err, refl, ap, ap₂, sym, arith, bytes_eq, length-append, eqb, eqb-true, ◌||◌, get_or, not}
use Rattle.std.specs.List.{AllByRecursion, enumerate_from, flat_map, list_all, sum_by, zip}
use Rattle.std.proofs.lemmas.Bool.Decides.{nat_tests}
use Rattle.std.proofs.lemmas.List.{drop_at, length-replicate, take_at}
use Rattle.std.proofs.lemmas.Slice.Eq.{bytes_eq-Decides}
use Rattle.cwr_files.specs.Contents.{transactions_of}
use Rattle.cwr_files.specs.Transaction.{number_of_work}
use Rattle.cwr_files.specs.declared.transmission.Transaction.{Transaction}
use Rattle.works_core.specs.Line.{NumberedTransmission}
use Rattle.pool_split.specs.Credits.{claim_credits, claim_credits_by, credits, holder_credit, paid_credits, points_claimed, units_of, weights_in}
use Rattle.pool_split.specs.Split.{split_of}
use Rattle.pool_split.specs.declared.claim.Claim.{Claim}
use Rattle.pool_split.specs.declared.claim.Credit.{Credit}
use Rattle.share_rules.specs.Parties.{interests}
use Rattle.share_rules.specs.Weights.{account_by, holder_of, numbered_account, unclaimed_beside, weights_of}
use Rattle.share_rules.specs.declared.holder.Holder.{Holder}
use Rattle.share_rules.specs.declared.office.Office.{Office}
use Rattle.sqlite_trees.proofs.ListLemmas.{filter_same}
use Rattle.society_core.proofs.lemmas.Books.{some_body}
use Rattle.society_core.proofs.lemmas.CreditLemmas.{order_reaches_cut}
use Rattle.society_core.proofs.lemmas.LineNumbers.{there_in_line}
use Rattle.society_core.proofs.lemmas.Fronts.{first_holds, second_holds}
use Rattle.society_core.proofs.lemmas.PoolLemmas.{IsPool, each_pool}
use Rattle.society_core.specs.Accounts.{same_account}
use Rattle.society_core.specs.Book.{Book, IsSound, body_at, is_applied, is_in_line, order_at, transmissions_to}
use Rattle.society_core.specs.Orders.{Order}
use Rattle.society_core.specs.Owners.{CutWork, cut_work, is_version_at, names_recording, sole, versions_at_cut, versions_of_transmission, works_of_cut}
use Rattle.society_core.specs.Points.{points_by_recording, rows_named}
use Rattle.society_core.specs.Pools.{all_credits, balance, claim_of, claims_of, credits_of, holders_of}
use Rattle.society_core.specs.declared.transmission_key.TransmissionKey.{TransmissionKey}
use Rattle.society_book.specs.DerivedRows.{credits_to}
use Rattle.society_book.specs.Shown.{IsFilled}
use Rattle.society_book.proofs.lemmas.rows_alike.KeyRows.{let_through, same_truth}
use Rattle.std.specs.FinMap as finite
use Rattle.work_ids.proofs.lemmas.Trailing.{filled_again}
use Rattle.work_ids.specs.Account.{account_text}
use Rattle.work_ids.specs.Blanks.{fill, is_blank_byte, trimmed, without_trailing_blanks}
use Rattle.work_ids.specs.Characters.{is_capital_or_digit, is_printable}
use Rattle.work_ids.specs.IpiName.{ipi_field_of}
use Rattle.work_ids.specs.Segments.{is_transmission_number}
use Rattle.work_ids.specs.PartyNumber.{is_party_number, party_number_of}
use Rattle.work_ids.specs.SenderKey.{is_sender_key}
use Rattle.work_ids.specs.declared.account.Account.{Account}
use Rattle.work_ids.specs.declared.account.Account.TheVariants.{Ipi, Party, Unclaimed}
use Rattle.work_ids.specs.declared.fault.IdFault.{IdFault}
use Rattle.work_ids.specs.declared.fault.IdFault.TheVariants.{Length, Character}
use Rattle.cwr_files.specs.FileFault.{file_fault}
use Rattle.std.specs.Prelude.{is_none}
use Rattle.share_rules.specs.declared.kind.Kind.{Kind}
use Rattle.sqlite_keyed.proofs.ListLemmas.{all-append, all-filter, all-flat_map, all-map, all_from_test, all_map, all_of, all_weaker}
use Rattle.std.proofs.lemmas.Bool.{and_from}

-- ---- one text, one account

same_tail : (first : ℕ) (a b : List ℕ) → first ∷ a ≡ first ∷ b → a ≡ b
same_tail first a b e = ap (drop 1) e

parts_same : (s t n m : List ℕ) → length s ≡ 11 → length t ≡ 11 → s ++ n ≡ t ++ m → (s ≡ t) × (n ≡ m)
parts_same s t n m long also e = (
  sym (take_at s n 11 long) ∙ ap (take 11) e ∙ take_at t m 11 also,
  sym (drop_at s n 11 long) ∙ ap (drop 11) e ∙ drop_at t m 11 also,
)

parties_same : (s t n m : List ℕ) → IsFilled (Party s n) → IsFilled (Party t m) → bytes_eq (account_text (Party s n)) (account_text (Party t m)) ≡ same_account (Party t m) (Party s n)
parties_same s t n m filled also =
    same_truth (bytes_eq (account_text (Party s n)) (account_text (Party t m))) (bytes_eq t s && bytes_eq m n)
    (λ e.
    let same = parts_same s t (without_trailing_blanks n) (without_trailing_blanks m) filled.0 also.0 (same_tail 80 (s ++ without_trailing_blanks n) (t ++ without_trailing_blanks m) ((bytes_eq-Decides (account_text (Party s n)) (account_text (Party t m))).0 e)) in
    and_from (bytes_eq t s) (bytes_eq m n)
    ((bytes_eq-Decides t s).1 (sym same.0))
    ((bytes_eq-Decides m n).1 (sym (filled_again 9 m also.1) ∙ ap (fill 9) (sym same.1) ∙ filled_again 9 n filled.1)))
    (λ e.
    let sender : t ≡ s = (bytes_eq-Decides t s).0 (first_holds (bytes_eq t s) (bytes_eq m n) e) in
    let number : m ≡ n = (bytes_eq-Decides m n).0 (second_holds (bytes_eq t s) (bytes_eq m n) e) in
    (bytes_eq-Decides (account_text (Party s n)) (account_text (Party t m))).1 (ap₂ (λ x y. 80 ∷ (x ++ without_trailing_blanks y)) (sym sender) (sym number)))

names_same : (d e : List ℕ) → bytes_eq (account_text (Ipi d)) (account_text (Ipi e)) ≡ same_account (Ipi e) (Ipi d)
names_same d e =
    same_truth (bytes_eq (account_text (Ipi d)) (account_text (Ipi e))) (bytes_eq e d)
    (λ h. (bytes_eq-Decides e d).1 (sym (same_tail 73 d e ((bytes_eq-Decides (73 ∷ d) (73 ∷ e)).0 h))))
    (λ h. (bytes_eq-Decides (73 ∷ d) (73 ∷ e)).1 (ap (λ x. 73 ∷ x) (sym ((bytes_eq-Decides e d).0 h))))

-- accounts have one text where they are one
pub one_text : (a c : Account) → IsFilled a → IsFilled c → bytes_eq (account_text a) (account_text c) ≡ same_account c a
one_text (Ipi d) (Ipi e) p q = names_same d e
one_text (Party s n) (Party t m) p q = parties_same s t n m p q
one_text Unclaimed Unclaimed p q = refl
one_text (Ipi d) (Party t m) p q = refl
one_text (Ipi d) Unclaimed p q = refl
one_text (Party s n) (Ipi e) p q = refl
one_text (Party s n) Unclaimed p q = refl
one_text Unclaimed (Ipi e) p q = refl
one_text Unclaimed (Party t m) p q = refl

-- ---- the accounts that a book credits are filled

abbrev pub CreditsFilled : List Credit → Type 0
CreditsFilled = AllByRecursion (λ (c : Credit). IsFilled c.account)

pub zip_all : {X Y : Type 0} (P : X → Type 0) (xs : List X) (ys : List Y) → AllByRecursion P xs → AllByRecursion (λ (z : X × Y). P z.0) (zip xs ys)
zip_all P [] ys all = tt
zip_all P (x ∷ xs) [] all = tt
zip_all P (x ∷ xs) (y ∷ ys) all = (all.0, zip_all P xs ys all.1)

nine : (number : List ℕ) → nat_le (length number) 9 ≡ true → length (fill 9 number) ≡ 9
nine number h =
    let few : length number ≤ 9 = grind (arith, nat_tests) in
    omega (arith, length-append number (replicate (9 - length number) 32), length-replicate {A = ℕ} (9 - length number) 32)

party_filled : (field n : List ℕ) → party_number_of field ≡ Ok n → length n ≡ 9
party_filled field n e =
    let both = let_through (nat_le (length (trimmed field)) 9) (list_all is_printable (trimmed field)) (fill 9 (trimmed field)) n Character Length e in
    ap length (sym both.1) ∙ nine (trimmed field) both.0

numbered_filled : (s : List ℕ) (r : Result (List ℕ) IdFault) → length s ≡ 11 → ((n : List ℕ) → r ≡ Ok n → length n ≡ 9) → IsFilled (numbered_account s r)
numbered_filled s (Err fault) long wide = tt
numbered_filled s (Ok n) long wide = by_case (list_all is_blank_byte n)
  where
    by_case : (b : Bool) → IsFilled (cond b Unclaimed (Party s n))
    by_case true = tt
    by_case false = (long, wide n refl)

account_filled : (s : List ℕ) (name : Result (Option (List ℕ)) IdFault) (r : Result (List ℕ) IdFault) → length s ≡ 11 → ((n : List ℕ) → r ≡ Ok n → length n ≡ 9) → IsFilled (account_by s name r)
account_filled s (Ok (Some n)) r long wide = tt
account_filled s (Ok None) r long wide = numbered_filled s r long wide
account_filled s (Err fault) r long wide = numbered_filled s r long wide

abbrev HoldersFilled : List Holder → Type 0
HoldersFilled = AllByRecursion (λ (h : Holder). IsFilled h.account)

weights_filled : (right : Kind) (s : List ℕ) (o : Office) (t : Transaction) → length s ≡ 11 → HoldersFilled (weights_of right s o t)
unfolding weights_of
weights_filled right s o t long =
    let holders = map (holder_of right s o) (interests t.records) in
    all-append (λ (h : Holder). IsFilled h.account) holders (unclaimed_beside holders ∷ [])
    (all-map (λ (h : Holder). IsFilled h.account) (holder_of right s o) (λ i. account_filled s (ipi_field_of i.party.ipi_name) (party_number_of i.party.number) long (λ n e. party_filled i.party.number n e)) (interests t.records))
    (tt, tt)

-- a work of the cut has a sender of eleven bytes
abbrev HasSender : CutWork → Type 0
HasSender work = length work.sender ≡ 11

sent_by : (o : Office) (b : Book) (key : TransmissionKey) → length key.sender ≡ 11 → AllByRecursion HasSender (versions_at_cut o b key)
sent_by o b key long =
    all-flat_map HasSender (λ (sent : NumberedTransmission). versions_of_transmission o b key sent.0 (transactions_of sent.1)) (transmissions_to b key.sender key.number)
    (all_of _ (λ (sent : NumberedTransmission). all-map HasSender (λ (placed : ℕ × Transaction). cut_work key.sender placed.1) (λ _. long) (filter (λ (placed : ℕ × Transaction). is_version_at o b key sent.0 placed.0 (number_of_work placed.1)) (enumerate_from 0 (transactions_of sent.1)))) (transmissions_to b key.sender key.number))

pub eleven_long : (s : List ℕ) → is_sender_key s ≡ true → length s ≡ 11
eleven_long s h = eqb-true (length s) 11 (first_holds (eqb (length s) 11) (list_all is_capital_or_digit s) h)

sender_has_key : (b : Book) → IsSound b → (s : List ℕ) (n : ℕ) → is_in_line b s n ≡ true → length s ≡ 11
sender_has_key b sound s n applied =
    let found = some_body (body_at b s n) (there_in_line b s n applied) in
    let entry = sound.transmissions s n found.0 found.1 in
    eleven_long s (first_holds (is_sender_key s) (is_transmission_number n) (first_holds (is_sender_key s && is_transmission_number n) (is_none (file_fault s found.0)) entry))

cut_sent : (o : Office) (b : Book) → IsSound b → (keys : List TransmissionKey) → list_all (is_applied b) keys ≡ true → AllByRecursion HasSender (flat_map (versions_at_cut o b) keys)
cut_sent o b sound keys h =
    all-flat_map HasSender (versions_at_cut o b) keys
    (all_weaker (λ key. is_applied b key ≡ true) (λ key. AllByRecursion HasSender (versions_at_cut o b key)) (λ key applied. sent_by o b key (sender_has_key b sound key.sender key.number applied)) keys (all_from_test (is_applied b) keys h))

-- the holders of a claim, where there are some
abbrev OwnersFilled : Option (List Holder) → Type 0
OwnersFilled None = Unit {0}
OwnersFilled (Some holders) = HoldersFilled holders

sole_filled : (right : Kind) (o : Office) (works : List CutWork) → AllByRecursion HasSender works → OwnersFilled (option_map (holders_of right o) (sole works))
sole_filled right o [] all = tt
sole_filled right o (w ∷ []) all = weights_filled right w.sender o w.transaction all.0
sole_filled right o (w ∷ v ∷ more) all = tt

claim_filled : (isrc : List ℕ) (holders : Option (List Holder)) (units : ℕ) → OwnersFilled holders → CreditsFilled (claim_credits_by isrc holders units)
claim_filled isrc None units all = (tt, tt)
claim_filled isrc (Some holders) units all =
    all_map (λ (c : Credit). IsFilled c.account) (holder_credit isrc) (zip holders (split_of units (weights_in holders))) (zip_all (λ (h : Holder). IsFilled h.account) holders (split_of units (weights_in holders)) all)

paid_filled : (claims : List Claim) (parts : List ℕ) → AllByRecursion (λ (claim : Claim). OwnersFilled claim.holders) claims → CreditsFilled (paid_credits claims parts)
paid_filled claims parts all =
    all-flat_map (λ (c : Credit). IsFilled c.account) (λ (paid : Claim × ℕ). claim_credits paid.0 paid.1) (zip claims parts)
    (all_weaker (λ (paid : Claim × ℕ). OwnersFilled paid.0.holders) _ (λ paid h. claim_filled paid.0.isrc paid.0.holders paid.1 h) (zip claims parts) (zip_all (λ (claim : Claim). OwnersFilled claim.holders) claims parts all))

split_filled : (amount : ℕ) (claims : List Claim) → AllByRecursion (λ (claim : Claim). OwnersFilled claim.holders) claims → CreditsFilled (credits amount claims)
unfolding credits
split_filled amount [] all = (tt, tt)
split_filled amount (claim ∷ claims) all = paid_filled (claim ∷ claims) (split_of amount (points_claimed (claim ∷ claims))) all

-- each account that a pool credits is filled
pub order_filled : (o : Office) (b : Book) → IsSound b → (pool : ℕ) (order : Order) → order_at b pool ≡ Some order → CreditsFilled (credits_of o b order)
unfolding credits_of
order_filled o b sound pool order there =
    split_filled order.amount (claims_of o b order)
    (all-map (λ (claim : Claim). OwnersFilled claim.holders) (claim_of o b order)
    (λ played. sole_filled order.kind o (filter (names_recording played.0) (works_of_cut o b order)) (all-filter HasSender (names_recording played.0) (works_of_cut o b order) (cut_sent o b sound order.cut (order_reaches_cut b pool order sound there))))
    (points_by_recording (rows_named b order)))

pools_filled : (o : Office) (b : Book) → IsSound b → (es : List (ℕ × Order)) → AllByRecursion (IsPool b) es → CreditsFilled (flat_map (credits_of o b) (map (λ e. e.1) es))
pools_filled o b sound es all =
    all-flat_map (λ (c : Credit). IsFilled c.account) (credits_of o b) (map (λ e. e.1) es) (all_map (λ order. CreditsFilled (credits_of o b order)) (λ e. e.1) es (all_weaker (IsPool b) (λ e. CreditsFilled (credits_of o b e.1)) (λ e there. order_filled o b sound e.0 e.1 there) es all))

-- the units under the text of an account are its balance
pub units_by_text : (o : Office) (b : Book) → IsSound b → (a : Account) → IsFilled a → sum_by units_of (credits_to o b (account_text a)) ≡ balance o b a
units_by_text o b sound a filled =
    ap (sum_by units_of)
    (filter_same (λ (c : Credit). bytes_eq (account_text a) (account_text c.account)) (λ (c : Credit). same_account c.account a) (all_credits o b)
    (all_weaker (λ (c : Credit). IsFilled c.account) (λ (c : Credit). bytes_eq (account_text a) (account_text c.account) ≡ same_account c.account a) (λ c full. one_text a c.account filled full) (all_credits o b) (pools_filled o b sound (finite.entries b.pools) (each_pool b))))

-- ---- what accounts say of the lengths of their parts

pub nine_long : (n : List ℕ) → is_party_number n ≡ true → length n ≡ 9
unfolding is_party_number
nine_long n h =
    eqb-true (length n) 9
    (first_holds (eqb (length n) 9) (list_all is_printable n)
    (first_holds (eqb (length n) 9 && list_all is_printable n) (list_all is_blank_byte n || not (is_blank_byte (get_or n 0 0))) h))
