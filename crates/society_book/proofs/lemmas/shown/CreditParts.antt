-- What the credits of a book are made of: recordings with an ISRC of twelve characters, and accounts that their texts read back.
use Rattle.std.proofs.Common.{◌≡◌, ◌∙◌, ◌++◌, ◌&&◌, ℕ, Bool, true, false, cond, List, [], ◌∷◌, length, take, drop, map, nat_le, Option, Some, None, Result, Ok, Err, refl, ap, ap₂, sym, subst, arith, bytes_eq, eqb, eqb-true, ne_eqb, suc, unwrap_or}
use Rattle.std.specs.List.{AllByRecursion, list_all, list_any, zip}
use Rattle.std.specs.Ordering.{eq_by_cmp}
use Rattle.std.proofs.lemmas.Bool.{or_left, or_right}
use Rattle.std.proofs.lemmas.Cmp.{nat_list_cmp_total}
use Rattle.std.proofs.lemmas.List.{drop_at, take_at}
use Rattle.std.proofs.lemmas.Map.Text.{is_eq-slice_cmp}
use Rattle.std.proofs.lemmas.Slice.Eq.{bytes_eq-Decides}
use Rattle.perf_returns.specs.Numbers.{plays_of, seconds_of}
use Rattle.perf_returns.specs.Returns.{performances_in, performances_of, records_in}
use Rattle.perf_returns.specs.Rows.{row_by, row_of, with_row}
use Rattle.perf_returns.specs.declared.performance.Performance.{Performance}
use Rattle.pool_split.specs.Credits.{claim_credits, claim_credits_by, credits, holder_credit, points_claimed, weights_in}
use Rattle.pool_split.specs.Split.{split_of}
use Rattle.pool_split.specs.declared.claim.Claim.{Claim}
use Rattle.pool_split.specs.declared.claim.Credit.{Credit}
use Rattle.share_rules.specs.declared.holder.Holder.{Holder}
use Rattle.share_rules.specs.declared.office.Office.{Office}
use Rattle.society_core.proofs.lemmas.Ascending.{ascending_has}
use Rattle.society_core.specs.Book.{Book, return_at}
use Rattle.society_core.specs.Keys.{bytes_cmp}
use Rattle.society_core.specs.Orders.{Order}
use Rattle.society_core.specs.Points.{points_by_recording, points_in, recordings_in, rows_named}
use Rattle.society_core.specs.Pools.{claim_of, claims_of, credits_of}
use Rattle.society_core.specs.declared.return_key.ReturnKey.{ReturnKey}
use Rattle.society_book.specs.Shown.{HasIsrc, IsFilled}
use Rattle.society_book.proofs.lemmas.shown.AccountTexts.{zip_all}
use Rattle.work_ids.proofs.lemmas.Trailing.{filled_again}
use Rattle.work_ids.specs.Account.{account_of, account_text, ipi_account_of, is_party, party_account_of}
use Rattle.work_ids.specs.Blanks.{fill, is_blank_byte, without_trailing_blanks}
use Rattle.work_ids.specs.Fields.{present}
use Rattle.work_ids.specs.IpiName.{is_ipi_name}
use Rattle.work_ids.specs.Isrc.{has_isrc_form, has_isrc_marks, isrc_field_of, isrc_of, isrc_of_text, without_isrc_marks}
use Rattle.work_ids.specs.Characters.{capital}
use Rattle.work_ids.specs.declared.account.Account.{Account}
use Rattle.work_ids.specs.declared.account.Account.TheVariants.{Ipi, Party, Unclaimed}
use Rattle.work_ids.specs.declared.fault.IdFault.{IdFault}
use Rattle.work_ids.specs.declared.fault.IdFault.TheVariants.{Length, Character}
use Rattle.sqlite_keyed.proofs.ListLemmas.{all-flat_map, all-map, all_map, all_of, all_weaker}
use Rattle.society_book.proofs.lemmas.rows_alike.KeyRows.{let_through}
use Rattle.sqlite_rules.proofs.ListLemmas.{all_has, some_has}

-- ---- ISRCs

abbrev Twelve : List ℕ → Type 0
Twelve isrc = length isrc ≡ 12

isrc_long : (bytes i : List ℕ) → isrc_of bytes ≡ Ok i → Twelve i
unfolding isrc_of
isrc_long bytes i e = let both = let_through (eqb (length bytes) 12) (has_isrc_form bytes) bytes i Character Length e in ap length (sym both.1) ∙ eqb-true (length bytes) 12 both.0

text_long : (text i : List ℕ) → isrc_of_text text ≡ Ok i → Twelve i
unfolding isrc_of_text
text_long text i e = by_length (eqb (length text) 15) (has_isrc_marks text) e
  where
    by_length : (a b : Bool) → (cond a (cond b (isrc_of (map capital (without_isrc_marks text))) (Err Character)) (isrc_of (map capital text))) ≡ Ok i → Twelve i
    by_length true true h = isrc_long (map capital (without_isrc_marks text)) i h
    by_length true false h = absurd (let x = h in cc)
    by_length false b h = isrc_long (map capital text) i h

abbrev RowTwelve : Performance → Type 0
RowTwelve row = Twelve row.isrc

parts_long : (isrc : Result (List ℕ) IdFault) (p s : Option ℕ) (row : Performance) → ((i : List ℕ) → isrc ≡ Ok i → Twelve i) → row_by isrc p s ≡ Ok row → RowTwelve row
parts_long (Err f) p s row long e = absurd (let x = e in cc)
parts_long (Ok i) None s row long e = absurd (let x = e in cc)
parts_long (Ok i) (Some n) None row long e = absurd (let x = e in cc)
parts_long (Ok i) (Some n) (Some m) row long e =
    let same : ◌≡◌ {A = Performance} (record { isrc = i; plays = n; seconds = m }) row = cc in
    subst RowTwelve same (long i refl)

row_long : (fields : List (List ℕ)) (row : Performance) → row_of fields ≡ Ok row → RowTwelve row
row_long [] row e = absurd (let x = e in cc)
row_long (a ∷ []) row e = absurd (let x = e in cc)
row_long (a ∷ b ∷ []) row e = absurd (let x = e in cc)
row_long (a ∷ b ∷ c ∷ []) row e = parts_long (isrc_of_text a) (plays_of b) (seconds_of c) row (λ i is. text_long a i is) e
row_long (a ∷ b ∷ c ∷ d ∷ more) row e = absurd (let x = e in cc)

rows_long : (records : List (List (List ℕ))) → AllByRecursion RowTwelve (performances_of records)
rows_long [] = tt
rows_long (fields ∷ more) = by_case (row_of fields) refl (rows_long more)
  where
    by_case : (r : Result Performance ℕ) → row_of fields ≡ r → AllByRecursion RowTwelve (performances_of more) → AllByRecursion RowTwelve (with_row r (performances_of more))
    by_case (Ok row) is rest = (row_long fields row is, rest)
    by_case (Err fault) is rest = rest

return_long : (body : List ℕ) → AllByRecursion RowTwelve (performances_in body)
unfolding performances_in
return_long body = rows_long (drop 1 (records_in body))

named_long : (b : Book) (order : Order) → AllByRecursion RowTwelve (rows_named b order)
named_long b order =
    all-flat_map RowTwelve (λ (key : ReturnKey). performances_in (unwrap_or (return_at b key) [])) order.returns (all_of _ (λ (key : ReturnKey). return_long (unwrap_or (return_at b key) [])) order.returns)

same_bytes : (q k : List ℕ) → eq_by_cmp bytes_cmp q k ≡ bytes_eq q k
same_bytes q k = is_eq-slice_cmp q k

listed : (ks : List (List ℕ)) → AllByRecursion Twelve ks → (q : List ℕ) → list_any (eq_by_cmp bytes_cmp q) ks ≡ true → Twelve q
listed ks all q h =
    let found = some_has (eq_by_cmp bytes_cmp q) ks h in
    ap length ((bytes_eq-Decides q found.0).0 (sym (same_bytes q found.0) ∙ found.2)) ∙ all_has Twelve ks found.0 all found.1

all_listed : (P : List ℕ → Type 0) (xs : List (List ℕ)) → ((q : List ℕ) → list_any (eq_by_cmp bytes_cmp q) xs ≡ true → P q) → AllByRecursion P xs
all_listed P [] h = tt
all_listed P (x ∷ xs) h = (
  h x (or_left (eq_by_cmp bytes_cmp x x) (list_any (eq_by_cmp bytes_cmp x) xs) (same_bytes x x ∙ (bytes_eq-Decides x x).1 refl)),
  all_listed P xs (λ q there. h q (or_right (eq_by_cmp bytes_cmp q x) (list_any (eq_by_cmp bytes_cmp q) xs) there)),
)

recordings_long : (rows : List Performance) → AllByRecursion RowTwelve rows → AllByRecursion Twelve (recordings_in rows)
recordings_long rows all =
    all_listed Twelve (recordings_in rows)
    (λ q there. listed (map (λ (row : Performance). row.isrc) rows) (all_map Twelve (λ (row : Performance). row.isrc) rows all) q
    (sym (ascending_has nat_list_cmp_total q (map (λ (row : Performance). row.isrc) rows)) ∙ there))

-- ---- the credits of a pool name recordings

abbrev CreditsNamed : List Credit → Type 0
CreditsNamed = AllByRecursion (λ (c : Credit). HasIsrc c.isrc)

claim_named : (isrc : List ℕ) (holders : Option (List Holder)) (units : ℕ) → Twelve isrc → CreditsNamed (claim_credits_by isrc holders units)
claim_named isrc None units long = (long, tt)
claim_named isrc (Some holders) units long = all-map (λ (c : Credit). HasIsrc c.isrc) (holder_credit isrc) (λ _. long) (zip holders (split_of units (weights_in holders)))

split_named : (amount : ℕ) (claims : List Claim) → AllByRecursion (λ (claim : Claim). Twelve claim.isrc) claims → CreditsNamed (credits amount claims)
unfolding credits
split_named amount [] all = (tt, tt)
split_named amount (claim ∷ claims) all =
    let paid = zip (claim ∷ claims) (split_of amount (points_claimed (claim ∷ claims))) in
    all-flat_map (λ (c : Credit). HasIsrc c.isrc) (λ (p : Claim × ℕ). claim_credits p.0 p.1) paid
    (all_weaker (λ (p : Claim × ℕ). Twelve p.0.isrc) _ (λ p h. claim_named p.0.isrc p.0.holders p.1 h) paid (zip_all (λ (c : Claim). Twelve c.isrc) (claim ∷ claims) (split_of amount (points_claimed (claim ∷ claims))) all))

pub order_named : (o : Office) (b : Book) (order : Order) → AllByRecursion (λ (c : Credit). HasIsrc c.isrc) (credits_of o b order)
unfolding credits_of
order_named o b order =
    split_named order.amount (claims_of o b order)
    (all_map (λ (claim : Claim). Twelve claim.isrc) (claim_of o b order) (points_by_recording (rows_named b order))
    (all_map (λ (played : List ℕ × ℕ). Twelve played.0) (λ (isrc : List ℕ). (isrc, points_in (rows_named b order) isrc)) (recordings_in (rows_named b order)) (recordings_long (rows_named b order) (named_long b order))))

-- ---- an account that is read of its text

party_back : (s m : List ℕ) → length s ≡ 11 → (c : Account) → party_account_of (s ++ m) ≡ Ok c → c ≡ Party s (fill 9 m)
unfolding party_account_of
party_back s m long c e =
    let account = Party (take 11 (s ++ m)) (fill 9 (drop 11 (s ++ m))) in
    sym (let_through (nat_le 12 (length (s ++ m)) && nat_le (length (s ++ m)) 20) (is_party (s ++ m)) account c Character Length e).1 ∙ ap₂ (λ x y. Party x (fill 9 y)) (take_at s m 11 long) (drop_at s m 11 long)

name_back : (digits : List ℕ) (c : Account) → ipi_account_of digits ≡ Ok c → c ≡ Ipi digits
unfolding ipi_account_of
name_back digits c e = sym (let_through (eqb (length digits) 11) (is_ipi_name digits) (Ipi digits) c Character Length e).1

one_or_more : (n : ℕ) → eqb (suc n) 0 ≡ false
one_or_more n = ne_eqb (suc n) 0 (λ e. absurd (omega arith))

-- an account that the text of an account says is that account
pub account_back : (a c : Account) → IsFilled a → account_of (account_text a) ≡ Ok c → c ≡ a
account_back Unclaimed c filled e = let same : Unclaimed ≡ c = cc in sym same
account_back (Ipi digits) c filled e = name_back digits c (rw (one_or_more (length digits)) at e)
account_back (Party s n) c filled e =
    party_back s (without_trailing_blanks n) filled.0 c (rw (one_or_more (length (s ++ without_trailing_blanks n))) at e) ∙ ap (Party s) (filled_again 9 n filled.1)

-- a field that says an ISRC is its characters
pub isrc_said : (text i : List ℕ) → isrc_field_of text ≡ Ok (Some i) → i ≡ text
unfolding isrc_of
isrc_said text i e = by_blank (eqb (length text) 12 && list_all is_blank_byte text) (eqb (length text) 12) (has_isrc_form text) e
  where
    by_blank : (blank a b : Bool) → cond blank (Ok None) (present (cond a (cond b (Ok text) (Err Character)) (Err Length))) ≡ Ok (Some i) → i ≡ text
    by_blank true a b h = absurd (let x = h in cc)
    by_blank false true true h = let same : text ≡ i = cc in sym same
    by_blank false true false h = absurd (let x = h in cc)
    by_blank false false b h = absurd (let x = h in cc)
