-- The rows of a pool give its order again.
use Rattle.std.proofs.Common.{◌≡◌, ◌∙◌, ◌<◌, ◌≤◌, ◌^◌, ◌&&◌, ℕ, ℤ, pos, Bool, true, false, List, [], ◌∷◌, Option, Some, None, is_none, is_some, nat_le, Result, Ok, Err, FitsSigned, of_z, to_z, w64, map, filter, length, if◌then◌else◌, ap, ap₂, refl, sym, subst, arith, IsPermutation}
use Rattle.std.proofs.lemmas.Bool.{false≢true}
use Rattle.std.proofs.lemmas.Bool.Decides.{nat_tests}
use Rattle.std.proofs.lemmas.Int.{to_z-of_z}
use Rattle.std.proofs.lemmas.List.Sorted.{IsPermutation-map}
use Rattle.std.specs.List.{AllByRecursion, list_all}
use Rattle.sqlite_keyed.proofs.ListLemmas.{all_both, all_from_test, all_map, all_weaker, map-map, map_back}
use Rattle.sqlite_value.specs.Order.{Row, column}
use Rattle.sqlite_value.specs.declared.value.Value.{Value}
use Rattle.sqlite_value.specs.declared.value.Value.TheVariants.{Int}
use Rattle.share_rules.specs.declared.kind.Kind.{Kind}
use Rattle.share_rules.specs.declared.kind.Kind.TheVariants.{Performing, Mechanical}
use Rattle.society_core.specs.Book.{Book, IsSound, is_applied, is_pool_entry, is_reporter, order_at, return_at}
use Rattle.society_core.proofs.lemmas.LineNumbers.{in_line_within}
use Rattle.society_core.specs.Keys.{ascending, return_cmp, return_key, transmission_cmp, transmission_key}
use Rattle.society_core.specs.Orders.{Order, order_fault, order_of, return_pair, sent_pair}
use Rattle.society_core.specs.declared.return_key.ReturnKey.{ReturnKey}
use Rattle.society_core.specs.declared.transmission_key.TransmissionKey.{TransmissionKey}
use Rattle.society_core.proofs.lemmas.Books.{some_body, sound_front, sound_order}
use Rattle.society_core.proofs.lemmas.Fronts.{first_holds, second_holds}
use Rattle.society_core.proofs.lemmas.OrderFaults.{fault_permutes}
use Rattle.society_core.proofs.lemmas.Stores.{there_reporter}
use Rattle.society_core.proofs.lemmas.KeyOrders.{exact_returns, exact_transmissions, returns_total, transmissions_total}
use Rattle.society_rows.specs.Forms.{IsOfForms, mechanical_pool_forms, pool_cut_forms, pool_forms, pool_return_forms}
use Rattle.work_ids.specs.Blanks.{fill, without_trailing_blanks}
use Rattle.work_ids.specs.Characters.{is_capital_or_digit}
use Rattle.work_ids.specs.Numbers.{is_pool_number, is_return_number, number_where}
use Rattle.work_ids.specs.Reporter.{reporter_of}
use Rattle.work_ids.specs.SenderKey.{is_sender_key}
use Rattle.work_ids.specs.declared.fault.IdFault.{IdFault}
use Rattle.work_ids.specs.declared.fault.IdFault.TheVariants.{Character, Length}
use Rattle.society_book.specs.BookRows.{cut_row, cut_rows, is_of_pool, kind_marked, marks_by, marks_of, mechanical_rows, paid_row, paid_rows, pool_row, rows_of_order}
use Rattle.society_book.specs.Columns.{HasRows, text_at, whole_number_at}
use Rattle.book_audit.specs.Pools.{cut_pair, paid_pair}
use Rattle.society_book.proofs.lemmas.rows_alike.BookLemmas.{IsRefilled, kind_back, one_ascent, third_holds}
use Rattle.society_book.proofs.lemmas.rows_alike.RowLemmas.{all_rows}

-- the row is that of a sender's cut in a pool
abbrev pub IsCut : Row → Type 0
IsCut row = IsOfForms pool_cut_forms row × (is_sender_key (text_at 1 row) ≡ true)

-- the row is that of a return that a pool pays
abbrev pub IsPaid : Row → Type 0
IsPaid row = IsOfForms pool_return_forms row × (reporter_of (text_at 0 row) ≡ Ok (fill 20 (text_at 0 row)))

-- the row is that of the mark of a pool
abbrev pub IsMark : Row → Type 0
IsMark row = IsOfForms mechanical_pool_forms row

small : (n : ℕ) → n ≤ 999999 → n < 2 ^ 32
small n h = omega arith

pub none_of : {X : Type 0} (o : Option X) → is_none o ≡ true → o ≡ None
none_of None h = refl
none_of (Some x) h = absurd (false≢true h)

pub at_most : (n m : ℕ) → nat_le n m ≡ true → n ≤ m
at_most n m h = grind (arith, nat_tests)

-- what was read, or nothing
abbrev the_ok : Result (List ℕ) IdFault → List ℕ
the_ok (Ok x) = x
the_ok (Err fault) = []

-- whether it was read
abbrev is_fine : Result (List ℕ) IdFault → Bool
is_fine (Ok x) = true
is_fine (Err fault) = false

-- a reporter that is filled with blanks
filled_as : (bytes reporter : List ℕ) → reporter_of bytes ≡ Ok reporter → fill 20 bytes ≡ reporter
filled_as bytes reporter e = by_case (nat_le 1 (length bytes) && nat_le (length bytes) 20) (list_all is_capital_or_digit bytes) e
  where
    by_case : (a c : Bool) → (if a then (if c then Ok (fill 20 bytes) else Err Character) else Err Length) ≡ Ok reporter → fill 20 bytes ≡ reporter
    by_case true true e = ap the_ok e
    by_case true false e = absurd (false≢true (ap is_fine e))
    by_case false c e = absurd (false≢true (ap is_fine e))

abbrev whole_of : Value → ℤ
whole_of (Int n) = n
whole_of _ = pos 0

-- the whole number in the second column
abbrev pub amount_in : Row → ℤ
amount_in row = whole_of (column row 1)

-- an amount is read as it was written
pub amount_read : (z : ℤ) (n : ℕ) → z ≡ pos n → nat_le n 1000000000000 ≡ true → to_z w64 (of_z w64 z) ≡ pos n
amount_read z n is few =
    let most = at_most n 1000000000000 few in
    let fits : FitsSigned w64 (pos n) = omega arith in
    ap (λ (x : ℤ). to_z w64 (of_z w64 x)) is ∙ to_z-of_z w64 (pos n) fits

-- a pool's number is taken
pub number_taken : (n pool : ℕ) → n ≡ pool → is_pool_number pool ≡ true → number_where is_pool_number n ≡ Some pool
number_taken n pool same passes = ap (number_where is_pool_number) same ∙ ap (λ (t : Bool). if t then Some pool else None) passes

-- what is some is one
pub the_same : {X : Type 0} (x y : X) → Some x ≡ Some y → x ≡ y
the_same x y e = cc

-- what is none is not some
pub not_some : {X : Type 0} (x : X) → None ≡ Some x → ⊥
not_some x e = cc

pub own_pool : (row : Row) → is_of_pool 0 (whole_number_at 0 row) row ≡ true
own_pool row = grind (arith, nat_tests)

pub own_payer : (row : Row) → is_of_pool 2 (whole_number_at 2 row) row ≡ true
own_payer row = grind (arith, nat_tests)

module _ (b : Book) (sound : IsSound b) where
  module _ (pool : ℕ) (order : Order) (there : order_at b pool ≡ Some order) where
    entry : is_pool_entry b pool order ≡ true
    entry = sound.pools pool order there

    pool_number : is_pool_number pool ≡ true
    pool_number =
        first_holds (is_pool_number pool) (list_all (is_applied b) order.cut)
        (first_holds (is_pool_number pool && list_all (is_applied b) order.cut) (list_all (λ key. is_some (return_at b key)) order.returns) entry)

    small_pool : pool < 2 ^ 32
    small_pool = let high = at_most pool 99999 (second_holds (nat_le 1 pool) (nat_le pool 99999) pool_number) in omega arith

    below : AllByRecursion (λ (key : TransmissionKey). is_applied b key ≡ true) order.cut
    below =
        all_from_test (is_applied b) order.cut
        (second_holds (is_pool_number pool) (list_all (is_applied b) order.cut)
        (first_holds (is_pool_number pool && list_all (is_applied b) order.cut) (list_all (λ key. is_some (return_at b key)) order.returns) entry))

    kept : AllByRecursion (λ (key : ReturnKey). is_some (return_at b key) ≡ true) order.returns
    kept =
        all_from_test (λ (key : ReturnKey). is_some (return_at b key)) order.returns
        (third_holds (is_pool_number pool) (list_all (is_applied b) order.cut) (list_all (λ key. is_some (return_at b key)) order.returns) entry)

    small_return : (key : ReturnKey) → is_some (return_at b key) ≡ true → key.number < 2 ^ 32
    small_return key here =
        let body = some_body (return_at b key) here in
        let number : is_return_number key.number ≡ true = second_holds (is_reporter key.reporter) (is_return_number key.number) (first_holds (is_reporter key.reporter && is_return_number key.number) _ (sound.returns key body.0 body.1)) in
        small key.number (at_most key.number 999999 (second_holds (nat_le 1 key.number) (nat_le key.number 999999) number))

    -- the rows of its cut are of the form
    cut_forms : AllByRecursion IsCut (map (cut_row pool) order.cut)
    cut_forms =
        all_map IsCut (cut_row pool) order.cut
        (all_both (λ (key : TransmissionKey). is_applied b key ≡ true) (λ key. is_sender_key key.sender ≡ true) (λ key. IsCut (cut_row pool key))
        (λ key within sender.
        let low = in_line_within b key.sender (sound_order b sound key.sender).right key.number within in
        let high = sound_front b key.sender sound in
        let fits : key.number < 2 ^ 32 = omega (low, high, arith) in
        ((refl, ((pool, refl, small_pool), ((key.sender, refl), ((key.number, refl, fits), tt)))), sender))
        order.cut below (all_from_test (λ (key : TransmissionKey). is_sender_key key.sender) order.cut (sound.orders pool order there).sender_keys))

    -- and the rows of its returns
    paid_forms : AllByRecursion IsPaid (map (paid_row pool) order.returns)
    paid_forms =
        all_map IsPaid (paid_row pool) order.returns
        (all_weaker (λ (key : ReturnKey). is_some (return_at b key) ≡ true) (λ key. IsPaid (paid_row pool key))
        (λ key here.
        let whole = there_reporter b key sound here in (
          (refl, ((without_trailing_blanks key.reporter, refl), ((key.number, refl, small_return key here), ((pool, refl, small_pool), tt)))),
          whole ∙ ap Ok (sym (filled_as (without_trailing_blanks key.reporter) key.reporter whole)),
        ))
        order.returns kept)

    -- the row of the pool is read
    pub pool_form : IsOfForms pool_forms (pool_row pool order)
    pool_form =
        let few = at_most order.amount 1000000000000 (sound.orders pool order there).amount in
        let fits : FitsSigned w64 (pos order.amount) = omega arith in
        (refl, ((pool, refl, small_pool), ((pos order.amount, refl, fits), tt)))

    -- its number is a pool's
    pub number_of_pool : is_pool_number pool ≡ true
    number_of_pool = pool_number

    pub refilled : AllByRecursion IsRefilled order.returns
    refilled =
        all_weaker (λ (key : ReturnKey). is_some (return_at b key) ≡ true) IsRefilled
        (λ key here. filled_as (without_trailing_blanks key.reporter) key.reporter (there_reporter b key sound here)) order.returns kept

    pairs_back : (keys : List ReturnKey) → AllByRecursion IsRefilled keys → map paid_pair (map (paid_row pool) keys) ≡ map return_pair keys
    pairs_back [] whole = refl
    pairs_back (key ∷ keys) whole = ap₂ (λ (r : List ℕ) (l : List (List ℕ × ℕ)). (r, key.number) ∷ l) whole.0 (pairs_back keys whole.1)

    -- the row of its mark is of the form
    mark_forms : (kind : Kind) → AllByRecursion IsMark (marks_of pool kind)
    mark_forms Performing = tt
    mark_forms Mechanical = ((refl, ((pool, refl, small_pool), tt)), tt)

    -- its right is read back from its marks
    pub kind_given : (marks : List Row) → HasRows (is_of_pool 0) (mechanical_rows b) marks → kind_marked (filter (is_of_pool 0 pool) marks) ≡ order.kind
    kind_given marks has =
        kind_back pool order.kind (filter (is_of_pool 0 pool) marks)
        (subst (λ (x : Option Order). IsPermutation (marks_by pool x) (filter (is_of_pool 0 pool) marks)) there (has pool))

    module _ (cuts paid : List Row) (has_cuts : HasRows (is_of_pool 0) (cut_rows b) cuts) (has_paid : HasRows (is_of_pool 2) (paid_rows b) paid) where
      cut_given : IsPermutation (map sent_pair order.cut) (map cut_pair (filter (is_of_pool 0 pool) cuts))
      cut_given =
          subst (λ (l : List (List ℕ × ℕ)). IsPermutation l (map cut_pair (filter (is_of_pool 0 pool) cuts))) (map-map cut_pair (cut_row pool) order.cut)
          (IsPermutation-map cut_pair (map (cut_row pool) order.cut) (filter (is_of_pool 0 pool) cuts)
          (subst (λ (x : Option Order). IsPermutation (rows_of_order (cut_row pool) (λ x. x.cut) x) (filter (is_of_pool 0 pool) cuts)) there (has_cuts pool)))

      returns_given : IsPermutation (map return_pair order.returns) (map paid_pair (filter (is_of_pool 2 pool) paid))
      returns_given =
          subst (λ (l : List (List ℕ × ℕ)). IsPermutation l (map paid_pair (filter (is_of_pool 2 pool) paid))) (pairs_back order.returns refilled)
          (IsPermutation-map paid_pair (map (paid_row pool) order.returns) (filter (is_of_pool 2 pool) paid)
          (subst (λ (x : Option Order). IsPermutation (rows_of_order (paid_row pool) (λ x. x.returns) x) (filter (is_of_pool 2 pool) paid)) there (has_paid pool)))

      -- the numbers of its rows have no fault
      pub faultless_again : order_fault order.amount (map cut_pair (filter (is_of_pool 0 pool) cuts)) (map paid_pair (filter (is_of_pool 2 pool) paid)) ≡ None
      faultless_again =
          fault_permutes order.amount (map sent_pair order.cut) (map return_pair order.returns) (map cut_pair (filter (is_of_pool 0 pool) cuts)) (map paid_pair (filter (is_of_pool 2 pool) paid)) cut_given returns_given
          (none_of (order_fault order.amount (map sent_pair order.cut) (map return_pair order.returns)) (sound.orders pool order there).faultless)

      -- and make its order
      pub order_again : order_of order.kind order.amount (map cut_pair (filter (is_of_pool 0 pool) cuts)) (map paid_pair (filter (is_of_pool 2 pool) paid)) ≡ order
      order_again =
          let key_of : List ℕ × ℕ → TransmissionKey = λ c. transmission_key c.0 c.1 in
          let named : List ℕ × ℕ → ReturnKey = λ r. return_key r.0 r.1 in
          let some_cut = map cut_pair (filter (is_of_pool 0 pool) cuts) in
          let some_returns = map paid_pair (filter (is_of_pool 2 pool) paid) in
          let cut : ascending transmission_cmp (map key_of some_cut) ≡ order.cut =
          one_ascent transmissions_total exact_transmissions (map key_of (map sent_pair order.cut)) (map key_of some_cut) (IsPermutation-map key_of (map sent_pair order.cut) some_cut cut_given)
          ∙ ap (ascending transmission_cmp) (map_back sent_pair key_of (λ key. refl) order.cut) ∙ (sound.orders pool order there).cut in
          let returns : ascending return_cmp (map named some_returns) ≡ order.returns =
          one_ascent returns_total exact_returns (map named (map return_pair order.returns)) (map named some_returns) (IsPermutation-map named (map return_pair order.returns) some_returns returns_given)
          ∙ ap (ascending return_cmp) (map_back return_pair named (λ key. refl) order.returns) ∙ (sound.orders pool order there).returns in
          λ i. record { kind = order.kind; amount = order.amount; cut = cut i; returns = returns i }

      module _ (p : ℕ) (cut returns : List (List ℕ × ℕ)) (same : p ≡ pool) (are_cut : cut ≡ map cut_pair (filter (is_of_pool 0 p) cuts)) (are_paid : returns ≡ map paid_pair (filter (is_of_pool 2 p) paid)) where
        whole_cut : cut ≡ map cut_pair (filter (is_of_pool 0 pool) cuts)
        whole_cut = are_cut ∙ ap (λ (n : ℕ). map cut_pair (filter (is_of_pool 0 n) cuts)) same

        whole_returns : returns ≡ map paid_pair (filter (is_of_pool 2 pool) paid)
        whole_returns = are_paid ∙ ap (λ (n : ℕ). map paid_pair (filter (is_of_pool 2 n) paid)) same

        -- what is read of its rows has no fault
        pub faultless_read : order_fault order.amount cut returns ≡ None
        faultless_read = ap₂ (order_fault order.amount) whole_cut whole_returns ∙ faultless_again

  -- all rows of cuts are of the form
  pub all_cuts : (cuts : List Row) → HasRows (is_of_pool 0) (cut_rows b) cuts → AllByRecursion IsCut cuts
  all_cuts cuts has = all_rows (is_of_pool 0) (whole_number_at 0) own_pool IsCut (cut_rows b) cuts has (λ q. of_pool q (order_at b q) refl)
    where
      of_pool : (q : ℕ) (x : Option Order) → order_at b q ≡ x → AllByRecursion IsCut (rows_of_order (cut_row q) (λ order. order.cut) x)
      of_pool q None is = tt
      of_pool q (Some order) is = cut_forms q order is

  -- all rows of returns that are paid are of the form
  pub all_paid : (paid : List Row) → HasRows (is_of_pool 2) (paid_rows b) paid → AllByRecursion IsPaid paid
  all_paid paid has = all_rows (is_of_pool 2) (whole_number_at 2) own_payer IsPaid (paid_rows b) paid has (λ q. of_pool q (order_at b q) refl)
    where
      of_pool : (q : ℕ) (x : Option Order) → order_at b q ≡ x → AllByRecursion IsPaid (rows_of_order (paid_row q) (λ order. order.returns) x)
      of_pool q None is = tt
      of_pool q (Some order) is = paid_forms q order is

  -- all rows of marks are of the form
  pub all_marks : (marks : List Row) → HasRows (is_of_pool 0) (mechanical_rows b) marks → AllByRecursion IsMark marks
  all_marks marks has = all_rows (is_of_pool 0) (whole_number_at 0) own_pool IsMark (mechanical_rows b) marks has (λ q. of_pool q (order_at b q) refl)
    where
      of_pool : (q : ℕ) (x : Option Order) → order_at b q ≡ x → AllByRecursion IsMark (marks_by q x)
      of_pool q None is = tt
      of_pool q (Some order) is = mark_forms q order is order.kind
