-- What the rows of senders' fronts and of returns show.
use Rattle.std.proofs.Common.{◌≡◌, ◌∙◌, ◌==◌, inl, inr, ℕ, pos, Bool, true, false, cond, List, [], ◌∷◌, Option, Some, None, is_some, length, map, take, refl, ap, ap₂, subst, sym}
use Rattle.std.proofs.lemmas.Bool.{false≢true}
use Rattle.std.proofs.lemmas.Map.Text.{is_eq-slice_cmp}
use Rattle.std.proofs.lemmas.Slice.Eq.{bytes_eq-Decides}
use Rattle.std.specs.BTreeMap as tree
use Rattle.std.specs.Prelude.{not}
use Rattle.std.specs.Ordering.{eq_by_cmp}
use Rattle.share_rules.specs.declared.office.Office.{Office}
use Rattle.sqlite_trees.specs.Tree.{Trees}
use Rattle.sqlite_value.specs.Order.{Row}
use Rattle.sqlite_value.specs.declared.value.Value.TheVariants.{Int, Text}
use Rattle.sender_segments.specs.Ways.{IsWithinEnd, StatedEnds, leads_to, numbers_up_to}
use Rattle.society_core.proofs.lemmas.Books.{front_fits, order_fits, sound_order}
use Rattle.society_core.proofs.lemmas.Fronts.{front_led}
use Rattle.society_core.proofs.lemmas.LineNumbers.{in_line_is}
use Rattle.society_core.specs.Book.{Book, ends_of, front, is_applied, is_one_of, return_at}
use Rattle.society_core.specs.Keys.{bytes_cmp}
use Rattle.society_core.specs.declared.return_key.ReturnKey.{ReturnKey}
use Rattle.society_core.specs.declared.transmission_key.TransmissionKey.{TransmissionKey}
use Rattle.society_rows.specs.Layout as layout
use Rattle.society_rows.specs.Reads.{Lists, ListsKeys, has_key}
use Rattle.society_book.specs.BookRows.{return_row, row_of_some}
use Rattle.society_book.specs.DerivedRows.{front_rows, knows_sender, works_to}
use Rattle.society_book.specs.EndLists.{end_listed, ReadsEnds}
use Rattle.society_book.specs.Shown.{ShowFront}
use Rattle.society_book.proofs.lemmas.rows_alike.BookLemmas.{IsRefilled}
use Rattle.society_book.proofs.lemmas.rows_alike.KeyRows.{return_listed}
use Rattle.society_book.proofs.lemmas.rows_alike.NamedRows.{found_by_name, one_or_none}
use Rattle.society_book.proofs.lemmas.shown.FrontRows.{front_of_nobody, fronts_named}
use Rattle.work_ids.specs.Blanks.{without_trailing_blanks}
use Rattle.work_ids.specs.SegmentEnds.{StatedEnd}
use Rattle.book_audit.specs.Standing.{HoldsLines, IsReach, LearnsReach}
use Rattle.book_audit.specs.declared.reached.Reach.{Reach}
use Rattle.book_audit.specs.declared.reached.Reached.{Reached}
use Rattle.book_audit.proofs.lemmas.orders.OrdersAgain.{the_same}

-- what is found of a sender's front shows it
pub front_there : (o : Office) (b : Book) (db : Trees) → HoldsLines o b db → (s : List ℕ) (found : List Row) → Lists layout.fronts (has_key (Text s ∷ [])) 1 db found → ShowFront (front b s) found
front_there o b db holds s found lists =
    shows (knows_sender b s) refl (one_or_none (knows_sender b s) (Text s ∷ Int (pos (front b s)) ∷ Int (pos (works_to o b s)) ∷ []) found (found_by_name layout.fronts (front_rows o b) 1 db found s holds.fronts (fronts_named o b) lists))
  where
    shows : (x : Bool) → knows_sender b s ≡ x → found ≡ cond x ((Text s ∷ Int (pos (front b s)) ∷ Int (pos (works_to o b s)) ∷ []) ∷ []) [] → ShowFront (front b s) found
    shows true is e = inr (s, pos (works_to o b s), e)
    shows false is e = inl (e, front_of_nobody b s is)

-- whether a number is in its sender's line is told by the ends and the front
pub line_told : (o : Office) (b : Book) (db : Trees) → HoldsLines o b db → (key : TransmissionKey) (ends : List StatedEnd) (n : ℕ) (t : Bool) → ReadsEnds key.sender db ends → n ≡ front b key.sender
    → (leads_to (end_listed ends) n ≡ true → IsWithinEnd (end_listed ends) n → t ≡ is_one_of (numbers_up_to (end_listed ends) n) key.number) → t ≡ is_applied b key
line_told o b db holds key ends n t reads is says =
    let s = key.sender in
    let listed : end_listed ends ≡ ends_of b s = reads b holds.sent.ends in
    let order = sound_order b holds.sound s in
    let led : leads_to (end_listed ends) n ≡ true = ap₂ leads_to listed is ∙ front_led b.transmissions b.ends s in
    let within : IsWithinEnd (end_listed ends) n =
    subst (λ (es : StatedEnds). IsWithinEnd es n) (sym listed)
    (subst (λ (k : ℕ). IsWithinEnd (ends_of b s) k) (sym is) (front_fits b b s order.right (order_fits b s order) (λ k there. there))) in
    says led within ∙ ap₂ (λ (es : StatedEnds) (k : ℕ). is_one_of (numbers_up_to es k) key.number) listed is ∙ sym (in_line_is b s key.number)

-- how far one sender more came is known
pub learned : (db : Trees) (old new : Reached) (s : List ℕ) (reach : Reach) → ((q : List ℕ) → tree.get bytes_cmp new.by_sender q ≡ cond (eq_by_cmp bytes_cmp s q) (Some reach) (tree.get bytes_cmp old.by_sender q)) → IsReach s db reach → LearnsReach s old new db
learned db old new s reach put here known = (λ q found there. by_case q found (eq_by_cmp bytes_cmp s q) refl (sym (put q) ∙ there), ap is_some (put s) ∙ itself (eq_by_cmp bytes_cmp s s) (is_eq-slice_cmp s s ∙ (bytes_eq-Decides s s).1 refl))
  where
    by_case : (q : List ℕ) (found : Reach) (c : Bool) → eq_by_cmp bytes_cmp s q ≡ c → cond c (Some reach) (tree.get bytes_cmp old.by_sender q) ≡ Some found → IsReach q db found
    by_case q found true same is = subst (λ (x : List ℕ). IsReach x db found) ((bytes_eq-Decides s q).0 (sym (is_eq-slice_cmp s q) ∙ same)) (subst (λ (r : Reach). IsReach s db r) (the_same reach found is) here)
    by_case q found false apart is = known q found is

    itself : (c : Bool) → c ≡ true → is_some (cond c (Some reach) (tree.get bytes_cmp old.by_sender s)) ≡ true
    itself true is = refl
    itself false is = absurd (false≢true is)

-- a return is found where it is there
pub return_told : (o : Office) (b : Book) (db : Trees) → HoldsLines o b db → (key : ReturnKey) → IsRefilled key → (found : List Row)
    → ListsKeys layout.returns (has_key (Text (without_trailing_blanks key.reporter) ∷ Int (pos key.number) ∷ [])) 2 db found → (none : Bool) → none ≡ (length found == 0) → not none ≡ is_some (return_at b key)
return_told o b db holds key whole found keys none is = by_case (return_at b key) (keys.cut ∙ ap (map (take 2)) (return_listed b db holds.returns key whole keys.whole keys.listed))
  where
    by_case : (kept : Option (List ℕ)) → found ≡ map (take 2) (row_of_some (return_row key) kept) → not none ≡ is_some kept
    by_case None e = ap not (is ∙ ap (λ (l : List Row). length l == 0) e)
    by_case (Some body) e = ap not (is ∙ ap (λ (l : List Row). length l == 0) e)
