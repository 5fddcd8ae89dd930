-- Balances of accounts, added one after another in the order of a map.
use Rattle.society_closings.specs.Closings.{row_of_account}
use Rattle.std.proofs.Common.{◌≡◌, ◌∙◌, ◌++◌, ◌∷◌, [], ℕ, Bool, true, false, cond, List, Some, Vec, IsPermutation, append_assoc, ap, bytes_eq, filter, map, nat_cmp, refl, subst, sym}
use Rattle.std.proofs.lemmas.List.{append-nil, map-append}
use Rattle.std.proofs.lemmas.List.Sorted.{IsPermutation-refl}
use Rattle.std.proofs.lemmas.Map.Text.{is_eq-slice_cmp}
use Rattle.std.proofs.lemmas.Slice.Eq.{bytes_eq-Decides}
use Rattle.std.specs.BTreeMap.{is_at}
use Rattle.std.specs.Cmp.Lexicographic.{slice_cmp}
use Rattle.std.specs.List.{AllByRecursion}
use Rattle.std.specs.List.Sorted.{IsStrictlySortedBy}
use Rattle.std.specs.Map.{keys_of, lookup}
use Rattle.std.specs.Ordering.{is_eq}
use Rattle.std.specs.declared.cmp.Ordering.TheVariants.{Less}
use Rattle.std.specs.declared.alloc.Global.{Global}
use Rattle.sqlite_trees.specs.Tree.{Trees, rowid}
use Rattle.sqlite_trees.specs.View.{is_int}
use Rattle.sqlite_value.specs.Order.{Row}
use Rattle.society_rows.specs.Layout as layout
use Rattle.society_rows.specs.Stored.{AreNumbered, KeepsOthers, rows_in, values_of}
use Rattle.society_book.specs.BookRows.{row_of_some}
use Rattle.society_book.specs.DerivedRows.{is_named}
use Rattle.society_book.proofs.lemmas.rows_alike.KeyRows.{either_way}
use Rattle.book_audit.specs.Balances.{balance_row}
use Rattle.book_audit.specs.declared.totals.Totals.{Totals}
use Rattle.book_audit.proofs.lemmas.balances.BalanceRows.{in_order}
use Rattle.book_derivation.specs.Money.{AddsBalance, WritesBalances}
use Rattle.book_derivation.proofs.lemmas.Additions.{added_behind, others_on, others_same}

-- an account's text and its units
abbrev pub Entry : Type 0
Entry = Vec ℕ Global × ℕ

-- the rows of accounts with these units
abbrev pub rows_of : List Entry → List Row
rows_of entries = map (λ (e : Entry). balance_row e.0.items e.1) entries

-- of all accounts the balances of those that are not left are added, and nothing else
pub record WritesUpTo (all left : List Entry) (old new : Trees) : Type 0 where
  pub done : List Entry
  pub parts : done ++ left ≡ all
  pub rows : IsPermutation (rows_of done ++ rows_in layout.balances old) (rows_in layout.balances new)
  pub numbered : AreNumbered layout.balances old → AreNumbered layout.balances new
  pub others : KeepsOthers layout.balances old new

-- no account
pub none_added : (all left : List Entry) (db : Trees) → left ≡ all → WritesUpTo all left db db
none_added all left db is = record {
  done = [];
  parts = is;
  rows = IsPermutation-refl (rows_in layout.balances db);
  numbered = λ h. h;
  others = others_same layout.balances db;
}

-- one account more
pub one_added : (all left more : List Entry) (account : Vec ℕ Global) (units : ℕ) (old mid new : Trees) → left ≡ (account, units) ∷ more → WritesUpTo all left old mid → AddsBalance account.items units mid new → WritesUpTo all more old new
one_added all left more account units old mid new is so_far adds =
    let e : Entry = (account, units) in
    let row : Row = balance_row account.items units in
    record {
      done = so_far.done ++ e ∷ [];
      parts = append_assoc so_far.done (e ∷ []) more ∙ ap (λ (l : List Entry). so_far.done ++ l) (sym is) ∙ so_far.parts;
      rows = subst (λ (l : List Row). IsPermutation (l ++ rows_in layout.balances old) (rows_in layout.balances new)) (sym (map-append (λ (x : Entry). balance_row x.0.items x.1) so_far.done (e ∷ [])))
          (added_behind (rows_in layout.balances old) (rows_in layout.balances mid) (rows_in layout.balances new) (rows_of so_far.done) (row ∷ []) so_far.rows adds.rows);
      numbered = λ h. adds.numbered (so_far.numbered h);
      others = others_on layout.balances old mid new so_far.others adds.others;
    }

-- an account that comes before others has none of their rows
none_later : (name : List ℕ) (es : List Entry) → AllByRecursion (λ (k : Vec ℕ Global). slice_cmp nat_cmp name k.items ≡ Less) (keys_of es) → filter (is_named name) (rows_of es) ≡ []
none_later name [] all = refl
none_later name (e ∷ es) all =
    ap (λ (b : Bool). cond b (balance_row e.0.items e.1 ∷ filter (is_named name) (rows_of es)) (filter (is_named name) (rows_of es))) (either_way e.0.items name ∙ sym (is_eq-slice_cmp name e.0.items) ∙ ap is_eq all.0)
    ∙ none_later name es all.1

-- the rows of a name among those of accounts in order are what is found of it
pub rows_found : (es : List Entry) → IsStrictlySortedBy (λ (x y : Vec ℕ Global). slice_cmp nat_cmp x.items y.items) (keys_of es) → (name : List ℕ)
    → filter (is_named name) (rows_of es) ≡ row_of_some (balance_row name) (lookup (is_at (λ (k : Vec ℕ Global). slice_cmp nat_cmp name k.items)) es)
unfolding IsStrictlySortedBy
rows_found [] sorted name = refl
rows_found (e ∷ es) sorted name =
    by_case (bytes_eq e.0.items name) refl (rows_found es sorted.1 name)
    ∙ ap (λ (b : Bool). row_of_some (balance_row name) (cond b (Some e.1) (lookup (is_at (λ (k : Vec ℕ Global). slice_cmp nat_cmp name k.items)) es))) (either_way e.0.items name ∙ sym (is_eq-slice_cmp name e.0.items))
  where
    by_case : (b : Bool) → bytes_eq e.0.items name ≡ b → filter (is_named name) (rows_of es) ≡ row_of_some (balance_row name) (lookup (is_at (λ (k : Vec ℕ Global). slice_cmp nat_cmp name k.items)) es)
        → cond b (balance_row e.0.items e.1 ∷ filter (is_named name) (rows_of es)) (filter (is_named name) (rows_of es)) ≡ row_of_some (balance_row name) (cond b (Some e.1) (lookup (is_at (λ (k : Vec ℕ Global). slice_cmp nat_cmp name k.items)) es))
    by_case true is later =
        let same = (bytes_eq-Decides e.0.items name).0 is in
        ap (λ (l : List Row). balance_row e.0.items e.1 ∷ l) (subst (λ (l : List ℕ). filter (is_named l) (rows_of es) ≡ []) same (none_later e.0.items es sorted.0)) ∙ ap (λ (l : List ℕ). balance_row l e.1 ∷ []) same
    by_case false is later = later

-- once none is left
pub all_added : (totals : Totals) (left : List Entry) (old new : Trees) → left ≡ [] → IsStrictlySortedBy (λ (x y : Vec ℕ Global). slice_cmp nat_cmp x.items y.items) (keys_of totals.units.entries) → WritesUpTo totals.units.entries left old new → WritesBalances totals old new
all_added totals left old new none sorted so_far = record {
  others = so_far.others;
  has = λ credits comes empty.
      let all : List Row = rows_of totals.units.entries in
      let whole : so_far.done ≡ totals.units.entries = sym (append-nil so_far.done) ∙ ap (λ (l : List Entry). so_far.done ++ l) (sym none) ∙ so_far.parts in
      let moved : IsPermutation all (rows_in layout.balances new) =
      subst (λ (l : List Row). IsPermutation l (rows_in layout.balances new)) (ap (λ (l : List Row). rows_of so_far.done ++ map (values_of layout.balances) l) empty ∙ append-nil (rows_of so_far.done) ∙ ap rows_of whole) so_far.rows in
      in_order (row_of_account credits) all (rows_in layout.balances new) moved
      (λ name. subst (λ (l : List Row). IsPermutation l (filter (is_named name) all)) (rows_found totals.units.entries sorted name ∙ comes name) (IsPermutation-refl (filter (is_named name) all)));
  numbered = λ empty. so_far.numbered (numbered_none empty);
}
  where
    numbered_none : old layout.balances.tree ≡ [] → AreNumbered layout.balances old
    numbered_none empty = subst (AllByRecursion (λ (r : Row). is_int (rowid r) ≡ true)) (sym empty) tt
