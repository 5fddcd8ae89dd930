-- From the two sides of a place in ordered rows to the words of the contracts.
use Rattle.std.proofs.Common.{◌≡◌, ◌≢◌, Bool, true, false, not, List, [], ◌∷◌, ◌++◌, filter, take, drop, refl, sym, ap, ap₂, ◌∙◌, subst, Ordering, Less, Equal, Greater, is_lt, is_gt, is_eq, true≢false, eqb, eq-eqb, Result, Ok, Err}
use Rattle.std.specs.List.{AllByRecursion}
use Rattle.std.specs.Cmp.{IsTotalOrder}
use Rattle.std.specs.Result.{OnOk, OnErr}
use Rattle.std.proofs.lemmas.Bool.{eqb-true}
use Rattle.std.proofs.lemmas.Cmp.{alike_right}
use Rattle.std.proofs.lemmas.List.Elements.{filter-append}
use Rattle.sqlite_value.specs.Order.{Row, value_cmp}
use Rattle.sqlite_value.specs.declared.keys.Order.{Order}
use Rattle.sqlite_value.specs.Keys.{entry_cmp, prefix_cmp}
use Rattle.sqlite_trees.specs.declared.store.Shape.{Shape}
use Rattle.sqlite_trees.specs.Tree.{rowid, IsAscending, from_key, up_to_key, put_row, insert_entry}
use Rattle.sqlite_trees.specs.View.{IsShaped}
use Rattle.sqlite_trees.proofs.ListLemmas.{all_weaker, ascending_weaker, filter_all, filter_none}
use Rattle.sqlite_trees.proofs.TreeLemmas.{AtMost, IsSortedTree, prefix_cmp_follows, not_true}
use Rattle.memory_store.specs.Search.{IsCutOnce, AllPass, AllFail, head_passes}

less : (o : Ordering) → is_lt o ≡ true → o ≡ Less
less Less h = refl
less Equal h = absurd (true≢false (sym h))
less Greater h = absurd (true≢false (sym h))

equal : (o : Ordering) → is_eq o ≡ true → o ≡ Equal
equal Less h = absurd (true≢false (sym h))
equal Equal h = refl
equal Greater h = absurd (true≢false (sym h))

greater : (o : Ordering) → is_lt o ≡ false → is_eq o ≡ false → o ≡ Greater
greater Less h k = absurd (true≢false h)
greater Equal h k = absurd (true≢false k)
greater Greater h k = refl

not_false : (b : Bool) → not b ≡ false → b ≡ true
not_false true h = refl
not_false false h = absurd (true≢false h)

pub not_is : (b : Bool) → not b ≡ true → b ≡ false
not_is true h = absurd (true≢false (sym h))
not_is false h = refl

pub cut_below : (o : Order) (key : Row) (rows : List Row) → IsSortedTree o rows → IsCutOnce (λ e. is_lt (prefix_cmp o e key)) rows
cut_below o key rows up = ascending_weaker (AtMost o) _ (λ a b h. (prefix_cmp_follows o key a b h).0) rows up

pub cut_up_to : (o : Order) (key : Row) (rows : List Row) → IsSortedTree o rows → IsCutOnce (λ e. not (is_gt (prefix_cmp o e key))) rows
cut_up_to o key rows up =
    ascending_weaker (AtMost o) _ (λ a b h t. ap not (not_true _ (λ over. true≢false (sym t ∙ ap not ((prefix_cmp_follows o key a b h).1 over))))) rows up

from_key-sides : (o : Order) (key : Row) (xs ys : List Row) → AllPass (λ e. is_lt (prefix_cmp o e key)) xs → AllFail (λ e. is_lt (prefix_cmp o e key)) ys → from_key o key (xs ++ ys) ≡ ys
from_key-sides o key [] [] pass fail = refl
from_key-sides o key [] (y ∷ ys) pass fail = rw fail.0
from_key-sides o key (x ∷ xs) ys pass fail = rw pass.0 (from_key-sides o key xs ys pass.1 fail)

pub from_key-split : (o : Order) (key : Row) (rows xs ys : List Row) → rows ≡ xs ++ ys
    → AllPass (λ e. is_lt (prefix_cmp o e key)) xs → AllFail (λ e. is_lt (prefix_cmp o e key)) ys → ys ≡ from_key o key rows
from_key-split o key rows xs ys is pass fail = sym (ap (from_key o key) is ∙ from_key-sides o key xs ys pass fail)

up_to_key-sides : (o : Order) (key : Row) (xs ys : List Row) → AllPass (λ e. not (is_gt (prefix_cmp o e key))) xs → AllFail (λ e. not (is_gt (prefix_cmp o e key))) ys → up_to_key o key (xs ++ ys) ≡ xs
up_to_key-sides o key [] [] pass fail = refl
up_to_key-sides o key [] (y ∷ ys) pass fail = rw (not_false _ fail.0)
up_to_key-sides o key (x ∷ xs) ys pass fail = rw (not_is _ pass.0) (ap (λ l. x ∷ l) (up_to_key-sides o key xs ys pass.1 fail))

pub up_to_key-split : (o : Order) (key : Row) (rows xs ys : List Row) → rows ≡ xs ++ ys
    → AllPass (λ e. not (is_gt (prefix_cmp o e key))) xs → AllFail (λ e. not (is_gt (prefix_cmp o e key))) ys → xs ≡ up_to_key o key rows
up_to_key-split o key rows xs ys is pass fail = sym (ap (up_to_key o key) is ∙ up_to_key-sides o key xs ys pass fail)

-- The rows rise by what `f` says of each, and the place is before the first that is not below `k`.
module _ {K : Type 0} {R : K → K → Ordering} (total : IsTotalOrder R) (f : Row → K) (k : K) where
  abbrev Below : Row → Bool
  Below e = is_lt (R (f e) k)

  abbrev Same : Row → Bool
  Same e = is_eq (R (f e) k)

  abbrev Rises : List Row → Type 0
  Rises = IsAscending (λ a b. R (f a) (f b) ≡ Less)

  pub cut_rising : (rows : List Row) → Rises rows → IsCutOnce Below rows
  cut_rising rows up = ascending_weaker (λ a b. R (f a) (f b) ≡ Less) _ (λ a b h t. ap is_lt (total.trans _ _ k h (less _ t))) rows up

  earlier : (xs : List Row) → AllPass Below xs → AllFail Same xs
  earlier = all_weaker _ (λ e. Same e ≡ false) (λ e h. ap is_eq (less _ h))

  later : (y : Row) (ys : List Row) → Below y ≡ false → AllByRecursion (λ r. R (f y) (f r) ≡ Less) ys → AllFail Same ys
  later y ys h = all_weaker _ (λ r. Same r ≡ false) (λ r above. go r above (R (f r) k) refl) ys
    where
      go : (r : Row) → R (f y) (f r) ≡ Less → (o : Ordering) → R (f r) k ≡ o → is_eq o ≡ false
      go r above Less e = refl
      go r above Greater e = refl
      go r above Equal e = absurd (true≢false (sym (ap is_lt (sym (alike_right total (f r) k (f y) e) ∙ above)) ∙ h))

  rising-right : (xs ys : List Row) → Rises (xs ++ ys) → Rises ys
  rising-right [] ys up = up
  rising-right (x ∷ xs) ys up = rising-right xs ys up.1

  others : (ys : List Row) → Rises ys → AllFail Below ys → head_passes Same ys ≡ false → AllFail Same ys
  others [] up fail h = tt
  others (y ∷ ys) up fail h = (h, later y ys fail.0 up.0)

  kept : (es : List Row) → AllFail Same es → filter (λ e. not (Same e)) es ≡ es
  kept es fail = filter_all (λ e. not (Same e)) es (all_weaker _ (λ e. not (Same e) ≡ true) (λ e h. ap not h) es fail)

  only_head : (ys : List Row) → Rises ys → AllFail Below ys → head_passes Same ys ≡ true → filter Same ys ≡ take 1 ys
  only_head [] up fail h = absurd (true≢false (sym h))
  only_head (y ∷ ys) up fail h = rw (h, filter_none Same ys (later y ys fail.0 up.0))

  without_head : (ys : List Row) → Rises ys → AllFail Below ys → head_passes Same ys ≡ true → filter (λ e. not (Same e)) ys ≡ drop 1 ys
  without_head [] up fail h = absurd (true≢false (sym h))
  without_head (y ∷ ys) up fail h = rw h (kept ys (later y ys fail.0 up.0))

  module _ (rows xs ys : List Row) (is : rows ≡ xs ++ ys) (up : Rises rows) (pass : AllPass Below xs) (fail : AllFail Below ys) where
    behind : Rises ys
    behind = rising-right xs ys (subst Rises is up)

    pub filter-found : head_passes Same ys ≡ true → filter Same rows ≡ take 1 ys
    filter-found h = ap (filter Same) is ∙ (filter-append Same xs ys ∙ ap₂ ◌++◌ (filter_none Same xs (earlier xs pass)) (only_head ys behind fail h))

    pub filter-missing : head_passes Same ys ≡ false → filter Same rows ≡ []
    filter-missing h = ap (filter Same) is ∙ (filter-append Same xs ys ∙ ap₂ ◌++◌ (filter_none Same xs (earlier xs pass)) (filter_none Same ys (others ys behind fail h)))

    pub without-found : head_passes Same ys ≡ true → xs ++ drop 1 ys ≡ filter (λ e. not (Same e)) rows
    without-found h =
        sym (ap (filter (λ e. not (Same e))) is ∙ (filter-append (λ e. not (Same e)) xs ys ∙ ap₂ ◌++◌ (kept xs (earlier xs pass)) (without_head ys behind fail h)))

    pub without-missing : head_passes Same ys ≡ false → rows ≡ filter (λ e. not (Same e)) rows
    without-missing h =
        is ∙ sym (ap (filter (λ e. not (Same e))) is ∙ (filter-append (λ e. not (Same e)) xs ys ∙ ap₂ ◌++◌ (kept xs (earlier xs pass)) (kept ys (others ys behind fail h))))

module _ (new : Row) where
  put_row-sides : (xs ys : List Row) → AllPass (λ e. is_lt (value_cmp (rowid e) (rowid new))) xs → put_row new (xs ++ ys) ≡ xs ++ put_row new ys
  put_row-sides [] ys pass = refl
  put_row-sides (x ∷ xs) ys pass = rw (less _ pass.0) (ap (λ l. x ∷ l) (put_row-sides xs ys pass.1))

  put_row-here : (ys : List Row) → head_passes (λ e. is_eq (value_cmp (rowid e) (rowid new))) ys ≡ true → put_row new ys ≡ new ∷ drop 1 ys
  put_row-here [] h = absurd (true≢false (sym h))
  put_row-here (y ∷ ys) h = rw (equal _ h)

  put_row-before : (ys : List Row) → AllFail (λ e. is_lt (value_cmp (rowid e) (rowid new))) ys → head_passes (λ e. is_eq (value_cmp (rowid e) (rowid new))) ys ≡ false
      → put_row new ys ≡ new ∷ ys
  put_row-before [] fail h = refl
  put_row-before (y ∷ ys) fail h = rw (greater _ fail.0 h)

  pub put_row-found : (rows xs ys : List Row) → rows ≡ xs ++ ys → AllPass (λ e. is_lt (value_cmp (rowid e) (rowid new))) xs
      → head_passes (λ e. is_eq (value_cmp (rowid e) (rowid new))) ys ≡ true → xs ++ new ∷ drop 1 ys ≡ put_row new rows
  put_row-found rows xs ys is pass h = sym (ap (put_row new) is ∙ (put_row-sides xs ys pass ∙ ap (λ l. xs ++ l) (put_row-here ys h)))

  pub put_row-missing : (rows xs ys : List Row) → rows ≡ xs ++ ys → AllPass (λ e. is_lt (value_cmp (rowid e) (rowid new))) xs → AllFail (λ e. is_lt (value_cmp (rowid e) (rowid new))) ys
      → head_passes (λ e. is_eq (value_cmp (rowid e) (rowid new))) ys ≡ false → xs ++ new ∷ ys ≡ put_row new rows
  put_row-missing rows xs ys is pass fail h = sym (ap (put_row new) is ∙ (put_row-sides xs ys pass ∙ ap (λ l. xs ++ l) (put_row-before ys fail h)))

module _ (o : Order) (new : Row) where
  insert_entry-sides : (xs ys : List Row) → AllPass (λ e. is_lt (entry_cmp o e new)) xs → insert_entry o new (xs ++ ys) ≡ xs ++ insert_entry o new ys
  insert_entry-sides [] ys pass = refl
  insert_entry-sides (x ∷ xs) ys pass = rw (less _ pass.0) (ap (λ l. x ∷ l) (insert_entry-sides xs ys pass.1))

  insert_entry-here : (ys : List Row) → head_passes (λ e. is_eq (entry_cmp o e new)) ys ≡ true → insert_entry o new ys ≡ ys
  insert_entry-here [] h = absurd (true≢false (sym h))
  insert_entry-here (y ∷ ys) h = rw (equal _ h)

  insert_entry-before : (ys : List Row) → AllFail (λ e. is_lt (entry_cmp o e new)) ys → head_passes (λ e. is_eq (entry_cmp o e new)) ys ≡ false → insert_entry o new ys ≡ new ∷ ys
  insert_entry-before [] fail h = refl
  insert_entry-before (y ∷ ys) fail h = rw (greater _ fail.0 h)

  pub insert_entry-found : (rows xs ys : List Row) → rows ≡ xs ++ ys → AllPass (λ e. is_lt (entry_cmp o e new)) xs
      → head_passes (λ e. is_eq (entry_cmp o e new)) ys ≡ true → rows ≡ insert_entry o new rows
  insert_entry-found rows xs ys is pass h = is ∙ sym (ap (insert_entry o new) is ∙ (insert_entry-sides xs ys pass ∙ ap (λ l. xs ++ l) (insert_entry-here ys h)))

  pub insert_entry-missing : (rows xs ys : List Row) → rows ≡ xs ++ ys → AllPass (λ e. is_lt (entry_cmp o e new)) xs → AllFail (λ e. is_lt (entry_cmp o e new)) ys
      → head_passes (λ e. is_eq (entry_cmp o e new)) ys ≡ false → xs ++ new ∷ ys ≡ insert_entry o new rows
  insert_entry-missing rows xs ys is pass fail h = sym (ap (insert_entry o new) is ∙ (insert_entry-sides xs ys pass ∙ ap (λ l. xs ++ l) (insert_entry-before ys fail h)))

pub same_order : (a b : Order) → false ≡ not (eqb a.digits b.digits) → a ≡ b
same_order a b h = ap (λ d. record { digits = d }) (eqb-true a.digits b.digits (not_false _ (sym h)))

pub other_order : (a b : Order) → true ≡ not (eqb a.digits b.digits) → a ≢ b
other_order a b h same = true≢false (h ∙ ap not (eq-eqb a.digits b.digits (ap (λ (o : Order). o.digits) same)))

pub ordered_as : (shape is : Shape) (new made : List Row) → shape ≡ is → new ≡ made → IsShaped is made → ∥ IsShaped shape new ∥₁
ordered_as shape is new made same rows h = rw (same, rows) (∣ h ∣₁)

-- after a call that may have failed
pub ordered_either : {T E : Type 0} (r : Result T E) (shape is : Shape) (new made old : List Row) → shape ≡ is → OnOk r (new ≡ made) → OnErr r (new ≡ old)
    → IsShaped is made → IsShaped is old → ∥ IsShaped shape new ∥₁
ordered_either (Ok x) shape is new made old same ok err h k = ordered_as shape is new made same ok h
ordered_either (Err e) shape is new made old same ok err h k = ordered_as shape is new old same err k

pub on_ok : {T E : Type 0} (a b c : List Row) (r : Result T E) → OnOk r (a ≡ b) → b ≡ c → OnOk r (a ≡ c)
on_ok a b c (Ok x) h e = h ∙ e
on_ok a b c (Err x) h e = tt
