-- Why an order is not answered, one number or return after another.
use Rattle.std.proofs.Common.{◌≡◌, ◌∙◌, ◌&&◌, ◌+◌, ◌<◌, ℕ, Bool, true, false, cond, List, [], ◌∷◌, ◌++◌, Option, Some, None, drop, get_or, is_some, length, refl, ap, sym, take}
use Rattle.std.proofs.lemmas.List.{take-append-drop, take_more}
use Rattle.std.proofs.lemmas.Bool.{false≢true}
use Rattle.std.specs.List.{list_all}
use Rattle.share_rules.specs.declared.office.Office.{Office}
use Rattle.sqlite_trees.specs.Tree.{Trees}
use Rattle.society_book.specs.Kept.{HoldsBook}
use Rattle.society_core.specs.Answers.{cut_refusal, first_refusal, refusal_or_later}
use Rattle.society_core.specs.Book.{Book, front, is_applied, return_at}
use Rattle.society_core.specs.Candidates.{ReachesCut}
use Rattle.society_core.specs.Orders.{Order}
use Rattle.society_core.specs.declared.refusal.Refusal.{Refusal}
use Rattle.society_core.specs.declared.refusal.Refusal.TheVariants.{Cut, ReturnUnknown}
use Rattle.society_core.specs.declared.return_key.ReturnKey.{ReturnKey}
use Rattle.society_core.specs.declared.transmission_key.TransmissionKey.{TransmissionKey}
use Rattle.book_audit.specs.Standing.{HoldsLines}
use Rattle.order_credits.specs.Refused.{credit_refusal, unknown_refusal}

-- tables that hold a book have what its senders sent, and how far they came
pub lines_of : (o : Office) (b : Book) (db : Trees) → HoldsBook o b db → HoldsLines o b db
lines_of o b db holds = record {
  sound = holds.sound;
  sent = record { transmissions = holds.kept.transmissions; ends = holds.kept.ends };
  returns = holds.kept.returns;
  fronts = holds.derived.fronts;
}

-- what refuses nothing yet leaves it to what comes later
pub refused_later : {X : Type 0} (f : X → Option Refusal) (xs : List X) (x : X) → first_refusal f xs ≡ None → first_refusal f (xs ++ x ∷ []) ≡ f x
refused_later f [] x none = last (f x)
  where
    last : (r : Option Refusal) → refusal_or_later r None ≡ r
    last (Some refused) = refl
    last None = refl
refused_later f (y ∷ ys) x none = by_case (f y) none (λ later. refused_later f ys x later)
  where
    by_case : (r : Option Refusal) → refusal_or_later r (first_refusal f ys) ≡ None → (first_refusal f ys ≡ None → first_refusal f (ys ++ x ∷ []) ≡ f x) → refusal_or_later r (first_refusal f (ys ++ x ∷ [])) ≡ f x
    by_case (Some refused) e later = absurd (cc)
    by_case None e later = later e

-- the first that refuses does so whatever follows
pub refused_first : {X : Type 0} (f : X → Option Refusal) (xs ys : List X) (refused : Refusal) → first_refusal f xs ≡ Some refused → first_refusal f (xs ++ ys) ≡ Some refused
refused_first f [] ys refused is = absurd (cc)
refused_first f (x ∷ xs) ys refused is = by_case (f x) is (λ later. refused_first f xs ys refused later)
  where
    by_case : (r : Option Refusal) → refusal_or_later r (first_refusal f xs) ≡ Some refused → (first_refusal f xs ≡ Some refused → first_refusal f (xs ++ ys) ≡ Some refused) → refusal_or_later r (first_refusal f (xs ++ ys)) ≡ Some refused
    by_case (Some other) e later = e
    by_case None e later = later e

-- what the next one says is the first refusal where it refuses, and where it does not there is none up to it
pub refused_at : {X : Type 0} (f : X → Option Refusal) (xs : List X) (i : ℕ) (x : X) (r : Option Refusal) → i < length xs → x ≡ get_or xs i x → first_refusal f (take i xs) ≡ None → r ≡ f x → is_some r ≡ true → r ≡ first_refusal f xs
refused_at {X} f xs i x r within is none says some = by_case r some (next ∙ sym says)
  where
    next : first_refusal f (take (i + 1) xs) ≡ f x
    next = ap (first_refusal f) (take_more xs i x within ∙ ap (λ (y : X). take i xs ++ y ∷ []) (sym is)) ∙ refused_later f (take i xs) x none

    by_case : (z : Option Refusal) → is_some z ≡ true → first_refusal f (take (i + 1) xs) ≡ z → z ≡ first_refusal f xs
    by_case None some e = absurd (false≢true some)
    by_case (Some refused) some e = sym (ap (first_refusal f) (sym (take-append-drop (i + 1) xs)) ∙ refused_first f (take (i + 1) xs) (drop (i + 1) xs) refused e)

pub passed_at : {X : Type 0} (f : X → Option Refusal) (xs : List X) (i : ℕ) (x : X) (r : Option Refusal) → i < length xs → x ≡ get_or xs i x → first_refusal f (take i xs) ≡ None → r ≡ f x → is_some r ≡ false → first_refusal f (take (i + 1) xs) ≡ None
passed_at {X} f xs i x r within is none says lacks =
    ap (first_refusal f) (take_more xs i x within ∙ ap (λ (y : X). take i xs ++ y ∷ []) (sym is)) ∙ refused_later f (take i xs) x none ∙ sym says ∙ nothing r lacks
  where
    nothing : (z : Option Refusal) → is_some z ≡ false → z ≡ None
    nothing None e = refl
    nothing (Some refused) e = absurd (false≢true (sym e))

-- a return that is there is not refused, and one that is not is
pub is_known : (b : Book) (key : ReturnKey) → is_some (return_at b key) ≡ true → None ≡ unknown_refusal b key
is_known b key is = ap (λ (t : Bool). cond t None (Some (ReturnUnknown key))) (sym is)

pub is_unknown : (b : Book) (key : ReturnKey) → is_some (return_at b key) ≡ false → Some (ReturnUnknown key) ≡ unknown_refusal b key
is_unknown b key is = ap (λ (t : Bool). cond t None (Some (ReturnUnknown key))) (sym is)

-- a number that is in the line is not refused, and one that is not is
pub in_line : (b : Book) (key : TransmissionKey) → is_applied b key ≡ true → None ≡ cut_refusal b key
in_line b key is = ap (λ (t : Bool). cond t None (Some (Cut key.sender (front b key.sender)))) (sym is)

pub not_in_line : (b : Book) (key : TransmissionKey) → is_applied b key ≡ false → Some (Cut key.sender (front b key.sender)) ≡ cut_refusal b key
not_in_line b key is = ap (λ (t : Bool). cond t None (Some (Cut key.sender (front b key.sender)))) (sym is)

first_none : (r later : Option Refusal) → refusal_or_later r later ≡ None → r ≡ None
first_none (Some refused) later is = absurd (cc)
first_none None later is = refl

second_none : (r later : Option Refusal) → refusal_or_later r later ≡ None → later ≡ None
second_none (Some refused) later is = absurd (cc)
second_none None later is = is

passes : (b : Book) (key : TransmissionKey) (t : Bool) → is_applied b key ≡ t → cut_refusal b key ≡ None → is_applied b key ≡ true
passes b key true is none = is
passes b key false is none = absurd (let no : None ≡ Some (Cut key.sender (front b key.sender)) = sym none ∙ sym (not_in_line b key is) in cc)

both_true : (a c : Bool) → a ≡ true → c ≡ true → (a && c) ≡ true
both_true true c a is = is
both_true false c a is = absurd (false≢true a)

all_pass : (b : Book) (keys : List TransmissionKey) → first_refusal (cut_refusal b) keys ≡ None → list_all (is_applied b) keys ≡ true
all_pass b [] none = refl
all_pass b (key ∷ keys) none =
    both_true (is_applied b key) (list_all (is_applied b) keys) (passes b key (is_applied b key) refl (first_none (cut_refusal b key) (first_refusal (cut_refusal b) keys) none))
    (all_pass b keys (second_none (cut_refusal b key) (first_refusal (cut_refusal b) keys) none))

-- an order that nothing refuses has a cut that is reached
pub unrefused_reaches : (b : Book) (order : Order) → credit_refusal b order ≡ None → ReachesCut b order
unrefused_reaches b order none = all_pass b order.cut (first_none (first_refusal (cut_refusal b) order.cut) (first_refusal (unknown_refusal b) order.returns) none)
