-- The rows before and behind a place in pieces, and what becomes of them at a write to one piece.
use Rattle.std.proofs.Common.{◌≡◌, ℕ, zero, suc, ◌+◌, ◌-◌, ◌<◌, ◌≤◌, Bool, List, [], ◌∷◌, ◌++◌, length, take, drop, get_or, set, insert, refl, sym, ap, ◌∙◌, arith, append_assoc, add-one, min, Vec, Result, Ok, Err}
use Rattle.std.specs.List.{remove}
use Rattle.std.specs.Result.{OnErr}
use Rattle.std.specs.declared.alloc.Global.{Global}
use Rattle.std.proofs.lemmas.List.{append-nil, take-append-drop, take_all, drop_all, take_more, take_min, drop_more, set_split, set-get_or}
use Rattle.sqlite_value.specs.Order.{Row}
use Rattle.memory_store.specs.Joined.{joined}
use Rattle.memory_store.specs.Pieces.{rows_before, from_place}
use Rattle.memory_store.specs.Search.{IsRowPlace, head_passes}

abbrev pub Pieces : Type 0
Pieces = List (Vec Row Global)

-- this piece is at that number
abbrev pub IsAt : Pieces → ℕ → Vec Row Global → Type 0
IsAt pieces p v = (p < length pieces) × (v ≡ get_or pieces p v)

pub split_rows : (pieces : Pieces) (p a : ℕ) → joined pieces ≡ rows_before pieces p a ++ from_place pieces p a
split_rows [] p a = refl
split_rows (x ∷ pieces) zero a =
    ap (λ l. l ++ joined pieces) (sym (take-append-drop a x.items)) ∙ append_assoc (take a x.items) (drop a x.items) (joined pieces)
split_rows (x ∷ pieces) (suc p) a =
    ap (λ l. x.items ++ l) (split_rows pieces p a) ∙ sym (append_assoc x.items (rows_before pieces p a) (from_place pieces p a))

pub from_start : (pieces : Pieces) → from_place pieces 0 0 ≡ joined pieces
from_start [] = refl
from_start (x ∷ pieces) = refl

pub before_start : (pieces : Pieces) → rows_before pieces 0 0 ≡ []
before_start [] = refl
before_start (x ∷ pieces) = refl

pub from_end : (pieces : Pieces) (p a : ℕ) → length pieces ≤ p → from_place pieces p a ≡ []
from_end [] p a h = refl
from_end (x ∷ pieces) zero a h = absurd (omega arith)
from_end (x ∷ pieces) (suc p) a h = from_end pieces p a (omega arith)

pub before_end : (pieces : Pieces) (p a : ℕ) → length pieces ≤ p → rows_before pieces p a ≡ joined pieces
before_end pieces p a h =
    sym (append-nil _) ∙ (ap (λ l. rows_before pieces p a ++ l) (sym (from_end pieces p a h)) ∙ sym (split_rows pieces p a))

-- the rows from a place are those of its piece, and then those of the next
pub from_piece : (pieces : Pieces) (p a : ℕ) (v : Vec Row Global) → IsAt pieces p v → from_place pieces p a ≡ drop a v.items ++ from_place pieces (suc p) 0
from_piece [] p a v here = absurd (omega arith)
from_piece (x ∷ pieces) zero a v here = rw (here.1, from_start pieces)
from_piece (x ∷ pieces) (suc p) a v here = from_piece pieces p a v (omega arith, here.1)

pub before_piece : (pieces : Pieces) (p a : ℕ) (v : Vec Row Global) → IsAt pieces p v → rows_before pieces p a ≡ rows_before pieces p 0 ++ take a v.items
before_piece [] p a v here = absurd (omega arith)
before_piece (x ∷ pieces) zero a v here = rw here.1
before_piece (x ∷ pieces) (suc p) a v here =
    ap (λ l. x.items ++ l) (before_piece pieces p a v (omega arith, here.1)) ∙ sym (append_assoc x.items (rows_before pieces p 0) (take a v.items))

pub before_next : (pieces : Pieces) (p : ℕ) (v : Vec Row Global) → IsAt pieces p v → rows_before pieces (suc p) 0 ≡ rows_before pieces p 0 ++ v.items
before_next [] p v here = absurd (omega arith)
before_next (x ∷ pieces) zero v here = rw (before_start pieces, here.1) (append-nil _)
before_next (x ∷ pieces) (suc p) v here =
    ap (λ l. x.items ++ l) (before_next pieces p v (omega arith, here.1)) ∙ sym (append_assoc x.items (rows_before pieces p 0) v.items)

-- the row behind a place
pub after_row : (pieces : Pieces) (p a : ℕ) (v : Vec Row Global) (row : Row) → IsAt pieces p v → a < length v.items → row ≡ get_or v.items a row
    → from_place pieces p a ≡ row ∷ from_place pieces p (a + 1)
after_row pieces p a v row here within is =
    let first : drop a v.items ≡ row ∷ drop (a + 1) v.items = drop_more v.items a row within ∙ ap (λ y. y ∷ drop (a + 1) v.items) (sym is) in
    from_piece pieces p a v here ∙ (ap (λ l. l ++ from_place pieces (suc p) 0) first ∙ ap (λ l. row ∷ l) (sym (from_piece pieces p (a + 1) v here)))

-- behind the last row of a piece is the next piece
pub after_piece : (pieces : Pieces) (p a : ℕ) (v : Vec Row Global) → IsAt pieces p v → length v.items ≤ a → from_place pieces p a ≡ from_place pieces (suc p) 0
after_piece pieces p a v here out = from_piece pieces p a v here ∙ ap (λ l. l ++ from_place pieces (suc p) 0) (drop_all a v.items out)

-- the row before a place
pub before_row : (pieces : Pieces) (p a : ℕ) (v : Vec Row Global) (row : Row) → IsAt pieces p v → a < length v.items → row ≡ get_or v.items a row
    → rows_before pieces p (a + 1) ≡ rows_before pieces p a ++ row ∷ []
before_row pieces p a v row here within is =
    let last : take (a + 1) v.items ≡ take a v.items ++ row ∷ [] = take_more v.items a row within ∙ ap (λ y. take a v.items ++ y ∷ []) (sym is) in
    before_piece pieces p (a + 1) v here ∙ (ap (λ l. rows_before pieces p 0 ++ l) last
    ∙ (sym (append_assoc (rows_before pieces p 0) (take a v.items) (row ∷ [])) ∙ ap (λ l. l ++ row ∷ []) (sym (before_piece pieces p a v here))))

-- past the last row of a piece nothing is added
pub before_past : (pieces : Pieces) (p a : ℕ) (v : Vec Row Global) → IsAt pieces p v → length v.items ≤ a → rows_before pieces p a ≡ rows_before pieces (suc p) 0
before_past pieces p a v here out =
    before_piece pieces p a v here ∙ (ap (λ l. rows_before pieces p 0 ++ l) (take_all a v.items out) ∙ sym (before_next pieces p v here))

-- a place is as good as the one at the end of its piece
pub before_min : (pieces : Pieces) (p a : ℕ) (v : Vec Row Global) → IsAt pieces p v → (n : ℕ) → n ≡ min a (length v.items) → rows_before pieces p a ≡ rows_before pieces p n
before_min pieces p a v here n is =
    before_piece pieces p a v here ∙ (ap (λ l. rows_before pieces p 0 ++ l) (sym (take_min a v.items) ∙ ap (λ k. take k v.items) (sym is)) ∙ sym (before_piece pieces p n v here))

pub in_length : (pieces : Pieces) (p a : ℕ) → IsRowPlace pieces p a → p < length pieces
in_length [] p a h = absurd h
in_length (x ∷ pieces) zero a h = omega arith
in_length (x ∷ pieces) (suc p) a h = let more = in_length pieces p a h in omega arith

pub in_row : (pieces : Pieces) (p a : ℕ) (v : Vec Row Global) → IsRowPlace pieces p a → v ≡ get_or pieces p v → a < length v.items
in_row [] p a v h is = absurd h
in_row (x ∷ pieces) zero a v h is = rw is h
in_row (x ∷ pieces) (suc p) a v h is = in_row pieces p a v h is

pub is_in : (pieces : Pieces) (p a : ℕ) (v : Vec Row Global) → IsAt pieces p v → a < length v.items → IsRowPlace pieces p a
is_in [] p a v here h = absurd (omega arith)
is_in (x ∷ pieces) zero a v here h = rw (← here.1) h
is_in (x ∷ pieces) (suc p) a v here h = is_in pieces p a v (omega arith, here.1) h

-- the first row behind a place
pub head_at : (test : Row → Bool) (pieces : Pieces) (p a : ℕ) (v : Vec Row Global) (row : Row) → IsAt pieces p v → a < length v.items → row ≡ get_or v.items a row
    → head_passes test (from_place pieces p a) ≡ test row
head_at test pieces p a v row here within is = ap (head_passes test) (after_row pieces p a v row here within is)

-- a piece of which the rows from a place on are others
pub joined-set : (pieces : Pieces) (p a : ℕ) (v w : Vec Row Global) (ys : List Row) → IsAt pieces p v → w.items ≡ take a v.items ++ ys
    → joined (set pieces p w) ≡ rows_before pieces p a ++ (ys ++ from_place pieces (suc p) 0)
joined-set [] p a v w ys here made = absurd (omega arith)
joined-set (x ∷ pieces) zero a v w ys here made =
    rw (← here.1) (ap (λ l. l ++ joined pieces) made ∙ (append_assoc (take a v.items) ys (joined pieces) ∙ ap (λ l. take a v.items ++ (ys ++ l)) (sym (from_start pieces))))
joined-set (x ∷ pieces) (suc p) a v w ys here made =
    ap (λ l. x.items ++ l) (joined-set pieces p a v w ys (omega arith, here.1) made) ∙ sym (append_assoc x.items (rows_before pieces p a) (ys ++ from_place pieces (suc p) 0))

-- the rows behind the first row behind a place
rest_at : (pieces : Pieces) (p a : ℕ) (v : Vec Row Global) → IsAt pieces p v → a < length v.items → drop 1 (from_place pieces p a) ≡ drop (a + 1) v.items ++ from_place pieces (suc p) 0
rest_at pieces p a v here within =
    ap (drop 1) (from_piece pieces p a v here ∙ ap (λ l. l ++ from_place pieces (suc p) 0) (drop_more v.items a [] within))

pub replaced : (pieces : Pieces) (p a : ℕ) (v w : Vec Row Global) (row : Row) → IsAt pieces p v → a < length v.items → w.items ≡ set v.items a row
    → joined (set pieces p w) ≡ rows_before pieces p a ++ row ∷ drop 1 (from_place pieces p a)
replaced pieces p a v w row here within made =
    let parts : w.items ≡ take a v.items ++ (row ∷ drop (a + 1) v.items) = rw add-one (made ∙ set_split v.items a row within) in
    joined-set pieces p a v w _ here parts ∙ ap (λ l. rows_before pieces p a ++ row ∷ l) (sym (rest_at pieces p a v here within))

pub taken_out : (pieces : Pieces) (p a : ℕ) (v w : Vec Row Global) → IsAt pieces p v → a < length v.items → w.items ≡ remove v.items a
    → joined (set pieces p w) ≡ rows_before pieces p a ++ drop 1 (from_place pieces p a)
taken_out pieces p a v w here within made =
    let parts : w.items ≡ take a v.items ++ drop (a + 1) v.items = rw add-one made in
    joined-set pieces p a v w _ here parts ∙ ap (λ l. rows_before pieces p a ++ l) (sym (rest_at pieces p a v here within))

pub put_in : (pieces : Pieces) (p a : ℕ) (v w : Vec Row Global) (row : Row) → IsAt pieces p v → w.items ≡ insert v.items a row
    → joined (set pieces p w) ≡ rows_before pieces p a ++ row ∷ from_place pieces p a
put_in pieces p a v w row here made =
    joined-set pieces p a v w _ here made ∙ ap (λ l. rows_before pieces p a ++ row ∷ l) (sym (from_piece pieces p a v here))

joined-remove : (pieces : Pieces) (p : ℕ) → p < length pieces → joined (remove pieces p) ≡ rows_before pieces p 0 ++ from_place pieces (suc p) 0
joined-remove [] p h = absurd (omega arith)
joined-remove (x ∷ pieces) zero h = sym (from_start pieces)
joined-remove (x ∷ pieces) (suc p) h =
    ap (λ l. x.items ++ l) (joined-remove pieces p (omega arith)) ∙ sym (append_assoc x.items (rows_before pieces p 0) (from_place pieces (suc p) 0))

-- a piece of one row goes with it
pub piece_taken_out : (pieces : Pieces) (p a : ℕ) (v : Vec Row Global) → IsAt pieces p v → a < length v.items → length v.items ≡ 1
    → joined (remove pieces p) ≡ rows_before pieces p a ++ drop 1 (from_place pieces p a)
piece_taken_out pieces p a v here within one =
    let first : a ≡ 0 = omega arith in
    let rest = rest_at pieces p a v here within ∙ ap (λ l. l ++ from_place pieces (suc p) 0) (drop_all (a + 1) v.items (omega arith)) in
    joined-remove pieces p here.0 ∙ (ap (λ l. rows_before pieces p 0 ++ l) (sym rest) ∙ ap (λ n. rows_before pieces p n ++ drop 1 (from_place pieces p a)) (sym first))

pub joined-snoc : (pieces : Pieces) (w : Vec Row Global) → joined (pieces ++ w ∷ []) ≡ joined pieces ++ w.items
joined-snoc [] w = append-nil w.items
joined-snoc (x ∷ pieces) w = ap (λ l. x.items ++ l) (joined-snoc pieces w) ∙ sym (append_assoc x.items (joined pieces) w.items)

-- a row at the end of the last piece
pub pushed : (pieces : Pieces) (p : ℕ) (v w : Vec Row Global) (row : Row) → IsAt pieces p v → length pieces ≡ suc p → w.items ≡ v.items ++ row ∷ []
    → joined (set pieces p w) ≡ joined pieces ++ row ∷ []
pushed pieces p v w row here last made =
    let none = from_end pieces (suc p) 0 (omega arith) in
    let all : joined pieces ≡ rows_before pieces p (length v.items) =
    sym (before_end pieces (suc p) 0 (omega arith)) ∙ sym (before_past pieces p (length v.items) v here (omega arith)) in
    let parts : w.items ≡ take (length v.items) v.items ++ (row ∷ []) = made ∙ ap (λ l. l ++ row ∷ []) (sym (take_all (length v.items) v.items (omega arith))) in
    joined-set pieces p (length v.items) v w _ here parts ∙ (ap (λ l. rows_before pieces p (length v.items) ++ row ∷ l) none ∙ ap (λ l. l ++ row ∷ []) (sym all))

-- a piece that keeps its rows
pub joined-same : (pieces : Pieces) (p : ℕ) (v w : Vec Row Global) → IsAt pieces p v → w.items ≡ v.items → joined (set pieces p w) ≡ joined pieces
joined-same pieces p v w here made =
    joined-set pieces p 0 v w v.items here made ∙ (ap (λ l. rows_before pieces p 0 ++ l) (sym (from_piece pieces p 0 v here)) ∙ sym (split_rows pieces p 0))

get_or-insert : (pieces : Pieces) (p : ℕ) (e d : Vec Row Global) → p < length pieces → get_or (insert pieces (suc p) e) p d ≡ get_or pieces p d
get_or-insert [] p e d h = absurd (omega arith)
get_or-insert (x ∷ pieces) zero e d h = refl
get_or-insert (x ∷ pieces) (suc p) e d h = get_or-insert pieces p e d (omega arith)

joined-part : (pieces : Pieces) (p : ℕ) (v e lower upper : Vec Row Global) → IsAt pieces p v → lower.items ++ upper.items ≡ v.items
    → joined (set (set (insert pieces (suc p) e) p lower) (suc p) upper) ≡ joined pieces
joined-part [] p v e lower upper here parts = absurd (omega arith)
joined-part (x ∷ pieces) zero v e lower upper here parts =
    sym (append_assoc lower.items upper.items (joined pieces)) ∙ ap (λ l. l ++ joined pieces) (parts ∙ ap (λ (y : Vec Row Global). y.items) here.1)
joined-part (x ∷ pieces) (suc p) v e lower upper here parts = ap (λ l. x.items ++ l) (joined-part pieces p v e lower upper (omega arith, here.1) parts)

-- a piece that is parted in two, where an empty one has come behind it first
pub parted : (pieces : Pieces) (p half : ℕ) (v e lower upper : Vec Row Global) → p < length pieces → v ≡ get_or (insert pieces (p + 1) e) p v
    → lower.items ≡ take half v.items → upper.items ≡ drop half v.items
    → joined (set (set (insert pieces (p + 1) e) p lower) (p + 1) upper) ≡ joined pieces
parted pieces p half v e lower upper within is low high =
    let was = rw add-one at is in
    let parts : lower.items ++ upper.items ≡ v.items = rw (low, high) (take-append-drop half v.items) in
    rw add-one (joined-part pieces p v e lower upper (within, was ∙ get_or-insert pieces p e v within) parts)

remove-insert : (pieces : Pieces) (p : ℕ) (e : Vec Row Global) → p ≤ length pieces → remove (insert pieces p e) p ≡ pieces
remove-insert pieces zero e h = refl
remove-insert [] (suc p) e h = absurd (omega arith)
remove-insert (x ∷ pieces) (suc p) e h = ap (λ l. x ∷ l) (remove-insert pieces p e (omega arith))

-- the empty piece goes again, where the piece before it stayed
pub unparted : (pieces : Pieces) (p : ℕ) (v e : Vec Row Global) → p < length pieces → v ≡ get_or (insert pieces (p + 1) e) p v
    → joined (remove (set (insert pieces (p + 1) e) p v) (p + 1)) ≡ joined pieces
unparted pieces p v e within is =
    let more = insert pieces (p + 1) e in
    let same : set more p v ≡ more = ap (set more p) is ∙ set-get_or more p v in
    ap (λ l. joined (remove l (p + 1))) same ∙ ap joined (remove-insert pieces (p + 1) e (omega arith))

-- the last row of the last piece before a place
pub before_last : (pieces : Pieces) (p n : ℕ) (v : Vec Row Global) (row : Row) → 0 < p → IsAt pieces (p - 1) v → n ≡ length v.items → 0 < n → row ≡ get_or v.items (n - 1) row
    → rows_before pieces p 0 ≡ rows_before pieces (p - 1) (n - 1) ++ row ∷ []
before_last pieces p n v row some here size full is =
    let next : p ≡ suc (p - 1) = omega arith in
    ap (λ k. rows_before pieces k 0) next ∙ (sym (before_past pieces (p - 1) ((n - 1) + 1) v here (omega arith)) ∙ before_row pieces (p - 1) (n - 1) v row here (omega arith) is)

pub at_in : (pieces : Pieces) (p a : ℕ) (v : Vec Row Global) → IsRowPlace pieces p a → v ≡ get_or pieces p v → IsAt pieces p v
at_in pieces p a v h is = (in_length pieces p a h, is)

pub on_err : {T E P : Type 0} (r : Result T E) → P → OnErr r P
on_err (Ok x) h = tt
on_err (Err e) h = h
