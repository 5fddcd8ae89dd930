-- Savepoints with the rows of each: one more, one less, and the newest.
use Rattle.std.proofs.Common.{◌≡◌, ℕ, zero, suc, ◌<◌, List, [], ◌∷◌, ◌++◌, length, take, get_or, refl, ap, arith}
use Rattle.sqlite_trees.specs.Tree.{Trees}
use Rattle.sqlite_trees.specs.View.{Snapshot}
use Rattle.memory_store.specs.Shown.{shown_mark, shown_marks, AreShaped, AreMarksShaped}

pub marks_paired : (ms : List Snapshot) (rs : List Trees) → AreMarksShaped ms rs → length ms ≡ length rs
marks_paired [] [] h = refl
marks_paired [] (r ∷ rs) h = absurd h
marks_paired (m ∷ ms) [] h = absurd h
marks_paired (m ∷ ms) (r ∷ rs) h = ap suc (marks_paired ms rs h.1)

pub marks_pushed : (ms : List Snapshot) (rs : List Trees) (m : Snapshot) (r : Trees) → AreMarksShaped ms rs → shown_marks (ms ++ m ∷ []) (rs ++ r ∷ []) ≡ shown_marks ms rs ++ shown_mark m r ∷ []
marks_pushed [] [] m r h = refl
marks_pushed [] (x ∷ rs) m r h = absurd h
marks_pushed (x ∷ ms) [] m r h = absurd h
marks_pushed (x ∷ ms) (y ∷ rs) m r h = ap (λ l. shown_mark x y ∷ l) (marks_pushed ms rs m r h.1)

pub shaped_pushed : (ms : List Snapshot) (rs : List Trees) (m : Snapshot) (r : Trees) → AreMarksShaped ms rs → AreShaped m.shape r → AreMarksShaped (ms ++ m ∷ []) (rs ++ r ∷ [])
shaped_pushed [] [] m r h new = (new, tt)
shaped_pushed [] (x ∷ rs) m r h new = absurd h
shaped_pushed (x ∷ ms) [] m r h new = absurd h
shaped_pushed (x ∷ ms) (y ∷ rs) m r h new = (h.0, shaped_pushed ms rs m r h.1 new)

pub marks_taken : (n : ℕ) (ms : List Snapshot) (rs : List Trees) → shown_marks (take n ms) (take n rs) ≡ take n (shown_marks ms rs)
marks_taken zero ms rs = refl
marks_taken (suc n) [] rs = refl
marks_taken (suc n) (m ∷ ms) [] = refl
marks_taken (suc n) (m ∷ ms) (r ∷ rs) = ap (λ l. shown_mark m r ∷ l) (marks_taken n ms rs)

pub shaped_taken : (n : ℕ) (ms : List Snapshot) (rs : List Trees) → AreMarksShaped ms rs → AreMarksShaped (take n ms) (take n rs)
shaped_taken zero ms rs h = tt
shaped_taken (suc n) [] [] h = tt
shaped_taken (suc n) [] (r ∷ rs) h = absurd h
shaped_taken (suc n) (m ∷ ms) [] h = absurd h
shaped_taken (suc n) (m ∷ ms) (r ∷ rs) h = (h.0, shaped_taken n ms rs h.1)

pub length-shown_marks : (ms : List Snapshot) (rs : List Trees) → AreMarksShaped ms rs → length (shown_marks ms rs) ≡ length ms
length-shown_marks [] [] h = refl
length-shown_marks [] (r ∷ rs) h = absurd h
length-shown_marks (m ∷ ms) [] h = absurd h
length-shown_marks (m ∷ ms) (r ∷ rs) h = ap suc (length-shown_marks ms rs h.1)

pub mark_at : (ms : List Snapshot) (rs : List Trees) (k : ℕ) (d m : Snapshot) (r : Trees) → AreMarksShaped ms rs → k < length ms → get_or (shown_marks ms rs) k d ≡ shown_mark (get_or ms k m) (get_or rs k r)
mark_at [] rs k d m r h within = absurd (omega arith)
mark_at (x ∷ ms) [] k d m r h within = absurd h
mark_at (x ∷ ms) (y ∷ rs) zero d m r h within = refl
mark_at (x ∷ ms) (y ∷ rs) (suc k) d m r h within = mark_at ms rs k d m r h.1 (omega arith)

pub shaped_at : (ms : List Snapshot) (rs : List Trees) (k : ℕ) (m : Snapshot) (r : Trees) → AreMarksShaped ms rs → k < length ms → AreShaped (get_or ms k m).shape (get_or rs k r)
shaped_at [] rs k m r h within = absurd (omega arith)
shaped_at (x ∷ ms) [] k m r h within = absurd h
shaped_at (x ∷ ms) (y ∷ rs) zero m r h within = h.0
shaped_at (x ∷ ms) (y ∷ rs) (suc k) m r h within = shaped_at ms rs k m r h.1 (omega arith)

pub no_marks : (ms : List Snapshot) → shown_marks ms [] ≡ []
no_marks [] = refl
no_marks (m ∷ ms) = refl
