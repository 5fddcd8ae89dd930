-- Lemmas on known bytes: what two writes or two reads in a row do.
use Rattle.std.proofs.Common.{◌≡◌, ℕ, ◌+◌, ◌-◌, ◌<◌, ◌≤◌, List, [], ◌++◌, length, take, drop, Option, Some, None, Result, Ok, Err, refl, sym, ◌∙◌, ap, subst, append_assoc, arith}
use Rattle.std.specs.Prelude.{IfSome, unwrap_or, ◌^◌}
use Rattle.std.proofs.lemmas.List.{append-nil, take_rest, take-append-drop}
use Rattle.std.specs.Io.KnownBytes.{Appends, Consumes, Keeps}
use Rattle.http_desk.specs.Counted.{WritesBytes, AppendsFront, counted_on}
use Rattle.http_desk.specs.Outbox.{Gathers, Sends}

pub Appends-none : (a : Option (List ℕ)) → Appends a a []
Appends-none None = tt
Appends-none (Some xs) = sym (append-nil xs)

pub Appends-join : (a b c : Option (List ℕ)) (xs ys : List ℕ) → Appends a b xs → Appends b c ys → Appends a c (xs ++ ys)
Appends-join None b c xs ys p q = tt
Appends-join (Some as1) None c xs ys p q = absurd p
Appends-join (Some as1) (Some bs) None xs ys p q = absurd q
Appends-join (Some as1) (Some bs) (Some cs) xs ys p q = q ∙ ap (λ v. v ++ ys) p ∙ append_assoc as1 xs ys

pub Appends-is : (a b : Option (List ℕ)) (xs ys : List ℕ) → Appends a b xs → xs ≡ ys → Appends a b ys
Appends-is a b xs ys p e = let P : List ℕ → Type 0 = λ v. Appends a b v in subst P e p

pub Consumes-none : (a : Option (List ℕ)) → Consumes a a []
Consumes-none None = tt
Consumes-none (Some xs) = refl

pub Consumes-join : (a b c : Option (List ℕ)) (xs ys : List ℕ) → Consumes a b xs → Consumes b c ys → Consumes a c (xs ++ ys)
Consumes-join None b c xs ys p q = tt
Consumes-join (Some as1) None c xs ys p q = absurd p
Consumes-join (Some as1) (Some bs) None xs ys p q = absurd q
Consumes-join (Some as1) (Some bs) (Some cs) xs ys p q = p ∙ ap (λ v. xs ++ v) q ∙ sym (append_assoc xs ys cs)

pub Consumes-is : (a b : Option (List ℕ)) (xs ys : List ℕ) → Consumes a b xs → xs ≡ ys → Consumes a b ys
Consumes-is a b xs ys p e = let P : List ℕ → Type 0 = λ v. Consumes a b v in subst P e p

pub Keeps-consumes : (a b : Option (List ℕ)) → Keeps a b → Consumes a b []
Keeps-consumes None b p = tt
Keeps-consumes (Some xs) None p = absurd p
Keeps-consumes (Some xs) (Some ys) p = sym p

-- what was done, and what is left of the rest after n more
pub split_on : (bytes done rest : List ℕ) (n : ℕ) → bytes ≡ done ++ rest
    → bytes ≡ (done ++ take n rest) ++ take (length rest - n) (drop n rest)
split_on bytes done rest n e =
    e ∙ ap (λ v. done ++ v) (sym (take-append-drop n rest)) ∙ sym (append_assoc done (take n rest) (drop n rest))
    ∙ ap (λ v. (done ++ take n rest) ++ v) (sym (take_rest rest n))

pub AppendsFront-after : (a b c : Option (List ℕ)) (xs ys : List ℕ) → Appends a b xs → AppendsFront b c ys → AppendsFront a c (xs ++ ys)
AppendsFront-after a b c xs ys p q =
    (xs ++ q.0, q.1, ap (λ (v : List ℕ). xs ++ v) q.2 ∙ sym (append_assoc xs q.0 q.1), Appends-join a b c xs q.0 p q.3)

-- ---- known bytes, as far as they are

-- what was read and what the reader is known to have left are the known bytes
pub given_of : (known now : Option (List ℕ)) (front : List ℕ) → Consumes known now front → IfSome known (λ all. all ≡ front ++ unwrap_or now [])
given_of None now front c = tt
given_of (Some bytes) None front c = absurd c
given_of (Some bytes) (Some left) front c = c

-- ---- texts that wait

pub AppendsFront-is : (a b : Option (List ℕ)) (xs ys : List ℕ) → AppendsFront a b xs → xs ≡ ys → AppendsFront a b ys
AppendsFront-is a b xs ys p e = let P : List ℕ → Type 0 = λ v. AppendsFront a b v in subst P e p

pub Sends-none : (a : Option (List ℕ)) (waiting : List ℕ) → Sends a a waiting waiting
Sends-none a waiting = ([], refl, Appends-none a)

-- what waited was all appended
pub Sends-all : (a b : Option (List ℕ)) (xs waiting : List ℕ) → waiting ≡ [] → Appends a b xs → Sends a b xs waiting
Sends-all a b xs waiting e p = (xs, sym (append-nil xs) ∙ ap (λ (v : List ℕ). xs ++ v) (sym e), p)

pub Sends-is : (a b : Option (List ℕ)) (xs ys waiting : List ℕ) → Sends a b xs waiting → xs ≡ ys → Sends a b ys waiting
Sends-is a b xs ys waiting s e = let P : List ℕ → Type 0 = λ v. Sends a b v waiting in subst P e s

-- what was sent, what waited and what came behind it
regrouped : (xs sent waiting ys : List ℕ) → xs ≡ sent ++ waiting → xs ++ ys ≡ sent ++ (waiting ++ ys)
regrouped xs sent waiting ys e = ap (λ (v : List ℕ). v ++ ys) e ∙ append_assoc sent waiting ys

pub Sends-more : (a b c : Option (List ℕ)) (xs waiting ys later : List ℕ) → Sends a b xs waiting → Sends b c (waiting ++ ys) later → Sends a c (xs ++ ys) later
Sends-more a b c xs waiting ys later s t = (
  s.0 ++ t.0,
  regrouped xs s.0 waiting ys s.1 ∙ ap (λ (v : List ℕ). s.0 ++ v) t.1 ∙ sym (append_assoc s.0 t.0 later),
  Appends-join a b c s.0 t.0 s.2 t.2,
)

pub Sends-then : (a b c : Option (List ℕ)) (xs waiting ys : List ℕ) → Sends a b xs waiting → Appends b c (waiting ++ ys) → Appends a c (xs ++ ys)
Sends-then a b c xs waiting ys s p =
    Appends-is a c _ _ (Appends-join a b c s.0 (waiting ++ ys) s.2 p) (sym (regrouped xs s.0 waiting ys s.1))

pub Sends-front : (a b c : Option (List ℕ)) (xs waiting ys : List ℕ) → Sends a b xs waiting → AppendsFront b c (waiting ++ ys) → AppendsFront a c (xs ++ ys)
Sends-front a b c xs waiting ys s p =
    AppendsFront-is a c _ _ (AppendsFront-after a b c s.0 (waiting ++ ys) s.2 p) (sym (regrouped xs s.0 waiting ys s.1))

-- the same with nothing behind
pub Sends-flushed : (a b c : Option (List ℕ)) (xs waiting : List ℕ) → Sends a b xs waiting → Appends b c waiting → Appends a c xs
Sends-flushed a b c xs waiting s p =
    Appends-is a c _ _ (Appends-join a b c s.0 waiting s.2 p) (sym s.1)

pub Sends-cut : (a b c : Option (List ℕ)) (xs waiting : List ℕ) → Sends a b xs waiting → AppendsFront b c waiting → AppendsFront a c xs
Sends-cut a b c xs waiting s p =
    AppendsFront-is a c _ _ (AppendsFront-after a b c s.0 waiting s.2 p) (sym s.1)

-- a front of what is in front of more bytes is a front of all
pub AppendsFront-longer : (a b : Option (List ℕ)) (xs ys : List ℕ) → AppendsFront a b xs → AppendsFront a b (xs ++ ys)
AppendsFront-longer a b xs ys p = (p.0, p.1 ++ ys, ap (λ (v : List ℕ). v ++ ys) p.2 ∙ append_assoc p.0 p.1 ys, p.3)

-- a head was put behind what waits, and all was written, and then a body
pub Gathers-written : {T E : Type 0} (r : Result T E) (a b c d : Option (List ℕ)) (old room head body put now : List ℕ) → Sends a b (old ++ []) room → put ≡ room ++ head
    → Appends b c put → WritesBytes r c d body → now ≡ [] → Gathers r a d old now (head ++ body)
Gathers-written (Ok x) a b c d old room head body put now s e p w n =
    Sends-all a d (old ++ (head ++ body)) now n
    (Sends-then a b d old room (head ++ body) (Sends-is a b _ _ room s (append-nil old))
    (Appends-is b d _ _ (Appends-join b c d put body p w) (ap (λ (v : List ℕ). v ++ body) e ∙ append_assoc room head body)))
Gathers-written (Err x) a b c d old room head body put now s e p w n =
    Sends-front a b d old room (head ++ body) (Sends-is a b _ _ room s (append-nil old))
    (AppendsFront-is b d _ _ (AppendsFront-after b c d put body p w) (ap (λ (v : List ℕ). v ++ body) e ∙ append_assoc room head body))

-- the same where not all was written
pub Gathers-unwritten : (a b c : Option (List ℕ)) (old room head body put : List ℕ) → Sends a b (old ++ []) room → put ≡ room ++ head
    → AppendsFront b c put → AppendsFront a c (old ++ (head ++ body))
Gathers-unwritten a b c old room head body put s e p =
    Sends-front a b c old room (head ++ body) (Sends-is a b _ _ room s (append-nil old))
    (AppendsFront-is b c _ _ (AppendsFront-longer b c put body p) (ap (λ (v : List ℕ). v ++ body) e ∙ append_assoc room head body))

-- what waited was written, or a front of it
pub Writes-sent : {T E : Type 0} (r : Result T E) (a b c : Option (List ℕ)) (xs waiting : List ℕ) → Sends a b xs waiting → WritesBytes r b c waiting → WritesBytes r a c xs
Writes-sent (Ok x) a b c xs waiting s w = Sends-flushed a b c xs waiting s w
Writes-sent (Err e) a b c xs waiting s w = Sends-cut a b c xs waiting s w

-- ---- counts of reads

pub counted_none : (reads : ℕ) → reads < 2 ^ 64 → reads ≡ counted_on reads 0
counted_none reads fits = omega arith

pub counted_join : (reads some more : ℕ) → counted_on (counted_on reads some) more ≡ counted_on reads (some + more)
counted_join reads some more = omega arith

pub counted_most : (reads more : ℕ) → counted_on reads more ≤ reads + more
counted_most reads more = omega arith
