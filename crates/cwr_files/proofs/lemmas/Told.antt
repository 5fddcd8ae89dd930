-- What the lines of a file tell is what a body of them tells.
use Rattle.std.proofs.Common.{◌≡◌, ℕ, ◌+◌, true, List, [], ◌∷◌, ◌++◌, map, refl, ap, ◌∙◌, append_assoc}
use Rattle.std.specs.Prelude.{not, flat_map, take_while}
use Rattle.std.specs.List.{list_all, enumerate_from}
use Rattle.std.proofs.lemmas.Bool.{and_parts}
use Rattle.std.proofs.lemmas.List.{append-nil}
use Rattle.cwr_records.specs.Lines.{is_blank}
use Rattle.cwr_records.specs.Records.{header_of}
use Rattle.cwr_files.specs.declared.transmission.Transmission.{Transmission}
use Rattle.cwr_files.specs.declared.transmission.Group.{Group}
use Rattle.cwr_files.specs.RecordTypes.{grh, grt, trl, has_type, type_of_group}
use Rattle.cwr_files.specs.Contents.{group_of, parts, group_in, contents}
use Rattle.cwr_files.specs.File.{GroupLines, FileLines, group_lines, file_lines, AreFurther, AreTransactions, IsGroup, AreGroups, IsFile, transmission_of}
use Rattle.cwr_files.proofs.lemmas.LineFacts.{other_type, NoFrame, blank_is_no_grh}
use Rattle.cwr_files.proofs.lemmas.Steps.{opening-type, closing-type, trailer-type, record-free}
use Rattle.cwr_files.proofs.lemmas.Listing.{until-it, until-other, parts-opens, parts-passes, group_parts}
use Rattle.cwr_files.proofs.lemmas.Sound.{joined}

-- lines that frame nothing
AreFree : List (List ℕ) → Type 0
AreFree [] = Unit {0}
AreFree (l ∷ ls) = NoFrame l × AreFree ls

free-append : (xs ys : List (List ℕ)) → AreFree xs → AreFree ys → AreFree (xs ++ ys)
unfolding AreFree
free-append [] ys a b = b
free-append (x ∷ xs) ys a b = (a.0, free-append xs ys a.1 b)

free-further : (kind : List ℕ) (j k : ℕ) (ls : List (List ℕ)) → AreFurther kind j k ls → AreFree ls
unfolding AreFree
free-further kind j k [] a = tt
free-further kind j k (l ∷ ls) a = (record-free kind j k l a.1, free-further kind j (k + 1) ls a.2)

free-transactions : (kind : List ℕ) (j : ℕ) (xs : List (List (List ℕ))) → AreTransactions kind j xs → AreFree (joined xs)
unfolding AreFree
free-transactions kind j [] a = tt
free-transactions kind j ([] ∷ xs) a = absurd a.0
free-transactions kind j ((l ∷ ls) ∷ xs) a =
    (record-free kind j 0 l a.0.1, free-append ls (joined xs) (free-further kind j 1 ls a.0.2) (free-transactions kind (j + 1) xs a.1))

-- the transactions of a group are the parts of its lines

further-taken : (kind : List ℕ) (j k : ℕ) (ls rest : List (List ℕ)) → AreFurther kind j k ls → take_while (λ x. not (has_type kind x)) (ls ++ rest) ≡ ls ++ take_while (λ x. not (has_type kind x)) rest
further-taken kind j k [] rest a = refl
further-taken kind j k (l ∷ ls) rest a = until-other kind l (ls ++ rest) a.0 ∙ ap (λ xs. l ∷ xs) (further-taken kind j (k + 1) ls rest a.2)

further-passed : (kind : List ℕ) (j k : ℕ) (ls rest : List (List ℕ)) → AreFurther kind j k ls → parts (has_type kind) (has_type kind) (ls ++ rest) ≡ parts (has_type kind) (has_type kind) rest
further-passed kind j k [] rest a = refl
further-passed kind j k (l ∷ ls) rest a = parts-passes (has_type kind) (has_type kind) l (ls ++ rest) a.0 ∙ further-passed kind j (k + 1) ls rest a.2

begin-stops : (kind : List ℕ) (j : ℕ) (xs : List (List (List ℕ))) → AreTransactions kind j xs → take_while (λ x. not (has_type kind x)) (joined xs) ≡ []
begin-stops kind j [] a = refl
begin-stops kind j ([] ∷ xs) a = absurd a.0
begin-stops kind j ((l ∷ ls) ∷ xs) a = until-it kind l (ls ++ joined xs) a.0.0

pub parts-transactions : (kind : List ℕ) (j : ℕ) (xs : List (List (List ℕ))) → AreTransactions kind j xs → parts (has_type kind) (has_type kind) (joined xs) ≡ xs
parts-transactions kind j [] a = refl
parts-transactions kind j ([] ∷ xs) a = absurd a.0
parts-transactions kind j ((l ∷ ls) ∷ xs) a =
    let here : take_while (λ x. not (has_type kind x)) (ls ++ joined xs) ≡ ls = further-taken kind j 1 ls (joined xs) a.0.2 ∙ ap (λ ys. ls ++ ys) (begin-stops kind (j + 1) xs a.1) ∙ append-nil ls in
    let there : parts (has_type kind) (has_type kind) (ls ++ joined xs) ≡ xs = further-passed kind j 1 ls (joined xs) a.0.2 ∙ parts-transactions kind (j + 1) xs a.1 in
    parts-opens (has_type kind) (has_type kind) l (ls ++ joined xs) a.0.0
    ∙ ap (λ ys. (l ∷ ys) ∷ parts (has_type kind) (has_type kind) (ls ++ joined xs)) here
    ∙ ap (λ ys. (l ∷ ls) ∷ ys) there

-- the groups of a file are the parts of its lines

free-taken : (ls : List (List ℕ)) (c : List ℕ) (rest : List (List ℕ)) → AreFree ls → has_type grt c ≡ true → take_while (λ x. not (has_type grt x)) (ls ++ c ∷ rest) ≡ ls
unfolding AreFree
free-taken [] c rest a h = until-it grt c rest h
free-taken (l ∷ ls) c rest a h = until-other grt l (ls ++ c ∷ rest) a.0.no_grt ∙ ap (λ xs. l ∷ xs) (free-taken ls c rest a.1 h)

free-passed : (ls rest : List (List ℕ)) → AreFree ls → group_parts (ls ++ rest) ≡ group_parts rest
unfolding AreFree
free-passed [] rest a = refl
free-passed (l ∷ ls) rest a = parts-passes (has_type grh) (has_type grt) l (ls ++ rest) a.0.no_grh ∙ free-passed ls rest a.1

blank-parts : (ls : List (List ℕ)) → list_all is_blank ls ≡ true → group_parts ls ≡ []
blank-parts [] h = refl
blank-parts (l ∷ ls) h =
    let p = and_parts (is_blank l) (list_all is_blank ls) h in
    parts-passes (has_type grh) (has_type grt) l ls (blank_is_no_grh l p.0) ∙ blank-parts ls p.1

group-first : (id : ℕ) (g : GroupLines) (rest : List (List ℕ)) → IsGroup id g → group_parts (group_lines g ++ rest) ≡ (g.opening ∷ joined g.transactions) ∷ group_parts rest
group-first id g rest is =
    let kind = type_of_group g.opening in
    let ls = joined g.transactions in
    let free : AreFree (joined g.transactions) = free-transactions (type_of_group g.opening) 0 g.transactions is.transactions in
    let closes : has_type grt g.closing ≡ true = closing-type id _ _ g.closing is.closing in
    let no_grh = other_type grt grh g.closing refl closes in
    let flat : (joined g.transactions ++ g.closing ∷ []) ++ rest ≡ joined g.transactions ++ (g.closing ∷ rest) = append_assoc (joined g.transactions) (g.closing ∷ []) rest in
    ap (λ xs. group_parts (g.opening ∷ xs)) flat
    ∙ parts-opens (has_type grh) (has_type grt) g.opening (joined g.transactions ++ (g.closing ∷ rest)) (opening-type id g.opening is.opening)
    ∙ ap (λ xs. (g.opening ∷ xs) ∷ group_parts (joined g.transactions ++ (g.closing ∷ rest))) (free-taken (joined g.transactions) g.closing rest free closes)
    ∙ ap (λ ps. (g.opening ∷ joined g.transactions) ∷ ps) (free-passed (joined g.transactions) (g.closing ∷ rest) free ∙ parts-passes (has_type grh) (has_type grt) g.closing rest no_grh)

told-groups : (id n : ℕ) (gs : List GroupLines) (tail : List (List ℕ)) → AreGroups id gs → group_parts tail ≡ [] → map (λ p. group_in p.0 p.1) (enumerate_from n (group_parts (flat_map group_lines gs ++ tail))) ≡ map (λ p. group_of p.0 p.1.opening p.1.transactions) (enumerate_from n gs)
told-groups id n [] tail a e = ap (λ ps. map (λ p. group_in p.0 p.1) (enumerate_from n ps)) e
told-groups id n (g ∷ gs) tail a e =
    let flat : flat_map group_lines (g ∷ gs) ++ tail ≡ group_lines g ++ (flat_map group_lines gs ++ tail) = append_assoc (group_lines g) (flat_map group_lines gs) tail in
    let kind = type_of_group g.opening in
    let same : group_in n (g.opening ∷ joined g.transactions) ≡ group_of n g.opening g.transactions = ap (group_of n g.opening) (parts-transactions (type_of_group g.opening) 0 g.transactions a.0.transactions) in
    ap (λ xs. map (λ p. group_in p.0 p.1) (enumerate_from n (group_parts xs))) flat
    ∙ ap (λ ps. map (λ p. group_in p.0 p.1) (enumerate_from n ps)) (group-first id g (flat_map group_lines gs ++ tail) a.0)
    ∙ ap (λ x. x ∷ map (λ p. group_in p.0 p.1) (enumerate_from (n + 1) (group_parts (flat_map group_lines gs ++ tail)))) same
    ∙ ap (λ xs. group_of n g.opening g.transactions ∷ xs) (told-groups (id + 1) (n + 1) gs tail a.1 e)

-- the contents of a file's lines are what the file tells
pub told : (sender : List ℕ) (f : FileLines) → IsFile sender f → contents (file_lines f) ≡ transmission_of f
told sender f is =
    let no_grh = other_type trl grh f.trailer refl (trailer-type _ _ _ f.trailer is.trailer) in
    let tail : group_parts (f.trailer ∷ f.rest) ≡ [] = parts-passes (has_type grh) (has_type grt) f.trailer f.rest no_grh ∙ blank-parts f.rest is.rest in
    let made : List Group → Transmission = λ gs. record { header = header_of f.header; groups = gs } in
    ap made (told-groups 1 1 f.groups (f.trailer ∷ f.rest) is.groups tail)
