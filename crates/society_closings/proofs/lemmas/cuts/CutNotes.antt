-- Works that are noted: by a row, by a list of rows, and by the rows of a recording.
use Rattle.std.proofs.Common.{◌≡◌, ◌∙◌, ◌||◌, Bool, true, false, cond, ℕ, List, [], ◌∷◌, Option, Some, is_some, refl, ap, ap₂, ◌&&◌, sym, bytes_eq}
use Rattle.std.proofs.lemmas.Slice.Eq.{bytes_eq-Decides}
use Rattle.std.specs.BTreeMap as tree
use Rattle.std.specs.BTreeSet.{BTreeSet, contains}
use Rattle.std.specs.List.{list_all, list_any}
use Rattle.std.specs.Ordering.{eq_by_cmp}
use Rattle.std.proofs.lemmas.Map.Text.{is_eq-slice_cmp}
use Rattle.society_core.specs.Keys.{bytes_cmp}
use Rattle.society_core.specs.declared.transmission_key.TransmissionKey.{TransmissionKey}
use Rattle.society_closings.specs.CutWorks.{NotesListed, NotesMore, has_work, is_noted, notes_of_sender}
use Rattle.society_closings.specs.declared.named_works.NamedWorks.{NamedWorks}
use Rattle.sqlite_trees.proofs.ListLemmas.{all_weaker}
use Rattle.std.proofs.lemmas.Bool.{or_right}
use Rattle.society_book.proofs.lemmas.rows_alike.RowLemmas.{any_same}

-- more notes, and more again
pub notes_then : (old mid new : NamedWorks) → NotesMore old mid → NotesMore mid new → NotesMore old new
notes_then old mid new first second = record { senders = λ s. second.senders s ∙ first.senders s; works = λ s w h. second.works s w (first.works s w h) }

-- what is noted is noted still
listed_still : (old new : NamedWorks) → NotesMore old new → (one : List ℕ × List ℕ) → (notes_of_sender old one.0 ≡ true → is_noted old one.0 one.1 ≡ true) → notes_of_sender new one.0 ≡ true → is_noted new one.0 one.1 ≡ true
listed_still old new more one noted asked = more.works one.0 one.1 (noted (sym (more.senders one.0) ∙ asked))

pub all_listed_still : (old new : NamedWorks) → NotesMore old new → (works : List (List ℕ × List ℕ)) → NotesListed works old → NotesListed works new
all_listed_still old new more works all =
    all_weaker (λ one. notes_of_sender old one.0 ≡ true → is_noted old one.0 one.1 ≡ true) (λ one. notes_of_sender new one.0 ≡ true → is_noted new one.0 one.1 ≡ true) (listed_still old new more) works all

-- bytes are among some as keys where they are among them
pub any_bytes : (x : List ℕ) (xs : List (List ℕ)) → list_any (bytes_eq x) xs ≡ list_any (eq_by_cmp bytes_cmp x) xs
any_bytes x xs = any_same (bytes_eq x) (eq_by_cmp bytes_cmp x) (λ y. sym (is_eq-slice_cmp x y)) xs

-- works of each sender of a cut are noted where those of all senders are that it names
pub all_asked : (named : NamedWorks) (cut : List TransmissionKey) → ((sender : List ℕ) → list_any (λ key. bytes_eq key.sender sender) cut ≡ true → notes_of_sender named sender ≡ true) → list_all (λ key. notes_of_sender named key.sender) cut ≡ true
all_asked named [] asked = refl
all_asked named (key ∷ cut) asked =
    let here : notes_of_sender named key.sender ≡ true = asked key.sender (ap (λ (b : Bool). b || list_any (λ k. bytes_eq k.sender key.sender) cut) ((bytes_eq-Decides key.sender key.sender).1 refl)) in
    ap₂ (λ (a b : Bool). a && b) here (all_asked named cut (λ s h. asked s (or_right (bytes_eq key.sender s) (list_any (λ k. bytes_eq k.sender s) cut) h)))

module _ (old new : NamedWorks) (s w : List ℕ) (before after : BTreeSet (List ℕ)) (was : tree.get bytes_cmp old.by_sender s ≡ Some before) (put : (q : List ℕ) → tree.get bytes_cmp new.by_sender q ≡ cond (eq_by_cmp bytes_cmp s q) (Some after) (tree.get bytes_cmp old.by_sender q)) (added : (x : List ℕ) → contains bytes_cmp after x ≡ cond (eq_by_cmp bytes_cmp w x) true (contains bytes_cmp before x)) where
  found : (q : List ℕ) → eq_by_cmp bytes_cmp s q ≡ true → tree.get bytes_cmp old.by_sender q ≡ Some before
  found q same = ap (tree.get bytes_cmp old.by_sender) (sym ((bytes_eq-Decides s q).0 (sym (is_eq-slice_cmp s q) ∙ same))) ∙ was

  -- a work more is noted
  pub note_more : NotesMore old new
  note_more = record {
    senders = λ q. ap is_some (put q) ∙ by_sender q (eq_by_cmp bytes_cmp s q) refl;
    works = λ q x noted. ap (λ o. has_work o x) (put q) ∙ by_work q x noted (eq_by_cmp bytes_cmp s q) refl;
  }
    where
      by_sender : (q : List ℕ) (c : Bool) → eq_by_cmp bytes_cmp s q ≡ c → is_some (cond c (Some after) (tree.get bytes_cmp old.by_sender q)) ≡ is_some (tree.get bytes_cmp old.by_sender q)
      by_sender q true same = sym (ap is_some (found q same))
      by_sender q false apart = refl

      still : (x : List ℕ) (c : Bool) → contains bytes_cmp before x ≡ true → cond c true (contains bytes_cmp before x) ≡ true
      still x true h = refl
      still x false h = h

      by_work : (q x : List ℕ) → is_noted old q x ≡ true → (c : Bool) → eq_by_cmp bytes_cmp s q ≡ c → has_work (cond c (Some after) (tree.get bytes_cmp old.by_sender q)) x ≡ true
      by_work q x noted true same = added x ∙ still x (eq_by_cmp bytes_cmp w x) (sym (ap (λ o. has_work o x) (found q same)) ∙ noted)
      by_work q x noted false apart = noted

-- what is put under a key is there, with what was there
pub put_some : {X : Type 0} (here same had : Bool) (x : X) (o : Option X) → here ≡ same → is_some o ≡ had → is_some (cond here (Some x) o) ≡ (had || same)
put_some true same true x o is e = refl
put_some true same false x o is e = is
put_some false same true x o is e = e
put_some false same false x o is e = e ∙ is
