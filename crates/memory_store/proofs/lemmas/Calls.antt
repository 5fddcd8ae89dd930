-- What a call of the list of trees does to the shapes of rows and to the last commit, whatever it answers.
use Rattle.std.proofs.Common.{◌≡◌, ◌≢◌, ℕ, ◌<◌, ◌-◌, false, List, [], ◌∷◌, ◌++◌, length, take, get_or, Result, Ok, Err, OnOk, IfErr, IsTrue, refl, sym, ap, ◌∙◌, subst, arith, inl}
use Rattle.sqlite_value.specs.Order.{Row}
use Rattle.sqlite_trees.specs.declared.error.StoreError.{StoreError}
use Rattle.sqlite_trees.specs.declared.store.Shape.{Shape}
use Rattle.sqlite_trees.specs.declared.store.Shape.TheVariants.{Absent}
use Rattle.sqlite_trees.specs.Tree.{Trees}
use Rattle.sqlite_trees.specs.View.{View, IsShaped, IsClean, IsQuiet, SetsTree, IsFailure, Commits, OnlyCommits, IsRolledBack, Marks, Releases, GoesBack, snapshot}
use Rattle.sqlite_trees.specs.Objects.{catalog_tree, version_tree, version_rows, SetsObject}
use Rattle.memory_store.specs.declared.memory.MemoryStore.{MemoryStore}
use Rattle.memory_store.specs.Memory.{store_view}
use Rattle.memory_store.specs.Shown.{AreShaped, AreMarksShaped, AreAllShaped}
use Rattle.memory_store.proofs.lemmas.Marks.{marks_paired, shaped_pushed, shaped_taken, shaped_at}
use Rattle.memory_store.proofs.lemmas.Shaped.{shaped_object}

-- nothing is lost or reported where the last commit stands
pub quiet : (s t : MemoryStore) → (store_view t).committed ≡ (store_view s).committed → IsQuiet store_view (λ _. 0) (λ x db. db ≡ (store_view x).committed) (λ _. Unit {0}) s t
quiet s t same = record { shield = λ h. h; clean = omega arith; counts = omega arith; closes = λ _ h. inl h; outcomes = λ db h. h ∙ same }

-- a tree without a shape has no rows
pub none_absent : (shape : ℕ → Shape) (rows : Trees) (t : ℕ) → AreShaped shape rows → shape t ≡ Absent → t ≢ catalog_tree → t ≢ version_tree → rows t ≡ []
none_absent shape rows t shaped absent a b = subst (λ s. IsShaped s (rows t)) absent (shaped t a b)

module _ (v w : View) (r k : Trees) (m : List Trees) where
  pub shaped_by_parts : (w.is_broken ≡ false → v.is_broken ≡ false) → w.shape ≡ v.shape → w.committed_shape ≡ v.committed_shape → w.marks ≡ v.marks → AreAllShaped v r k m → AreAllShaped w r k m
  shaped_by_parts sound shape committed marks h = record {
    now = λ s. subst (λ f. AreShaped f r) (sym shape) (h.now (sound s));
    committed = subst (λ f. AreShaped f k) (sym committed) h.committed;
    savepoints = subst (λ l. AreMarksShaped l m) (sym marks) h.savepoints;
  }

  pub shaped_failure : (e : StoreError) → IsFailure v w e → IsTrue w.is_open → AreAllShaped v r k m → AreAllShaped w r k m
  shaped_failure e h o = shaped_by_parts (λ s. sym (ap (λ (x : View). x.is_broken) (h.unchanged s)) ∙ s) h.kept.shape h.kept.committed_shape (h.kept.marks o)

  pub shaped_listed : (now : Trees) (t : ℕ) (s : Shape) (reals : ℕ) (edit : List Row → List Row) → SetsObject v w t s reals edit → ((j : ℕ) → j ≢ t → now j ≡ r j) → now t ≡ []
      → AreAllShaped v r k m → AreAllShaped w now k m
  shaped_listed now t s reals edit h others none was = record {
    now = λ _. subst (λ f. AreShaped f now) (sym (ap (λ (x : View). x.shape) h.is)) (shaped_object v.shape r now t s others none (was.now h.sound));
    committed = subst (λ f. AreShaped f k) (sym (ap (λ (x : View). x.committed_shape) h.is)) was.committed;
    savepoints = subst (λ l. AreMarksShaped l m) (sym (ap (λ (x : View). x.marks) h.is)) was.savepoints;
  }

  pub shaped_versioned : (n : ℕ) → SetsTree v w version_tree (λ _. version_rows n) → AreAllShaped v r k m → AreAllShaped w r k m
  shaped_versioned n h = shaped_by_parts (λ _. h.sound) (ap (λ (x : View). x.shape) h.is) (ap (λ (x : View). x.committed_shape) h.is) (ap (λ (x : View). x.marks) h.is)

  pub shaped_committed : Commits v w → AreAllShaped v r k m → AreAllShaped w r r []
  shaped_committed h was =
      let shape : w.shape ≡ v.shape = ap (λ (x : View). x.shape) h.is in
      let kept : w.committed_shape ≡ v.shape = ap (λ (x : View). x.committed_shape) h.is in
      record {
        now = λ _. subst (λ f. AreShaped f r) (sym shape) (was.now h.sound);
        committed = subst (λ f. AreShaped f r) (sym kept) (was.now h.sound);
        savepoints = subst (λ l. AreMarksShaped l []) (sym (ap (λ (x : View). x.marks) h.is)) tt;
      }

  pub shaped_rolled_back : IsRolledBack v w → IsClean w → IsTrue w.is_open → AreAllShaped v r k m → AreAllShaped w k k []
  shaped_rolled_back h clean o was =
      let kept = h.kept clean in
      let shape : w.shape ≡ v.committed_shape = rw o at kept.shape in
      record {
        now = λ _. subst (λ f. AreShaped f k) (sym shape) was.committed;
        committed = subst (λ f. AreShaped f k) (sym kept.committed_shape) was.committed;
        savepoints = subst (λ l. AreMarksShaped l []) (sym (kept.marks o)) tt;
      }

  pub shaped_marked : Marks v w → AreAllShaped v r k m → AreAllShaped w r k (m ++ r ∷ [])
  shaped_marked h was = record {
    now = λ _. subst (λ f. AreShaped f r) (sym (ap (λ (x : View). x.shape) h.is)) (was.now h.sound);
    committed = subst (λ f. AreShaped f k) (sym (ap (λ (x : View). x.committed_shape) h.is)) was.committed;
    savepoints = subst (λ l. AreMarksShaped l (m ++ r ∷ [])) (sym (ap (λ (x : View). x.marks) h.is)) (shaped_pushed v.marks m (snapshot v) r was.savepoints (was.now h.sound));
  }

  pub shaped_released : Releases v w → AreAllShaped v r k m → AreAllShaped w r k (take (length m - 1) m)
  shaped_released h was =
      let same = marks_paired v.marks m was.savepoints in
      record {
        now = λ s. subst (λ f. AreShaped f r) (sym (ap (λ (x : View). x.shape) h)) (was.now (sym (ap (λ (x : View). x.is_broken) h) ∙ s));
        committed = subst (λ f. AreShaped f k) (sym (ap (λ (x : View). x.committed_shape) h)) was.committed;
        savepoints = subst (λ l. AreMarksShaped l (take (length m - 1) m)) (sym (ap (λ (x : View). x.marks) h)) (rw same (shaped_taken (length m - 1) v.marks m was.savepoints));
      }

  pub shaped_back : GoesBack v w → 0 < length m → AreAllShaped v r k m → AreAllShaped w (get_or m (length m - 1) r) k m
  shaped_back h some was =
      let same = marks_paired v.marks m was.savepoints in
      record {
        now = λ _. subst (λ f. AreShaped f (get_or m (length m - 1) r)) (sym (ap (λ (x : View). x.shape) h.is)) (rw same (shaped_at v.marks m (length m - 1) (snapshot v) r was.savepoints (omega arith)));
        committed = subst (λ f. AreShaped f k) (sym (ap (λ (x : View). x.committed_shape) h.is)) was.committed;
        savepoints = subst (λ l. AreMarksShaped l m) (sym (ap (λ (x : View). x.marks) h.is)) was.savepoints;
      }

pub commit_frame : (a b : View) → Commits a b → OnlyCommits a b
commit_frame a b h =
    let kept = sym (ap (λ (x : View). x.committed) h.is) in
    h.is ∙ (λ i. record a { committed = kept i; committed_shape = a.shape; committed_reals = a.reals; marks = []; cursors = b.cursors })

-- a call that may set the version, whatever it answers
module _ (v w : View) (clean : IsClean w) (o : IsTrue w.is_open) (n : ℕ) where
  pub version_shaped : (r : Result (Unit {0}) StoreError) → OnOk r (IsClean w → SetsTree v w version_tree (λ _. version_rows n)) → IfErr r (IsFailure v w)
      → (db k : Trees) (m : List Trees) → AreAllShaped v db k m → AreAllShaped w db k m
  version_shaped (Ok x) h _ db k m = shaped_versioned v w db k m n (h clean)
  version_shaped (Err e) _ h db k m = shaped_failure v w db k m e h o

  pub version_kept : (r : Result (Unit {0}) StoreError) → OnOk r (IsClean w → SetsTree v w version_tree (λ _. version_rows n)) → IfErr r (IsFailure v w) → w.committed ≡ v.committed
  version_kept (Ok x) h _ = ap (λ (x : View). x.committed) (h clean).is
  version_kept (Err e) _ h = h.kept.committed o

-- a call that may list a tree, whatever it answers
module _ (v w : View) (clean : IsClean w) (o : IsTrue w.is_open) (t : ℕ) (s : Shape) (reals : ℕ) (edit : List Row → List Row) where
  pub listed_shaped : (r : Result (Unit {0}) StoreError) → OnOk r (IsClean w → SetsObject v w t s reals edit) → IfErr r (IsFailure v w)
      → (db k : Trees) (m : List Trees) → (v.is_broken ≡ false → db t ≡ []) → AreAllShaped v db k m → AreAllShaped w db k m
  listed_shaped (Ok x) h _ db k m none = let done = h clean in shaped_listed v w db k m db t s reals edit done (λ j other. refl) (none done.sound)
  listed_shaped (Err e) _ h db k m none = shaped_failure v w db k m e h o

  pub listed_kept : (r : Result (Unit {0}) StoreError) → OnOk r (IsClean w → SetsObject v w t s reals edit) → IfErr r (IsFailure v w) → w.committed ≡ v.committed
  listed_kept (Ok x) h _ = ap (λ (x : View). x.committed) (h clean).is
  listed_kept (Err e) _ h = h.kept.committed o
