-- What is shown after each call, by what the list of trees shows after its own.
use Rattle.std.proofs.Common.{◌≡◌, ◌≢◌, ℕ, ◌-◌, ◌^◌, ◌<◌, false, List, [], ◌∷◌, ◌++◌, length, take, get_or, Option, sym, ◌∙◌, ap, arith}
use Rattle.sqlite_value.specs.Order.{Row}
use Rattle.sqlite_trees.specs.declared.error.StoreError.{StoreError}
use Rattle.sqlite_trees.specs.declared.store.Shape.{Shape}
use Rattle.sqlite_trees.specs.Tree.{Trees, with_tree}
use Rattle.sqlite_trees.specs.View.{View, snapshot, newest, SetsTree, IsFailure, Commits, IsRolledBack, Marks, Releases, GoesBack}
use Rattle.sqlite_trees.specs.Objects.{catalog_tree, version_tree, version_rows, set_at, SetsObject}
use Rattle.memory_store.specs.Shown.{over, shown_over, shown_mark, shown_marks, AreMarksShaped}
use Rattle.memory_store.specs.Laws.{over-at}
use Rattle.memory_store.proofs.lemmas.Over.{not_catalog, not_version, over-edit, over-object, over-version}
use Rattle.memory_store.proofs.lemmas.Marks.{marks_paired, marks_pushed, marks_taken, length-shown_marks, mark_at}

module _ (v : View) (r k : Trees) (c d : ℕ → Option (List Row)) (m : List Trees) where
  pub shown_write : v.is_broken ≡ false → (t : ℕ) (edit : List Row → List Row) → t < 2 ^ 32 → SetsTree (shown_over v r k c m) (shown_over v (with_tree r t (edit (r t))) k d m) t edit
  shown_write sound t edit low =
      let at : over v.trees r t ≡ r t = over-at v.trees r t (not_catalog t low) (not_version t low) in
      let trees : over v.trees (with_tree r t (edit (r t))) ≡ with_tree (over v.trees r) t (edit (over v.trees r t)) = rw at (over-edit v.trees r t (edit (r t)) low) in
      record { sound = sound; is = λ i. record (shown_over v r k c m) { trees = trees i; cursors = d } }

  pub shown_failure : (w : View) (e : StoreError) → IsFailure v w e → IsFailure (shown_over v r k c m) (shown_over w r k d m) e
  shown_failure w e h = record {
    kept = record {
      shape = h.kept.shape;
      reals = h.kept.reals;
      committed_shape = h.kept.committed_shape;
      committed_reals = h.kept.committed_reals;
      numbered = h.kept.numbered;
      was_open = h.kept.was_open;
      committed = λ o. ap (λ db. over db k) (h.kept.committed o);
      marks = λ o. ap (λ ms. shown_marks ms m) (h.kept.marks o);
    };
    unchanged = λ sound. ap (λ x. shown_over x r k d m) (h.unchanged sound);
    refused = λ clean cause. ap (λ x. shown_over x r k d m) (h.refused clean cause);
  }

  pub shown_object : (w : View) (now : Trees) (t : ℕ) (shape : Shape) (reals : ℕ) (edit : List Row → List Row) → SetsObject v w t shape reals edit → t < 2 ^ 32
      → ((j : ℕ) → j ≢ t → now j ≡ r j) → now t ≡ [] → SetsObject (shown_over v r k c m) (shown_over w now k d m) t shape reals edit
  shown_object w now t shape reals edit h low others none =
      let trees = over-object v.trees r now t [] (edit (v.trees catalog_tree)) low others none in
      record {
        sound = h.sound;
        is = ap (λ x. shown_over x now k d m) h.is ∙ (λ i. record (shown_over v r k c m) { trees = trees i; shape = set_at v.shape t shape; reals = set_at v.reals t reals; cursors = d });
      }

  pub shown_version : (w : View) (n : ℕ) → SetsTree v w version_tree (λ _. version_rows n) → SetsTree (shown_over v r k c m) (shown_over w r k d m) version_tree (λ _. version_rows n)
  shown_version w n h = record {
    sound = h.sound;
    is = ap (λ x. shown_over x r k d m) h.is ∙ (λ i. record (shown_over v r k c m) { trees = over-version v.trees r (version_rows n) i; cursors = d });
  }

  pub shown_commit : (w : View) → Commits v w → Commits (shown_over v r k c m) (shown_over w r r d [])
  shown_commit w h = record { sound = h.sound; is = ap (λ x. shown_over x r r d []) h.is }

  pub shown_rollback : (w : View) → IsRolledBack v w → IsRolledBack (shown_over v r k c m) (shown_over w k k d [])
  shown_rollback w h = record {
    kept = λ clean. let was = h.kept clean in record {
      shape = was.shape;
      reals = was.reals;
      committed_shape = was.committed_shape;
      committed_reals = was.committed_reals;
      numbered = was.numbered;
      was_open = was.was_open;
      committed = λ o. ap (λ db. over db k) (was.committed o);
      marks = λ o. ap (λ ms. shown_marks ms []) (was.marks o);
    };
    shape = h.shape;
    reals = h.reals;
    committed_shape = h.committed_shape;
    committed_reals = h.committed_reals;
    numbered = h.numbered;
    undone = λ o. (ap (λ db. over db k) (h.undone o).0, (h.undone o).1);
  }

  pub shown_savepoint : (w : View) → Marks v w → AreMarksShaped v.marks m → Marks (shown_over v r k c m) (shown_over w r k c (m ++ r ∷ []))
  shown_savepoint w h shaped =
      let marks = marks_pushed v.marks m (snapshot v) r shaped in
      record { sound = h.sound; is = ap (λ x. shown_over x r k c (m ++ r ∷ [])) h.is ∙ (λ i. record (shown_over v r k c m) { marks = marks i }) }

  pub shown_release : (w : View) → Releases v w → AreMarksShaped v.marks m → Releases (shown_over v r k c m) (shown_over w r k c (take (length m - 1) m))
  shown_release w h shaped =
      let less : take (length m - 1) m ≡ take (length v.marks - 1) m = ap (λ n. take (n - 1) m) (sym (marks_paired v.marks m shaped)) in
      let marks : shown_marks (take (length v.marks - 1) v.marks) (take (length m - 1) m) ≡ take (length (shown_marks v.marks m) - 1) (shown_marks v.marks m) =
      rw (less, length-shown_marks v.marks m shaped) (marks_taken (length v.marks - 1) v.marks m) in
      ap (λ x. shown_over x r k c (take (length m - 1) m)) h ∙ (λ i. record (shown_over v r k c m) { marks = marks i })

  pub shown_back : (w : View) → GoesBack v w → AreMarksShaped v.marks m → 0 < length m → GoesBack (shown_over v r k c m) (shown_over w (get_or m (length m - 1) r) k d m)
  shown_back w h shaped some =
      let same = marks_paired v.marks m shaped in
      let last : newest (shown_over v r k c m) ≡ shown_mark (newest v) (get_or m (length m - 1) r) =
      rw (length-shown_marks v.marks m shaped, ← same) (mark_at v.marks m (length v.marks - 1) (snapshot (shown_over v r k c m)) (snapshot v) r shaped (omega arith)) in
      record {
        was_open = h.was_open;
        is = ap (λ x. shown_over x (get_or m (length m - 1) r) k d m) h.is
            ∙ (λ i. record (shown_over v r k c m) { trees = (sym last i).trees; shape = (sym last i).shape; reals = (sym last i).reals; cursors = d; is_broken = false });
      }

-- what is shown of the same parts
pub alike : (v w : View) (r s k l : Trees) (c : ℕ → Option (List Row)) (m n : List Trees) → v ≡ w → r ≡ s → k ≡ l → m ≡ n → shown_over v r k c m ≡ shown_over w s l c n
alike v w r s k l c m n a b d e = λ i. shown_over (a i) (b i) (d i) c (e i)
