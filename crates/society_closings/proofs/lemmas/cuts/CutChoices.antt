-- Versions that are chosen: with one work more, and by another test of the same works.
use Rattle.std.proofs.Common.{◌≡◌, ◌∙◌, ◌||◌, ◌==◌, Bool, true, false, cond, ℕ, List, Option, Some, None, Result, Ok, Err, OnOk, refl, ap, sym, subst, bytes_eq}
use Rattle.std.proofs.lemmas.Slice.Eq.{bytes_eq-Decides}
use Rattle.std.specs.BTreeSet.{contains}
use Rattle.std.specs.Ordering.{nat_cmp}
use Rattle.share_rules.specs.declared.office.Office.{Office}
use Rattle.society_core.proofs.lemmas.Gaps.{version_in_line}
use Rattle.society_core.specs.Book.{Book, is_one_of, numbers_to, version_in}
use Rattle.society_core.specs.declared.transmission_key.TransmissionKey.{TransmissionKey}
use Rattle.society_closings.specs.CutWorks.{Chooses, chosen_at}
use Rattle.society_closings.specs.declared.chosen.Chosen.{Chosen}
use Rattle.society_book.proofs.lemmas.rows_alike.KeyRows.{either_way}
use Rattle.std.specs.Cmp.{unsigned_Decides}
use Rattle.works_core.specs.declared.version.WorkVersion.{WorkVersion}
use Rattle.std.proofs.lemmas.Bool.{or_right}
use Rattle.society_book.proofs.lemmas.shown.Skips.{last_false}

pub some_is : {X : Type 0} (x y : X) → ◌≡◌ {A = Option X} (Some x) (Some y) → x ≡ y
some_is x y e = cc

module _ (office : Office) (book : Book) (key : TransmissionKey) (known : List ℕ → Bool) (work : List ℕ) where
  -- by another test of the same works
  pub chooses_as : (after : List ℕ → Bool) (chosen : Chosen) → ((q : List ℕ) → after q ≡ (known q || bytes_eq q work)) → Chooses office book key (λ other. known other || bytes_eq work other) chosen → Chooses office book key after chosen
  chooses_as after chosen same chooses = record {
    versions = λ q. chooses.versions q ∙ ap (λ (b : Bool). cond (known q || b) (version_in office book key.sender q key.number) None) (either_way work q) ∙ ap (λ (b : Bool). cond b (version_in office book key.sender q key.number) None) (sym (same q));
    transmissions = chooses.transmissions;
    within = chooses.within;
  }

  -- one that has a version has it chosen
  pub chooses_one : (old new : Chosen) (version : WorkVersion) → Chooses office book key known old → ◌≡◌ {A = Option WorkVersion} (Some version) (version_in office book key.sender work key.number) → ((q : List ℕ) → chosen_at new q ≡ cond (bytes_eq work q) (Some version) (chosen_at old q)) → ((number : ℕ) → contains nat_cmp new.transmissions number ≡ (version.transmission == number || contains nat_cmp old.transmissions number)) → Chooses office book key (λ other. known other || bytes_eq work other) new
  chooses_one old new version chooses some kept covers = record {
    versions = λ q. kept q ∙ by_case q (bytes_eq work q) refl;
    transmissions = λ q v is. by_number q v (bytes_eq work q) (sym (kept q) ∙ is);
    within = λ n there. by_member n (version.transmission == n) refl (sym (covers n) ∙ there);
  }
    where
      by_case : (q : List ℕ) (e : Bool) → bytes_eq work q ≡ e → cond e (Some version) (chosen_at old q) ≡ cond (known q || e) (version_in office book key.sender q key.number) None
      by_case q true is =
          some ∙ ap (λ (x : List ℕ). version_in office book key.sender x key.number) ((bytes_eq-Decides work q).0 is)
          ∙ ap (λ (b : Bool). cond b (version_in office book key.sender q key.number) None) (sym (or_right (known q) true refl))
      by_case q false is = chooses.versions q ∙ ap (λ (b : Bool). cond b (version_in office book key.sender q key.number) None) (sym (last_false (known q)))

      by_number : (q : List ℕ) (v : WorkVersion) (e : Bool) → cond e (Some version) (chosen_at old q) ≡ Some v → contains nat_cmp new.transmissions v.transmission ≡ true
      by_number q v true is =
          let same : version ≡ v = some_is version v is in
          covers v.transmission ∙ ap (λ (b : Bool). b || contains nat_cmp old.transmissions v.transmission) ((unsigned_Decides version.transmission v.transmission).1 (ap (λ (u : WorkVersion). u.transmission) same))
      by_number q v false is =
          covers v.transmission ∙ ap (λ (b : Bool). version.transmission == v.transmission || b) (chooses.transmissions q v is) ∙ or_right (version.transmission == v.transmission) true refl

      by_member : (n : ℕ) (c : Bool) → (version.transmission == n) ≡ c → (c || contains nat_cmp old.transmissions n) ≡ true → is_one_of (numbers_to book key.sender key.number) n ≡ true
      by_member n true is there =
          subst (λ (k : ℕ). is_one_of (numbers_to book key.sender key.number) k ≡ true) ((unsigned_Decides version.transmission n).0 is)
          (version_in_line office book key.sender work key.number version (sym some))
      by_member n false is there = chooses.within n there

  -- so it is once the version is kept
  pub chooses_kept : {E : Type 0} (old new : Chosen) (version : WorkVersion) (r : Result (Unit {0}) E) → Chooses office book key known old → ◌≡◌ {A = Option WorkVersion} (Some version) (version_in office book key.sender work key.number) → OnOk r ((q : List ℕ) → chosen_at new q ≡ cond (bytes_eq work q) (Some version) (chosen_at old q)) → OnOk r ((number : ℕ) → contains nat_cmp new.transmissions number ≡ (version.transmission == number || contains nat_cmp old.transmissions number)) → OnOk r (Chooses office book key (λ other. known other || bytes_eq work other) new)
  chooses_kept old new version (Ok x) chooses some kept covers = chooses_one old new version chooses some kept covers
  chooses_kept old new version (Err e) chooses some kept covers = tt
