-- A header bears a sender key where it bears its sender type and its sender ID.
use Rattle.std.proofs.Common.{◌≡◌, ℕ, Bool, false, List, ◌++◌, length, take, ap, sym, ◌∙◌, inl, inr}
use Rattle.std.specs.Prelude.{bytes_eq, IsTrue, ◌↔◌}
use Rattle.std.proofs.lemmas.Bool.{cases_Bool}
use Rattle.std.proofs.lemmas.Slice.Eq.{bytes_eq-Decides}
use Rattle.std.proofs.lemmas.List.{take_at}

-- with another sender type, the key is another
pub other_sender_type : (type id key front : List ℕ) (is : Bool) → length type ≡ 2 → front ≡ take 2 key → (IsTrue is ↔ (type ≡ front)) → is ≡ false → is ≡ bytes_eq (type ++ id) key
other_sender_type type id key front is two begins same differs =
    elim (cases_Bool (bytes_eq (type ++ id) key)) [
      | inl equal ↦
          let joined = (bytes_eq-Decides (type ++ id) key).0 equal in
          same.1 (sym (take_at type id 2 two) ∙ ap (take 2) joined ∙ sym begins) ∙ sym equal
      | inr other ↦ differs ∙ sym other
    ]
