-- Facts on single lines.
use Rattle.std.proofs.Common.{◌≡◌, ℕ, Bool, true, false, eqb, List, [], ◌∷◌, refl, ap, ◌∙◌}
use Rattle.std.specs.Prelude.{◌&&◌, ◌||◌, bytes_eq}
use Rattle.std.proofs.lemmas.Bool.{eqb-true, or_parts, and_parts}
use Rattle.std.proofs.lemmas.Slice.Eq.{bytes_eq-Decides}
use Rattle.cwr_records.specs.Lines.{field, fill_field, is_blank}
use Rattle.cwr_records.specs.Places.{record_type_in}
use Rattle.cwr_files.specs.RecordTypes.{hdr, grh, grt, trl, has_type, is_frame}

-- a line has one record type
pub other_type : (a b line : List ℕ) → bytes_eq a b ≡ false → has_type a line ≡ true → has_type b line ≡ false
unfolding has_type
other_type a b line differ is = ap (λ x. bytes_eq x b) ((bytes_eq-Decides (record_type_in line) a).0 is) ∙ differ

-- a record that frames nothing has none of the four types
pub record NoFrame (line : List ℕ) : Type 0 where
  pub no_hdr : has_type hdr line ≡ false
  pub no_grh : has_type grh line ≡ false
  pub no_grt : has_type grt line ≡ false
  pub no_trl : has_type trl line ≡ false

pub no_frame : (line : List ℕ) → is_frame line ≡ false → NoFrame line
unfolding is_frame
no_frame line none =
    let a = or_parts (has_type hdr line || has_type grh line || has_type grt line) (has_type trl line) none in
    let b = or_parts (has_type hdr line || has_type grh line) (has_type grt line) a.0 in
    let c = or_parts (has_type hdr line) (has_type grh line) b.0 in
    record { no_hdr = c.0; no_grh = c.1; no_grt = b.1; no_trl = a.1 }

differs_at : (x y : ℕ) (t : Bool) → x ≡ y → eqb y 71 ≡ false → (eqb x 71 && t) ≡ false
differs_at x y t e d = ap (λ z. eqb z 71 && t) e ∙ ap (λ b. b && t) d

-- a blank line is no group header
pub blank_is_no_grh : (line : List ℕ) → is_blank line ≡ true → has_type grh line ≡ false
unfolding has_type field fill_field is_blank
blank_is_no_grh [] blank = refl
blank_is_no_grh (x ∷ xs) blank =
    let first = and_parts _ _ blank in
    differs_at x 32 _ (eqb-true x 32 first.0) refl
