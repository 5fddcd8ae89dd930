-- Worked values: returns with their rows or their faults.
use Rattle.std.specs.Prelude.{◌≡◌, ◌∷◌, [], Some, None, codes, refl}
use Rattle.csv.specs.Machine.{next_record}
use Rattle.csv.specs.Reading.{records_from, strip_bom}
use Rattle.work_ids.specs.Digits.{decimal_value}
use Rattle.work_ids.specs.Isrc.{has_isrc_form, has_isrc_marks, isrc_of, isrc_of_text, without_isrc_marks}
use Rattle.perf_returns.specs.Returns.{return_fault, performances_in}

-- no record is fault 1 at row 1, and so is another header
empty_body : return_fault [] ≡ Some (record { number = 1; row = 1 })
unfolding return_fault next_record records_from strip_bom
empty_body = refl

capital_header : return_fault (codes "ISRC,plays,seconds\n") ≡ Some (record { number = 1; row = 1 })
unfolding return_fault next_record records_from strip_bom
capital_header = refl

-- the header alone is a return of no rows
header_alone : return_fault (codes "isrc,plays,seconds\n") ≡ None
unfolding return_fault next_record records_from strip_bom
header_alone = refl

no_rows : performances_in (codes "isrc,plays,seconds\n") ≡ []
unfolding performances_in next_record records_from strip_bom
no_rows = refl

-- a row, the ISRC in its printed form and small letters
right_row : return_fault (codes "isrc,plays,seconds\r\nat-abc-26-00001,1,60") ≡ None
unfolding return_fault next_record records_from strip_bom isrc_of_text isrc_of has_isrc_form has_isrc_marks without_isrc_marks decimal_value
right_row = refl

its_row : performances_in (codes "isrc,plays,seconds\r\nat-abc-26-00001,1,60") ≡ record { isrc = codes "ATABC2600001"; plays = 1; seconds = 60 } ∷ []
unfolding performances_in next_record records_from strip_bom isrc_of_text isrc_of has_isrc_form has_isrc_marks without_isrc_marks decimal_value
its_row = refl

-- two fields; no ISRC; plays of eight digits; seconds above the limit; plays before seconds
two_fields : return_fault (codes "isrc,plays,seconds\nATABC2600001,10\n") ≡ Some (record { number = 2; row = 2 })
unfolding return_fault next_record records_from strip_bom
two_fields = refl

no_isrc : return_fault (codes "isrc,plays,seconds\nAT,10,200\n") ≡ Some (record { number = 3; row = 2 })
unfolding return_fault next_record records_from strip_bom isrc_of_text isrc_of has_isrc_form has_isrc_marks without_isrc_marks decimal_value
no_isrc = refl

eight_digits : return_fault (codes "isrc,plays,seconds\nATABC2600001,00000001,200\n") ≡ Some (record { number = 4; row = 2 })
unfolding return_fault next_record records_from strip_bom isrc_of_text isrc_of has_isrc_form has_isrc_marks without_isrc_marks decimal_value
eight_digits = refl

long_play : return_fault (codes "isrc,plays,seconds\nATABC2600001,10,10001\n") ≡ Some (record { number = 5; row = 2 })
unfolding return_fault next_record records_from strip_bom isrc_of_text isrc_of has_isrc_form has_isrc_marks without_isrc_marks decimal_value
long_play = refl

both_wrong : return_fault (codes "isrc,plays,seconds\nATABC2600001,x,y\n") ≡ Some (record { number = 4; row = 2 })
unfolding return_fault next_record records_from strip_bom isrc_of_text isrc_of has_isrc_form has_isrc_marks without_isrc_marks decimal_value
both_wrong = refl
