-- Worked values of the identifiers.
use Rattle.std.specs.Prelude.{◌≡◌, true, false, [], ◌∷◌, Some, None, Ok, Err, map, refl, codes}
use Rattle.work_ids.specs.Account.{account_of, account_text, ipi_account_of, is_trimmed_printable, party_account_of}
use Rattle.work_ids.specs.Blanks.{trimmed}
use Rattle.work_ids.specs.Characters.{capital, is_capital, is_capital_or_digit, is_digit, is_printable}
use Rattle.work_ids.specs.CheckDigit.{is_check_digit, weighted_sum}
use Rattle.work_ids.specs.Digits.{last_digits}
use Rattle.work_ids.specs.FileNames.{is_file_name, is_name_end, number_in_name}
use Rattle.work_ids.specs.IpiName.{ipi_field_of}
use Rattle.work_ids.specs.Isrc.{has_isrc_form, has_isrc_marks, isrc_field_of, isrc_of, isrc_of_text, printed_isrc, without_isrc_marks}
use Rattle.work_ids.specs.Iswc.{has_iswc_form, has_iswc_marks, has_right_check_digit, iswc_field_of, iswc_of, iswc_of_text, printed, without_iswc_marks}
use Rattle.work_ids.specs.Numbers.{is_plain_number, is_pool_number, is_return_number, number_in_text, number_where}
use Rattle.work_ids.specs.PartyNumber.{party_number_of}
use Rattle.work_ids.specs.Reporter.{reporter_of}
use Rattle.work_ids.specs.SegmentEnds.{segment_fault, segment_fault_number, stated_end}
use Rattle.work_ids.specs.Segments.{transmission_number_in, is_transmission_number, segment_of, sequence_of}
use Rattle.work_ids.specs.SenderKey.{sender_key_of}
use Rattle.work_ids.specs.SpelledNumber.{dated_in_text, dated_text, transmission_number_spelled, is_dated_text}
use Rattle.work_ids.specs.WorkNumber.{work_number_of}
use Rattle.work_ids.specs.declared.account.Account.TheVariants.{Ipi, Party, Unclaimed}
use Rattle.work_ids.specs.declared.segment.Segment.TheVariants.{Plain, Year}
use Rattle.work_ids.specs.declared.segment_end.SegmentFault.TheVariants.{NotLater, OutOfRange}
use Rattle.work_ids.specs.declared.spelled_number.SpelledNumber.TheVariants.{Dated, Plain as PlainNumber}
use Rattle.work_ids.specs.declared.fault.IdFault.TheVariants.{Character, CheckDigit, Length}

-- the first and the last character of each kind, and their neighbours
capitals : map is_capital (codes "@AZ[az") ≡ false ∷ true ∷ true ∷ false ∷ false ∷ false ∷ []
capitals = refl

digits : map is_digit (codes "/09:") ≡ false ∷ true ∷ true ∷ false ∷ []
digits = refl

capitals_or_digits : map is_capital_or_digit (codes "/09:@AZ[") ≡ false ∷ true ∷ true ∷ false ∷ false ∷ true ∷ true ∷ false ∷ []
capitals_or_digits = refl

printable : map is_printable (0x1F ∷ 0x20 ∷ 0x7E ∷ 0x7F ∷ []) ≡ false ∷ true ∷ true ∷ false ∷ []
printable = refl

made_capital : map capital (codes "`az{A9") ≡ codes "`AZ{A9"
made_capital = refl

-- the weighted sums of two ISWC, and their check digits
first_sum : weighted_sum (codes "034524680") ≡ 179
unfolding weighted_sum
first_sum = refl

second_sum : weighted_sum (codes "999999999") ≡ 406
unfolding weighted_sum
second_sum = refl

first_digit : is_check_digit (codes "034524680") 49 ≡ true
unfolding is_check_digit weighted_sum
first_digit = refl

no_other_digit : is_check_digit (codes "034524680") 50 ≡ false
unfolding is_check_digit weighted_sum
no_other_digit = refl

second_digit : is_check_digit (codes "999999999") 52 ≡ true
unfolding is_check_digit weighted_sum
second_digit = refl

-- ISWC fields
right_iswc : iswc_field_of (codes "T0345246801") ≡ Ok (Some (codes "T0345246801"))
unfolding iswc_of has_iswc_form has_right_check_digit is_check_digit weighted_sum
right_iswc = refl

wrong_digit : iswc_field_of (codes "T0345246802") ≡ Err CheckDigit
unfolding iswc_of has_iswc_form has_right_check_digit is_check_digit weighted_sum
wrong_digit = refl

sum_of_ten : iswc_field_of (codes "T0000000010") ≡ Ok (Some (codes "T0000000010"))
unfolding iswc_of has_iswc_form has_right_check_digit is_check_digit weighted_sum
sum_of_ten = refl

no_iswc : iswc_field_of (codes "           ") ≡ Ok None
no_iswc = refl

wrong_letter : iswc_field_of (codes "X0345246801") ≡ Err Character
unfolding iswc_of has_iswc_form
wrong_letter = refl

short_iswc : iswc_field_of (codes "T034524680") ≡ Err Length
unfolding iswc_of
short_iswc = refl

-- where several refusals hold it is the least
character_before_digit : iswc_field_of (codes "X0345246802") ≡ Err Character
unfolding iswc_of has_iswc_form
character_before_digit = refl

long_iswc : iswc_field_of (codes "T03452468010") ≡ Err Length
unfolding iswc_of
long_iswc = refl

length_before_character : iswc_field_of (codes "X034524680") ≡ Err Length
unfolding iswc_of
length_before_character = refl

printed_iswc : printed (codes "T0345246801") ≡ codes "T-034.524.680-1"
unfolding printed
printed_iswc = refl

read_back : iswc_of_text (codes "T-034.524.680-1") ≡ Ok (codes "T0345246801")
unfolding iswc_of_text has_iswc_marks without_iswc_marks iswc_of has_iswc_form has_right_check_digit is_check_digit weighted_sum
read_back = refl

wrong_point : iswc_of_text (codes "T-034.524-680-1") ≡ Err Character
unfolding iswc_of_text has_iswc_marks
wrong_point = refl

-- ISRC
right_isrc : isrc_field_of (codes "ATABC2600001") ≡ Ok (Some (codes "ATABC2600001"))
unfolding isrc_of has_isrc_form
right_isrc = refl

no_isrc : isrc_field_of (codes "            ") ≡ Ok None
no_isrc = refl

digit_for_a_letter : isrc_field_of (codes "A1ABC2600001") ≡ Err Character
unfolding isrc_of has_isrc_form
digit_for_a_letter = refl

isrc_in_print : printed_isrc (codes "ATABC2600001") ≡ codes "AT-ABC-26-00001"
unfolding printed_isrc
isrc_in_print = refl

wrong_hyphen : isrc_of_text (codes "AT-ABC-260-0001") ≡ Err Character
unfolding isrc_of_text has_isrc_marks
wrong_hyphen = refl

short_isrc : isrc_of_text (codes "AT") ≡ Err Length
unfolding isrc_of_text isrc_of
short_isrc = refl

small_letters : isrc_of_text (codes "at-abc-26-00001") ≡ Ok (codes "ATABC2600001")
unfolding isrc_of_text has_isrc_marks without_isrc_marks isrc_of has_isrc_form
small_letters = refl

small_letters_in_a_field : isrc_field_of (codes "atabc2600001") ≡ Err Character
unfolding isrc_of has_isrc_form
small_letters_in_a_field = refl

-- IPI name numbers
filled_ipi : ipi_field_of (codes "199        ") ≡ Ok (Some (codes "00000000199"))
unfolding trimmed
filled_ipi = refl

lettered_ipi : ipi_field_of (codes "0000000019A") ≡ Err Character
unfolding trimmed
lettered_ipi = refl

blank_in_an_ipi : ipi_field_of (codes "00000 00199") ≡ Err Character
unfolding trimmed
blank_in_an_ipi = refl

zero_ipi : ipi_field_of (codes "00000000000") ≡ Ok None
unfolding trimmed
zero_ipi = refl

blank_ipi : ipi_field_of (codes "           ") ≡ Ok None
unfolding trimmed
blank_ipi = refl

empty_ipi : ipi_field_of [] ≡ Ok None
unfolding trimmed
empty_ipi = refl

twelve_digits : ipi_field_of (codes "000000000199") ≡ Err Length
unfolding trimmed
twelve_digits = refl

-- numbers that a sender gives
trimmed_party : party_number_of (codes " A 1     ") ≡ Ok (codes "A 1      ")
unfolding trimmed
trimmed_party = refl

blank_party : party_number_of [] ≡ Ok (codes "         ")
unfolding trimmed
blank_party = refl

nine_byte_party : party_number_of (codes "123456789") ≡ Ok (codes "123456789")
unfolding trimmed
nine_byte_party = refl

ten_byte_party : party_number_of (codes "1234567890") ≡ Err Length
unfolding trimmed
ten_byte_party = refl

other_party : party_number_of (codes "P\t1") ≡ Err Character
unfolding trimmed
other_party = refl

trimmed_work : work_number_of (codes "W1            ") ≡ Ok (codes "W1            ")
trimmed_work = refl

blank_work : work_number_of (codes "              ") ≡ Err Length
blank_work = refl

whole_work : work_number_of (codes "12345678901234") ≡ Ok (codes "12345678901234")
whole_work = refl

long_work : work_number_of (codes "123456789012345") ≡ Err Length
long_work = refl

-- senders and reporters
sender : sender_key_of (codes "PB000000012") ≡ Ok (codes "PB000000012")
sender = refl

short_sender : sender_key_of (codes "PB00000001") ≡ Err Length
short_sender = refl

small_sender : sender_key_of (codes "pb000000012") ≡ Err Character
small_sender = refl

reporter : reporter_of (codes "RADIO1") ≡ Ok (codes "RADIO1              ")
reporter = refl

whole_reporter : reporter_of (codes "12345678901234567890") ≡ Ok (codes "12345678901234567890")
whole_reporter = refl

long_reporter : reporter_of (codes "123456789012345678901") ≡ Err Length
long_reporter = refl

no_reporter : reporter_of [] ≡ Err Length
no_reporter = refl

blank_in_a_reporter : reporter_of (codes "RADIO 1") ≡ Err Character
blank_in_a_reporter = refl

-- accounts
nobody : account_of (codes "UNCLAIMED") ≡ Ok Unclaimed
nobody = refl

by_ipi : account_of (codes "I00000000199") ≡ Ok (Ipi (codes "00000000199"))
unfolding ipi_account_of
by_ipi = refl

zero_account : account_of (codes "I00000000000") ≡ Err Character
unfolding ipi_account_of
zero_account = refl

by_number : account_of (codes "PPB000000012P1") ≡ Ok (Party (codes "PB000000012") (codes "P1       "))
unfolding party_account_of is_trimmed_printable
by_number = refl

no_account : account_of [] ≡ Err Length
no_account = refl

other_letter : account_of (codes "UNCLAIMEE") ≡ Err Character
other_letter = refl

short_account : account_of (codes "I0000000019") ≡ Err Length
unfolding ipi_account_of
short_account = refl

nine_byte_number : account_of (codes "PPB000000012123456789") ≡ Ok (Party (codes "PB000000012") (codes "123456789"))
unfolding party_account_of is_trimmed_printable
nine_byte_number = refl

ten_byte_number : account_of (codes "PPB0000000121234567890") ≡ Err Length
unfolding party_account_of
ten_byte_number = refl

no_number : account_of (codes "PPB000000012") ≡ Err Length
unfolding party_account_of
no_number = refl

blank_in_front : account_of (codes "PPB000000012 P1") ≡ Err Character
unfolding party_account_of is_trimmed_printable
blank_in_front = refl

text_by_ipi : account_text (Ipi (codes "00000000199")) ≡ codes "I00000000199"
text_by_ipi = refl

text_by_number : account_text (Party (codes "PB000000012") (codes "P1       ")) ≡ codes "PPB000000012P1"
text_by_number = refl

-- the limits of the numbers of transmissions, returns and pools, and their neighbours
transmission_limits : map (number_where is_plain_number) (0 ∷ 1 ∷ 999999 ∷ 1000000 ∷ []) ≡ None ∷ Some 1 ∷ Some 999999 ∷ None ∷ []
transmission_limits = refl

return_limits : map (number_where is_return_number) (0 ∷ 1 ∷ 999999 ∷ 1000000 ∷ []) ≡ None ∷ Some 1 ∷ Some 999999 ∷ None ∷ []
return_limits = refl

pool_limits : map (number_where is_pool_number) (0 ∷ 1 ∷ 99999 ∷ 100000 ∷ []) ≡ None ∷ Some 1 ∷ Some 99999 ∷ None ∷ []
pool_limits = refl

-- texts at the limits
transmission_texts : map (number_in_text is_plain_number) (codes "1" ∷ codes "999999" ∷ codes "1000000" ∷ []) ≡ Some 1 ∷ Some 999999 ∷ None ∷ []
transmission_texts = refl

return_texts : map (number_in_text is_return_number) (codes "1" ∷ codes "999999" ∷ codes "1000000" ∷ []) ≡ Some 1 ∷ Some 999999 ∷ None ∷ []
return_texts = refl

pool_texts : map (number_in_text is_pool_number) (codes "1" ∷ codes "99999" ∷ codes "100000" ∷ []) ≡ Some 1 ∷ Some 99999 ∷ None ∷ []
pool_texts = refl

-- a leading zero, zero, nothing, a letter, a blank, a sign
no_numbers : map (number_in_text is_pool_number) (codes "01" ∷ codes "0" ∷ [] ∷ codes "1a" ∷ codes " 1" ∷ codes "+1" ∷ []) ≡ None ∷ None ∷ None ∷ None ∷ None ∷ None ∷ []
no_numbers = refl

-- numbers of a fixed width
filled_with_zeros : last_digits 9 900 ≡ codes "000000900"
unfolding last_digits
filled_with_zeros = refl

cut_to_width : last_digits 5 123456 ≡ codes "23456"
unfolding last_digits
cut_to_width = refl

-- the limits of plain numbers and of those of a year, and their neighbours
plain_limits : map (transmission_number_in Plain) (0 ∷ 1 ∷ 999999 ∷ 1000000 ∷ []) ≡ None ∷ Some 1 ∷ Some 999999 ∷ None ∷ []
plain_limits = refl

year_limits : map (transmission_number_in (Year 26)) (0 ∷ 1 ∷ 9999 ∷ 10000 ∷ []) ≡ None ∷ Some 1260001 ∷ Some 1269999 ∷ None ∷ []
year_limits = refl

last_year : map (λ year. transmission_number_in (Year year) 1) (0 ∷ 99 ∷ 100 ∷ []) ≡ Some 1000001 ∷ Some 1990001 ∷ None ∷ []
last_year = refl

-- ranks that no number has: 0, number 0 of a year, and one past the last year
ranks : map is_transmission_number (0 ∷ 1 ∷ 1000000 ∷ 1260001 ∷ 1999999 ∷ 2000001 ∷ []) ≡ false ∷ true ∷ false ∷ true ∷ true ∷ false ∷ []
ranks = refl

segment_places : map segment_of (999999 ∷ 1000000 ∷ 1260001 ∷ 1999999 ∷ []) ≡ 0 ∷ 1 ∷ 27 ∷ 100 ∷ []
segment_places = refl

sequences : map sequence_of (999999 ∷ 1000000 ∷ 1260001 ∷ 1999999 ∷ []) ≡ 999999 ∷ 0 ∷ 1 ∷ 9999 ∷ []
sequences = refl

-- texts of numbers of a year
first_of_year : dated_text 26 1 ≡ codes "26-0001"
unfolding last_digits
first_of_year = refl

begun_year : dated_text 0 0 ≡ codes "00-0000"
unfolding last_digits
begun_year = refl

read_text : dated_in_text (codes "26-0001") ≡ Some (Dated 26 1)
unfolding dated_in_text is_dated_text
read_text = refl

-- one digit too few, one too many, no hyphen, a number of another form
no_dated_texts : map dated_in_text (codes "26-1" ∷ codes "026-0001" ∷ codes "26_0001" ∷ codes "1" ∷ []) ≡ None ∷ None ∷ None ∷ None ∷ []
unfolding dated_in_text is_dated_text
no_dated_texts = refl

-- a plain number over the limit is none, and so is number 0 of a year
spelled_numbers : map transmission_number_spelled (PlainNumber 1 ∷ PlainNumber 1260001 ∷ Dated 26 1 ∷ Dated 26 0 ∷ []) ≡ Some 1 ∷ None ∷ Some 1260001 ∷ None ∷ []
spelled_numbers = refl

-- names of files sent to society 900
long_name : number_in_name 900 (codes "CW260001EXA_900.V22") ≡ Some 1260001
unfolding number_in_name is_file_name is_name_end last_digits
long_name = refl

small_name : number_in_name 900 (codes "cw260001ex_900.v21") ≡ Some 1260001
unfolding number_in_name is_file_name is_name_end last_digits
small_name = refl

short_society : number_in_name 7 (codes "CW261234A1B_007.V21") ≡ Some 1261234
unfolding number_in_name is_file_name is_name_end last_digits
short_society = refl

-- number 0, another receiver, another version, a code of one and of four, a blank in a code
no_names : map (number_in_name 900) (codes "CW260000EXA_900.V22" ∷ codes "CW260001EXA_901.V22" ∷ codes "CW260001EXA_900.V30" ∷ codes "CW260001E_900.V22" ∷ codes "CW260001EXAM_900.V22" ∷ codes "CW260001E A_900.V22" ∷ []) ≡ None ∷ None ∷ None ∷ None ∷ None ∷ None ∷ []
unfolding number_in_name is_file_name is_name_end last_digits
no_names = refl

-- ends of segments: the plain one may go on to any year, one of a year to a later one alone
plain_end : stated_end Plain 0 0 (segment_fault Plain 0 0) ≡ Ok (record { segment = Plain; last = 0; next = 0 })
plain_end = refl

right_end : stated_end (Year 26) 9999 27 (segment_fault (Year 26) 9999 27) ≡ Ok (record { segment = Year 26; last = 9999; next = 27 })
right_end = refl

same_year : segment_fault (Year 26) 3 26 ≡ Some NotLater
same_year = refl

-- numbers out of range; where both faults hold it is the least
last_over_limit : segment_fault Plain 1000000 26 ≡ Some OutOfRange
last_over_limit = refl

next_over_limit : segment_fault Plain 1 100 ≡ Some OutOfRange
next_over_limit = refl

both_faults : segment_fault (Year 26) 10000 26 ≡ Some OutOfRange
both_faults = refl

fault_numbers : map segment_fault_number (OutOfRange ∷ NotLater ∷ []) ≡ 2 ∷ 3 ∷ []
fault_numbers = refl
