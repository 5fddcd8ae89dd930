-- Small worked values of the definitions.
use Rattle.std.specs.Prelude.{◌≡◌, List, [], ◌∷◌, Some, None, false, true, refl, codes}
use Rattle.std.proofs.Common.{lit≤}
use Rattle.cwr_files.specs.Contents.{transmission_in}
use Rattle.cwr_files.specs.RecordTypes.{has_type, is_read, type_of_group}
use Rattle.cwr_records.specs.Lines.{field, fill_field, is_blank, line_of_piece}
use Rattle.work_ids.specs.Digits.{decimal_value}
use Rattle.cwr_records.specs.Records.{record_of}
use Rattle.cwr_records.specs.Typed.{indicator_of, share_of, territory_of}
use Rattle.cwr_records.specs.declared.work.TransactionKind.TheVariants.{Nwr, Rev}
use Rattle.share_rules.specs.Fault.{fault_of}
use Rattle.share_rules.specs.declared.office.Office.{Office}
use Rattle.work_ids.specs.Blanks.{trimmed}
use Rattle.work_ids.specs.CheckDigit.{is_check_digit, weighted_sum}
use Rattle.work_ids.specs.Isrc.{has_isrc_form, isrc_of}
use Rattle.work_ids.specs.Iswc.{has_iswc_form, has_right_check_digit, iswc_of}
use Rattle.works_core.specs.Line.{judged_in, line_of, verdicts_at}
use Rattle.works_core.specs.Numbered.{JudgedTransmission, has_number, last_number}
use Rattle.works_core.specs.Recordings.{isrcs_in}
use Rattle.works_core.specs.Verdicts.{ordinal_of, verdicts_from, versions_of, works_in}
use Rattle.works_core.specs.Versions.{work_at}
use Rattle.works_core.specs.declared.judged.Judged.{Judged}
use Rattle.works_core.specs.declared.judged.Judged.TheVariants.{Clean, Faulty}
use Rattle.works_core.specs.declared.verdict.Verdict.TheVariants.{Accepted, Rejected}
use Rattle.work_ids.specs.Blanks.{fill as filled}

-- a revision before its work, a faulty registration, the work, it again, its revision, another work
line : List Judged
line = Clean Rev (codes "SONG") ∷ Faulty 5 ∷ Clean Nwr (codes "SONG") ∷ Clean Nwr (codes "SONG") ∷ Clean Rev (codes "SONG") ∷ Clean Nwr (codes "TUNE") ∷ []

its_verdicts : verdicts_from [] line ≡ Rejected 21 ∷ Rejected 5 ∷ Accepted 1 0 ∷ Rejected 20 ∷ Accepted 1 1 ∷ Accepted 2 0 ∷ []
unfolding line
its_verdicts = refl

-- the same over two transmissions: the work's first version is at place 2 of the first, its second at place 1 of the second
cut_in_two : List JudgedTransmission
cut_in_two = record { number = 1; judged = Clean Rev (codes "SONG") ∷ Faulty 5 ∷ Clean Nwr (codes "SONG") ∷ [] } ∷ record { number = 2; judged = Clean Nwr (codes "SONG") ∷ Clean Rev (codes "SONG") ∷ [] } ∷ []

before_it_came : work_at cut_in_two (codes "SONG") 0 ≡ None
unfolding work_at cut_in_two
before_it_came = refl

at_the_first : work_at cut_in_two (codes "SONG") 1 ≡ Some (record { transmission = 1; place = 2; ordinal = 1; revision = 0 })
unfolding work_at cut_in_two
at_the_first = refl

at_the_second : work_at cut_in_two (codes "SONG") 2 ≡ Some (record { transmission = 2; place = 1; ordinal = 1; revision = 1 })
unfolding work_at cut_in_two
at_the_second = refl

above_the_front : work_at cut_in_two (codes "SONG") 9 ≡ Some (record { transmission = 2; place = 1; ordinal = 1; revision = 1 })
unfolding work_at cut_in_two
above_the_front = refl

of_no_work : work_at cut_in_two (codes "TUNE") 2 ≡ None
unfolding work_at cut_in_two
of_no_work = refl

-- the verdicts of each of the two
of_the_first : verdicts_at cut_in_two 1 ≡ Rejected 21 ∷ Rejected 5 ∷ Accepted 1 0 ∷ []
unfolding verdicts_at cut_in_two
of_the_first = refl

of_the_second : verdicts_at cut_in_two 2 ≡ Rejected 20 ∷ Accepted 1 1 ∷ []
unfolding verdicts_at cut_in_two
of_the_second = refl

-- numbers that do not follow one another: a cut between them, a number that the line lacks, and the last one
apart : List JudgedTransmission
apart = record { number = 4; judged = Clean Nwr (codes "SONG") ∷ [] } ∷ record { number = 9; judged = Faulty 5 ∷ Clean Rev (codes "SONG") ∷ [] } ∷ []

between_the_two : work_at apart (codes "SONG") 8 ≡ Some (record { transmission = 4; place = 0; ordinal = 1; revision = 0 })
unfolding work_at apart
between_the_two = refl

of_the_ninth : verdicts_at apart 9 ≡ Rejected 5 ∷ Accepted 1 1 ∷ []
unfolding verdicts_at apart
of_the_ninth = refl

numbers_that_it_has : has_number 2 apart ∷ has_number 4 apart ∷ has_number 9 apart ∷ [] ≡ false ∷ true ∷ true ∷ []
unfolding apart
numbers_that_it_has = refl

its_last_number : last_number 0 apart ≡ 9
unfolding apart
its_last_number = refl

-- two works registered, the second revised twice: it keeps its ordinal, and its revisions are its own
second_work : verdicts_from [] (Clean Nwr (codes "SONG") ∷ Clean Nwr (codes "TUNE") ∷ Clean Rev (codes "TUNE") ∷ Clean Rev (codes "SONG") ∷ Clean Rev (codes "TUNE") ∷ []) ≡ Accepted 1 0 ∷ Accepted 2 0 ∷ Accepted 2 1 ∷ Accepted 1 1 ∷ Accepted 2 2 ∷ []
second_work = refl

-- what has come so far of two works, the nearest first: two are accepted NWR, and three are versions of the second
come : List Judged
come = Clean Rev (codes "TUNE") ∷ Faulty 1 ∷ Clean Rev (codes "TUNE") ∷ Clean Nwr (codes "TUNE") ∷ Clean Nwr (codes "SONG") ∷ Clean Rev (codes "TUNE") ∷ []

its_counts : works_in come ∷ ordinal_of (codes "SONG") come ∷ ordinal_of (codes "TUNE") come ∷ versions_of (codes "SONG") come ∷ versions_of (codes "TUNE") come ∷ [] ≡ 2 ∷ 1 ∷ 2 ∷ 1 ∷ 3 ∷ []
unfolding come
its_counts = refl

-- a recording named twice, and one without an ISRC between
repeats_kept : isrcs_in (record_of (codes "REC0000000000000001                                                                                                                                                                                                                                      ATABC2600001") ∷ record_of (codes "REC0000000000000001                                                                                                                                                                                                                                                  ") ∷ record_of (codes "REC0000000000000001                                                                                                                                                                                                                                      GBXYZ2600002") ∷ record_of (codes "REC0000000000000001                                                                                                                                                                                                                                      ATABC2600001") ∷ []) ≡ codes "ATABC2600001" ∷ codes "GBXYZ2600002" ∷ codes "ATABC2600001" ∷ []
unfolding field fill_field is_blank record_of has_isrc_form isrc_of trimmed
repeats_kept = refl

abbrev office : Office
office = record { society = 900; territory = 40; name = filled 45 (codes "EXAMPLE SOCIETY"); name_length = 15; within_limits = refl; name_filled = refl; name_in_range = lit≤ tt }

-- a registration whose ownership shares add up to 10007, the registration, and its revision
its_line : line_of office ((1, transmission_in (codes "HDRPB000000012EXAMPLE MUSIC                                01.102026010510150020260106\r\nGRHNWR0000102.200000000000\r\nNWR0000000000000000FIRST SONG                                                    W1            T0345246801\r\nSPU000000000000000101P1       EXAMPLE MUSIC                                 E          00000000199                 05000   10000   10000\r\nSPT0000000000000002P1             050001000010000I2136 001\r\nSWR0000000000000003A1       WRITER                                       ANNA                           CA         00000000295   05007   00000   00000\r\nSWT0000000000000004A1       050000000000000I2136 001\r\nPWR0000000000000005P1       EXAMPLE MUSIC                                                            A1\r\nREC0000000000000006                                                                                                                                                                                                                                      ATABC2600001\r\nGRT000010000000100000009\r\nTRL000010000000100000011\r\n")) ∷ (2, transmission_in (codes "HDRPB000000012EXAMPLE MUSIC                                01.102026010510150020260106\r\nGRHNWR0000102.200000000000\r\nNWR0000000000000000FIRST SONG                                                    W1            T0345246801\r\nSPU000000000000000101P1       EXAMPLE MUSIC                                 E          00000000199                 05000   10000   10000\r\nSPT0000000000000002P1             050001000010000I2136 001\r\nSWR0000000000000003A1       WRITER                                       ANNA                           CA         00000000295   05000   00000   00000\r\nSWT0000000000000004A1       050000000000000I2136 001\r\nPWR0000000000000005P1       EXAMPLE MUSIC                                                            A1\r\nREC0000000000000006                                                                                                                                                                                                                                      ATABC2600001\r\nGRT000010000000100000009\r\nTRL000010000000100000011\r\n")) ∷ (3, transmission_in (codes "HDRPB000000012EXAMPLE MUSIC                                01.102026010510150020260106\r\nGRHREV0000102.200000000000\r\nREV0000000000000000FIRST SONG                                                    W1            T0345246801\r\nSPU000000000000000101P1       EXAMPLE MUSIC                                 E          00000000199                 00000   10000   10000\r\nSPT0000000000000002P1             000001000010000I2136 001\r\nSWR0000000000000003A1       WRITER                                       ANNA                           CA         00000000295   10000   00000   00000\r\nSWT0000000000000004A1       100000000000000I2136 001\r\nPWR0000000000000005P1       EXAMPLE MUSIC                                                            A1\r\nREC0000000000000006                                                                                                                                                                                                                                      ATABC2600001\r\nGRT000010000000100000009\r\nTRL000010000000100000011\r\n")) ∷ []) ≡ record { number = 1; judged = Faulty 5 ∷ [] } ∷ record { number = 2; judged = Clean Nwr (codes "W1            ") ∷ [] } ∷ record { number = 3; judged = Clean Rev (codes "W1            ") ∷ [] } ∷ []
unfolding field fill_field is_blank line_of_piece decimal_value record_of indicator_of share_of territory_of transmission_in has_type is_read type_of_group fault_of is_check_digit weighted_sum has_isrc_form isrc_of has_iswc_form has_right_check_digit iswc_of trimmed judged_in
its_line = refl
