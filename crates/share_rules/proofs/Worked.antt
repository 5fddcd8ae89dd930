-- Worked values: the faults and the weights of the sample files and of changed ones.
use Rattle.std.specs.Prelude.{◌≡◌, ℕ, Bool, true, false, List, [], ◌∷◌, map, Option, Some, None, Ok, refl, codes}
use Rattle.std.specs.List.{list_any}
use Rattle.std.proofs.Common.{lit≤}
use Rattle.cwr_files.specs.Contents.{transactions_of, transmission_in}
use Rattle.cwr_files.specs.RecordTypes.{has_type, is_read, type_of_group}
use Rattle.cwr_records.specs.Lines.{field, fill_field, is_blank, line_of_piece}
use Rattle.work_ids.specs.Digits.{decimal_value}
use Rattle.cwr_records.specs.Records.{record_of}
use Rattle.cwr_records.specs.Typed.{indicator_of, share_of, territory_of}
use Rattle.cwr_records.specs.declared.record.Record.{Record}
use Rattle.share_rules.specs.Fault.{fault_of, has_row_without_party, names_no_publisher, owns_too_much}
use Rattle.share_rules.specs.Office.{is_office, name_of}
use Rattle.share_rules.specs.Parties.{collected, counts, interests, no_shares, same_number, share_fields, shares_of}
use Rattle.share_rules.specs.Weights.{account_by, unclaimed_beside, weights_of}
use Rattle.work_ids.specs.CheckDigit.{is_check_digit, weighted_sum}
use Rattle.work_ids.specs.Isrc.{has_isrc_form, isrc_of}
use Rattle.work_ids.specs.Iswc.{has_iswc_form, has_right_check_digit, iswc_of}
use Rattle.work_ids.specs.Blanks.{trimmed}
use Rattle.share_rules.specs.declared.holder.Holder.{Holder}
use Rattle.share_rules.specs.declared.kind.Kind.TheVariants.{Performing, Mechanical}
use Rattle.share_rules.specs.declared.office.Office.{Office}
use Rattle.share_rules.specs.declared.party.Side.TheVariants.{Publisher}
use Rattle.share_rules.specs.declared.territory_row.TerritoryRow.{TerritoryRow}
use Rattle.work_ids.specs.declared.account.Account.{Account}
use Rattle.work_ids.specs.declared.account.Account.TheVariants.{Ipi, Party, Unclaimed}
use Rattle.work_ids.specs.Blanks.{fill as filled}

abbrev office : Office
office = record { society = 900; territory = 40; name = filled 45 (codes "EXAMPLE SOCIETY"); name_length = 15; within_limits = refl; name_filled = refl; name_in_range = lit≤ tt }

-- the faults of a body's transactions
abbrev faults : List ℕ → List (Option ℕ)
faults body = map (fault_of office) (transactions_of (transmission_in body))

abbrev weighs : Account → ℕ → Holder
weighs account weight = record { account = account; weight = weight }

-- the publisher of the samples, the writer, and nobody, with these weights
abbrev weights : ℕ → ℕ → ℕ → List (List Holder)
weights publisher writer nobody = (weighs (Ipi (codes "00000000199")) publisher ∷ weighs (Ipi (codes "00000000295")) writer ∷ weighs Unclaimed nobody ∷ []) ∷ []

-- nothing wrong
clean : faults (codes "HDRPB000000012EXAMPLE MUSIC                                01.102026010510150020260106\r\nGRHNWR0000102.200000000000\r\nNWR0000000000000000FIRST SONG                                                    W1            T0345246801\r\nSPU000000000000000101P1       EXAMPLE MUSIC                                 E          00000000199                 05000   10000   10000\r\nSPT0000000000000002P1             050001000010000I2136 001\r\nSWR0000000000000003A1       WRITER                                       ANNA                           CA         00000000295   05000   00000   00000\r\nSWT0000000000000004A1       050000000000000I2136 001\r\nPWR0000000000000005P1       EXAMPLE MUSIC                                                            A1\r\nREC0000000000000006                                                                                                                                                                                                                                      ATABC2600001\r\nGRT000010000000100000009\r\nTRL000010000000100000011\r\n") ≡ None ∷ []
unfolding field fill_field is_blank line_of_piece decimal_value record_of indicator_of share_of territory_of transmission_in has_type is_read type_of_group fault_of weights_of is_check_digit weighted_sum has_isrc_form isrc_of has_iswc_form has_right_check_digit iswc_of trimmed
clean = refl

-- a blank title, and a wrong ISWC
blank_title : faults (codes "HDRPB000000012EXAMPLE MUSIC                                01.102026010510150020260106\r\nGRHNWR0000102.200000000000\r\nNWR0000000000000000                                                              W1            T0345246802\r\nSPU000000000000000101P1       EXAMPLE MUSIC                                 E          00000000199                 05000   10000   10000\r\nSPT0000000000000002P1             050001000010000I2136 001\r\nSWR0000000000000003A1       WRITER                                       ANNA                           CA         00000000295   05000   00000   00000\r\nSWT0000000000000004A1       050000000000000I2136 001\r\nPWR0000000000000005P1       EXAMPLE MUSIC                                                            A1\r\nREC0000000000000006                                                                                                                                                                                                                                      ATABC2600001\r\nGRT000010000000100000009\r\nTRL000010000000100000011\r\n") ≡ Some 1 ∷ []
unfolding field fill_field is_blank line_of_piece decimal_value record_of indicator_of share_of territory_of transmission_in has_type is_read type_of_group fault_of weights_of is_check_digit weighted_sum has_isrc_form isrc_of has_iswc_form has_right_check_digit iswc_of trimmed
blank_title = refl

-- a blank work number
blank_number : faults (codes "HDRPB000000012EXAMPLE MUSIC                                01.102026010510150020260106\r\nGRHNWR0000102.200000000000\r\nNWR0000000000000000FIRST SONG                                                                  T0345246801\r\nSPU000000000000000101P1       EXAMPLE MUSIC                                 E          00000000199                 05000   10000   10000\r\nSPT0000000000000002P1             050001000010000I2136 001\r\nSWR0000000000000003A1       WRITER                                       ANNA                           CA         00000000295   05000   00000   00000\r\nSWT0000000000000004A1       050000000000000I2136 001\r\nPWR0000000000000005P1       EXAMPLE MUSIC                                                            A1\r\nREC0000000000000006                                                                                                                                                                                                                                      ATABC2600001\r\nGRT000010000000100000009\r\nTRL000010000000100000011\r\n") ≡ Some 2 ∷ []
unfolding field fill_field is_blank line_of_piece decimal_value record_of indicator_of share_of territory_of transmission_in has_type is_read type_of_group fault_of weights_of is_check_digit weighted_sum has_isrc_form isrc_of has_iswc_form has_right_check_digit iswc_of trimmed
blank_number = refl

-- a wrong check digit
wrong_iswc : faults (codes "HDRPB000000012EXAMPLE MUSIC                                01.102026010510150020260106\r\nGRHNWR0000102.200000000000\r\nNWR0000000000000000FIRST SONG                                                    W1            T0345246802\r\nSPU000000000000000101P1       EXAMPLE MUSIC                                 E          00000000199                 05000   10000   10000\r\nSPT0000000000000002P1             050001000010000I2136 001\r\nSWR0000000000000003A1       WRITER                                       ANNA                           CA         00000000295   05000   00000   00000\r\nSWT0000000000000004A1       050000000000000I2136 001\r\nPWR0000000000000005P1       EXAMPLE MUSIC                                                            A1\r\nREC0000000000000006                                                                                                                                                                                                                                      ATABC2600001\r\nGRT000010000000100000009\r\nTRL000010000000100000011\r\n") ≡ Some 3 ∷ []
unfolding field fill_field is_blank line_of_piece decimal_value record_of indicator_of share_of territory_of transmission_in has_type is_read type_of_group fault_of weights_of is_check_digit weighted_sum has_isrc_form isrc_of has_iswc_form has_right_check_digit iswc_of trimmed
wrong_iswc = refl

-- a share above the whole
great_share : faults (codes "HDRPB000000012EXAMPLE MUSIC                                01.102026010510150020260106\r\nGRHNWR0000102.200000000000\r\nNWR0000000000000000FIRST SONG                                                    W1            T0345246801\r\nSPU000000000000000101P1       EXAMPLE MUSIC                                 E          00000000199                 05000   10000   10000\r\nSPT0000000000000002P1             050001000010000I2136 001\r\nSWR0000000000000003A1       WRITER                                       ANNA                           CA         00000000295   10001   00000   00000\r\nSWT0000000000000004A1       050000000000000I2136 001\r\nPWR0000000000000005P1       EXAMPLE MUSIC                                                            A1\r\nREC0000000000000006                                                                                                                                                                                                                                      ATABC2600001\r\nGRT000010000000100000009\r\nTRL000010000000100000011\r\n") ≡ Some 4 ∷ []
unfolding field fill_field is_blank line_of_piece decimal_value record_of indicator_of share_of territory_of transmission_in has_type is_read type_of_group fault_of weights_of is_check_digit weighted_sum has_isrc_form isrc_of has_iswc_form has_right_check_digit iswc_of trimmed
great_share = refl

-- ownership shares that add up to 10007
owned_10007 : faults (codes "HDRPB000000012EXAMPLE MUSIC                                01.102026010510150020260106\r\nGRHNWR0000102.200000000000\r\nNWR0000000000000000FIRST SONG                                                    W1            T0345246801\r\nSPU000000000000000101P1       EXAMPLE MUSIC                                 E          00000000199                 05000   10000   10000\r\nSPT0000000000000002P1             050001000010000I2136 001\r\nSWR0000000000000003A1       WRITER                                       ANNA                           CA         00000000295   05007   00000   00000\r\nSWT0000000000000004A1       050000000000000I2136 001\r\nPWR0000000000000005P1       EXAMPLE MUSIC                                                            A1\r\nREC0000000000000006                                                                                                                                                                                                                                      ATABC2600001\r\nGRT000010000000100000009\r\nTRL000010000000100000011\r\n") ≡ Some 5 ∷ []
unfolding field fill_field is_blank line_of_piece decimal_value record_of indicator_of share_of territory_of transmission_in has_type is_read type_of_group fault_of weights_of is_check_digit weighted_sum has_isrc_form isrc_of has_iswc_form has_right_check_digit iswc_of trimmed
owned_10007 = refl

-- ownership shares that add up to 10006
owned_10006 : faults (codes "HDRPB000000012EXAMPLE MUSIC                                01.102026010510150020260106\r\nGRHNWR0000102.200000000000\r\nNWR0000000000000000FIRST SONG                                                    W1            T0345246801\r\nSPU000000000000000101P1       EXAMPLE MUSIC                                 E          00000000199                 05000   10000   10000\r\nSPT0000000000000002P1             050001000010000I2136 001\r\nSWR0000000000000003A1       WRITER                                       ANNA                           CA         00000000295   05006   00000   00000\r\nSWT0000000000000004A1       050000000000000I2136 001\r\nPWR0000000000000005P1       EXAMPLE MUSIC                                                            A1\r\nREC0000000000000006                                                                                                                                                                                                                                      ATABC2600001\r\nGRT000010000000100000009\r\nTRL000010000000100000011\r\n") ≡ None ∷ []
unfolding field fill_field is_blank line_of_piece decimal_value record_of indicator_of share_of territory_of transmission_in has_type is_read type_of_group fault_of weights_of is_check_digit weighted_sum has_isrc_form isrc_of has_iswc_form has_right_check_digit iswc_of trimmed
owned_10006 = refl

-- a territory row of no publisher
row_of_nobody : faults (codes "HDRPB000000012EXAMPLE MUSIC                                01.102026010510150020260106\r\nGRHNWR0000102.200000000000\r\nNWR0000000000000000FIRST SONG                                                    W1            T0345246801\r\nSPU000000000000000101P1       EXAMPLE MUSIC                                 E          00000000199                 05000   10000   10000\r\nSPT0000000000000002P2             050001000010000I2136 001\r\nSWR0000000000000003A1       WRITER                                       ANNA                           CA         00000000295   05000   00000   00000\r\nSWT0000000000000004A1       050000000000000I2136 001\r\nPWR0000000000000005P1       EXAMPLE MUSIC                                                            A1\r\nREC0000000000000006                                                                                                                                                                                                                                      ATABC2600001\r\nGRT000010000000100000009\r\nTRL000010000000100000011\r\n") ≡ Some 6 ∷ []
unfolding field fill_field is_blank line_of_piece decimal_value record_of indicator_of share_of territory_of transmission_in has_type is_read type_of_group fault_of weights_of is_check_digit weighted_sum has_isrc_form isrc_of has_iswc_form has_right_check_digit iswc_of trimmed
row_of_nobody = refl

-- a writer whose publisher is not there
pwr_of_nobody : faults (codes "HDRPB000000012EXAMPLE MUSIC                                01.102026010510150020260106\r\nGRHNWR0000102.200000000000\r\nNWR0000000000000000FIRST SONG                                                    W1            T0345246801\r\nSPU000000000000000101P1       EXAMPLE MUSIC                                 E          00000000199                 05000   10000   10000\r\nSPT0000000000000002P1             050001000010000I2136 001\r\nSWR0000000000000003A1       WRITER                                       ANNA                           CA         00000000295   05000   00000   00000\r\nSWT0000000000000004A1       050000000000000I2136 001\r\nPWR0000000000000005P2       EXAMPLE MUSIC                                                            A1\r\nREC0000000000000006                                                                                                                                                                                                                                      ATABC2600001\r\nGRT000010000000100000009\r\nTRL000010000000100000011\r\n") ≡ Some 7 ∷ []
unfolding field fill_field is_blank line_of_piece decimal_value record_of indicator_of share_of territory_of transmission_in has_type is_read type_of_group fault_of weights_of is_check_digit weighted_sum has_isrc_form isrc_of has_iswc_form has_right_check_digit iswc_of trimmed
pwr_of_nobody = refl

-- collection shares that add up to 10007
collected_10007 : faults (codes "HDRPB000000012EXAMPLE MUSIC                                01.102026010510150020260106\r\nGRHNWR0000102.200000000000\r\nNWR0000000000000000FIRST SONG                                                    W1            T0345246801\r\nSPU000000000000000101P1       EXAMPLE MUSIC                                 E          00000000199                 05000   10000   10000\r\nSPT0000000000000002P1             050071000010000I2136 001\r\nSWR0000000000000003A1       WRITER                                       ANNA                           CA         00000000295   05000   00000   00000\r\nSWT0000000000000004A1       050000000000000I2136 001\r\nPWR0000000000000005P1       EXAMPLE MUSIC                                                            A1\r\nREC0000000000000006                                                                                                                                                                                                                                      ATABC2600001\r\nGRT000010000000100000009\r\nTRL000010000000100000011\r\n") ≡ Some 8 ∷ []
unfolding field fill_field is_blank line_of_piece decimal_value record_of indicator_of share_of territory_of transmission_in has_type is_read type_of_group fault_of weights_of is_check_digit weighted_sum has_isrc_form isrc_of has_iswc_form has_right_check_digit iswc_of trimmed
collected_10007 = refl

-- an IPI name number with a letter
wrong_ipi : faults (codes "HDRPB000000012EXAMPLE MUSIC                                01.102026010510150020260106\r\nGRHNWR0000102.200000000000\r\nNWR0000000000000000FIRST SONG                                                    W1            T0345246801\r\nSPU000000000000000101P1       EXAMPLE MUSIC                                 E          00000000199                 05000   10000   10000\r\nSPT0000000000000002P1             050001000010000I2136 001\r\nSWR0000000000000003A1       WRITER                                       ANNA                           CA         0000000019A   05000   00000   00000\r\nSWT0000000000000004A1       050000000000000I2136 001\r\nPWR0000000000000005P1       EXAMPLE MUSIC                                                            A1\r\nREC0000000000000006                                                                                                                                                                                                                                      ATABC2600001\r\nGRT000010000000100000009\r\nTRL000010000000100000011\r\n") ≡ Some 9 ∷ []
unfolding field fill_field is_blank line_of_piece decimal_value record_of indicator_of share_of territory_of transmission_in has_type is_read type_of_group fault_of weights_of is_check_digit weighted_sum has_isrc_form isrc_of has_iswc_form has_right_check_digit iswc_of trimmed
wrong_ipi = refl

-- an ISRC with a digit for a letter
wrong_isrc : faults (codes "HDRPB000000012EXAMPLE MUSIC                                01.102026010510150020260106\r\nGRHNWR0000102.200000000000\r\nNWR0000000000000000FIRST SONG                                                    W1            T0345246801\r\nSPU000000000000000101P1       EXAMPLE MUSIC                                 E          00000000199                 05000   10000   10000\r\nSPT0000000000000002P1             050001000010000I2136 001\r\nSWR0000000000000003A1       WRITER                                       ANNA                           CA         00000000295   05000   00000   00000\r\nSWT0000000000000004A1       050000000000000I2136 001\r\nPWR0000000000000005P1       EXAMPLE MUSIC                                                            A1\r\nREC0000000000000006                                                                                                                                                                                                                                      A1ABC2600001\r\nGRT000010000000100000009\r\nTRL000010000000100000011\r\n") ≡ Some 10 ∷ []
unfolding field fill_field is_blank line_of_piece decimal_value record_of indicator_of share_of territory_of transmission_in has_type is_read type_of_group fault_of weights_of is_check_digit weighted_sum has_isrc_form isrc_of has_iswc_form has_right_check_digit iswc_of trimmed
wrong_isrc = refl

-- a party number with a delete character
wrong_number : faults (codes "HDRPB000000012EXAMPLE MUSIC                                01.102026010510150020260106\r\nGRHNWR0000102.200000000000\r\nNWR0000000000000000FIRST SONG                                                    W1            T0345246801\r\nSPU000000000000000101P1       EXAMPLE MUSIC                                 E          00000000199                 05000   10000   10000\r\nSPT0000000000000002P1             050001000010000I2136 001\r\nSWR0000000000000003A1       WRITER                                       ANNA                           CA         00000000295   05000   00000   00000\r\nSWT0000000000000004A1       050000000000000I2136 001\r\nPWR0000000000000005P1       EXAMPLE MUSIC                                                            \u{7f}1\r\nREC0000000000000006                                                                                                                                                                                                                                      ATABC2600001\r\nGRT000010000000100000009\r\nTRL000010000000100000011\r\n") ≡ Some 11 ∷ []
unfolding field fill_field is_blank line_of_piece decimal_value record_of indicator_of share_of territory_of transmission_in has_type is_read type_of_group fault_of weights_of is_check_digit weighted_sum has_isrc_form isrc_of has_iswc_form has_right_check_digit iswc_of trimmed
wrong_number = refl

-- a registration
half_each : map (weights_of Performing (codes "PB000000012") office) (transactions_of (transmission_in (codes "HDRPB000000012EXAMPLE MUSIC                                01.102026010510150020260106\r\nGRHNWR0000102.200000000000\r\nNWR0000000000000000FIRST SONG                                                    W1            T0345246801\r\nSPU000000000000000101P1       EXAMPLE MUSIC                                 E          00000000199                 05000   10000   10000\r\nSPT0000000000000002P1             050001000010000I2136 001\r\nSWR0000000000000003A1       WRITER                                       ANNA                           CA         00000000295   05000   00000   00000\r\nSWT0000000000000004A1       050000000000000I2136 001\r\nPWR0000000000000005P1       EXAMPLE MUSIC                                                            A1\r\nREC0000000000000006                                                                                                                                                                                                                                      ATABC2600001\r\nGRT000010000000100000009\r\nTRL000010000000100000011\r\n"))) ≡ weights 5000 5000 0
unfolding field fill_field is_blank line_of_piece decimal_value record_of indicator_of share_of territory_of transmission_in has_type is_read type_of_group fault_of weights_of is_check_digit weighted_sum has_isrc_form isrc_of has_iswc_form has_right_check_digit iswc_of trimmed
half_each = refl

-- of the mechanical right of this registration its publisher has all
publisher_alone : map (weights_of Mechanical (codes "PB000000012") office) (transactions_of (transmission_in (codes "HDRPB000000012EXAMPLE MUSIC                                01.102026010510150020260106\r\nGRHNWR0000102.200000000000\r\nNWR0000000000000000FIRST SONG                                                    W1            T0345246801\r\nSPU000000000000000101P1       EXAMPLE MUSIC                                 E          00000000199                 05000   10000   10000\r\nSPT0000000000000002P1             050001000010000I2136 001\r\nSWR0000000000000003A1       WRITER                                       ANNA                           CA         00000000295   05000   00000   00000\r\nSWT0000000000000004A1       050000000000000I2136 001\r\nPWR0000000000000005P1       EXAMPLE MUSIC                                                            A1\r\nREC0000000000000006                                                                                                                                                                                                                                      ATABC2600001\r\nGRT000010000000100000009\r\nTRL000010000000100000011\r\n"))) ≡ weights 10000 0 0
unfolding field fill_field is_blank line_of_piece decimal_value record_of indicator_of share_of territory_of transmission_in has_type is_read type_of_group fault_of weights_of is_check_digit weighted_sum has_isrc_form isrc_of has_iswc_form has_right_check_digit iswc_of trimmed
publisher_alone = refl

-- its revision
all_the_writers : map (weights_of Performing (codes "PB000000012") office) (transactions_of (transmission_in (codes "HDRPB000000012EXAMPLE MUSIC                                01.102026010510150020260106\r\nGRHREV0000102.200000000000\r\nREV0000000000000000FIRST SONG                                                    W1            T0345246801\r\nSPU000000000000000101P1       EXAMPLE MUSIC                                 E          00000000199                 00000   10000   10000\r\nSPT0000000000000002P1             000001000010000I2136 001\r\nSWR0000000000000003A1       WRITER                                       ANNA                           CA         00000000295   10000   00000   00000\r\nSWT0000000000000004A1       100000000000000I2136 001\r\nPWR0000000000000005P1       EXAMPLE MUSIC                                                            A1\r\nREC0000000000000006                                                                                                                                                                                                                                      ATABC2600001\r\nGRT000010000000100000009\r\nTRL000010000000100000011\r\n"))) ≡ weights 0 10000 0
unfolding field fill_field is_blank line_of_piece decimal_value record_of indicator_of share_of territory_of transmission_in has_type is_read type_of_group fault_of weights_of is_check_digit weighted_sum has_isrc_form isrc_of has_iswc_form has_right_check_digit iswc_of trimmed
all_the_writers = refl

-- the office excluded by a later row
territory_excluded : map (weights_of Performing (codes "PB000000012") office) (transactions_of (transmission_in (codes "HDRPB000000012EXAMPLE MUSIC                                01.102026010510150020260106\r\nGRHNWR0000102.200000000000\r\nNWR0000000000000000FIRST SONG                                                    W1            T0345246801\r\nSPU000000000000000101P1       EXAMPLE MUSIC                                 E          00000000199                 05000   10000   10000\r\nSPT0000000000000002P1             050001000010000I2136 001\r\nSPT0000000000000003P1             000000000000000E0040 002\r\nSWR0000000000000004A1       WRITER                                       ANNA                           CA         00000000295   05000   00000   00000\r\nSWT0000000000000005A1       050000000000000I2136 001\r\nPWR0000000000000006P1       EXAMPLE MUSIC                                                            A1\r\nREC0000000000000007                                                                                                                                                                                                                                      ATABC2600001\r\nGRT000010000000100000010\r\nTRL000010000000100000012\r\n"))) ≡ weights 0 5000 5000
unfolding field fill_field is_blank line_of_piece decimal_value record_of indicator_of share_of territory_of transmission_in has_type is_read type_of_group fault_of weights_of is_check_digit weighted_sum has_isrc_form isrc_of has_iswc_form has_right_check_digit iswc_of trimmed
territory_excluded = refl

-- what an office may be, at its limits and over them
offices : is_office 1 1 (codes " ") ∷ is_office 999 9999 (codes "EXAMPLE SOCIETY") ∷ is_office 900 40 (fill_field 45 (codes "~")) ∷ [] ≡ true ∷ true ∷ true ∷ []
unfolding fill_field
offices = refl

no_offices : is_office 0 40 (codes "A") ∷ is_office 1000 40 (codes "A") ∷ is_office 900 0 (codes "A") ∷ is_office 900 10000 (codes "A") ∷ is_office 900 40 [] ∷ is_office 900 40 (fill_field 46 (codes "A")) ∷ is_office 900 40 (codes "\u{7f}") ∷ [] ≡ false ∷ false ∷ false ∷ false ∷ false ∷ false ∷ false ∷ []
unfolding fill_field
no_offices = refl

-- the office has the name filled with blanks, and its length
its_name : name_of office ≡ codes "EXAMPLE SOCIETY"
unfolding fill_field
its_name = refl

-- numbers of a party are one where they are after trimming
same_after_trimming : same_number (codes " P1      ") (codes "P1       ") ∷ same_number (codes "         ") (codes "         ") ∷ same_number (codes "P1       ") (codes "P 1      ") ∷ [] ≡ true ∷ true ∷ false ∷ []
unfolding trimmed
same_after_trimming = refl

-- a territory row with these two fields
abbrev row : List ℕ → List ℕ → TerritoryRow
row indicator territory = record { side = Publisher; number = codes "P1       "; shares = share_fields (codes "05000") (codes "10000") (codes "     "); indicator = indicator; territory = territory }

-- the world and the office's territory, one to four digits, count; another territory, blanks, letters and another indicator do not
counting_rows : map (counts office) (row (codes "I") (codes "2136") ∷ row (codes "E") (codes "2136") ∷ row (codes "I") (codes "40  ") ∷ row (codes "I") (codes " 40 ") ∷ row (codes "I") (codes "040 ") ∷ row (codes "I") (codes "0040") ∷ []) ≡ true ∷ true ∷ true ∷ true ∷ true ∷ true ∷ []
unfolding indicator_of territory_of decimal_value is_blank trimmed
counting_rows = refl

other_rows : map (counts office) (row (codes "I") (codes "0041") ∷ row (codes "I") (codes "2137") ∷ row (codes "I") (codes "    ") ∷ row (codes "I") (codes "4 0 ") ∷ row (codes "I") (codes "4O  ") ∷ row (codes " ") (codes "2136") ∷ row (codes "i") (codes "2136") ∷ []) ≡ false ∷ false ∷ false ∷ false ∷ false ∷ false ∷ false ∷ []
unfolding indicator_of territory_of decimal_value is_blank trimmed
other_rows = refl

-- a share that is wrong is added as 0
wrong_share_as_zero : shares_of (share_fields (codes "10001") (codes "0500 ") (codes "     ")) ≡ no_shares
unfolding share_of decimal_value is_blank
wrong_share_as_zero = refl

-- the account is the IPI name number's, else the sender's number's, else nobody's
accounts : account_by (codes "PB000000012") (Ok (Some (codes "00000000199"))) (Ok (codes "P1       ")) ∷ account_by (codes "PB000000012") (Ok None) (Ok (codes "P1       ")) ∷ account_by (codes "PB000000012") (Ok None) (Ok (codes "         ")) ∷ [] ≡ Ipi (codes "00000000199") ∷ Party (codes "PB000000012") (codes "P1       ") ∷ Unclaimed ∷ []
accounts = refl

-- nobody claims what the weights leave of 10000, and nothing where they are more
unclaimed : unclaimed_beside (weighs (Ipi (codes "00000000199")) 2500 ∷ weighs (Ipi (codes "00000000295")) 2500 ∷ []) ∷ unclaimed_beside (weighs (Ipi (codes "00000000199")) 5003 ∷ weighs (Ipi (codes "00000000295")) 5003 ∷ []) ∷ unclaimed_beside [] ∷ [] ≡ weighs Unclaimed 5000 ∷ weighs Unclaimed 0 ∷ weighs Unclaimed 10000 ∷ []
unclaimed = refl

-- the performing shares that the parties of some records collect at the office
abbrev collects : List Record → List ℕ
collects records = map (λ i. (collected office i).performing) (interests records)

-- a publisher named twice: each has the rows behind it
nearest_party : collects (map (λ line. record_of line) (codes "SPU000000000000000101P1                                                     E                                      05000   00000   00000" ∷ codes "SPT0000000000000002P1             030000000000000I2136 001" ∷ codes "SPU000000000000000301P1                                                     E                                      05000   00000   00000" ∷ codes "SPT0000000000000004P1             020000000000000I2136 001" ∷ [])) ≡ 3000 ∷ 2000 ∷ []
unfolding field fill_field is_blank line_of_piece decimal_value record_of indicator_of share_of territory_of trimmed
nearest_party = refl

-- both rows behind the second: the first has none
row_of_the_later_one : collects (map (λ line. record_of line) (codes "SPU000000000000000101P1                                                     E                                      05000   00000   00000" ∷ codes "SPU000000000000000101P1                                                     E                                      05000   00000   00000" ∷ codes "SPT0000000000000002P1             030000000000000I2136 001" ∷ codes "SPT0000000000000004P1             020000000000000I2136 001" ∷ [])) ≡ 0 ∷ 2000 ∷ []
unfolding field fill_field is_blank line_of_piece decimal_value record_of indicator_of share_of territory_of trimmed
row_of_the_later_one = refl

-- a row of another party, one of a writer with the same number, and one of another territory
other_rows_between : collects (map (λ line. record_of line) (codes "SPU000000000000000101P1                                                     E                                      05000   00000   00000" ∷ codes "SPT0000000000000002P1             030000000000000I2136 001" ∷ codes "SPT0000000000000002P2             010000000000000I2136 001" ∷ codes "SWT0000000000000002P1       010000000000000I2136 001" ∷ codes "SPT0000000000000002P1             020000000000000I0041 001" ∷ [])) ≡ 3000 ∷ []
unfolding field fill_field is_blank line_of_piece decimal_value record_of indicator_of share_of territory_of trimmed
other_rows_between = refl

-- excluded, then included again
excluded_and_included : collects (map (λ line. record_of line) (codes "SWR0000000000000001A1                                                                                   CA                       05000   00000   00000" ∷ codes "SWT0000000000000002A1       030000000000000I2136 001" ∷ codes "SWT0000000000000002A1       030000000000000E0040 001" ∷ codes "SWT0000000000000002A1       010000000000000I  40 001" ∷ [])) ≡ 1000 ∷ []
unfolding field fill_field is_blank line_of_piece decimal_value record_of indicator_of share_of territory_of trimmed
excluded_and_included = refl

-- a blank number is one as any other
unnamed_party : collects (map (λ line. record_of line) (codes "SWR0000000000000001                                                                                     CA                       05000   00000   00000" ∷ codes "SWT0000000000000002         025000000000000I2136 001" ∷ [])) ≡ 2500 ∷ []
unfolding field fill_field is_blank line_of_piece decimal_value record_of indicator_of share_of territory_of trimmed
unnamed_party = refl

-- ownership of 10007 by OPU and OWR, which are read as SPU and SWR
others_own : owns_too_much (map (λ line. record_of line) (codes "OPU000000000000000101P1                                                     E                                      05000   00000   00000" ∷ codes "OWR0000000000000001A1                                                                                   CA                       05007   00000   00000" ∷ [])) ≡ true
unfolding field fill_field is_blank line_of_piece decimal_value record_of indicator_of share_of territory_of trimmed
others_own = refl

-- each right has a sum of its own: 10006 in each is let pass
three_sums : owns_too_much (map (λ line. record_of line) (codes "SPU000000000000000101P1                                                     E                                      05000   10000   00006" ∷ codes "SWR0000000000000001A1                                                                                   CA                       05006   00006   10000" ∷ [])) ≡ false
unfolding field fill_field is_blank line_of_piece decimal_value record_of indicator_of share_of territory_of trimmed
three_sums = refl

synchronization_sum : owns_too_much (map (λ line. record_of line) (codes "SPU000000000000000101P1                                                     E                                      05000   10000   00007" ∷ codes "SWR0000000000000001A1                                                                                   CA                       05006   00006   10000" ∷ [])) ≡ true
unfolding field fill_field is_blank line_of_piece decimal_value record_of indicator_of share_of territory_of trimmed
synchronization_sum = refl

-- a row before its publisher, a publisher's row with a writer's number, and a row behind its publisher, who is an OPU
rows_without_party : has_row_without_party [] (map (λ line. record_of line) (codes "SPT0000000000000002P1             000000000000000I2136 001" ∷ codes "SPU000000000000000101P1                                                     E                                      00000   00000   00000" ∷ [])) ∷ has_row_without_party [] (map (λ line. record_of line) (codes "SWR0000000000000001P1                                                                                   CA                       00000   00000   00000" ∷ codes "SPT0000000000000002P1             000000000000000I2136 001" ∷ [])) ∷ has_row_without_party [] (map (λ line. record_of line) (codes "OPU000000000000000101P1                                                     E                                      00000   00000   00000" ∷ codes "SPT0000000000000002 P1            000000000000000I2136 001" ∷ [])) ∷ [] ≡ true ∷ true ∷ false ∷ []
unfolding field fill_field is_blank line_of_piece decimal_value record_of indicator_of share_of territory_of trimmed
rows_without_party = refl

-- some of the records are links to publishers that are not among them
abbrev links_to_nobody : List Record → Bool
links_to_nobody records = list_any (names_no_publisher records) records

-- a link with a writer's number as its publisher's, one to no publisher, and one to a publisher that stands behind it
links : links_to_nobody (map (λ line. record_of line) (codes "SWR0000000000000001P1                                                                                   CA                       00000   00000   00000" ∷ codes "PWR0000000000000005P1                                                                                A1       " ∷ [])) ∷ links_to_nobody (map (λ line. record_of line) (codes "PWR0000000000000005                                                                                  A1       " ∷ [])) ∷ links_to_nobody (map (λ line. record_of line) (codes "PWR0000000000000005P1                                                                                A1       " ∷ codes "SPU000000000000000101P1                                                     E                                      00000   00000   00000" ∷ [])) ∷ [] ≡ true ∷ false ∷ false ∷ []
unfolding field fill_field is_blank line_of_piece decimal_value record_of indicator_of share_of territory_of trimmed
links = refl
