-- The first fault, behind sentences that do not hold.
use Rattle.std.proofs.Common.{◌≡◌, true, false, List, [], ◌∷◌, ◌++◌, Some, take, drop, refl, sym}
use Rattle.std.specs.Bool.{⊤}
use Rattle.std.specs.List.{list_any}
use Rattle.cwr_files.specs.declared.transmission.Transaction.{Transaction}
use Rattle.cwr_records.specs.declared.record.Record.{Record}
use Rattle.cwr_files.specs.Sentences.{Sentence, first_that_holds, sentence}
use Rattle.share_rules.specs.Fault.{collects_too_much, fault_of, has_blank_title, has_no_work_number, has_row_without_party, has_wrong_ipi, has_wrong_isrc, has_wrong_iswc, has_wrong_number, has_wrong_share, names_no_publisher, owns_too_much, sentences, wrong_ipi, wrong_party_number}
use Rattle.share_rules.specs.declared.office.Office.{Office}

-- none of these sentences holds
abbrev pub NoneHolds : List Sentence → Type 0
NoneHolds [] = ⊤
NoneHolds (s ∷ more) = (s.holds ≡ false) × NoneHolds more

-- a sentence that holds gives its fault where none before it holds
pub first_behind : (before : List Sentence) (s : Sentence) (more : List Sentence) → NoneHolds before → s.holds ≡ true → first_that_holds (before ++ s ∷ more) ≡ Some s.fault
first_behind [] s more none holds = rw holds refl
first_behind (other ∷ before) s more none holds = rw none.0 (first_behind before s more none.1 holds)

-- a transaction has a wrong IPI name number for its fault where the sentences before do not hold
pub wrong_ipi_is_first : (office : Office) (t : Transaction) (records : List Record) → records ≡ t.records → has_blank_title t ≡ false → has_no_work_number t ≡ false → has_wrong_iswc t ≡ false → list_any has_wrong_share records ≡ false → owns_too_much records ≡ false → has_row_without_party [] records ≡ false → list_any (names_no_publisher records) records ≡ false → collects_too_much office records ≡ false → list_any has_wrong_ipi records ≡ true → Some wrong_ipi ≡ fault_of office t
unfolding fault_of
wrong_ipi_is_first office t records is e1 e2 e3 e4 e5 e6 e7 e8 e9 =
    let all = sentences office t in
    sym (first_behind (take 8 all) (sentence wrong_ipi (list_any has_wrong_ipi t.records)) (drop 9 all) (e1, (e2, (e3, (rw is at e4, (rw is at e5, (rw is at e6, (rw is at e7, (rw is at e8, tt)))))))) (rw is at e9))

-- a transaction has a wrong IP # for its fault where the sentences before do not hold
pub wrong_party_number_is_first : (office : Office) (t : Transaction) (records : List Record) → records ≡ t.records → has_blank_title t ≡ false → has_no_work_number t ≡ false → has_wrong_iswc t ≡ false → list_any has_wrong_share records ≡ false → owns_too_much records ≡ false → has_row_without_party [] records ≡ false → list_any (names_no_publisher records) records ≡ false → collects_too_much office records ≡ false → list_any has_wrong_ipi records ≡ false → list_any has_wrong_isrc records ≡ false → list_any has_wrong_number records ≡ true → Some wrong_party_number ≡ fault_of office t
unfolding fault_of
wrong_party_number_is_first office t records is e1 e2 e3 e4 e5 e6 e7 e8 e9 e10 e11 =
    let all = sentences office t in
    sym (first_behind (take 10 all) (sentence wrong_party_number (list_any has_wrong_number t.records)) (drop 11 all) (e1, (e2, (e3, (rw is at e4, (rw is at e5, (rw is at e6, (rw is at e7, (rw is at e8, (rw is at e9, (rw is at e10, tt)))))))))) (rw is at e11))
