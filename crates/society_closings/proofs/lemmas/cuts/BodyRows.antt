-- The rows of the transmissions and of the returns that a sound book has can be read.
use Rattle.std.proofs.Common.{◌≡◌, ◌∙◌, ◌<◌, ◌^◌, ◌&&◌, ℕ, pos, true, List, [], ◌∷◌, is_none, is_some, nat_le, refl, ap, arith}
use Rattle.std.proofs.lemmas.Bool.{leb-true}
use Rattle.perf_returns.specs.Returns.{return_fault}
use Rattle.society_book.proofs.lemmas.rows_alike.KeyRows.{return_listed, transmission_listed}
use Rattle.society_book.specs.BookRows.{return_row, row_of_some, transmission_row}
use Rattle.society_book.specs.Sources.{HoldsWorks}
use Rattle.society_closings.proofs.lemmas.cuts.ReadRows.{line_key}
use Rattle.society_closings.specs.Readable.{ShowReturn}
use Rattle.society_book.specs.Readable.{ShowTransmission}
use Rattle.society_core.proofs.lemmas.Books.{right_body, some_body}
use Rattle.society_core.proofs.lemmas.Fronts.{first_holds, second_holds}
use Rattle.society_core.proofs.lemmas.LineNumbers.{in_line_of_to, there_in_line}
use Rattle.society_core.specs.Book.{Book, body_at, is_one_of, is_reporter, numbers_to, return_at}
use Rattle.society_core.specs.Keys.{transmission_key}
use Rattle.society_core.specs.declared.return_key.ReturnKey.{ReturnKey}
use Rattle.society_rows.specs.Layout as layout
use Rattle.society_rows.specs.Reads.{Lists, has_key}
use Rattle.share_rules.specs.declared.office.Office.{Office}
use Rattle.sqlite_trees.specs.Tree.{Trees}
use Rattle.sqlite_value.specs.Order.{Row}
use Rattle.sqlite_value.specs.declared.value.Value.TheVariants.{Int, Text}
use Rattle.work_ids.specs.Blanks.{fill, without_trailing_blanks}
use Rattle.work_ids.specs.Numbers.{is_return_number}
use Rattle.society_book.proofs.lemmas.rows_alike.EndRows.{no_fault}

-- what is found of a number of a sender's line up to its cut can be read
pub transmission_shown : (o : Office) (b : Book) (db : Trees) → HoldsWorks o b db → (s : List ℕ) (cut n : ℕ) → is_one_of (numbers_to b s cut) n ≡ true → (found shown : List Row) → Lists layout.transmissions (has_key (Text s ∷ Int (pos n) ∷ [])) 2 db found → shown ≡ found → ShowTransmission s shown
transmission_shown o b db holds s cut n up_to found shown lists same =
    let in_line = in_line_of_to b s cut n up_to in
    let body = some_body (body_at b s n) (there_in_line b s n in_line) in
    record {
      row = transmission_row (transmission_key s n) body.0;
      alone = same ∙ transmission_listed b db holds.kept.transmissions (transmission_key s n) found lists ∙ ap (row_of_some (transmission_row (transmission_key s n))) body.1;
      formed = (refl, ((s, refl), ((n, refl, (line_key b s n holds.sound in_line).2), ((body.0, refl), tt))));
      right = right_body b s n body.0 holds.sound body.1;
    }

-- a return's number is within 32 bits
small_number : (n : ℕ) → (nat_le 1 n && nat_le n 999999) ≡ true → n < 2 ^ 32
small_number n within = let most = leb-true n 999999 (second_holds (nat_le 1 n) (nat_le n 999999) within) in omega (most, arith)

-- so can what is found of a return
pub return_shown : (o : Office) (b : Book) (db : Trees) → HoldsWorks o b db → (key : ReturnKey) → fill 20 (without_trailing_blanks key.reporter) ≡ key.reporter → is_some (return_at b key) ≡ true → (found shown : List Row) →
    Lists layout.returns (has_key (Text (without_trailing_blanks key.reporter) ∷ Int (pos key.number) ∷ [])) 2 db found → shown ≡ found → ShowReturn shown
return_shown o b db holds key filled there found shown lists same =
    let body = some_body (return_at b key) there in
    let entry = holds.sound.returns key body.0 body.1 in
    let numbered = second_holds (is_reporter key.reporter) (is_return_number key.number) (first_holds (is_reporter key.reporter && is_return_number key.number) (is_none (return_fault body.0)) entry) in
    record {
      row = return_row key body.0;
      alone = same ∙ return_listed b db holds.kept.returns key filled found lists ∙ ap (row_of_some (return_row key)) body.1;
      formed = (refl, ((without_trailing_blanks key.reporter, refl), ((key.number, refl, small_number key.number numbered), ((body.0, refl), tt))));
      right = no_fault (return_fault body.0) (second_holds (is_reporter key.reporter && is_return_number key.number) (is_none (return_fault body.0)) entry);
    }
