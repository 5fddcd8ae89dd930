use Rattle.std.proofs.Common.{◌≡◌, ◌+◌, ℕ, List, length, sym, ◌∙◌, ap, arith, rules}
use Rattle.std.proofs.lemmas.Bool.{false≢true, not-true, not-false}
use Rattle.std.proofs.lemmas.List.{take_rest}
use Rattle.sqlite_wal.specs.Format.{be32, page_number}
use Rattle.sqlite_wal.specs.Recovery.{frame}
use Rattle.log_reading.proofs.OldReading.{there_from, there_to}
use Rattle.log_reading.proofs.old_frames.is_lacking.Goals as goal

pub returns-then-branch-clause-no : goal.returns-then-branch-clause-no
returns-then-branch-clause-no g c known known_db _ lacks =
    let len : length c.read_frame.new.buffer ≡ 24 + c.args.size = search rules in
    lacks.other (there_from _ _ _ _ _ _ _ (c.in_ok-read_frame.ensures.ok known) len c.get_be32-page.ensures (take_rest c.read_frame.new.buffer 24) ((c.in_ok-has_page.ensures.ok known_db).0 c.if-branch.true))

pub returns-clause-yes : goal.returns-clause-yes
returns-clause-yes g c known known_db yes' =
    let len : length c.read_frame.new.buffer ≡ 24 + c.args.size = search rules in
    let frame_read = c.in_ok-read_frame.ensures.ok known in
    let number : c.get_be32-page.result ≡ page_number (frame c.args.size (g.L.ReadAt.bytes c.args.log.now) c.args.i) = c.get_be32-page.ensures ∙ ap (λ (it : List ℕ). be32 it 0) frame_read in
    record {
      some = c.requires.place.0;
      upto = c.requires.place.1;
      numbered = λ none. c.if-page-eq0.false (number ∙ none);
      kept = omega (arith, c.requires.pages known, number, c.if-page-old.false);
      newest = λ j after upto same. c.in_ok-is_superseded.ensures.no known (not-true _ yes') j after upto (same ∙ sym number);
      other = λ same. false≢true (sym c.if-branch.false ∙ (c.in_ok-has_page.ensures.ok known_db).1 (there_to _ _ _ _ _ _ _ frame_read len c.get_be32-page.ensures (take_rest c.read_frame.new.buffer 24) same));
    }

pub returns-clause-no : goal.returns-clause-no
returns-clause-no g c known known_db no' lacks =
    let frame_read = c.in_ok-read_frame.ensures.ok known in
    let number : c.get_be32-page.result ≡ page_number (frame c.args.size (g.L.ReadAt.bytes c.args.log.now) c.args.i) = c.get_be32-page.ensures ∙ ap (λ (it : List ℕ). be32 it 0) frame_read in
    let later = c.in_ok-is_superseded.ensures.yes known (not-false _ no') in
    lacks.newest later.0 later.1 later.2 (later.3 ∙ number)
