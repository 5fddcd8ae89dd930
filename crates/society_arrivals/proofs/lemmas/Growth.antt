-- What the derived rows of a sender are in another book.
use Rattle.std.proofs.Common.{◌≡◌, ℕ, true, List, [], ◌∷◌, ◌++◌, Option, refl, ap, ap₂, sym, ◌∙◌, unwrap_or}
use Rattle.std.specs.List.{flat_map}
use Rattle.std.proofs.lemmas.Grind.{flat_map-append}
use Rattle.cwr_files.specs.Contents.{transactions_of, transmission_in}
use Rattle.sender_segments.specs.Ways.{AreRight}
use Rattle.share_rules.specs.declared.office.Office.{Office}
use Rattle.society_core.specs.Book.{Book, body_at, ends_of, is_one_of, line, transmissions_to, verdicts_in}
use Rattle.society_core.specs.Growth.{GoesOn}
use Rattle.society_core.specs.Headline.{AlikeToTheGap}
use Rattle.society_core.proofs.lemmas.Gaps.{alike_to}
use Rattle.society_core.proofs.lemmas.GrowthLemmas.{sent_stays}
use Rattle.society_core.proofs.lemmas.LineNumbers.{is_first, is_later}
use Rattle.society_book.specs.DerivedRows.{Telling, told_by, told_from, told_to_front}
use Rattle.sqlite_value.specs.Order.{Row}
use Rattle.works_core.specs.Line.{NumberedTransmission, line_of, verdicts_at}
use Rattle.works_core.specs.declared.verdict.Verdict.{Verdict}

-- what a transmission tells rests on it and on the transmissions up to it
told_alike : (tells : Telling) (o : Office) (a b : Book) (s : List ℕ) (n : ℕ) → transmissions_to a s n ≡ transmissions_to b s n → body_at a s n ≡ body_at b s n → told_by tells o a s n ≡ told_by tells o b s n
told_alike tells o a b s n sent body =
    let verdicts : verdicts_in o a s n ≡ verdicts_in o b s n = ap (λ (ts : List NumberedTransmission). verdicts_at (line_of o ts) n) sent in
    ap₂ (λ (x : Option (List ℕ)) (y : List Verdict). told_from tells s n 0 (transactions_of (transmission_in (unwrap_or x []))) y) body verdicts

each_alike : (f g : ℕ → List Row) (ns : List ℕ) → ((k : ℕ) → is_one_of ns k ≡ true → f k ≡ g k) → flat_map f ns ≡ flat_map g ns
each_alike f g [] same = refl
each_alike f g (n ∷ ns) same = ap₂ ◌++◌ (same n (is_first n ns)) (each_alike f g ns (λ k one. same k (is_later n k ns one)))

-- a sender of whom two books are alike to the gap has the same rows in both
pub told_stays : (tells : Telling) (o : Office) (a b : Book) (s : List ℕ) → AlikeToTheGap a b s → told_to_front tells o b s ≡ told_to_front tells o a s
told_stays tells o a b s alike =
    ap (flat_map (told_by tells o b s)) (sym alike.same_line)
    ∙ sym (each_alike (told_by tells o a s) (told_by tells o b s) (line a s) (λ k one. told_alike tells o a b s k (alike_to a b s k alike) (alike.same_bodies k one)))

-- a sender whose line goes on has the rows it had, and those of the transmissions that came to it
pub told_grows : (tells : Telling) (o : Office) (a b : Book) (s : List ℕ) (more : List ℕ) → GoesOn a b s more → ((t : List ℕ) → AreRight (ends_of a t)) → told_to_front tells o b s ≡ told_to_front tells o a s ++ flat_map (told_by tells o b s) more
told_grows tells o a b s more goes right =
    ap (flat_map (told_by tells o b s)) goes.grown
    ∙ flat_map-append (told_by tells o b s) (line a s) more
    ∙ ap (λ (rows : List Row). rows ++ flat_map (told_by tells o b s) more)
    (each_alike (told_by tells o b s) (told_by tells o a s) (line a s) (λ k one. told_alike tells o b a s k (sent_stays a b s more goes right s k one) (goes.bodies k one)))
