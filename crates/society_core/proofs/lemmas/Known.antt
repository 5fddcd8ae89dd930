-- What is answered to a put and to a close, by what a store says of its number.
use Rattle.std.proofs.Common.{◌≡◌, ◌∙◌, ℕ, false, List, Option, Some, None, ap, refl, sym}
use Rattle.cwr_files.specs.FileFault.{file_fault}
use Rattle.cwr_files.specs.declared.fault.FileFault.{FileFault}
use Rattle.share_rules.specs.declared.office.Office.{Office}
use Rattle.society_core.specs.Answers.{added_answer, added_book, answer, arrival_at, close_answer, close_book, close_refusal, closed_answer, closed_book, cut_refusal, first_refusal, known_as, known_with, next, place_in_book, pool_known_as, put_answer, put_book, refusal_or_later, return_refusal, taken_answer, taken_book, transmission_known}
use Rattle.society_core.specs.Book.{Book, with_pool, with_transmission}
use Rattle.society_core.specs.Ends.{ended_before}
use Rattle.society_core.specs.Orders.{Order}
use Rattle.society_core.specs.Requests.{Arrived, Closed, Closes, Puts, Refused}
use Rattle.society_core.specs.declared.answers.Receipt.TheVariants.{New}
use Rattle.society_core.specs.declared.refusal.Refusal.{Refusal}
use Rattle.society_core.specs.declared.refusal.Refusal.TheVariants.{File}
use Rattle.society_core.specs.declared.refusal.Refusal.TheVariants as refusals
use Rattle.society_core.specs.declared.store.Known.{Known}
use Rattle.society_core.specs.declared.store.Known.TheVariants.{Absent, Same, Other}
use Rattle.society_core.specs.declared.store.KnownTransmission.TheVariants as transmissions
use Rattle.society_core.specs.declared.store.NumberPlace.{NumberPlace}

-- ---- puts

-- a number under which nothing is, and whose segment did not end before it
is_free : (place : NumberPlace) (ended : Option ℕ) (known : Known) → transmissions.Absent ≡ known_with place ended known → (known ≡ Absent) × (ended ≡ None)
is_free place None Absent e = (refl, refl)
is_free place (Some last) Absent e = absurd cc
is_free place ended Same e = absurd cc
is_free place ended Other e = absurd cc

-- one whose segment ended before it
has_ended : (place : NumberPlace) (ended : Option ℕ) (known : Known) (last : ℕ) → transmissions.Ended last ≡ known_with place ended known → (known ≡ Absent) × (ended ≡ Some last)
has_ended place None Absent last e = absurd cc
has_ended place (Some other) Absent last e = (refl, cc)
has_ended place ended Same last e = absurd cc
has_ended place ended Other last e = absurd cc

module _ (o : Office) (b : Book) (s : List ℕ) (n : ℕ) (body : List ℕ) where
  pub put_added : transmissions.Absent ≡ transmission_known b s n body → None ≡ file_fault s body
      → (answer o b (Puts s n body) ≡ Arrived (arrival_at false (place_in_book (with_transmission b s n body) s n))) × (next b (Puts s n body) ≡ with_transmission b s n body)
  put_added free right =
      let is = is_free (place_in_book b s n) (ended_before b s n) (known_as b s n body) free in (
        ap (put_answer b s n body) is.0 ∙ ap (added_answer b s n body) (sym right) ∙ ap (taken_answer b s n body) is.1,
        ap (put_book b s n body) is.0 ∙ ap (added_book b s n body) (sym right) ∙ ap (taken_book b s n body) is.1,
      )

  -- what is not known has a fault
  pub put_faulty : known_as b s n body ≡ Absent → (fault : FileFault) → Some fault ≡ file_fault s body
      → (Refused (File fault) ≡ answer o b (Puts s n body)) × (next b (Puts s n body) ≡ b)
  put_faulty absent fault wrong = (
    sym (ap (put_answer b s n body) absent ∙ ap (added_answer b s n body) (sym wrong)),
    ap (put_book b s n body) absent ∙ ap (added_book b s n body) (sym wrong),
  )

  module _ (last : ℕ) (ended : transmissions.Ended last ≡ transmission_known b s n body) where
    pub put_ended_faulty : (fault : FileFault) → Some fault ≡ file_fault s body → (Refused (File fault) ≡ answer o b (Puts s n body)) × (next b (Puts s n body) ≡ b)
    put_ended_faulty = put_faulty (has_ended (place_in_book b s n) (ended_before b s n) (known_as b s n body) last ended).0

    pub put_ended : None ≡ file_fault s body → (Refused (refusals.Ended last) ≡ answer o b (Puts s n body)) × (next b (Puts s n body) ≡ b)
    put_ended right =
        let is = has_ended (place_in_book b s n) (ended_before b s n) (known_as b s n body) last ended in (
          sym (ap (put_answer b s n body) is.0 ∙ ap (added_answer b s n body) (sym right) ∙ ap (taken_answer b s n body) is.1),
          ap (put_book b s n body) is.0 ∙ ap (added_book b s n body) (sym right) ∙ ap (taken_book b s n body) is.1,
        )

-- ---- closes

module _ (o : Office) (b : Book) (pool : ℕ) (order : Order) (absent : Absent ≡ pool_known_as b pool order) where
  refused_by : (refusal : Refusal) → close_refusal b order ≡ Some refusal → (Refused refusal ≡ answer o b (Closes pool order)) × (next b (Closes pool order) ≡ b)
  refused_by refusal is = (
    sym (ap (close_answer b pool order) (sym absent) ∙ ap (closed_answer pool) is),
    ap (close_book b pool order) (sym absent) ∙ ap (closed_book b pool order) is,
  )

  -- a close is refused for its first cut that is not in line
  pub close_cut : (refusal : Refusal) → first_refusal (cut_refusal b) order.cut ≡ Some refusal → (Refused refusal ≡ answer o b (Closes pool order)) × (next b (Closes pool order) ≡ b)
  close_cut refusal cut = refused_by refusal (ap (λ r. refusal_or_later r (first_refusal (return_refusal b) order.returns)) cut)

  -- or for its first return that is unknown or paid
  pub close_return : (refusal : Refusal) → first_refusal (cut_refusal b) order.cut ≡ None → first_refusal (return_refusal b) order.returns ≡ Some refusal
      → (Refused refusal ≡ answer o b (Closes pool order)) × (next b (Closes pool order) ≡ b)
  close_return refusal cut returned =
      refused_by refusal (ap (λ r. refusal_or_later r (first_refusal (return_refusal b) order.returns)) cut ∙ returned)

  -- or it is closed
  pub close_added : first_refusal (cut_refusal b) order.cut ≡ None → first_refusal (return_refusal b) order.returns ≡ None
      → (Closed New pool ≡ answer o b (Closes pool order)) × (next b (Closes pool order) ≡ with_pool b pool order)
  close_added cut returned =
      let none : close_refusal b order ≡ None = ap (λ r. refusal_or_later r (first_refusal (return_refusal b) order.returns)) cut ∙ returned in (
        sym (ap (close_answer b pool order) (sym absent) ∙ ap (closed_answer pool) none),
        ap (close_book b pool order) (sym absent) ∙ ap (closed_book b pool order) none,
      )
