use Rattle.std.proofs.Common.{◌≡◌, ◌<◌, ◌+◌, ◌∷◌, ◌++◌, [], Bor, List, ℕ, ◌∙◌, ap, sym, refl, inl, inr, Some, length, drop, arith}
use Rattle.std.proofs.lemmas.Bool.Decides.{nat_tests}
use Rattle.std.proofs.lemmas.List.{length-append}
use Rattle.std.proofs.lemmas.Result.{err_from_is_err_and}
use Rattle.csv.specs.Reading.{Reached, default_config, records, strip_bom}
use Rattle.csv.specs.Records.{fields_of}
use Rattle.csv.specs.declared.parser.State.TheVariants as st
use Rattle.csv.proofs.ReadFacts.{rows-end, rows-more}
use Rattle.perf_returns.specs.Returns.{fault_of_records, return_fault, performances_in, performances_of}
use Rattle.perf_returns.specs.Rows.{row_added}
use Rattle.perf_returns.specs.declared.performance.Performance.{Performance}
use Rattle.perf_returns.proofs.lemmas.Records.{records_are, records_begin}
use Rattle.perf_returns.proofs.lemmas.Taken.{fault_of_all, fault_of_begun, none_behind, none_seen, not_too_many, rows_few, rows_more, told_by}
use Rattle.perf_returns.proofs.reading.read_return.Goals as goal

pub loop-fields-init : goal.loop-fields-init
unfolding Reached
loop-fields-init c =
    let fr = c.from_reader-reader.ensures in
    let e = c.has_headers.ensures in
    let g = c.flexible.ensures in
    let start = c.into_iter-fields-iterator.ensures.into_iter_gives ∙ refl in
    let rdr = c.into_byte_records-fields-items.ensures.rdr in
    let left = c.into_byte_records-fields-items.ensures.left in
    rw (start, rdr, c.new-rows.ensures.items) (
      rw (g, e) at fr.trim ∙ c.new.ensures.trim,
      inr (inr (rw (g, e) at fr.has_headers, fr.headers)),
      left,
      rw (g, e) at fr.config ∙ c.new.ensures.config,
      strip_bom c.args.body.now,
      fr.source,
      [],
      (sym fr.state, refl),
      refl,
      omega arith,
      refl,
      refl,
      rw g at fr.flexible,
    )

pub returns-in_err-take : goal.returns-in_err-take
unfolding return_fault
returns-in_err-take c =
    let inv = c.loop-fields.invariant in
    let s = rw (c.in-Some.is, c.in-Ok.is) at ((c.next.ensures.steps inv.2 inv.0).0 inv.1) in
    let fields = fields_of c.in-Ok.fields in
    let m = rows-more (λ (s : Bor (List ℕ)). Some s.now) c.loop-fields.fields-iterator.rdr c.next.new.self.rdr fields default_config st.StartRecord (strip_bom c.args.body.now) inv.4 inv.6 inv.3 inv.5 inv.7 s.0 in
    let all = records_begin (strip_bom c.args.body.now) (inv.6 ++ fields ∷ []) c.next.new.self.rdr.state m.0 m.2 in
    let took = rw c.in_err-take.was at c.take.ensures in
    let place : c.loop-fields.row + 1 ≡ 1 + length inv.6 = omega (arith, inv.8) in
    let p = err_from_is_err_and c.from_residual.result c.from_residual.ensures.1 in
    rw (p.1, p.2) (told_by (return_fault c.args.body.now) (performances_in c.args.body.now) (c.loop-fields.row + 1) fields c.loop-fields.rows.items c.take.new.rows.items c.in_err-take.field-0.0 took
    (λ (n : ℕ) fault. fault_of_begun (records default_config (strip_bom c.args.body.now)) inv.6 fields all.0 (c.loop-fields.row + 1) n all.1 inv.10 place fault))

pub loop-fields-preserved : goal.loop-fields-preserved
loop-fields-preserved c =
    let inv = c.loop-fields.invariant in
    let s = rw (c.in-Some.is, c.in-Ok.is) at ((c.next.ensures.steps inv.2 inv.0).0 inv.1) in
    let fields = fields_of c.in-Ok.fields in
    let m = rows-more (λ (s : Bor (List ℕ)). Some s.now) c.loop-fields.fields-iterator.rdr c.next.new.self.rdr fields default_config st.StartRecord (strip_bom c.args.body.now) inv.4 inv.6 inv.3 inv.5 inv.7 s.0 in
    let took = rw c.in_ok-take.was at c.take.ensures in
    let place : c.loop-fields.row + 1 ≡ 1 + length inv.6 = omega (arith, inv.8) in
    let other = not_too_many (c.loop-fields.row + 1) fields took.0 in (
      s.0.3 ∙ inv.0,
      inl s.1,
      s.2,
      s.0.2 ∙ inv.3,
      m.0,
      m.1,
      inv.6 ++ fields ∷ [],
      m.2,
      omega (arith, inv.8, length-append inv.6 (fields ∷ [])),
      omega (arith, inv.9, other),
      none_behind 1 inv.6 fields (c.loop-fields.row + 1) inv.10 place took.0,
      took.1 ∙ ap (λ (rows : List Performance). rows ++ row_added (c.loop-fields.row + 1) fields) inv.11 ∙ sym (rows_more inv.6 fields (c.loop-fields.row + 1) place),
      rw (c.in-Some.is, c.in-Ok.is) at (c.next.ensures.steps inv.2 inv.0).3 ∙ inv.12,
    )

pub returns-then-row-eq0 : goal.returns-then-row-eq0
unfolding return_fault
returns-then-row-eq0 c =
    let inv = c.loop-fields.invariant in
    let s = rw c.in-None.is at ((c.next.ensures.steps inv.2 inv.0).0 inv.1) in
    let end = rows-end (λ (s : Bor (List ℕ)). Some s.now) c.loop-fields.fields-iterator.rdr c.next.new.self.rdr [] default_config inv.4 inv.3 inv.5 s in
    let all = records_are (strip_bom c.args.body.now) inv.6 c.loop-fields.fields-iterator.rdr.state inv.4 inv.7 end in
    ap fault_of_records (all ∙ none_seen inv.6 (omega (arith, inv.8, c.if-row-eq0.true)))

pub from_vec-requires : goal.from_vec-requires
from_vec-requires c =
    let inv = c.loop-fields.invariant in
    omega (arith, ap (λ (rows : List Performance). length rows) inv.11, rows_few inv.6, inv.8, inv.9)

pub returns : goal.returns
unfolding return_fault performances_in
returns c =
    let inv = c.loop-fields.invariant in
    let s = rw c.in-None.is at ((c.next.ensures.steps inv.2 inv.0).0 inv.1) in
    let end = rows-end (λ (s : Bor (List ℕ)). Some s.now) c.loop-fields.fields-iterator.rdr c.next.new.self.rdr [] default_config inv.4 inv.3 inv.5 s in
    let all = records_are (strip_bom c.args.body.now) inv.6 c.loop-fields.fields-iterator.rdr.state inv.4 inv.7 end in
    let some : 0 < length inv.6 = grind (arith, nat_tests) in (
      ap fault_of_records all ∙ fault_of_all inv.6 some ∙ inv.10,
      c.from_vec.ensures ∙ inv.11 ∙ sym (ap (λ (rs : List (List (List ℕ))). performances_of (drop 1 rs)) all),
    )
