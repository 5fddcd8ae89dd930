use Rattle.std.proofs.Common.{◌≡◌, true, ◌<◌, ℕ, List, Some, None, length, drop}
use Rattle.csv.specs.Reading.{Reached, Ready, default_config, is_flexible, source_of, strip_bom}
use Rattle.csv.specs.declared.parser.State.TheVariants as st
use Rattle.csv.specs.declared.reader.Trim.TheVariants as trim
use Rattle.perf_returns.specs.Returns.{first_row_fault, performances_of}
use Rattle.perf_returns.proofs.reading.read_return.Given as goal

abbrev pub invariant-loop-fields : goal.invariant-loop-fields
invariant-loop-fields l = (l.fields-iterator.rdr.trim ≡ trim.None) × Ready l.fields-iterator.rdr × (0 < l.fields-iterator.left) × (l.fields-iterator.rdr.config ≡ default_config)
    × (y : List ℕ) × (source_of (λ s. Some s.now) l.fields-iterator.rdr ≡ Some y)
    × (seen : List (List (List ℕ))) × Reached default_config st.StartRecord (strip_bom l.fn.body) seen l.fields-iterator.rdr.state y
    × (l.row ≡ length seen) × (l.row < 10002) × (first_row_fault 1 seen ≡ None) × (l.rows.items ≡ performances_of (drop 1 seen)) × (is_flexible l.fields-iterator.rdr ≡ true)
