-- What the fields with a type of their own say.
use Rattle.std.specs.Prelude.{ℕ, cond, leb, List, Option, Some, None, codes, bytes_eq}
use Rattle.cwr_records.specs.Lines.{is_blank}
use Rattle.work_ids.specs.Blanks.{trimmed}
use Rattle.work_ids.specs.Digits.{decimal_value}
use Rattle.cwr_records.specs.declared.indicator.Indicator.{Indicator}
use Rattle.cwr_records.specs.declared.indicator.Indicator.TheVariants.{Included, Excluded}

-- a number that is not above a limit
abbrev pub not_above : ℕ → Option ℕ → Option ℕ
not_above limit None = None
not_above limit (Some n) = cond (leb n limit) (Some n) None

-- the share of a field of five bytes, in hundredths of a percent up to 10000: digits alone, or blanks for 0 (CISAC CWR 2.2)
unfoldable pub share_of : List ℕ → Option ℕ
share_of bs = cond (is_blank bs) (Some 0) (not_above 10000 (decimal_value bs))

-- whether a territory row includes or excludes its territory (CISAC CWR 2.2)
unfoldable pub indicator_of : List ℕ → Option Indicator
indicator_of bs = cond (bytes_eq bs (codes "I")) (Some Included) (cond (bytes_eq bs (codes "E")) (Some Excluded) None)

-- the territory that a TIS code of four bytes names: digits alone once the blanks at both ends are off (CISAC CWR 2.2)
unfoldable pub territory_of : List ℕ → Option ℕ
territory_of bs = decimal_value (trimmed bs)
