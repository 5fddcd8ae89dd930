-- Why a record could not be read.
use Rattle.std.specs.Prelude.{⊤}
use Rattle.csv.specs.declared.error.ErrorKind.{ErrorKind}
use Rattle.csv.specs.declared.error.ErrorKind.TheVariants as kind

-- memory was refused, or the reader underneath failed; a record of another length, or one that is no text, is no such case
abbrev pub IsRefused : ErrorKind → Type 0
IsRefused (kind.Io e) = ⊤
IsRefused kind.OutOfMemory = ⊤
IsRefused (kind.UnequalLengths pos expected len) = ⊥
IsRefused (kind.Utf8 pos err) = ⊥
IsRefused (kind.Serialize text) = ⊥
IsRefused (kind.Deserialize pos err) = ⊥
