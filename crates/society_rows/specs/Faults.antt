-- What is told of an error of SQLite.
use Rattle.std.specs.Prelude.{◌≡◌, ◌⊎◌, Bool, true, false}
use Rattle.sqlite.specs.declared.error.ErrorCode.{ErrorCode}
use Rattle.sqlite.specs.declared.error.ErrorCode.TheVariants.{OutOfMemory, OperationInterrupted, DatabaseCorrupt, SystemIoFailure, DiskFull, Closed}
use Rattle.sqlite.specs.declared.error.Error.{Error}
use Rattle.sqlite.specs.declared.error.Error.TheVariants.{SqliteFailure, SqlInputError, InvalidParameterCount, ExecuteReturnedResults, InvalidQuery, MultipleStatement, QueryReturnedNoRows, InvalidColumnIndex, InvalidColumnType, IntegralValueOutOfRange, Utf8Error}
use Rattle.society_rows.specs.declared.fault.RowFault.{RowFault}
use Rattle.society_rows.specs.declared.fault.RowFault.TheVariants.{Memory, Schema, Damaged, Refused}

-- want of memory, a statement that doesn't fit the schema, a value of another form, or else the error itself
abbrev pub fault_of_error : Error → RowFault
fault_of_error (SqliteFailure OutOfMemory) = Memory
fault_of_error (SqliteFailure code) = Refused (SqliteFailure code)
fault_of_error (SqlInputError why) = Schema
fault_of_error (InvalidParameterCount given wanted) = Schema
fault_of_error ExecuteReturnedResults = Schema
fault_of_error InvalidQuery = Schema
fault_of_error MultipleStatement = Schema
fault_of_error QueryReturnedNoRows = Refused QueryReturnedNoRows
fault_of_error (InvalidColumnIndex at) = Damaged
fault_of_error (InvalidColumnType at found) = Damaged
fault_of_error (IntegralValueOutOfRange at) = Damaged
fault_of_error (Utf8Error at) = Damaged

-- want of memory, or what SQLite told as a failure
abbrev pub IsFailure : RowFault → Type 0
IsFailure fault = (fault ≡ Memory) ⊎ ((code : ErrorCode) × (fault ≡ Refused (SqliteFailure code)))

-- whether a failure tells of the database's files, of a connection that was shut, or of a limit of steps
abbrev pub is_medium_code : ErrorCode → Bool
is_medium_code SystemIoFailure = true
is_medium_code DatabaseCorrupt = true
is_medium_code DiskFull = true
is_medium_code Closed = true
is_medium_code OperationInterrupted = true
is_medium_code _ = false

-- whether a fault is such a failure, so that it tells of the medium
abbrev pub is_of_medium : RowFault → Bool
is_of_medium (Refused (SqliteFailure code)) = is_medium_code code
is_of_medium _ = false
