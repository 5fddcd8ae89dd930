-- The fourteen tables of layout 3: the book, what is derived from it, where segments end, and pools of mechanical rights (profile).
use Rattle.std.specs.Prelude.{ℕ, pos, true, false, List, [], ◌∷◌, map, codes, Some, None}
use Rattle.sqlite_value.specs.declared.value.Value.TheVariants.{Null, Int}
use Rattle.sqlite_value.specs.declared.keys.Collation.TheVariants.{Binary}
use Rattle.sqlite_value.specs.Keys.{plain}
use Rattle.sqlite_sql.specs.declared.ops.BinaryOp.TheVariants.{Compare}
use Rattle.sqlite_sql.specs.declared.ops.CompareOp.TheVariants.{Eq}
use Rattle.sqlite_sql.specs.Term.{Term, lit, col, op2}
use Rattle.sqlite_schema.specs.declared.schema.Kind.{Kind}
use Rattle.sqlite_schema.specs.declared.schema.Kind.TheVariants.{Integer, Text, Blob}
use Rattle.sqlite_schema.specs.declared.schema.Action.TheVariants.{NoAction}
use Rattle.sqlite_schema.specs.declared.schema.Column.{Column}
use Rattle.sqlite_schema.specs.declared.schema.Reference.{Reference}
use Rattle.sqlite_schema.specs.declared.schema.Table.{Table}
use Rattle.sqlite_schema.specs.declared.schema.Schema.{Schema}
use Rattle.society_rows.specs.declared.tables.TableName.{TableName}
use Rattle.society_rows.specs.declared.tables.TableName.TheVariants as name

-- a column that holds one kind of value and no NULL
abbrev pub column_of : Kind → List ℕ → Column
column_of kind name = record { name = name; kind = kind; is_strict = true; not_null = true; default = Null; collation = Binary }

abbrev pub whole : List ℕ → Column
whole = column_of Integer

abbrev pub text : List ℕ → Column
text = column_of Text

abbrev pub bytes : List ℕ → Column
bytes = column_of Blob

-- these columns refer to those of a parent
abbrev pub refers : List ℕ → List ℕ → List (List ℕ) → Reference
refers columns parent parent_columns =
    record { columns = columns; parent = parent; parent_columns = parent_columns; on_delete = NoAction; on_update = NoAction; is_deferred = false }

-- a table under a key of its own columns, by their places from 1
abbrev pub keyed_table : List ℕ → ℕ → List Column → List ℕ → List Reference → Table
keyed_table name tree columns key references = record {
  name = name;
  tree = tree;
  columns = columns;
  key = None;
  primary = key;
  uniques = key ∷ [];
  orders = plain ∷ [];
  checks = [];
  references = references;
  computed = [];
  stamps = record { places = []; terms = []; formats = [] };
  is_counted = false;
}

-- a table whose first column is its rowid
abbrev pub numbered_table : List ℕ → ℕ → List Column → List Term → List Reference → Table
numbered_table name tree columns checks references = record {
  name = name;
  tree = tree;
  columns = columns;
  key = Some 0;
  primary = 0 ∷ [];
  uniques = [];
  orders = [];
  checks = checks;
  references = references;
  computed = [];
  stamps = record { places = []; terms = []; formats = [] };
  is_counted = false;
}

-- the office, once
unfoldable pub office : Table
office =
    numbered_table (codes "office") 0 (whole (codes "one") ∷ whole (codes "layout") ∷ whole (codes "society") ∷ whole (codes "territory") ∷ text (codes "name") ∷ [])
    (op2 (Compare Eq Binary) (col 1 0) (lit (Int (pos 1))) ∷ []) []

-- the book

unfoldable pub transmissions : Table
transmissions = keyed_table (codes "transmissions") 1 (text (codes "sender") ∷ whole (codes "number") ∷ bytes (codes "body") ∷ []) (1 ∷ 2 ∷ []) []

unfoldable pub returns : Table
returns = keyed_table (codes "returns") 3 (text (codes "reporter") ∷ whole (codes "number") ∷ bytes (codes "body") ∷ []) (1 ∷ 2 ∷ []) []

unfoldable pub pools : Table
pools = numbered_table (codes "pools") 5 (whole (codes "pool") ∷ whole (codes "amount") ∷ []) [] []

unfoldable pub pool_cuts : Table
pool_cuts =
    keyed_table (codes "pool_cuts") 6 (whole (codes "pool") ∷ text (codes "sender") ∷ whole (codes "number") ∷ []) (1 ∷ 2 ∷ [])
    (refers (1 ∷ []) (codes "pools") (codes "pool" ∷ []) ∷ refers (2 ∷ 3 ∷ []) (codes "transmissions") (codes "sender" ∷ codes "number" ∷ []) ∷ [])

unfoldable pub pool_returns : Table
pool_returns =
    keyed_table (codes "pool_returns") 8 (text (codes "reporter") ∷ whole (codes "number") ∷ whole (codes "pool") ∷ []) (1 ∷ 2 ∷ [])
    (refers (1 ∷ 2 ∷ []) (codes "returns") (codes "reporter" ∷ codes "number" ∷ []) ∷ refers (3 ∷ []) (codes "pools") (codes "pool" ∷ []) ∷ [])

-- what is derived from it

unfoldable pub fronts : Table
fronts = keyed_table (codes "fronts") 10 (text (codes "sender") ∷ whole (codes "front") ∷ whole (codes "works") ∷ []) (1 ∷ []) []

unfoldable pub verdicts : Table
verdicts =
    keyed_table (codes "verdicts") 12
    (text (codes "sender") ∷ whole (codes "number") ∷ whole (codes "place") ∷ whole (codes "fault") ∷ whole (codes "ordinal") ∷ whole (codes "revision") ∷ []) (1 ∷ 2 ∷ 3 ∷ []) []

unfoldable pub versions : Table
versions =
    keyed_table (codes "versions") 14
    (text (codes "sender") ∷ text (codes "work") ∷ whole (codes "revision") ∷ whole (codes "number") ∷ whole (codes "place") ∷ whole (codes "ordinal") ∷ []) (1 ∷ 2 ∷ 3 ∷ []) []

unfoldable pub recordings : Table
recordings =
    keyed_table (codes "recordings") 16 (text (codes "sender") ∷ text (codes "work") ∷ whole (codes "revision") ∷ text (codes "isrc") ∷ []) (1 ∷ 2 ∷ 3 ∷ 4 ∷ []) []

unfoldable pub credits_table : Table
credits_table =
    keyed_table (codes "credits") 18 (whole (codes "pool") ∷ whole (codes "line") ∷ text (codes "isrc") ∷ text (codes "account") ∷ whole (codes "units") ∷ []) (1 ∷ 2 ∷ []) []

unfoldable pub balances : Table
balances = keyed_table (codes "balances") 20 (text (codes "account") ∷ whole (codes "units") ∷ []) (1 ∷ []) []

-- what senders and pools say beside the book

unfoldable pub segment_ends : Table
segment_ends =
    keyed_table (codes "segment_ends") 22 (text (codes "sender") ∷ whole (codes "segment") ∷ whole (codes "last") ∷ whole (codes "next") ∷ []) (1 ∷ 2 ∷ []) []

unfoldable pub mechanical_pools : Table
mechanical_pools =
    numbered_table (codes "mechanical_pools") 24 (whole (codes "pool") ∷ []) [] (refers (0 ∷ []) (codes "pools") (codes "pool" ∷ []) ∷ [])

abbrev pub no_schema : Schema
no_schema = record { tables = []; indexes = []; views = [] }

-- what is said of a table: how SQLite keeps it, how many tables the first layout has that has it, by how many of its first columns its rows
-- are listed (those of its key, or all, so that rows which are listed alike are one), and the text that makes it
pub record TableFacts : Type 0 where
  pub table : Table
  pub since : ℕ
  pub width : ℕ
  pub create : List ℕ

abbrev pub facts : TableName → TableFacts
facts name.Office =
    record { table = office; since = 6; width = 1; create = codes "CREATE TABLE office (one INTEGER NOT NULL PRIMARY KEY CHECK (one = 1), layout INTEGER NOT NULL, society INTEGER NOT NULL, territory INTEGER NOT NULL, name TEXT NOT NULL) STRICT" }
facts name.Transmissions =
    record { table = transmissions; since = 6; width = 2; create = codes "CREATE TABLE transmissions (sender TEXT NOT NULL, number INTEGER NOT NULL, body BLOB NOT NULL, PRIMARY KEY (sender, number)) STRICT" }
facts name.Returns =
    record { table = returns; since = 6; width = 2; create = codes "CREATE TABLE returns (reporter TEXT NOT NULL, number INTEGER NOT NULL, body BLOB NOT NULL, PRIMARY KEY (reporter, number)) STRICT" }
facts name.Pools =
    record { table = pools; since = 6; width = 1; create = codes "CREATE TABLE pools (pool INTEGER NOT NULL PRIMARY KEY, amount INTEGER NOT NULL) STRICT" }
facts name.PoolCuts =
    record { table = pool_cuts; since = 6; width = 3; create = codes "CREATE TABLE pool_cuts (pool INTEGER NOT NULL, sender TEXT NOT NULL, number INTEGER NOT NULL, PRIMARY KEY (pool, sender), FOREIGN KEY (pool) REFERENCES pools (pool), FOREIGN KEY (sender, number) REFERENCES transmissions (sender, number)) STRICT" }
facts name.PoolReturns =
    record { table = pool_returns; since = 6; width = 3; create = codes "CREATE TABLE pool_returns (reporter TEXT NOT NULL, number INTEGER NOT NULL, pool INTEGER NOT NULL, PRIMARY KEY (reporter, number), FOREIGN KEY (reporter, number) REFERENCES returns (reporter, number), FOREIGN KEY (pool) REFERENCES pools (pool)) STRICT" }
facts name.Fronts =
    record { table = fronts; since = 12; width = 1; create = codes "CREATE TABLE fronts (sender TEXT NOT NULL PRIMARY KEY, front INTEGER NOT NULL, works INTEGER NOT NULL) STRICT" }
facts name.Verdicts =
    record { table = verdicts; since = 12; width = 6; create = codes "CREATE TABLE verdicts (sender TEXT NOT NULL, number INTEGER NOT NULL, place INTEGER NOT NULL, fault INTEGER NOT NULL, ordinal INTEGER NOT NULL, revision INTEGER NOT NULL, PRIMARY KEY (sender, number, place)) STRICT" }
facts name.Versions =
    record { table = versions; since = 12; width = 6; create = codes "CREATE TABLE versions (sender TEXT NOT NULL, work TEXT NOT NULL, revision INTEGER NOT NULL, number INTEGER NOT NULL, place INTEGER NOT NULL, ordinal INTEGER NOT NULL, PRIMARY KEY (sender, work, revision)) STRICT" }
facts name.Recordings =
    record { table = recordings; since = 12; width = 4; create = codes "CREATE TABLE recordings (sender TEXT NOT NULL, work TEXT NOT NULL, revision INTEGER NOT NULL, isrc TEXT NOT NULL, PRIMARY KEY (sender, work, revision, isrc)) STRICT" }
facts name.Credits =
    record { table = credits_table; since = 12; width = 2; create = codes "CREATE TABLE credits (pool INTEGER NOT NULL, line INTEGER NOT NULL, isrc TEXT NOT NULL, account TEXT NOT NULL, units INTEGER NOT NULL, PRIMARY KEY (pool, line)) STRICT" }
facts name.Balances =
    record { table = balances; since = 12; width = 1; create = codes "CREATE TABLE balances (account TEXT NOT NULL PRIMARY KEY, units INTEGER NOT NULL) STRICT" }
facts name.SegmentEnds =
    record { table = segment_ends; since = 14; width = 4; create = codes "CREATE TABLE segment_ends (sender TEXT NOT NULL, segment INTEGER NOT NULL, last INTEGER NOT NULL, next INTEGER NOT NULL, PRIMARY KEY (sender, segment)) STRICT" }
facts name.MechanicalPools =
    record { table = mechanical_pools; since = 14; width = 1; create = codes "CREATE TABLE mechanical_pools (pool INTEGER NOT NULL PRIMARY KEY, FOREIGN KEY (pool) REFERENCES pools (pool)) STRICT" }

-- the table of that name
abbrev pub table_called : TableName → Table
table_called name = (facts name).table

-- the same, with these references of cuts and of payments
abbrev pub table_with : List Reference → List Reference → TableName → Table
table_with cuts payments name.PoolCuts = record pool_cuts { references = cuts }
table_with cuts payments name.PoolReturns = record pool_returns { references = payments }
table_with cuts payments name = table_called name

-- in the order in which they are made
abbrev pub all_names : List TableName
all_names =
    name.Office ∷ name.Transmissions ∷ name.Returns ∷ name.Pools ∷ name.PoolCuts ∷ name.PoolReturns ∷ name.Fronts ∷ name.Verdicts ∷ name.Versions ∷ name.Recordings ∷ name.Credits ∷ name.Balances ∷ name.SegmentEnds ∷ name.MechanicalPools ∷ []

unfoldable pub all_tables : List Table
all_tables = map table_called all_names

-- the same, with these references of cuts and of payments
unfoldable pub tables_with : List Reference → List Reference → List Table
tables_with cuts payments = map (table_with cuts payments) all_names

-- opens each of the tables and their lists
unfoldable pub written_out : Unit {0}
unfolding all_tables tables_with office transmissions returns pools pool_cuts pool_returns fronts verdicts versions recordings credits_table balances segment_ends mechanical_pools
written_out = tt
