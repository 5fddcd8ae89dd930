-- The tables by their names in code, and the statements over all of one (representation).
use Rattle.std.specs.Prelude.{ℕ, List, [], ◌∷◌, ◌++◌, map, take, codes}
use Rattle.sqlite_schema.specs.declared.schema.Column.{Column}
use Rattle.sqlite_schema.specs.declared.schema.Table.{Table}
use Rattle.society_rows.specs.declared.tables.TableName.{TableName}
use Rattle.society_rows.specs.Layout.{facts}
pub use Rattle.society_rows.specs.Layout.{table_called}

-- by how many of its first columns its rows are listed
abbrev pub listing_width : TableName → ℕ
listing_width name = (facts name).width

-- the text that makes it
abbrev pub create_text : TableName → List ℕ
create_text name = (facts name).create

-- words, with a comma between each two
abbrev pub with_commas : List (List ℕ) → List ℕ
with_commas [] = []
with_commas (word ∷ []) = word
with_commas (word ∷ words) = word ++ (codes ", " ++ with_commas words)

abbrev pub column_names : Table → List (List ℕ)
column_names table = map (λ (c : Column). c.name) table.columns

-- the query that shows these columns of every row, in any order
abbrev pub select_text : Table → List (List ℕ) → List ℕ
select_text table names = codes "SELECT " ++ (with_commas names ++ (codes " FROM " ++ table.name))

-- the query that shows every row, by the columns by which it is listed
abbrev pub listing_text : TableName → List ℕ
listing_text name =
    let table = table_called name in
    let names = column_names table in
    select_text table names ++ (codes " ORDER BY " ++ with_commas (take (listing_width name) names))

-- the query that shows the rowid of every row, in any order
abbrev pub rowids_text : TableName → List ℕ
rowids_text name = select_text (table_called name) (codes "rowid" ∷ [])
