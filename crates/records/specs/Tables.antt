-- The paths of a book's records, by their table.
use Rattle.std.specs.Prelude.{List}
use Rattle.text.specs.Bytes.{Text}
use Rattle.records.specs.Paths.{path_table}
use Rattle.records.specs.declared.PathTable.{PathTable}

-- the paths, in order
abbrev pub paths_in : PathTable → List Text
paths_in t = path_table t.text.now t.rows.now
