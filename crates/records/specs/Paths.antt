-- What is read of a checked book: the paths that the rows of its index say.
use Rattle.std.specs.Prelude.{List, map}
use Rattle.text.specs.Bytes.{Text}
use Rattle.book.specs.Index.{path_in}
use Rattle.book.specs.declared.IndexRow.{IndexRow}

-- the texts that the rows say, in order: "Record numbers run from 0."
abbrev pub path_table : Text → List IndexRow → List Text
path_table text rows = map (path_in text) rows
