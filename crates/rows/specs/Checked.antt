-- The records of a book.
use Rattle.std.specs.Prelude.{List}
use Rattle.tsconfig.specs.Parsed.{Parsed}
use Rattle.rows.specs.Records.{records_of}
use Rattle.rows.specs.declared.Book.{Book}

-- the records, in order
abbrev pub records_in : Book → List Parsed
records_in b = records_of b.commands.now b.paths.text.now
