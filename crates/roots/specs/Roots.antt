-- The root dirs of a record as built.
use Rattle.std.specs.Prelude.{ℕ, List, map}
use Rattle.text.specs.Bytes.{Text}
use Rattle.book.specs.Command.{root_dir}
use Rattle.book.specs.Record.{strings}
use Rattle.book.specs.Index.{record_at}
use Rattle.tsconfig.specs.Parsed.{placed}
use Rattle.tsconfig.specs.Build.{substituted}

-- a root dir of a record whose directory is own, as built in dir
abbrev pub built_place : Text → Text → Text → Text
built_place dir own s = substituted dir (placed own s)

-- the root dirs of the record that begins at the offset, as built
abbrev pub roots_of : Text → Text → Text → Text → ℕ → List Text
roots_of commands text dir own rec = map (built_place dir own) (strings text root_dir (record_at commands rec))
