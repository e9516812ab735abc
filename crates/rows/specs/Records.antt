-- The records of an accepted book, and what the rows of its index say of them.
use Rattle.std.specs.Prelude.{ℕ, ◌≤◌, ◌<◌, ◌≡◌, List, [], map, length}
use Rattle.std.specs.Prelude.{Option, Some, None}
use Rattle.text.specs.Bytes.{Text}
use Rattle.ends.specs.Ends.{parent_of}
use Rattle.book.specs.declared.Cmd.{Cmd}
use Rattle.book.specs.Answer.{Answer, refused, given}
use Rattle.book.specs.Book.{verdict}
use Rattle.book.specs.Index as index
use Rattle.book.specs.Index.{begin_of}
use Rattle.book.specs.declared.IndexRow.{IndexRow}
use Rattle.book.specs.Sound.{Sound}
use Rattle.book.specs.Record.{record_path_of}
use Rattle.records.specs.Paths.{path_table}
use Rattle.tsconfig.specs.Config.{Field}
use Rattle.tsconfig.specs.Parsed.{Value, Parsed, parsed, said}
use Rattle.tsconfig_resolver.specs.Find.{record_at, paths_of}

-- the records as parsed; none where the book is refused
abbrev pub parsed_of : Text → Answer (List (List Cmd)) → List Parsed
parsed_of text (refused n p) = []
parsed_of text (given rs) = map (parsed text) rs

-- the records of a book
unfoldable pub records_of : Text → Text → List Parsed
records_of commands text = parsed_of text (verdict commands text)

-- the directory of a record
abbrev pub dir_of : Text → List Cmd → Text
dir_of text r = parent_of (record_path_of text r)

-- what the record that begins there says of the field
unfoldable pub said_at : Text → Text → Option ℕ → (f : Field) → Option (Value f)
said_at commands text None f = None
said_at commands text (Some rec) f = said text (index.record_at commands rec) f

module _ (commands text : Text) where
  -- record i is what the commands from the begin of row i on say
  pub record Records (rows : List IndexRow) : Type 0 where
    pub few : length (records_of commands text) ≤ 64
    pub there : length (records_of commands text) ≤ length rows
    pub small : length commands ≤ 32768
    pub reads : (i : ℕ) → i < length (records_of commands text) → record_at (records_of commands text) i ≡ parsed text (index.record_at commands (begin_of rows i))
    pub sound : (i : ℕ) → i < length (records_of commands text) → Sound text (index.record_at commands (begin_of rows i))

  -- each row is of a record, and the rows say the records' paths
  pub record Paths (rows : List IndexRow) : Type 0 where
    pub size : length (records_of commands text) ≡ length rows
    pub paths : path_table text rows ≡ paths_of (records_of commands text)
