-- What the record checker's answer says.
use Rattle.std.specs.Prelude.{ℕ, ◌+◌, ◌-◌, ◌≤◌, ◌<◌, List, [], ◌∷◌, map, reverse, ◌≡◌, length, take, drop}
use Rattle.text.specs.Bytes.{Text}
use Rattle.book.specs.declared.Cmd.{Cmd}
use Rattle.std.specs.Prelude.{Result, Ok, Err}
use Rattle.book.specs.declared.Closed.{Closed}
use Rattle.book.specs.declared.Seen.{Seen}
use Rattle.book.specs.declared.Refusal.{Refusal}
use Rattle.book.specs.Refusals.{refusal}
use Rattle.book.specs.Command.{decode}
use Rattle.book.specs.Rules.{path_of}
use Rattle.book.specs.Record.{record_path_of}
use Rattle.book.specs.Book.{judge}
use Rattle.book.specs.Index.{up_to_end, begins_of}
use Rattle.book.specs.State.{texts}
use Rattle.compare.specs.Compare.{digest_of}

-- the row of a closed record's path
abbrev pub closed_row : Text → Closed → Seen
closed_row text c = record { start = c.start; len = c.len; mark = digest_of (take c.len (drop c.start text)) }

-- the rows have the paths of the records before
pub record Held (text : Text) (rows : List Seen) (records : List (List Cmd)) : Type 0 where
  pub size : length records ≡ length rows
  pub paths : map (path_of text) records ≡ texts text rows

-- `part` is what is left of the commands at the offset base
module _ (part : Text) (base : ℕ) (text : Text) (rows : List Seen) where
  -- a record with that path was closed, and the book's verdict is that of what follows
  pub record ClosedAs (to start len : ℕ) : Type 0 where
    pub closed : List Cmd
    pub path : path_of text closed ≡ take len (drop start text)
    pub within : start + len ≤ length text
    pub few : length rows < 64
    pub moves : (base < to) × (to ≤ base + length part)
    pub whole :
        (records : List (List Cmd)) → Held text rows records →
        judge text (record { records = records; here = [] }) (decode 0 base part) ≡ judge text (record { records = closed ∷ records; here = [] }) (decode 0 to (drop (to - base) part))
    pub reads : up_to_end (decode 0 base part) ≡ reverse closed
    pub named : record_path_of text (reverse closed) ≡ take len (drop start text)
    pub begun : begins_of (decode 0 base part) ≡ base ∷ begins_of (decode 0 to (drop (to - base) part))

  -- what is answered of a record
  abbrev pub CheckedAs : Result Closed Refusal → Type 0
  CheckedAs (Err r) =
      (records : List (List Cmd)) → Held text rows records → judge text (record { records = records; here = [] }) (decode 0 base part) ≡ refusal r
  CheckedAs (Ok c) = ClosedAs c.end c.start c.len
