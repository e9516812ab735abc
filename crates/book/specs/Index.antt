-- Where the records of an accepted book stand, and what the check of a book answers.
use Rattle.std.specs.Prelude.{ℕ, ◌+◌, ◌≤◌, ◌<◌, List, [], ◌∷◌, ◌≡◌, cond, length, map, get_or, take, drop, eqb}
use Rattle.text.specs.Bytes.{Text}
use Rattle.book.specs.declared.Cmd.{Cmd}
use Rattle.book.specs.declared.IndexRow.{IndexRow}
use Rattle.std.specs.Prelude.{Result, Ok, Err}
use Rattle.book.specs.declared.Refusal.{Refusal}
use Rattle.book.specs.Refusals.{refusal}
use Rattle.book.specs.Answer.{given}
use Rattle.book.specs.Command.{Decoded, ended, broken, command, decode, begin, end}
use Rattle.book.specs.Record.{record_path_of}
use Rattle.book.specs.Book.{verdict}

-- "14 END (of the record)": the commands before the first END
unfoldable pub up_to_end : Decoded → List Cmd
up_to_end (ended at) = []
up_to_end (broken at) = []
up_to_end (command at c rest) = cond (eqb c.op end) [] (c ∷ up_to_end rest)

-- "one record's commands, from its BEGIN on": those that are read from an offset on, up to the END, which is not among them
unfoldable pub record_at : Text → ℕ → List Cmd
record_at commands at = up_to_end (decode 0 at (drop at commands))

-- the offsets of the BEGINs
unfoldable pub begins_of : Decoded → List ℕ
begins_of (ended at) = []
begins_of (broken at) = []
begins_of (command at c rest) = cond (eqb c.op begin) (at ∷ begins_of rest) (begins_of rest)

-- a row that says nothing
abbrev pub no_row : IndexRow
no_row = record { begin = 0; start = 0; len = 0 }

-- row i of an index
abbrev pub index_at : List IndexRow → ℕ → IndexRow
index_at rows i = get_or rows i no_row

-- where the record of row i begins in the commands
abbrev pub begin_of : List IndexRow → ℕ → ℕ
begin_of rows i = (index_at rows i).begin

-- the path that a row says
abbrev pub path_in : Text → IndexRow → Text
path_in text row = take row.len (drop row.start text)

-- what a row says of a record r: its commands are read from its begin on, its path is that part of the text
pub record Row (commands text : Text) (row : IndexRow) (r : List Cmd) : Type 0 where
  pub there : row.begin < length commands
  pub reads : r ≡ record_at commands row.begin
  pub within : row.start + row.len ≤ length text
  pub path : path_in text row ≡ record_path_of text r

-- the book is accepted with n records, and the rows are an index of them; rows from n on are left open
pub record AcceptedAs (commands text : Text) (rows : List IndexRow) (n : ℕ) : Type 0 where
  pub records : List (List Cmd)
  pub accepted : verdict commands text ≡ given records
  pub size : length records ≡ n
  pub few : n ≤ 64
  pub offsets : map (λ row. row.begin) (take n rows) ≡ begins_of (decode 0 0 commands)
  pub each : (i : ℕ) → i < n → Row commands text (index_at rows i) (get_or records i [])

-- what is answered of a book; where it is refused the rows are left open
abbrev pub JudgedAs : Text → Text → List IndexRow → Result ℕ Refusal → Type 0
JudgedAs commands text rows (Err r) = verdict commands text ≡ refusal r
JudgedAs commands text rows (Ok n) = AcceptedAs commands text rows n
