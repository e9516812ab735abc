-- What is read from a place in commands on.
use Rattle.std.specs.Prelude.{ℕ, List, Bool, length}
use lib.Dec.{leb}
use Rattle.text.specs.Bytes.{Text}
use Rattle.book.specs.declared.Cmd.{Cmd}
use Rattle.book.specs.Rules.{text_of}
use Rattle.book.specs.Index.{record_at}

-- the commands up to the next END
abbrev pub read : Text → ℕ → List Cmd
read commands at = record_at commands at

-- its string is at most so long
abbrev pub is_short : ℕ → Text → Cmd → Bool
is_short most text c = leb (length (text_of text c)) most
