-- What the code keeps of the commands before.
use Rattle.std.specs.Prelude.{ℕ, ◌+◌, ◌≤◌, List, ◌≡◌, Bool, cond, length, get_or, set, take, drop, map, reverse, eqb}
use Rattle.std.specs.Prelude.{Option, Some, None}
use Rattle.std.specs.List.{All}
use Rattle.text.specs.Text.{same_text}
use Rattle.compare.specs.Compare.{digest_of}
use Rattle.book.specs.declared.Cmd.{Cmd}
use Rattle.book.specs.declared.Seen.{Seen}
use Rattle.book.specs.Rules.{slot, in_range, tally, last_op, clash}

-- how many of a slot
abbrev pub has : List ℕ → ℕ → ℕ
has counts k = get_or counts k 0

-- the command's slot, where its id and value are in range
unfoldable pub slotted : Cmd → Option ℕ
slotted c = cond (in_range c) (Some (slot c)) None

-- what a table says, where 0 stands for nothing
abbrev pub entry : ℕ → Option ℕ
entry n = cond (eqb n 0) None (Some n)

-- how many of each slot there are after a command whose slot is k
unfoldable pub pushed : List ℕ → Cmd → ℕ → List ℕ
pushed counts c k = cond (eqb c.op 11) (set (set counts k (has counts k + 1)) 12 0) (set counts k (has counts k + 1))

-- The counts and the last command's byte say of the commands before, newest first, what the definition reads off them.
pub record Agrees (counts : List ℕ) (last : ℕ) (here : List Cmd) : Type 0 where
  pub size : length counts ≡ 39
  pub each : (k : ℕ) → has counts k ≡ tally k here
  pub byte : last ≡ last_op here

-- the string that a row says
abbrev pub string_at : List ℕ → Seen → List ℕ
string_at text r = take r.len (drop r.start text)

-- the strings of the rows, the last row first
unfoldable pub texts : List ℕ → List Seen → List (List ℕ)
texts text rows = map (string_at text) (reverse rows)

-- the row's string lies in the text, and its mark is the string's digest
pub record IsSeen (text : List ℕ) (r : Seen) : Type 0 where
  pub within : r.start + r.len ≤ length text
  pub marked : r.mark ≡ digest_of (string_at text r)

-- the row of a command's string
abbrev pub row_of : List ℕ → Cmd → Seen
row_of text c = record { start = c.start; len = c.len; mark = digest_of (take c.len (drop c.start text)) }

-- each row says a string of the text
abbrev pub AllSeen : List ℕ → List Seen → Type 0
AllSeen text rows = All (IsSeen text) rows

-- two strings meet: as paths, or as keys
unfoldable pub meets : Bool → List ℕ → List ℕ → Bool
meets paths a b = cond paths (clash a b) (same_text a b)
