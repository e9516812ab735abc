-- What is read of a checked book: the next item of a record.
use Rattle.std.specs.Prelude.{ℕ, List, [], ◌∷◌, Bool, not, cond}
use Rattle.book.specs.declared.Cmd.{Cmd}
use Rattle.book.specs.Command.{Decoded, ended, broken, command, target, end}
use Rattle.book.specs.Record.{is, is_id}
use Rattle.std.specs.Prelude.{Option, Some, None}

-- the offset at which what is decoded begins
unfoldable pub offset_of : Decoded → ℕ
offset_of (ended at) = at
offset_of (broken at) = at
offset_of (command at c rest) = at

-- the commands before the record's END, each with the offset after it
unfoldable pub paired : Decoded → List (Cmd × ℕ)
paired (ended at) = []
paired (broken at) = []
paired (command at c rest) = cond (is end c) [] ((c, offset_of rest) ∷ paired rest)

-- the first command of which ok holds, before one that stops, with the offset after it
unfoldable pub item_to : (Cmd → Bool) → (Cmd → Bool) → Decoded → Option (Cmd × ℕ)
item_to stop ok (ended at) = None
item_to stop ok (broken at) = None
item_to stop ok (command at c rest) = cond (stop c) None (cond (ok c) (Some (c, (offset_of rest))) (item_to stop ok rest))

-- the first of which ok holds before the record's END
abbrev pub item_by : (Cmd → Bool) → Decoded → Option (Cmd × ℕ)
item_by ok d = item_to (is end) ok d

-- the first with the byte before the record's END
abbrev pub item_of : ℕ → Decoded → Option (Cmd × ℕ)
item_of op d = item_by (is op) d

-- the first with the byte and the id before the record's END: a flag, or a text option
abbrev pub option_item : ℕ → ℕ → Decoded → Option (Cmd × ℕ)
option_item op id d = item_by (is_id op id) d

-- "a target after its key with only targets between": the very next command, if it is a target
abbrev pub target_item : Decoded → Option (Cmd × ℕ)
target_item d = item_to (λ c. not (is target c)) (is target) d
