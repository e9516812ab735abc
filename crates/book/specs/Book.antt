-- The verdict on a book (01's term for commands and text lent together): accepted, with its records, or refused, with number and place.
use Rattle.std.specs.Prelude.{ℕ, List, [], ◌∷◌, reverse, map, ◌||◌, cond, length, eqb, ltb}
use Rattle.text.specs.Bytes.{Text}
use Rattle.book.specs.declared.Cmd.{Cmd}
use Rattle.book.specs.Answer.{Answer, refused, given, unless}
use Rattle.book.specs.Command.{Decoded, ended, broken, command, decode, end}
use Rattle.book.specs.Rules.{Before, fault}

-- "14 END (of the record)": the record is closed
unfoldable pub next : Before → Cmd → Before
next b c =
    cond (eqb c.op end) (record { records = b.here ∷ b.records; here = [] })
    (record { records = b.records; here = c ∷ b.here })

-- "a record left open (place: the slice's length)"; else the records, "numbers run from 0", each its commands in order
unfoldable pub finish : ℕ → Before → Answer (List (List Cmd))
finish at b = cond (eqb (length b.here) 0) (given (reverse (map reverse b.records))) (refused 2 at)

-- "each command in turn"
unfoldable pub judge : Text → Before → Decoded → Answer (List (List Cmd))
judge text b (ended at) = finish at b
judge text b (broken at) = refused 2 at
judge text b (command at c rest) = unless (fault text b c) at (λ n. judge text n rest) (next b c)

-- before the first command
abbrev pub nothing : Before
nothing = record { records = []; here = [] }

-- "commands (at most 32,768 bytes) and text (at most 65,535)"; "1: a slice is over its size"
unfoldable pub verdict : Text → Text → Answer (List (List Cmd))
verdict cmds text =
    cond (ltb 32768 (length cmds) || ltb 65535 (length text)) (refused 1 0) (judge text nothing (decode 0 0 cmds))
