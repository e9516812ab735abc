-- What the code answers, in the words of the definitions.
use Rattle.book.specs.declared.Cmd.{Cmd}
use Rattle.std.specs.Prelude.{ℕ, ◌+◌, ◌-◌, List, cond, length, get_or, drop, leb, eqb}
use Rattle.book.specs.declared.Stop.{Stop}
use Rattle.std.specs.Prelude.{Option, Some, None, Result, Ok, Err}
use Rattle.book.specs.declared.Stop.TheVariants.{Broken, End}
use Rattle.book.specs.Command.{width_of, operands}

-- a width, if it is one: 9 stands for none
abbrev pub width_told : ℕ → Option ℕ
width_told w = cond (eqb w 9) None (Some w)

-- what stands at a place of the commands, and the place after it
unfoldable pub step_at : List ℕ → ℕ → Result (Cmd × ℕ) Stop
step_at s at =
    cond (leb (length s) at) (Err End)
    (cond (eqb (width_of (get_or s at 0)) 9) (Err Broken)
    (cond (leb (length s - at) (width_of (get_or s at 0))) (Err Broken)
    (Ok (operands (width_of (get_or s at 0)) (drop at s), at + width_of (get_or s at 0) + 1))))
