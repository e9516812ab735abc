-- The sizes of the two slices: "commands (at most 32,768 bytes) and text (at most 65,535)".
use mathlib.Core.List.{[], ◌∷◌, ◌++◌}
use mathlib.Core.Path.{◌≡◌, refl}
use Rattle.text.specs.Bytes.{bytes}
use Rattle.book.specs.Command as command
use Rattle.verdicts.proofs.Written.{commands_of, at, ◌says◌, times}
use Rattle.cases.specs.Asked.{tell, B, refuses, gives}

-- a record's BEGIN, then bytes up to the size and past it; a record, and text up to the size and past it
pub sizes :
    tell (commands_of (command.begin says "/a" ∷ []) ++ times 32763 (0x12 ∷ [])) (bytes "/a") (B "/a")
    ∷ tell (commands_of (command.begin says "/a" ∷ []) ++ times 32764 (0x12 ∷ [])) (bytes "/a") (B "/a")
    ∷ tell (commands_of (at "/a" [])) (bytes "/a" ++ times 65533 (0x78 ∷ [])) (B "/a")
    ∷ tell (commands_of (at "/a" [])) (bytes "/a" ++ times 65534 (0x78 ∷ [])) (B "/a")
    ∷ []
    ≡ refuses 3 5 ∷ refuses 1 0 ∷ gives 0 0 "base=/\n" ∷ refuses 1 0 ∷ []
unfolding tell
sizes = refl
