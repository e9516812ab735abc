-- What the iterators over a record give.
use Rattle.std.specs.Prelude.{◌≡◌, ℕ, List, drop, Option, Some, None}
use Rattle.book.specs.declared.Cmd.{Cmd}
use Rattle.book.specs.Command.{decode}
use Rattle.items.specs.Items.{paired, target_item}
use Rattle.items.specs.declared.Commands.{Commands}
use Rattle.items.specs.declared.Targets.{Targets}

-- where one goes on after what it gave
abbrev pub behind : ℕ → Option (Cmd × ℕ) → ℕ
behind at None = at
behind at (Some p) = p.1

-- the commands that are left
abbrev pub commands_left : Commands → List (Cmd × ℕ)
commands_left s = paired (decode 0 s.at (drop s.at s.commands.now))

-- the next target, and the same from the offset after it
pub record NextTarget (s : Targets) (r : Option (Cmd × ℕ)) (t : Targets) : Type 0 where
  pub item : r ≡ target_item (decode 0 s.at (drop s.at s.commands.now))
  pub rest : t ≡ record s { at = behind s.at r }
