-- What is written of a key's targets, and how much room it may take.
use Rattle.std.specs.Prelude.{ℕ, ◌≤◌, ◌≡◌, List, length, Option, Some, None, IfSome}
use Rattle.text.specs.Bytes.{Text}
use Rattle.emit.specs.Output.{Puts}
use Rattle.emit.specs.declared.Output.{Output}
use Rattle.book.specs.Sound.{All}
use Rattle.tsconfig.specs.Build.{adjusted}
use Rattle.tsconfig.specs.Mapping.{filled}
use Rattle.tsconfig.specs.Laid.{laid}

-- a target as it is built, and its star filled where there is a part for it
unfoldable pub target_as : Text → Text → Option Text → Text → Text
target_as dir base None t = adjusted dir base t
target_as dir base (Some part) t = filled part (adjusted dir base t)

-- each text of the list is as short as a string of a book
abbrev pub EachShort : List Text → Type 0
EachShort ts = All (λ t. length t ≤ 512) ts

-- how long the texts are that targets are built from
pub record Short (dir base : Text) (part : Option Text) : Type 0 where
  pub dir_short : length dir ≤ 512
  pub base_short : length base ≤ 1600
  pub part_short : IfSome part (λ p. length p ≤ 512)

-- how much there may be to write, and from where on
pub record Fits (ts : List Text) (at : ℕ) : Type 0 where
  pub few : length ts ≤ 32768
  pub near : at ≤ 65536

-- u is the output o with the paths written behind what it has, and r is how many they are
pub record Lists (ts : List Text) (o u : Output) (r : ℕ) : Type 0 where
  pub counts : r ≡ length ts
  pub puts : Puts (laid ts) o u
