-- What holds of each record of an accepted book, for the contracts of the layers above.
use Rattle.std.specs.Prelude.{◌≡◌, List, [], ◌∷◌, true, ℕ, ◌≤◌, length, get_or}
use Rattle.text.specs.Bytes.{Text}
use Rattle.book.specs.declared.Cmd.{Cmd}
use Rattle.book.specs.Command.{target}
use Rattle.book.specs.Rules.{limits, in_range, good_string}
use Rattle.book.specs.Record.{is, only}

-- P holds of each of a list
pub data All {A : Type 0} (P : A → Type 0) : List A → Type 0 where
  nil : All P []
  cons : {x : A} {l : List A} → P x → All P l → All P (x ∷ l)

-- a command with its id and value in range, and its string within the text and by its rules
pub record Good (text : Text) (c : Cmd) : Type 0 where
  pub range : in_range c ≡ true
  pub string : good_string text c ≡ true

-- each command of a record is good, and of each that may repeat there are no more than may be; targets are counted for each key
pub record Sound (text : Text) (r : List Cmd) : Type 0 where
  pub each : All (Good text) r
  pub few : (op : ℕ) → (get_or limits op 0 ≡ 0 → ⊥) → (op ≡ target → ⊥) → length (only (is op) r) ≤ get_or limits op 0
