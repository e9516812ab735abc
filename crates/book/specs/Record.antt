-- What a record says: its fields as projections of its commands.
use Rattle.std.specs.Prelude.{ℕ, List, [], ◌∷◌, map, Bool, ◌&&◌, cond, eqb}
use Rattle.std.specs.Prelude.{Option, Some, None, unwrap_or}
use Rattle.text.specs.Bytes.{Text}
use Rattle.text.specs.Text.{some_of}
use Rattle.book.specs.declared.Cmd.{Cmd}
use Rattle.book.specs.Command.{begin, paths, key, target, flag, text_option}
use Rattle.book.specs.Rules.{text_of}

-- a key of `paths` and its targets
pub record Key : Type 0 where
  pub key : Text
  pub targets : List Text

-- the command has the byte
abbrev pub is : ℕ → Cmd → Bool
is op c = eqb c.op op

-- the command has the byte and the id
abbrev pub is_id : ℕ → ℕ → Cmd → Bool
is_id op id c = is op c && eqb c.id id

-- those of the commands of which ok holds
unfoldable pub only : (Cmd → Bool) → List Cmd → List Cmd
only ok [] = []
only ok (c ∷ cs) = cond (ok c) (c ∷ only ok cs) (only ok cs)

-- what f says of the first command, if there is one
unfoldable pub first_of : {A : Type 0} → (Cmd → A) → List Cmd → Option A
first_of f [] = None
first_of f (c ∷ cs) = Some (f c)

module _ (text : Text) where
  -- the strings of all commands with a byte
  unfoldable pub strings : ℕ → List Cmd → List Text
  strings op r = map (text_of text) (only (is op) r)

  -- the string of the one command with a byte, if it stands
  unfoldable pub single : ℕ → List Cmd → Option Text
  single op r = first_of (text_of text) (only (is op) r)

  -- "02, 04, 06, 0A and 0E make a list present, perhaps empty"
  unfoldable pub listed : ℕ → ℕ → List Cmd → Option (List Text)
  listed mark item r = cond (some_of (is mark) r) (Some (strings item r)) None

  -- "a target after its key with only targets between"
  unfoldable pub targets_of : List Cmd → List Text
  targets_of [] = []
  targets_of (c ∷ cs) = cond (is target c) (text_of text c ∷ targets_of cs) []

  -- "0B key S": each key with the targets that follow it
  unfoldable pub keys_of : List Cmd → List Key
  keys_of [] = []
  keys_of (c ∷ cs) = cond (is key c) (record { key = text_of text c; targets = targets_of cs } ∷ keys_of cs) (keys_of cs)

  -- "0A PATHS, 0B key S, 0C target S"
  unfoldable pub mapping : List Cmd → Option (List Key)
  mapping r = cond (some_of (is paths) r) (Some (keys_of r)) None

  -- "13 text option: id, S"
  unfoldable pub option_of : ℕ → List Cmd → Option Text
  option_of id r = first_of (text_of text) (only (is_id text_option id) r)

  -- "01 BEGIN S (path)"
  unfoldable pub record_path_of : List Cmd → Text
  record_path_of r = unwrap_or (single begin r) []

-- "12 flag: id, value 0 or 1"
unfoldable pub flag_of : ℕ → List Cmd → Option Bool
flag_of id r = first_of (λ c. eqb c.value 1) (only (is_id flag id) r)
