-- Commands that are taken in passing. These serve the code: what is wrong with a command is said in the book's definitions alone.
use Rattle.std.specs.Prelude.{ℕ, ◌+◌, ◌-◌, List, [], ◌∷◌, ◌++◌, ◌≡◌, Bool, true, false, not, ◌&&◌, ◌||◌, cond, length, get_or, drop, eqb, leb, ltb}
use Rattle.std.specs.Prelude.{Some, None}
use Rattle.text.specs.Bytes.{Text}
use Rattle.text.specs.Text.{some_of}
use Rattle.book.specs.declared.Cmd.{Cmd}
use Rattle.std.specs.Prelude.{Ok}
use Rattle.book.specs.Command.{begin, key, target, end, width_of, operands}
use Rattle.book.specs.Rules.{openers, limits, text_of, good_string, fault_of}
use Rattle.book.specs.Steps.{step_at}
use Rattle.book.specs.declared.Seen.{Seen}
use Rattle.book.specs.State.{has, pushed, slotted, texts, row_of, meets}

-- how many of a command a record may have: its limit, or one
abbrev pub most_of : ℕ → ℕ
most_of op = cond (eqb (get_or limits op 0) 0) 1 (get_or limits op 0)

-- A command with a string, neither BEGIN nor a key, that may come now: what it must come after is there. A record may have so many of it.
pub record Open (counts : List ℕ) (last op most : ℕ) : Type 0 where
  pub width : width_of op ≡ 4
  pub no_begin : op ≡ begin → ⊥
  pub no_key : op ≡ key → ⊥
  pub follow : (not (eqb op target) || (eqb last key || eqb last target)) ≡ true
  pub unlocked : (eqb (get_or openers op 0) 0 || not (eqb (has counts (get_or openers op 0)) 0)) ≡ true
  pub limit : most ≡ most_of op

-- The key at the offset, where a key stands there, is without a fault and was not given before.
unfoldable pub key_fine : Text → ℕ → Text → List ℕ → List Seen → Bool
key_fine part at text counts keys =
    not (leb (length part - at) 4) &&
    (not (eqb (has counts 10) 0) &&
    (ltb (has counts key) 32 &&
    (good_string text (operands 4 (drop at part)) && not (some_of (meets false (text_of text (operands 4 (drop at part)))) (texts text keys)))))

-- A command in the slot k without a fault, which neither records nor keys before it can give one.
pub record Usual (text : Text) (counts : List ℕ) (last k : ℕ) (c : Cmd) : Type 0 where
  pub slot : slotted c ≡ Some k
  pub no_key : c.op ≡ key → ⊥
  pub no_end : c.op ≡ end → ⊥
  pub clear : (n : ℕ) (keys paths : List Text) → fault_of text (has counts) last n keys paths c ≡ None

-- From one offset to another each command is usual. The counts and the last command's byte go with the offset.
pub data Passed (part text : Text) (counts : List ℕ) (last at : ℕ) : List ℕ → ℕ → ℕ → Type 0 where
  still : Passed part text counts last at counts last at
  more :
      {counts' : List ℕ} {last' at' k : ℕ} {c : Cmd} {nx : ℕ} → Passed part text counts last at counts' last' at' → step_at part at' ≡ Ok (c, nx) → Usual text counts' last' k c →
      Passed part text counts last at (pushed counts' c k) c.op nx

-- A key that was taken at the offset, whose row comes behind the others; or nothing, where a key is not fine or none stands there.
pub data Keyed (part text : Text) (counts : List ℕ) (last at : ℕ) (keys : List Seen) : List ℕ → ℕ → ℕ → List Seen → Type 0 where
  keyed :
      get_or part at 0 ≡ key → key_fine part at text counts keys ≡ true →
      Keyed part text counts last at keys (pushed counts (operands 4 (drop at part)) key) (operands 4 (drop at part)).op (at + 5) (keys ++ row_of text (operands 4 (drop at part)) ∷ [])
  barred : key_fine part at text counts keys ≡ false → Keyed part text counts last at keys counts last at keys

-- What was taken from the offset on: usual commands, where no key stands there; or a key, and usual commands behind it.
pub data Taken (part text : Text) (counts : List ℕ) (last at : ℕ) (keys : List Seen) : List ℕ → ℕ → ℕ → List Seen → Type 0 where
  passed : {counts' : List ℕ} {last' to : ℕ} → (get_or part at 0 ≡ key → ⊥) → Passed part text counts last at counts' last' to → Taken part text counts last at keys counts' last' to keys
  behind :
      {counts' counts'' : List ℕ} {last' last'' mid to : ℕ} {keys' : List Seen} → Keyed part text counts last at keys counts' last' mid keys' → Passed part text counts' last' mid counts'' last'' to →
      Taken part text counts last at keys counts'' last'' to keys'
