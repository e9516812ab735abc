-- The string of an item of a run: it keeps the rules of all strings and its own. Assumes nothing.
use mathlib.Core.Path.{◌≡◌, refl, sym, ◌∙◌}
use mathlib.Core.List.{List, [], ◌∷◌}
use mathlib.Core.Bool.{Bool, true}
use Prim.Native.Nat.{ℕ, ◌+◌, ◌*◌, ◌≤◌}
use native.Mathlib.Omega.{arith}
use lib.ListN.{length, get_or, take, drop, length-take}
use lib.Seq.{get_or-drop}
use types.Run.{OneOf}
use borrow.Author.Tests.{le-leb}
use Rattle.text.specs.Bytes.{Text}
use Rattle.text.specs.Text.{each_of}
use Rattle.strings.specs.Strings.{plain_byte, string_rule}
use Rattle.path_rules.specs.Paths.{lead_rule}
use Rattle.patterns.specs.Patterns.{pattern_rule}
use Rattle.book.specs.declared.Cmd.{Cmd}
use Rattle.book.specs.Command.{word, operands}
use Rattle.book.specs.Rules.{text_of, own_rule, good_string}
use Rattle.book.proofs.Table.{at_keys}
use Rattle.faults.proofs.Arms.{own_pattern, own_lead}
use Rattle.faults.proofs.Keeps.{each_part}

-- what the loop is handed for a rule is the rule of the command's byte

pub own_of_pattern : (op : ℕ) (s : Text) → OneOf (5 ∷ 7 ∷ []) op → (r : Bool) → r ≡ pattern_rule s → r ≡ own_rule op s
own_of_pattern op s o r e = e ∙ own_pattern op s o

pub own_of_lead : (op : ℕ) (s : Text) → OneOf (8 ∷ 13 ∷ []) op → (r : Bool) → r ≡ lead_rule s → r ≡ own_rule op s
own_of_lead op s o r e = e ∙ own_lead op s o

-- the commands whose strings have no rule of their own
abbrev bare : List ℕ
bare = 3 ∷ 15 ∷ 12 ∷ 9 ∷ 16 ∷ 17 ∷ []

pub own_of_none : (op : ℕ) (s : Text) → OneOf bare op → (r : Bool) → r ≡ true → r ≡ own_rule op s
unfolding own_rule
own_of_none op s h r e = e ∙ sym (at_keys (λ k. own_rule k s) bare tt op h)

-- the command that stands at a place, by the tests of the loop
module _ (part : Text) (to : ℕ) (text : Text) (op : ℕ) (plain : each_of plain_byte text ≡ true) (room : to + 5 ≤ length part) (byte : get_or part to 0 ≡ op)
    (start : ℕ) (start_is : start ≡ word part (to + 1)) (len : ℕ) (len_is : len ≡ word part (to + 3)) where
  cmd : Cmd
  cmd = record { op = get_or part to 0; id = 0; value = 0; start = start; len = len }

  read : cmd ≡ operands 4 (drop to part)
  unfolding cmd operands
  read =
      rw (get_or-drop to part 0 0, get_or-drop to part 1 0, get_or-drop to part 2 0, get_or-drop to part 3 0, get_or-drop to part 4 0)
      (rw (start_is, len_is) (places (omega arith) (omega arith) (omega arith)))
    where
      places : {a b d : ℕ} → to ≡ a → to + 1 + 1 ≡ b → to + 3 + 1 ≡ d →
          ◌≡◌ {A = Cmd} (record { op = get_or part to 0; id = 0; value = 0; start = word part (to + 1); len = word part (to + 3) })
          (record { op = get_or part a 0; id = 0; value = 0; start = get_or part (to + 1) 0 + get_or part b 0 * 256; len = get_or part (to + 3) 0 + get_or part d 0 * 256 })
      places x y z = rw (← x, ← y, ← z) refl

  module _ (short : len ≤ 512) (inside : start + len ≤ length text) (r : Bool) (own : r ≡ own_rule op (take len (drop start text))) (keeps : r ≡ true) where
    string : string_rule (take len (drop start text)) ≡ true
    unfolding string_rule
    string = rw (le-leb (length (take len (drop start text))) 512 (omega (arith, length-take len (drop start text), short)), each_part plain_byte text start len plain) refl

    pub item_good : good_string text (operands 4 (drop to part)) ≡ true
    unfolding good_string text_of cmd
    item_good = rw (← read) (rw (le-leb (start + len) (length text) inside, string, byte) (sym own ∙ keeps))
