-- A flag or a text option that is taken in passing. Assumes nothing.
use mathlib.Core.Path.{◌≡◌, refl, sym, ap, ◌∙◌}
use mathlib.Core.List.{List, [], ◌∷◌}
use mathlib.Core.Logic.{inl, inr}
use types.Run.{OneOf}
use mathlib.Core.Bool.{true, false}
use Rattle.std.specs.Prelude.{Some, None}
use Prim.Native.Nat.{ℕ, ◌+◌, ◌-◌, ◌*◌, ◌≤◌}
use native.Mathlib.Omega.{arith}
use lib.ListN.{length, get_or, set, take, drop}
use lib.Seq.{drop-cons, get_or-drop}
use lib.Dec.{eqb}
use borrow.Author.Tests.{ne_eqb, eqb-true, le-leb}
use Rattle.text.specs.Bytes.{Text}
use Rattle.text.specs.Text.{each_of}
use Rattle.strings.specs.Strings.{string_rule}
use Rattle.book.specs.declared.Cmd.{Cmd}
use Rattle.std.specs.Prelude.{Ok}
use Rattle.book.specs.Command.{begin, key, target, flag, text_option, end, word, width_of, operands}
use Rattle.book.specs.Rules.{openers, limits, in_order, too_many, text_of, own_rule, good_string, given_before, fault_of}
use Rattle.book.specs.Steps.{step_at}
use Rattle.book.specs.State.{has, pushed, slotted}
use Rattle.book.proofs.Steps.{step_command}
use Rattle.book.proofs.Table.{at_keys}
use Rattle.faults.proofs.Keeps.{slotted_some, order_on, many_once, slot_flag, slot_text}
use Rattle.usual.specs.Usual.{Usual, Passed, still, more}
use Rattle.usual.proofs.Passing.{recast}

-- nothing is wrong with a flag or a text option in the slot k that comes for the first time in a record that has begun
module _ (op : ℕ) (one : OneOf (flag ∷ text_option ∷ []) op) (text : Text) (ns : List ℕ) (last k : ℕ) (c : Cmd) (is : op ≡ c.op) (in_slot : slotted c ≡ Some k)
    (begun : has ns begin ≡ 0 → ⊥) (none_yet : has ns k ≡ 0) (good : good_string text c ≡ true) where
  opens : get_or openers op 0 ≡ begin
  opens = eqb-true (get_or openers op 0) begin (at_keys (λ i. eqb (get_or openers i 0) begin) (flag ∷ text_option ∷ []) tt op one)

  endless : get_or limits op 0 ≡ 0
  endless = eqb-true (get_or limits op 0) 0 (at_keys (λ i. eqb (get_or limits i 0) 0) (flag ∷ text_option ∷ []) tt op one)

  large : 18 ≤ op
  large = between one
    where
      between : OneOf (flag ∷ text_option ∷ []) op → 18 ≤ op
      between (inl e) = omega (arith, e)
      between (inr e) = omega (arith, e)

  no_end : op ≡ end → ⊥
  no_end e = neither one
    where
      neither : OneOf (flag ∷ text_option ∷ []) op → ⊥
      neither (inl f) = absurd (omega (arith, e, f))
      neither (inr f) = absurd (omega (arith, e, f))

  order : in_order (has ns) last c ≡ true
  order =
      sym (order_on (has ns) last c op is (slotted_some c in_slot).0 true (rw (opens, ne_eqb (has ns begin) 0 begun) refl) k (slotted_some c in_slot).1 refl true (rw (endless, none_yet) refl) refl true
      (rw (← is, ne_eqb op target (λ e. absurd (omega (arith, e, large)))) refl))

  few : (n : ℕ) → too_many (has ns) last c n ≡ false
  few n = sym (many_once (has ns) last c op is n 0 (λ e. absurd (omega (arith, e, large))) (sym endless) refl)

  not_given : (keys paths : List Text) → given_before keys paths c.op (text_of text c) ≡ false
  unfolding given_before
  not_given keys paths = rw (← is, ne_eqb op begin (λ e. absurd (omega (arith, e, large))), ne_eqb op key (λ e. absurd (omega (arith, e, large)))) refl

  clear : (n : ℕ) (keys paths : List Text) → fault_of text (has ns) last n keys paths c ≡ None
  unfolding fault_of
  clear n keys paths = rw (order, good, few n, not_given keys paths) refl

  option_usual : Usual text ns last k c
  option_usual =
      record {
        slot = in_slot;
        no_key = λ e. absurd (omega (arith, is, e, large));
        no_end = λ e. no_end (is ∙ e);
        clear = clear;
      }

  option_pushed : pushed ns c k ≡ set ns k (has ns k + 1)
  unfolding pushed
  option_pushed = rw (← is, ne_eqb op 11 (λ e. absurd (omega (arith, e, large)))) refl

  pub option_on : {part : Text} {at next : ℕ} → step_at part at ≡ Ok (c, next) → Passed part text ns last at (set ns k (has ns k + 1)) op next
  option_on {part} {at} {next} reads = recast part text ns last at option_pushed (sym is) refl (more still reads option_usual)

-- the flag at the offset, by the tests of the code
module _ (part : Text) (at : ℕ) (byte : get_or part at 0 ≡ flag) (long : 3 ≤ length part - at) (id-fits : get_or part (at + 1) 0 ≤ 10) (value-fits : get_or part (at + 2) 0 ≤ 1) where
  cmd : Cmd
  cmd = operands 2 (drop at part)

  op_is : flag ≡ cmd.op
  unfolding cmd operands
  op_is = sym (rw (drop-cons part at 0 (omega (arith, long))) byte)

  id_is : get_or part (at + 1) 0 ≡ cmd.id
  unfolding cmd operands
  id_is = sym (get_or-drop at part 1 0)

  value_is : cmd.value ≡ get_or part (at + 2) 0
  unfolding cmd operands
  value_is = get_or-drop at part 2 0

  flag_slotted : slotted cmd ≡ Some (21 + get_or part (at + 1) 0)
  flag_slotted = sym (ap (λ (i : ℕ). Some (21 + i)) id_is ∙ slot_flag cmd (sym op_is) (omega (arith, id_is, id-fits)) (omega (arith, value_is, value-fits)))

  flag_good : (text : Text) → good_string text cmd ≡ true
  unfolding good_string cmd operands text_of own_rule string_rule each_of
  flag_good text = rw (← op_is, le-leb (0 + 0) (length text) (omega arith)) refl

  reads : step_at part at ≡ Ok (cmd, at + 2 + 1)
  unfolding cmd width_of
  reads = sym (step_command part at 2 (operands 2 (drop at part)) (omega (arith, long)) (sym (ap width_of byte)) (λ e. absurd (omega (arith, e))) (omega (arith, long)) refl)

  module _ (text : Text) (ns : List ℕ) (last k : ℕ) (is : k ≡ 21 + get_or part (at + 1) 0) (begun : has ns begin ≡ 0 → ⊥) (first : has ns k ≡ 0) where
    in_slot : slotted cmd ≡ Some k
    in_slot = rw is flag_slotted

    pub flag_on : Passed part text ns last at (set ns k (has ns k + 1)) flag (at + 3)
    flag_on =
        let next : at + 2 + 1 ≡ at + 3 = omega arith in
        rw next at (option_on flag (inl refl) text ns last k cmd op_is in_slot begun first (flag_good text) reads)

-- the text option at the offset, by the tests of the code
module _ (part : Text) (at : ℕ) (byte : get_or part at 0 ≡ text_option) (long : 6 ≤ length part - at) (id-fits : get_or part (at + 1) 0 ≤ 6)
    (text : Text) (start len : ℕ) (start_is : start ≡ word part (at + 2)) (len_is : len ≡ word part (at + 4)) where
  read : Cmd
  read = record { op = text_option; id = get_or part (at + 1) 0; value = 0; start = start; len = len }

  reads_as : read ≡ operands 5 (drop at part)
  unfolding read operands
  reads_as =
      rw (get_or-drop at part 0 0, get_or-drop at part 1 0, get_or-drop at part 2 0, get_or-drop at part 3 0, get_or-drop at part 4 0, get_or-drop at part 5 0)
      (rw (start_is, len_is) (places (omega arith) (omega arith) (omega arith)))
    where
      places : {a b d : ℕ} → at ≡ a → at + 2 + 1 ≡ b → at + 4 + 1 ≡ d →
          ◌≡◌ {A = Cmd} (record { op = text_option; id = get_or part (at + 1) 0; value = 0; start = word part (at + 2); len = word part (at + 4) })
          (record { op = get_or part a 0; id = get_or part (at + 1) 0; value = 0; start = get_or part (at + 2) 0 + get_or part b 0 * 256; len = get_or part (at + 4) 0 + get_or part d 0 * 256 })
      places x y z = rw (← x, ← y, ← z, byte) refl

  text_slotted : slotted read ≡ Some (32 + get_or part (at + 1) 0)
  unfolding read
  text_slotted = sym (slot_text read refl id-fits)

  text_reads : step_at part at ≡ Ok (read, at + 5 + 1)
  unfolding width_of
  text_reads = sym (step_command part at 5 read (omega (arith, long)) (sym (ap width_of byte)) (λ e. absurd (omega (arith, e))) (omega (arith, long)) reads_as)

  text_good : start + len ≤ length text → string_rule (take len (drop start text)) ≡ true → good_string text read ≡ true
  unfolding good_string text_of own_rule read
  text_good h s = rw (le-leb (start + len) (length text) h, s) refl

  module _ (ns : List ℕ) (last k : ℕ) (is : k ≡ 32 + get_or part (at + 1) 0) (begun : has ns begin ≡ 0 → ⊥) (inside : start + len ≤ length text)
      (string : string_rule (take len (drop start text)) ≡ true) (first : has ns k ≡ 0) where
    pub text_on : Passed part text ns last at (set ns k (has ns k + 1)) text_option (at + 6)
    unfolding read
    text_on =
        let next : at + 5 + 1 ≡ at + 6 = omega arith in
        let slot : slotted read ≡ Some k = rw is text_slotted in
        rw next at (option_on text_option (inr refl) text ns last k read refl slot begun first (text_good inside string) text_reads)
