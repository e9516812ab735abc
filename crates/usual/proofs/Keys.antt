-- A key that is taken in passing, and one that is not. Assumes nothing.
use mathlib.Core.Path.{◌≡◌, refl, sym, ap, ◌∙◌}
use Rattle.std.proofs.lemmas.Bool.{and_parts}
use mathlib.Core.List.{List, [], ◌∷◌, ◌++◌}
use mathlib.Core.Bool.{Bool, true, false, not, ◌&&◌, true≢false, and-true}
use Rattle.std.specs.Prelude.{Some, None}
use Prim.Native.Nat.{ℕ, ◌+◌, ◌-◌, ◌≤◌, ◌<◌}
use native.Mathlib.Omega.{arith}
use lib.ListN.{length, get_or, set, take, drop}
use lib.Seq.{drop-cons, get_or-drop}
use lib.Dec.{eqb, leb, ltb}
use borrow.Author.Tests.{le-leb, lt-leb, lt-ltb, le-ltb, leb-false, ltb-true, not-true}
use Rattle.text.specs.Bytes.{Text}
use Rattle.text.specs.Text.{some_of}
use Rattle.text.proofs.Picks.{by_test}
use Rattle.compare.specs.Compare.{digest_of}
use Rattle.strings.specs.Strings.{string_rule}
use Rattle.book.specs.declared.Cmd.{Cmd}
use Rattle.std.specs.Prelude.{Result, Ok}
use Rattle.book.specs.declared.Stop.{Stop}
use Rattle.book.specs.Command.{begin, key, width_of, operands}
use Rattle.book.specs.Rules.{text_of, own_rule, good_string, given_before, fault_of}
use Rattle.book.specs.Steps.{step_at}
use Rattle.book.specs.declared.Seen.{Seen}
use Rattle.book.specs.State.{has, pushed, slotted, texts, meets}
use Rattle.book.proofs.Steps.{step_command, operands_op, no_command, one_command}
use Rattle.faults.proofs.Keeps.{held_on, cut_text}
use Rattle.usual.specs.Usual.{key_fine, still, Keyed, keyed, barred, Taken, behind}
use Rattle.usual.proofs.Passing.{clear_of, slot_told, begun_set}

-- a key's string has no rule of its own
plain : (s : Text) → own_rule key s ≡ true
unfolding own_rule
plain s = refl

pub held_good : (text : Text) (c : Cmd) → c.op ≡ key → (r : Bool) → r ≡ (leb (c.start + c.len) (length text) && string_rule (text_of text c)) → r ≡ good_string text c
unfolding good_string
held_good text c k r e =
    e ∙ ap (λ (b : Bool). leb (c.start + c.len) (length text) && b)
    (sym (and-true (string_rule (text_of text c))) ∙ ap (λ (b : Bool). string_rule (text_of text c) && b) (sym (ap (λ (o : ℕ). own_rule o (text_of text c)) k ∙ plain (text_of text c))))

-- its place in the text by the tests of the code, and its string where it lies there
module _ (text : Text) (c : Cmd) where
  pub out_wrong : length text < c.start + c.len → false ≡ good_string text c
  unfolding good_string
  out_wrong h = rw (lt-leb (c.start + c.len) (length text) h) refl

  pub in_good : c.op ≡ key → c.start + c.len ≤ length text → (r : Bool) → r ≡ string_rule (take (c.start + c.len - c.start) (drop c.start text)) → r ≡ good_string text c
  in_good k h r e = held_good text c k r (held_on text c h r (e ∙ ap string_rule (cut_text text c)))

-- where a command's string ends is a small number
pub end_small : (part : Text) → ((i : ℕ) → get_or part i 0 < 256) → (at : ℕ) (c : Cmd) → c ≡ operands 4 (drop at part) → c.start + c.len < 131072
unfolding operands
end_small part f at c e =
    rw e (rw (get_or-drop at part 1 0, get_or-drop at part 2 0, get_or-drop at part 3 0, get_or-drop at part 4 0) (omega (arith, f (at + 1), f (at + 2), f (at + 3), f (at + 4))))

new_key : (keys paths : List Text) (s : Text) → some_of (meets false s) keys ≡ false → given_before keys paths key s ≡ false
unfolding given_before meets
new_key keys paths s e = e

module _ (part : Text) (at : ℕ) (text : Text) (ns : List ℕ) (keys : List Seen) where
  pub fine_short : length part - at < 5 → key_fine part at text ns keys ≡ false
  unfolding key_fine
  fine_short h = rw (le-leb (length part - at) 4 (omega (arith, h))) refl

  module _ (long : 5 ≤ length part - at) where
    pub fine_shut : not (eqb (has ns 10) 0) ≡ false → key_fine part at text ns keys ≡ false
    unfolding key_fine
    fine_shut z = rw (lt-leb (length part - at) 4 (omega (arith, long)), z) refl

    module _ (there : not (eqb (has ns 10) 0) ≡ true) where
      pub fine_full : 32 ≤ get_or ns 11 0 → key_fine part at text ns keys ≡ false
      unfolding key_fine
      fine_full h = rw (lt-leb (length part - at) 4 (omega (arith, long)), there, le-ltb (get_or ns 11 0) 32 h) refl

      module _ (room : get_or ns 11 0 < 32) (c : Cmd) (e : c ≡ operands 4 (drop at part)) where
        pub fine_wrong : (r : Bool) → r ≡ good_string text c → r ≡ false → key_fine part at text ns keys ≡ false
        unfolding key_fine
        fine_wrong r g f = rw (lt-leb (length part - at) 4 (omega (arith, long)), there, lt-ltb (get_or ns 11 0) 32 room, ← e, ← g, f) refl

        module _ (r : Bool) (g : r ≡ good_string text c) (t : r ≡ true) (s : Text) (se : s ≡ text_of text c) (b : Bool) (be : b ≡ some_of (meets false s) (texts text keys)) where
          is_met : some_of (meets false (text_of text c)) (texts text keys) ≡ b
          is_met = rw (← se) (sym be)

          pub fine_met : b ≡ true → key_fine part at text ns keys ≡ false
          unfolding key_fine
          fine_met y = rw (lt-leb (length part - at) 4 (omega (arith, long)), there, lt-ltb (get_or ns 11 0) 32 room, ← e, ← g, t, is_met, y) refl

          pub fine_on : b ≡ false → key_fine part at text ns keys ≡ true
          unfolding key_fine
          fine_on y = rw (lt-leb (length part - at) 4 (omega (arith, long)), there, lt-ltb (get_or ns 11 0) 32 room, ← e, ← g, t, is_met, y) refl

  -- what the code leaves behind, where the key is taken
  pub key_put :
      (last : ℕ) → get_or part at 0 ≡ key → key_fine part at text ns keys ≡ true → (c : Cmd) → c ≡ operands 4 (drop at part) → (d : ℕ) → d ≡ digest_of (text_of text c) →
      {ns' : List ℕ} {last' : ℕ} {keys' : List Seen} → ns' ≡ pushed ns c 11 → last' ≡ c.op → keys' ≡ keys ++ record { start = c.start; len = c.len; mark = d } ∷ [] →
      Keyed part text ns last at keys ns' last' (at + 5) keys'
  unfolding text_of
  key_put last byte fine c e d f a b k = rw (a, b, k, f, e) (keyed byte fine)

  pub none_there : (last : ℕ) → length part ≤ at → Taken part text ns last at keys ns last at keys
  none_there last h = behind (barred (fine_short (omega (arith, h)))) still

  -- what is known of a key that is fine
  module _ (byte : get_or part at 0 ≡ key) (fine : key_fine part at text ns keys ≡ true) where
    told : (not (leb (length part - at) 4) && (not (eqb (has ns 10) 0) && (ltb (has ns key) 32 && (good_string text (operands 4 (drop at part)) && not (some_of (meets false (text_of text (operands 4 (drop at part)))) (texts text keys)))))) ≡ true
    unfolding key_fine
    told = fine

    rest : (not (eqb (has ns 10) 0) && (ltb (has ns key) 32 && (good_string text (operands 4 (drop at part)) && not (some_of (meets false (text_of text (operands 4 (drop at part)))) (texts text keys))))) ≡ true
    rest = (and_parts (not (leb (length part - at) 4)) _ told).1

    rest₂ : (ltb (has ns key) 32 && (good_string text (operands 4 (drop at part)) && not (some_of (meets false (text_of text (operands 4 (drop at part)))) (texts text keys)))) ≡ true
    rest₂ = (and_parts (not (eqb (has ns 10) 0)) _ rest).1

    rest₃ : (good_string text (operands 4 (drop at part)) && not (some_of (meets false (text_of text (operands 4 (drop at part)))) (texts text keys))) ≡ true
    rest₃ = (and_parts (ltb (has ns key) 32) _ rest₂).1

    pub key_long : 4 < length part - at
    key_long = leb-false (length part - at) 4 (not-true _ (and_parts (not (leb (length part - at) 4)) _ told).0)

    pub key_op : key ≡ (operands 4 (drop at part)).op
    unfolding operands
    key_op = sym (rw (drop-cons part at 0 (omega (arith, key_long))) byte)

    pub key_reads : step_at part at ≡ Ok (operands 4 (drop at part), at + 4 + 1)
    unfolding width_of
    key_reads = sym (step_command part at 4 (operands 4 (drop at part)) (omega (arith, key_long)) (sym (ap width_of byte)) (λ e. absurd (omega (arith, e))) key_long refl)

    pub key_room : has ns key < 32
    key_room = ltb-true (has ns key) 32 (and_parts (ltb (has ns key) 32) _ rest₂).0

    module _ (last : ℕ) where
      pub key_slotted : slotted (operands 4 (drop at part)) ≡ Some key
      key_slotted = slot_told text ns last (operands 4 (drop at part)) key key_op (omega arith) (λ e. absurd (omega (arith, e))) (λ e. absurd (omega (arith, e)))

      pub key_clear : (n : ℕ) (paths : List Text) → fault_of text (has ns) last n (texts text keys) paths (operands 4 (drop at part)) ≡ None
      key_clear n paths =
          clear_of text ns last (operands 4 (drop at part)) key key_op (omega arith) (λ e. absurd (omega (arith, e))) (λ e. absurd (omega (arith, e)))
          (λ e. absurd (omega (arith, e))) refl (and_parts (not (eqb (has ns 10) 0)) _ rest).0 key_room (and_parts (good_string text (operands 4 (drop at part))) _ rest₃).0 n
          (texts text keys) paths
          (ap (λ (o : ℕ). given_before (texts text keys) paths o (text_of text (operands 4 (drop at part)))) (sym key_op)
          ∙ new_key (texts text keys) paths (text_of text (operands 4 (drop at part))) (not-true _ (and_parts (good_string text (operands 4 (drop at part))) _ rest₃).1))

-- behind a key that was taken, or where none was
module _ {part text : Text} {ns : List ℕ} {last at : ℕ} {keys : List Seen} where
  pub keyed_place : {ns' : List ℕ} {last' to : ℕ} {keys' : List Seen} → Keyed part text ns last at keys ns' last' to keys' → at ≤ length part → to ≤ length part
  keyed_place (keyed byte fine) h = omega (arith, key_long part at text ns keys byte fine)
  keyed_place (barred f) h = h

  pub keyed_begun : {ns' : List ℕ} {last' to : ℕ} {keys' : List Seen} → Keyed part text ns last at keys ns' last' to keys' → (has ns begin ≡ 0 → ⊥) → has ns' begin ≡ 0 → ⊥
  unfolding pushed
  keyed_begun (keyed byte fine) b =
      let q : (operands 4 (drop at part)).op ≡ 11 = sym (key_op part at text ns keys byte fine) in
      rw q (begun_set (set ns 11 (has ns 11 + 1)) 12 0 (λ e. absurd (omega (arith, e))) (begun_set ns 11 (has ns 11 + 1) (λ e. absurd (omega (arith, e))) b))
  keyed_begun (barred f) b = b

-- the command that stands at the offset
module _ (part : Text) (at : ℕ) (c : Cmd) (nx : ℕ) (is : Ok (c, nx) ≡ step_at part at) where
  pub record Standing : Type 0 where
    pub inside : at < length part
    pub long : width_of (get_or part at 0) < length part - at
    pub reads : c ≡ operands (width_of (get_or part at 0)) (drop at part)
    pub byte : c.op ≡ get_or part at 0

  stands : at < length part → width_of (get_or part at 0) < length part - at → ◌≡◌ {A = Result (Cmd × ℕ) Stop} (Ok (c, nx)) (Ok (operands (width_of (get_or part at 0)) (drop at part), at + width_of (get_or part at 0) + 1)) → Standing
  stands h l e =
      let q : c ≡ operands (width_of (get_or part at 0)) (drop at part) = one_command e in
      record {
        inside = h;
        long = l;
        reads = q;
        byte = ap (λ (k : Cmd). k.op) q ∙ operands_op (width_of (get_or part at 0)) (drop at part) ∙ rw (drop-cons part at 0 h) refl;
      }

  pub standing : Standing
  unfolding step_at
  standing =
      by_test (leb (length part) at)
      (λ e. no_command (rw e at is))
      (λ e. by_test (eqb (width_of (get_or part at 0)) 9)
      (λ f. no_command (rw (e, f) at is))
      (λ f. by_test (leb (length part - at) (width_of (get_or part at 0)))
      (λ g. no_command (rw (e, f, g) at is))
      (λ g. stands (leb-false (length part) at e) (leb-false (length part - at) (width_of (get_or part at 0)) g) (rw (e, f, g) at is))))

  -- a key that is not fine, and in which nothing else is wrong, was given before
  module _ (k : c.op ≡ key) where
    wide_key : width_of (get_or part at 0) ≡ 4
    unfolding width_of
    wide_key = ap width_of (sym standing.byte ∙ k)

    pub was_given : (text : Text) (ns : List ℕ) (keys : List Seen) → key_fine part at text ns keys ≡ false → not (eqb (has ns 10) 0) ≡ true → has ns key < 32 → good_string text c ≡ true → some_of (meets false (text_of text c)) (texts text keys) ≡ true
    unfolding key_fine
    was_given text ns keys f o r g =
        by_test (some_of (meets false (text_of text c)) (texts text keys))
        (λ y. y)
        (λ y.
        let q : c ≡ operands 4 (drop at part) = standing.reads ∙ ap (λ (w : ℕ). operands w (drop at part)) wide_key in
        let z : true ≡ false = rw (lt-leb (length part - at) 4 (omega (arith, standing.long, wide_key)), not-true (eqb (has ns 10) 0) o, lt-ltb (has ns key) 32 r, ← q, g, y) at f in
        absurd (true≢false z))
