-- A string that lies in tame parts of a text is tame. Assumes nothing.
use mathlib.Core.Path.{◌≡◌, refl, sym, ap, ◌∙◌}
use mathlib.Core.List.{[], ◌∷◌}
use mathlib.Core.Bool.{Bool, true}
use Rattle.std.proofs.lemmas.Bool.{and_parts}
use Prim.Native.Nat.{ℕ, zero, suc, ◌+◌, ◌-◌, ◌*◌, ◌/◌, ◌≤◌, ◌<◌}
use native.Mathlib.Omega.{arith}
use lib.ListN.{length, get_or, take, drop, length-take, length-drop}
use lib.Seq.{get_or-take, get_or-drop}
use lib.Dec.{leb}
use borrow.Author.Tests.{leb-true, leb-false}
use Rattle.text.specs.Bytes.{Text}
use Rattle.text.specs.Text.{each_of}
use Rattle.text.proofs.Picks.{by_test}
use Rattle.strings.specs.Scan.{tame_byte, tame_text}
use Rattle.faults.specs.Parts.{part_of}

module _ (P : ℕ → Bool) where
  each_at : (s : Text) → each_of P s ≡ true → (j : ℕ) → j < length s → P (get_or s j 0) ≡ true
  unfolding each_of
  each_at [] e j h = absurd (omega (arith, h))
  each_at (x ∷ s) e zero h = (and_parts (P x) (each_of P s) e).0
  each_at (x ∷ s) e (suc j) h = each_at s (and_parts (P x) (each_of P s) e).1 j (omega (arith, h))

  each_by : (s : Text) → ((j : ℕ) → j < length s → P (get_or s j 0) ≡ true) → each_of P s ≡ true
  unfolding each_of
  each_by [] f = refl
  each_by (x ∷ s) f = rw (f 0 (omega arith)) (each_by s (λ j h. f (suc j) (omega (arith, h))))

-- a byte that stands in a tame part
in_part : (text : Text) (i j : ℕ) → tame_text (part_of text i) ≡ true → 512 * i ≤ j → j < 512 * i + 512 → j < length text → tame_byte (get_or text j 0) ≡ true
unfolding tame_text
in_part text i j e low high inside =
    let there : j - 512 * i < length (part_of text i) = omega (arith, low, high, inside, length-take 512 (drop (512 * i) text), length-drop (512 * i) text) in
    let same : get_or (part_of text i) (j - 512 * i) 0 ≡ get_or text (512 * i + (j - 512 * i)) 0 = get_or-take 512 (drop (512 * i) text) (j - 512 * i) 0 (omega (arith, low, high)) ∙ get_or-drop (512 * i) text (j - 512 * i) 0 in
    let back : 512 * i + (j - 512 * i) ≡ j = omega (arith, low) in
    ap tame_byte (ap (λ (k : ℕ). get_or text k 0) (sym back) ∙ sym same) ∙ each_at tame_byte (part_of text i) e (j - 512 * i) there

-- the part in which a string begins and the one in which it ends have all of it
module _ (text : Text) (start len a b : ℕ) (short : len ≤ 512) (first : a ≡ start / 512) (last : b ≡ (start + len) / 512)
    (e : tame_text (part_of text a) ≡ true) (f : tame_text (part_of text b) ≡ true) where
  byte_tame : (j : ℕ) → j < len → start + j < length text → tame_byte (get_or text (start + j) 0) ≡ true
  byte_tame j h inside =
      by_test (leb (512 * a + 512) (start + j))
      (λ y. in_part text b (start + j) f (omega (arith, first, last, short, h, leb-true _ _ y)) (omega (arith, first, last, short, h, leb-true _ _ y)) inside)
      (λ y. in_part text a (start + j) e (omega (arith, first)) (omega (arith, first, leb-false _ _ y)) inside)

  pub tame_across : tame_text (take len (drop start text)) ≡ true
  unfolding tame_text
  tame_across =
      each_by tame_byte (take len (drop start text))
      (λ j h.
      let inside : j < length text - start = omega (arith, h, length-take len (drop start text), length-drop start text) in
      let short : j < len = omega (arith, h, length-take len (drop start text)) in
      ap tame_byte (get_or-take len (drop start text) j 0 short ∙ get_or-drop start text j 0) ∙ byte_tame j short (omega (arith, inside)))
