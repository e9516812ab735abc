-- A tame text, and the rules of the strings of one. Assumes nothing.
use mathlib.Core.Path.{◌≡◌, refl, sym, ap, ◌∙◌}
use Rattle.std.proofs.lemmas.Bool.{and_parts}
use mathlib.Core.List.{[], ◌∷◌}
use mathlib.Core.Bool.{Bool, true, false, not, cond, ◌&&◌, and-true, and-false, true≢false}
use Prim.Native.Nat.{ℕ, zero, suc, ◌+◌, ◌-◌, ◌%◌, ◌<◌}
use native.Mathlib.Omega.{arith}
use lib.ListN.{length, take, drop}
use lib.Dec.{eqb, leb}
use lib.Bits.{bit_or}
use borrow.Author.Tests.{le-leb, leb-true, ne_eqb, eqb-true, eqb-false}
use Rattle.text.specs.Bytes.{Text, bytes}
use Rattle.text.specs.Text.{some_of, each_of}
use Rattle.text.proofs.Picks.{by_test}
use Rattle.strings.specs.Strings.{none_of, plain_byte, string_rule}
use Rattle.strings.specs.Scan.{within, tame_byte, tame_text}

module _ (P : ℕ → Bool) where
  each_drop : (k : ℕ) (s : Text) → each_of P s ≡ true → each_of P (drop k s) ≡ true
  unfolding each_of
  each_drop zero s e = e
  each_drop (suc k) [] e = e
  each_drop (suc k) (x ∷ s) e = each_drop k s (and_parts (P x) (each_of P s) e).1

  each_take : (k : ℕ) (s : Text) → each_of P s ≡ true → each_of P (take k s) ≡ true
  unfolding each_of
  each_take zero s e = refl
  each_take (suc k) [] e = e
  each_take (suc k) (x ∷ s) e = rw (and_parts (P x) (each_of P s) e).0 (each_take k s (and_parts (P x) (each_of P s) e).1)

-- a byte that is tame is plain, and none of the barred ones
module _ (x : ℕ) (e : tame_byte x ≡ true) where
  other : (y : ℕ) → tame_byte y ≡ false → x ≡ y → ⊥
  other y f q = absurd (true≢false (sym e ∙ ap tame_byte q ∙ f))

  range : within 0x22 0x7E x ≡ true
  range = (and_parts (within 0x22 0x7E x) _ e).0

  byte_plain : plain_byte x ≡ true
  byte_plain = rw (le-leb 0x20 x (omega (arith, leb-true 0x22 x (and_parts (leb 0x22 x) _ range).0)), (and_parts (leb 0x22 x) _ range).1, ne_eqb x 0x5C (other 0x5C refl)) refl

  byte_bare : none_of (bytes "{}[]!") x ≡ true
  unfolding some_of
  byte_bare = rw (ne_eqb x 123 (other 123 refl), ne_eqb x 125 (other 125 refl), ne_eqb x 91 (other 91 refl), ne_eqb x 93 (other 93 refl), ne_eqb x 33 (other 33 refl)) refl

each_all : (P Q : ℕ → Bool) → ((x : ℕ) → P x ≡ true → Q x ≡ true) → (s : Text) → each_of P s ≡ true → each_of Q s ≡ true
unfolding each_of
each_all P Q h [] e = refl
each_all P Q h (x ∷ s) e = rw (h x (and_parts (P x) (each_of P s) e).0) (each_all P Q h s (and_parts (P x) (each_of P s) e).1)

module _ (s : Text) (e : tame_text s ≡ true) where
  pub tame_plain : each_of plain_byte s ≡ true
  unfolding tame_text
  tame_plain = each_all tame_byte plain_byte byte_plain s e

  pub tame_bare : each_of (none_of (bytes "{}[]!")) s ≡ true
  unfolding tame_text
  tame_bare = each_all tame_byte (none_of (bytes "{}[]!")) byte_bare s e

-- a part of a tame text is tame
pub tame_part : (s : Text) (a b : ℕ) → tame_text s ≡ true → tame_text (take b (drop a s)) ≡ true
unfolding tame_text
tame_part s a b e = each_take tame_byte b (drop a s) (each_drop tame_byte a s e)

-- a rule of each number below n
each_below : (ℕ → Bool) → ℕ → Bool
each_below P zero = true
each_below P (suc n) = P n && each_below P n

below_each : (P : ℕ → Bool) (n : ℕ) → each_below P n ≡ true → (x : ℕ) → x < n → P x ≡ true
unfolding each_below
below_each P zero e x h = let w : ⊥ = omega arith in absurd w
below_each P (suc n) e x h =
    by_test (eqb x n)
    (λ t. let q : x ≡ n = eqb-true x n t in rw q (and_parts (P n) (each_below P n) e).0)
    (λ f. below_each P n (and_parts (P n) (each_below P n) e).1 x (omega (arith, eqb-false x n f)))

-- two tests agree
told : (a b : Bool) → cond a b (not b) ≡ true → a ≡ b
told true b e = sym e
told false true e = e
told false false e = refl

-- Two ranges are one where the bit in which a bracket and its brace differ is set: computed for each byte up to the highest.
abbrev two_ranges : ℕ → Bool
two_ranges x = not (within 0x5B 0x5D x) && not (within 0x7B 0x7D x)

abbrev one_range : ℕ → Bool
one_range x = not (within 0x7B 0x7D (bit_or x 0x20))

abbrev same_ranges : ℕ → Bool
same_ranges x = cond (one_range x) (two_ranges x) (not (two_ranges x))

ranges_computed : each_below same_ranges 0x7F ≡ true
unfolding each_below
ranges_computed = refl

ranges_same : (x : ℕ) → x < 0x7F → one_range x ≡ two_ranges x
ranges_same x h = told (one_range x) (two_ranges x) (below_each same_ranges 0x7F ranges_computed x h)

tame_ranges : (x : ℕ) → within 0x22 0x7E x && one_range x ≡ tame_byte x
tame_ranges x = ranges (leb x 0x7E) refl
  where
    ranges : (t : Bool) → leb x 0x7E ≡ t → within 0x22 0x7E x && one_range x ≡ tame_byte x
    ranges true t = rw (ranges_same x (omega (arith, leb-true x 0x7E t))) refl
    ranges false t = rw (t, and-false (leb 0x22 x)) refl

-- r says whether a byte from the one end to the other lies in the one range
pub tame_rest : (x : ℕ) → within 0x22 0x7E x ≡ true → (r : Bool) → r ≡ within 0x7B 0x7D (bit_or x 0x20) → not r ≡ tame_byte x
tame_rest x i r e = ap not e ∙ (sym (ap (λ t. t && one_range x) i) ∙ tame_ranges x)

pub tame_string : (s : Text) → tame_text s ≡ true → leb (length s) 512 ≡ string_rule s
unfolding string_rule
tame_string s e = rw (tame_plain s e) (sym (and-true (leb (length s) 512)))

-- The two lanes of a byte, raised and above the raised brace, tell whether it is tame: computed for each byte.
abbrev pub raised : ℕ → ℕ
raised x = (x + 0x81) % 0x100

abbrev pub above : ℕ → ℕ
above x = (bit_or (raised x) 0x20 + (0x100 - 0xFC)) % 0x100

abbrev same_lanes : ℕ → Bool
same_lanes x = cond (tame_byte x) (leb 0xA3 (raised x) && leb 3 (above x)) (not (leb 0xA3 (raised x) && leb 3 (above x)))

lanes_computed : each_below same_lanes 0x100 ≡ true
unfolding each_below
lanes_computed = refl

pub tame_raised : (x : ℕ) → x < 0x100 → tame_byte x ≡ leb 0xA3 (raised x) && leb 3 (above x)
tame_raised x h = told _ _ (below_each same_lanes 0x100 lanes_computed x h)
