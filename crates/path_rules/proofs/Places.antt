-- A long path each of whose bytes but the first is plain. Assumes nothing.
use mathlib.Core.Path.{◌≡◌, refl, sym, ap, ◌∙◌}
use mathlib.Core.List.{[], ◌∷◌}
use mathlib.Core.Bool.{Bool, true, not, ◌&&◌, ◌||◌}
use Prim.Native.Nat.{ℕ, suc, ◌+◌, ◌-◌, ◌≤◌, ◌<◌}
use native.Mathlib.Omega.{arith}
use lib.ListN.{length, get_or}
use lib.Dec.{eqb, leb}
use borrow.Author.Tests.{eqb-true, ne_eqb, leb-true, leb-false}
use Rattle.std.proofs.lemmas.Bool.{and_parts}
use Rattle.std.proofs.lemmas.Bool.Decides.{nat_tests}
use Rattle.text.specs.Bytes.{Text, bytes, slash, dot}
use Rattle.text.specs.Text.{some_of, each_of}
use Rattle.text.proofs.Picks.{by_test}
use Rattle.components.specs.Components.{starts}
use Rattle.strings.specs.Strings.{none_of}
use Rattle.normal.specs.Scan.{names_behind}
use Rattle.path_rules.specs.Scan.{plain_behind}

-- each byte of s but the first is plain
abbrev pub all_plain : Text → Type 0
all_plain s = (k : ℕ) → k + 1 < length s → plain_behind s k ≡ true

-- The blocks: what stands before i is plain, and so is the block at j
module _ (s : Text) (i : ℕ) (inv : (k : ℕ) → k < i → plain_behind s k ≡ true) (j : ℕ) (block : (k : ℕ) → k < 16 → plain_behind s (j + k) ≡ true) where
  pub block_next : j ≤ i → (k : ℕ) → k < j + 16 → plain_behind s k ≡ true
  block_next h k l =
      by_test (leb i k)
      (λ y.
      let at : j + (k - j) ≡ k = omega (arith, leb-true i k y, h) in
      ap (plain_behind s) (sym at) ∙ block (k - j) (omega (arith, l, h, leb-true i k y)))
      (λ y. inv k (leb-false i k y))

  -- the last block
  pub plain_whole : j ≤ i → j + 17 ≡ length s → all_plain s
  plain_whole h e k l = block_next h k (omega (arith, l, e))

-- What is plain is free, with a name behind each slash

abbrev free : Text → Bool
free = each_of (none_of (bytes "*?#"))

plain_from : (x : ℕ) (s : Text) → none_of (bytes "*?#") x ≡ true → (get_or (x ∷ s) (length s) 0 ≡ slash → ⊥) → all_plain (x ∷ s) → (free (x ∷ s) ≡ true) × (names_behind (x ∷ s) ≡ true)
unfolding each_of names_behind
plain_from x [] f l p = (rw f refl, rw (ne_eqb x slash l) refl)
plain_from x (y ∷ s) f l p =
    let h = p 0 (omega arith) in
    let y_free = (and_parts (none_of (bytes "*?#") y) (not (eqb x slash && (eqb y slash || eqb y dot))) h).0 in
    let r = plain_from y s y_free l (λ k i. let n : suc k + 1 ≡ suc (k + 1) = omega arith in rw n at (p (suc k) (omega (arith, i)))) in
    (grind (arith, nat_tests), grind (arith, nat_tests))

pub plain_free : (s : Text) → starts slash s ≡ true → (get_or s (length s - 1) 0 ≡ slash → ⊥) → all_plain s → (free s ≡ true) × (names_behind s ≡ true)
unfolding starts some_of
plain_free [] e l p = let z : ◌≡◌ {A = ℕ} 0 1 = cc in absurd (omega arith)
plain_free (x ∷ s) e l p =
    let q : x ≡ slash = eqb-true x slash e in
    let n : length s ≡ suc (length s) - 1 = omega arith in
    plain_from x s (rw q refl) (rw n l) p
