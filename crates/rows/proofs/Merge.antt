-- The merge of two rows. Assumes nothing.
use mathlib.Core.Path.{◌≡◌, refl, sym, ap, ap₂, ◌∙◌}
use mathlib.Core.List.{List}
use Prim.Native.Nat.{ℕ, zero, suc, ◌+◌, ◌≤◌, ◌<◌}
use native.Mathlib.Omega.{arith}
use native.Mathlib.Numerals.{add-one}
use lib.Dec.{eqb}
use lib.ListN.{length, get_or, set, length-set}
use lib.Seq.{get_or-set_same, get_or-set_other}
use borrow.Author.Tests.{eqb-true, eqb-false}
use Rattle.text.proofs.Picks.{by_test}
use Rattle.rows.specs.Rows.{absent}
use Rattle.rows.specs.Merge.{nearer, base_by, merged_to, merged_row}
use Rattle.rows.proofs.Lists.{get_d_any}

-- The places one after the other

module _ (a b : List ℕ) where
  pub merged_length : (k : ℕ) → length (merged_to k a b) ≡ length a
  unfolding merged_to
  merged_length zero = refl
  merged_length (suc k) = length-set (merged_to k a b) k (nearer (get_or a k absent) (get_or b k absent)) ∙ merged_length k

  pub merged_above : (k i : ℕ) → k ≤ i → get_or (merged_to k a b) i absent ≡ get_or a i absent
  unfolding merged_to
  merged_above zero i h = refl
  merged_above (suc k) i h = get_or-set_other (merged_to k a b) k i (nearer (get_or a k absent) (get_or b k absent)) absent (λ q. omega (arith, q, h)) ∙ merged_above k i (omega (arith, h))

  pub merged_below : (k i : ℕ) → k ≤ length a → i < k → get_or (merged_to k a b) i absent ≡ nearer (get_or a i absent) (get_or b i absent)
  unfolding merged_to
  merged_below zero i l h = absurd (omega (arith, h))
  merged_below (suc k) i l h =
      by_test (eqb i k)
      (λ e.
      let f : i ≡ k = eqb-true i k e in
      ap (λ (j : ℕ). get_or (set (merged_to k a b) k (nearer (get_or a k absent) (get_or b k absent))) j absent) f
      ∙ get_or-set_same (merged_to k a b) k (nearer (get_or a k absent) (get_or b k absent)) absent (omega (arith, merged_length k, l))
      ∙ ap (λ (j : ℕ). nearer (get_or a j absent) (get_or b j absent)) (sym f))
      (λ e.
      let n : i ≡ k → ⊥ = eqb-false i k e in
      get_or-set_other (merged_to k a b) k i (nearer (get_or a k absent) (get_or b k absent)) absent n ∙ merged_below k i (omega (arith, l)) (omega (arith, h, n)))

  pub merge_start : a ≡ merged_to 0 a b
  unfolding merged_to
  merge_start = refl

  pub merge_step : (row : List ℕ) (i x : ℕ) → row ≡ merged_to i a b → i < length a → i < length b → x ≡ nearer (get_or row i 0) (get_or b i 0) → set row i x ≡ merged_to (i + 1) a b
  unfolding merged_to
  merge_step row i x e h k w =
      let p : get_or row i 0 ≡ get_or a i absent = get_d_any row i 0 absent (omega (arith, ap length e, merged_length i, h)) ∙ ap (λ (l : List ℕ). get_or l i absent) e ∙ merged_above i i (omega arith) in
      let q : get_or b i 0 ≡ get_or b i absent = get_d_any b i 0 absent k in
      ap₂ (λ (l : List ℕ) (y : ℕ). set l i y) e (w ∙ ap₂ nearer p q) ∙ ap (λ (j : ℕ). merged_to j a b) (sym (add-one i))

  pub merge_end : (row : List ℕ) (i : ℕ) → row ≡ merged_to i a b → i ≤ 26 → 26 ≤ i → row ≡ merged_to 26 a b
  merge_end row i e h k = let z : i ≡ 26 = omega (arith, h, k) in e ∙ ap (λ (j : ℕ). merged_to j a b) z

  pub merge_whole : (row : List ℕ) (x : ℕ) → length a ≡ 28 → length b ≡ 28 → row ≡ merged_to 26 a b → x ≡ base_by (get_or a 3 0) (get_or b 3 0) (get_or a 4 0) (get_or a 26 0) (get_or b 26 0) → set row 26 x ≡ merged_row a b
  unfolding merged_row
  merge_whole row x h k e w =
      let p : (i : ℕ) → i < 28 → get_or a i 0 ≡ get_or a i absent = λ i l. get_d_any a i 0 absent (omega (arith, l, h)) in
      let q : (i : ℕ) → i < 28 → get_or b i 0 ≡ get_or b i absent = λ i l. get_d_any b i 0 absent (omega (arith, l, k)) in
      ap₂ (λ (l : List ℕ) (y : ℕ). set l 26 y) e
      (w ∙ (rw (p 3 (omega arith), q 3 (omega arith), p 4 (omega arith), p 26 (omega arith), q 26 (omega arith)) refl))
