-- Sums over the numbers below a bound that pass a test, and membership as a test.
-- Assumes nothing.
use mathlib.Core.Path.{◌≡◌, refl, sym, ap, ap₂, ◌∙◌, fun_ext}
use mathlib.Core.List.{List, [], ◌∷◌, ◌++◌}
use mathlib.Core.Bool.{Bool, true, false, ◌||◌, cond, or_assoc}
use Prim.Native.Nat.{ℕ, zero, suc, ◌+◌, ◌≤◌, ◌<◌}
use native.Mathlib.Omega.{arith}
use borrow.Author.Tests.{eqb-true, eqb-false, eq-eqb, ne_eqb}
use lib.Dec.{eqb}
use Rattle.tsconfig_resolver.specs.Line.{elem, tally, distinct, total}

pub elem_head : (i : ℕ) (l : List ℕ) → elem i (i ∷ l) ≡ true
elem_head i l = ap (◌|| elem i l) (eq-eqb i i refl)

pub elem_append : (i : ℕ) (xs ys : List ℕ) → elem i (xs ++ ys) ≡ elem i xs || elem i ys
elem_append i [] ys = refl
elem_append i (x ∷ xs) ys = ap (eqb i x ||◌) (elem_append i xs ys) ∙ sym (or_assoc (eqb i x) (elem i xs) (elem i ys))

pub tally_ext : (n : ℕ) (w : ℕ → ℕ) {d e : ℕ → Bool} → ((i : ℕ) → d i ≡ e i) → tally n w d ≡ tally n w e
tally_ext n w h = ap (tally n w) (fun_ext h)

pub tally_none : (n : ℕ) (w : ℕ → ℕ) → tally n w (λ i. false) ≡ 0
tally_none zero w = refl
tally_none (suc n) w = omega (arith, tally_none n w)

cond_le : (t : Bool) → cond t 1 0 ≤ 1
cond_le true = omega arith
cond_le false = omega arith

-- no more pass than there are
pub tally_le : (n : ℕ) (d : ℕ → Bool) → tally n (λ i. 1) d ≤ n
tally_le zero d = omega arith
tally_le (suc n) d = omega (arith, cond_le (d n), tally_le n d)

module _ (w : ℕ → ℕ) (d : ℕ → Bool) (c : ℕ) where
  tally_beyond : (n : ℕ) → n ≤ c → tally n w (λ i. eqb i c || d i) ≡ tally n w d
  tally_beyond zero h = refl
  tally_beyond (suc n) h =
      ap₂ ◌+◌ (ap (λ t. cond (t || d n) (w n) 0) (ne_eqb n c (λ e. omega arith))) (tally_beyond n (omega arith))

  module _ (out : d c ≡ false) where
    step : (n : ℕ) → c < suc n → (c < n → tally n w (λ i. eqb i c || d i) ≡ w c + tally n w d) → (t : Bool) → eqb n c ≡ t →
        cond (t || d n) (w n) 0 + tally n w (λ i. eqb i c || d i) ≡ w c + (cond (d n) (w n) 0 + tally n w d)
    step n h ih true e =
        let q : n ≡ c = eqb-true n c e in
        rw (q, out) (omega (arith, rw q at (tally_beyond n (omega arith))))
    step n h ih false e = omega (arith, ih (omega (arith, eqb-false n c e)))

    -- one more passes, and adds its own
    pub tally_add : (n : ℕ) → c < n → tally n w (λ i. eqb i c || d i) ≡ w c + tally n w d
    tally_add zero h = omega arith
    tally_add (suc n) h = step n h (tally_add n) (eqb n c) refl

abbrev pub Below : ℕ → List ℕ → Type 0
Below n [] = Unit {0}
Below n (x ∷ l) = (x < n) × Below n l

pub below_append : (n : ℕ) (xs ys : List ℕ) → Below n xs → Below n ys → Below n (xs ++ ys)
below_append n [] ys h k = k
below_append n (x ∷ xs) ys h k = (h.0, below_append n xs ys h.1 k)

-- the sum over the numbers that stand in a list is the sum over the list, each of it once
pub tally_distinct : (n : ℕ) (w : ℕ → ℕ) (l : List ℕ) → Below n l → tally n w (λ i. elem i l) ≡ total w (distinct l)
tally_distinct n w [] h = tally_none n w
tally_distinct n w (x ∷ l) h = go (elem x l) refl (tally_distinct n w l h.1)
  where
    again : elem x l ≡ true → (i : ℕ) (a : Bool) → eqb i x ≡ a → a || elem i l ≡ elem i l
    again m i true e = rw (eqb-true i x e, m)
    again m i false e = refl

    go : (a : Bool) → elem x l ≡ a → tally n w (λ i. elem i l) ≡ total w (distinct l) →
        tally n w (λ i. elem i (x ∷ l)) ≡ total w (cond a (distinct l) (x ∷ distinct l))
    go true m ih = tally_ext n w (λ i. again m i (eqb i x) refl) ∙ ih
    go false m ih = tally_add w (λ i. elem i l) x m n h.0 ∙ ap (w x +◌) ih
