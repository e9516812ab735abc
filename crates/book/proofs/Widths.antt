-- The table of widths as the arms of a match. Assumes nothing.
use mathlib.Core.Path.{◌≡◌, refl, sym, ap, subst}
use mathlib.Core.List.{List, [], ◌∷◌}
use mathlib.Core.Bool.{Bool, true, false, not, ◌||◌}
use Prim.Native.Nat.{ℕ, ◌≤◌, ◌<◌}
use native.Mathlib.Omega.{arith}
use lib.Dec.{T, eqb, ltb}
use types.Run.{OneOf}
use borrow.Author.Tests.{eqb-true, ltb-true, lt-ltb, le-ltb, not-true}
use Rattle.text.proofs.Picks.{by_test}
use Rattle.std.specs.Prelude.{Some, None}
use Rattle.book.specs.Command.{widths, width_of}
use Rattle.book.specs.Steps.{width_told}
use Rattle.book.proofs.Table.{every, spare, past, at_each, at_keys, T_true}

-- the commands without operands
abbrev pub bare : List ℕ
bare = 2 ∷ 4 ∷ 6 ∷ 10 ∷ 14 ∷ 20 ∷ []

pub width_keys : (w : ℕ) (ks : List ℕ) → T (every (λ i k. eqb w (width_of k)) 0 ks) → (x : ℕ) → OneOf ks x → w ≡ width_of x
width_keys w ks t x h = eqb-true w (width_of x) (at_keys (λ k. eqb w (width_of k)) ks t x h)

pub width_rest : (x : ℕ) → (OneOf bare x → ⊥) → (OneOf (18 ∷ []) x → ⊥) → (OneOf (19 ∷ []) x → ⊥) → eqb (width_of x) 4 ≡ false → 9 ≡ width_of x
unfolding width_of
width_rest x a b c e =
    by_test (ltb x 21)
    (λ y. eqb-true 9 (width_of x) (T_true (eqb 9 (width_of x))
    (subst (λ (t : Bool). T (t || eqb 9 (width_of x))) e
    (past (19 ∷ []) (λ i. eqb (width_of i) 4 || eqb 9 (width_of i)) x c
    (past (18 ∷ []) (spare (19 ∷ []) (λ i. eqb (width_of i) 4 || eqb 9 (width_of i))) x b
    (past bare (spare (18 ∷ []) (spare (19 ∷ []) (λ i. eqb (width_of i) 4 || eqb 9 (width_of i)))) x a
    (at_each (λ i y. spare bare (spare (18 ∷ []) (spare (19 ∷ []) (λ i. eqb (width_of i) 4 || eqb 9 (width_of i)))) i) widths tt x (ltb-true x 21 y))))))))
    (λ y. rw y refl)

-- a width as it is told
pub told_keys : (w : ℕ) (ks : List ℕ) → T (every (λ i k. eqb w (width_of k)) 0 ks) → (x : ℕ) → OneOf ks x → eqb w 9 ≡ false → Some w ≡ width_told (width_of x)
told_keys w ks t x h n = rw (← width_keys w ks t x h, n) refl

pub told_rest : (x : ℕ) → (OneOf bare x → ⊥) → (OneOf (18 ∷ []) x → ⊥) → (OneOf (19 ∷ []) x → ⊥) → eqb (width_of x) 4 ≡ false → None ≡ width_told (width_of x)
told_rest x a b c e = ap width_told (width_rest x a b c e)

-- a command's operands are a string alone, or not: at the keys 1, 3 and 5, below 7, within bounds, and from 18 on
module _ (x : ℕ) where
  pub span_keys : OneOf (1 ∷ 3 ∷ 5 ∷ []) x → true ≡ eqb (width_of x) 4
  unfolding width_of
  span_keys h = sym (at_keys (λ k. eqb (width_of k) 4) (1 ∷ 3 ∷ 5 ∷ []) tt x h)

  pub span_low : (OneOf (1 ∷ 3 ∷ 5 ∷ []) x → ⊥) → x < 7 → false ≡ eqb (width_of x) 4
  unfolding width_of
  span_low a h =
      sym (not-true (eqb (width_of x) 4) (T_true (not (eqb (width_of x) 4))
      (subst (λ (t : Bool). T (not t || not (eqb (width_of x) 4))) (lt-ltb x 7 h)
      (past (1 ∷ 3 ∷ 5 ∷ []) (λ i. not (ltb i 7) || not (eqb (width_of i) 4)) x a
      (at_each (λ i y. spare (1 ∷ 3 ∷ 5 ∷ []) (λ i. not (ltb i 7) || not (eqb (width_of i) 4)) i) widths tt x (omega (arith, h)))))))

  module _ (lo hi : ℕ) (a : lo ≤ x) (b : x < hi) (small : hi ≤ 21) where
    pub span_in : T (every (λ i y. ltb i lo || (not (ltb i hi) || eqb (width_of i) 4)) 0 widths) → true ≡ eqb (width_of x) 4
    span_in t =
        sym (T_true (eqb (width_of x) 4)
        (subst (λ (u : Bool). T (not u || eqb (width_of x) 4)) (lt-ltb x hi b)
        (subst (λ (u : Bool). T (u || (not (ltb x hi) || eqb (width_of x) 4))) (le-ltb x lo a)
        (at_each (λ i y. ltb i lo || (not (ltb i hi) || eqb (width_of i) 4)) widths t x (omega (arith, b, small))))))

    pub span_out : T (every (λ i y. ltb i lo || (not (ltb i hi) || not (eqb (width_of i) 4))) 0 widths) → false ≡ eqb (width_of x) 4
    span_out t =
        sym (not-true (eqb (width_of x) 4) (T_true (not (eqb (width_of x) 4))
        (subst (λ (u : Bool). T (not u || not (eqb (width_of x) 4))) (lt-ltb x hi b)
        (subst (λ (u : Bool). T (u || (not (ltb x hi) || not (eqb (width_of x) 4)))) (le-ltb x lo a)
        (at_each (λ i y. ltb i lo || (not (ltb i hi) || not (eqb (width_of i) 4))) widths t x (omega (arith, b, small)))))))

  pub span_high : 18 ≤ x → false ≡ eqb (width_of x) 4
  unfolding width_of
  span_high h = by_test (ltb x 21) (λ y. span_out 18 21 h (ltb-true x 21 y) (omega arith) tt) (λ y. rw y refl)
