-- The ways out of covers, and the digest. Assumes nothing.
use mathlib.Core.Path.{◌≡◌, refl, sym, ◌∙◌}
use mathlib.Core.List.{[], ◌∷◌, ◌++◌}
use mathlib.Core.Bool.{false, ◌&&◌, ◌||◌, and-true, and-false, and_assoc}
use Prim.Native.Nat.{ℕ, ◌+◌, ◌<◌}
use native.Mathlib.Omega.{arith}
use lib.ListN.{length, get_or, take, drop}
use native.Mathlib.Nat.{add-zero}
use lib.Dec.{eqb, ltb}
use Rattle.std.proofs.lemmas.Bool.Decides.{nat_tests}
use Rattle.text.specs.Bytes.{Text, slash}
use Rattle.text.specs.Text.{prefix_of}
use Rattle.std.proofs.lemmas.List.{get_or-take, get_or-drop}
use Rattle.std.specs.Int.{w64, from_le_bytes}
use Rattle.compare.specs.Compare.{covers, word_at}

-- A path over another

join_same : (p q : Text) → length q ≡ length p → prefix_of (p ++ (slash ∷ [])) (q ++ (slash ∷ [])) ≡ prefix_of p q
unfolding prefix_of
join_same [] [] h = refl
join_same [] (y ∷ q) h = absurd (omega arith)
join_same (x ∷ p) [] h = absurd (omega arith)
join_same (x ∷ p) (y ∷ q) h = rw (join_same p q (omega arith))

join_more : (p q : Text) → length p < length q → prefix_of (p ++ (slash ∷ [])) (q ++ (slash ∷ [])) ≡ prefix_of p q && eqb (get_or q (length p) 0) slash
unfolding prefix_of
join_more [] [] h = absurd (omega arith)
join_more [] (y ∷ q) h = and-true (eqb y slash)
join_more (x ∷ p) [] h = absurd (omega arith)
join_more (x ∷ p) (y ∷ q) h = rw (join_more p q (omega arith)) (sym (and_assoc (eqb y x) (prefix_of p q) (eqb (get_or q (length p) 0) slash)))

join_short : (p q : Text) → length q < length p → false ≡ prefix_of (p ++ (slash ∷ [])) (q ++ (slash ∷ []))
unfolding prefix_of
join_short [] q h = absurd (omega arith)
join_short (x ∷ []) [] h = sym (and-false (eqb slash x))
join_short (x ∷ y ∷ p) [] h = sym (and-false (eqb slash x))
join_short (x ∷ p) (y ∷ q) h = rw (← join_short p q (omega arith)) (sym (and-false (eqb y x)))

module _ (p q : Text) where
  pub over_short : length q < length p → false ≡ covers p q
  unfolding covers
  over_short h = join_short p q h

  pub over_same : length q ≡ length p → covers p q ≡ prefix_of p q
  unfolding covers
  over_same h = join_same p q h

  over_more : length p < length q → covers p q ≡ prefix_of p q && eqb (get_or q (length p) 0) slash
  unfolding covers
  over_more h = join_more p q h

  pub over_other : length p < length q → (get_or q (length p) 0 ≡ slash → ⊥) → false ≡ covers p q
  over_other h n = grind (arith, nat_tests, over_more h)

  -- as the code looks: at the byte behind p first
  pub over_by : covers p q ≡ (eqb (length q) (length p) || (ltb (length p) (length q) && eqb (get_or q (length p) 0) slash)) && prefix_of p q
  over_by = grind (arith, nat_tests, over_short, over_same, over_more)

-- The digest

-- eight bytes named one by one are the word
pub word_as_bytes : (s : Text) (at : ℕ) →
    from_le_bytes w64 (get_or s at 0 ∷ get_or s (at + 1) 0 ∷ get_or s (at + 2) 0 ∷ get_or s (at + 3) 0 ∷ get_or s (at + 4) 0 ∷ get_or s (at + 5) 0 ∷ get_or s (at + 6) 0 ∷ get_or s (at + 7) 0 ∷ [])
    ≡ word_at s at
unfolding word_at
word_as_bytes s at =
    let e : (i : ℕ) → i < 8 → get_or s (at + i) 0 ≡ get_or (take 8 (drop at s)) i 0 = λ i h. sym (get_or-take 8 (drop at s) i 0 h ∙ get_or-drop at s i 0) in
    let e0 : get_or s at 0 ≡ get_or (take 8 (drop at s)) 0 0 = rw add-zero at (e 0 (omega arith)) in
    rw (e0, e 1 (omega arith), e 2 (omega arith), e 3 (omega arith), e 4 (omega arith), e 5 (omega arith), e 6 (omega arith), e 7 (omega arith)) refl
