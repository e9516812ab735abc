-- What the scan of a text keeps of its bytes, by the lanes of vectors. Assumes nothing.
use mathlib.Core.Path.{◌≡◌, refl, sym, ap, ◌∙◌}
use mathlib.Core.List.{List, [], ◌∷◌, map}
use mathlib.Core.Bool.{Bool, true, false, not, cond, ◌&&◌, ◌||◌}
use Prim.Native.Nat.{ℕ, zero, suc, ◌+◌, ◌*◌, ◌%◌, ◌^◌, ◌≤◌}
use native.Mathlib.Omega.{arith}
use Rattle.std.proofs.Common.{w8, Fits}
use Rattle.std.proofs.lemmas.Bool.Decides.{nat_tests}
use Rattle.std.proofs.lemmas.Simd.{length-replicate, length-zip2, length-sel_l, mask_l-mod, length-chunk, chunk-fits}
use lib.ListN.{length, get_or, take, replicate, length-map}
use lib.Lanes.{Each1, zip2, sel_l, mask_l, top}
use lib.Bits.{bit_or}
use lib.Dec.{eqb, ltb, leb}
use Rattle.text.specs.Bytes.{Text}
use Rattle.text.specs.Text.{each_of}
use Rattle.text.proofs.Lanes.{set, or_set, top_set}
use Rattle.text.proofs.Picks.{by_test}
use Rattle.strings.specs.Scan.{tame_text, seen_tame}
use Rattle.strings.proofs.Tame.{raised, above, tame_raised}

-- sixteen lanes of each kind
abbrev pub Full : List ℕ → List ℕ → Type 0
Full xs ys = (length xs ≡ 16) × (length ys ≡ 16)

-- The lesser of two lanes

-- lt is a lane's test
module _ (lt : ℕ → ℕ → ℕ) (less : (a b : ℕ) → lt a b ≡ set (ltb a b)) where
  abbrev lesser : List ℕ → List ℕ → List ℕ
  lesser xs ys = sel_l (map (top 7) (zip2 lt xs ys)) xs ys

  one_lesser : (k x y : ℕ) → leb k (cond (top 7 (lt x y)) x y) ≡ leb k x && leb k y
  one_lesser k x y = by_test (ltb x y) (λ e. rw (less x y, e) (grind (arith, nat_tests))) (λ e. rw (less x y, e) (grind (arith, nat_tests)))

  each_lesser : (k : ℕ) (xs ys : List ℕ) → length xs ≡ length ys → each_of (leb k) (lesser xs ys) ≡ each_of (leb k) xs && each_of (leb k) ys
  unfolding each_of
  each_lesser k [] [] e = refl
  each_lesser k [] (y ∷ ys) e = absurd (omega (arith, e))
  each_lesser k (x ∷ xs) [] e = absurd (omega (arith, e))
  each_lesser k (x ∷ xs) (y ∷ ys) e =
      let o = one_lesser k x y in
      let r = each_lesser k xs ys (omega (arith, e)) in
      rw (o, r) (grind (arith, nat_tests))

  length_lesser : (n : ℕ) (xs ys : List ℕ) → length xs ≡ n → length ys ≡ n → length (lesser xs ys) ≡ n
  length_lesser n xs ys p q =
      let z = length-zip2 lt xs ys (p ∙ sym q) in
      let m = length-map (zip2 lt xs ys) (top 7) in
      length-sel_l (map (top 7) (zip2 lt xs ys)) xs ys (m ∙ z) (m ∙ z ∙ p ∙ sym q) ∙ m ∙ z ∙ p

  -- what is seen in both
  module _ (xs ys xs' ys' : List ℕ) (f : Full xs ys) (g : Full xs' ys') where
    pub both_full : Full (lesser xs xs') (lesser ys ys')
    both_full = (length_lesser 16 xs xs' f.0 g.0, length_lesser 16 ys ys' f.1 g.1)

    pub both_tame : seen_tame (lesser xs xs') (lesser ys ys') ≡ seen_tame xs ys && seen_tame xs' ys'
    unfolding seen_tame
    both_tame = rw (each_lesser 0xA3 xs xs' (f.0 ∙ sym g.0), each_lesser 3 ys ys' (f.1 ∙ sym g.1)) (grind (arith, nat_tests))

-- The bits of the lanes that are not those of tame bytes

no_bit : (b : Bool) (m : ℕ) → eqb (cond b 1 0 + 2 * m) 0 ≡ not b && eqb m 0
no_bit true m = grind (arith, nat_tests)
no_bit false m = grind (arith, nat_tests)

length_splat : (f : ℕ → ℕ → ℕ) (n : ℕ) (xs : List ℕ) (y : ℕ) → length xs ≡ n → length (zip2 f xs (replicate n y)) ≡ n
length_splat f n xs y p = length-zip2 f xs (replicate n y) (p ∙ sym (length-replicate n y)) ∙ p

-- lt and le are a lane's tests
module _ (lt le or : ℕ → ℕ → ℕ) (less : (a b : ℕ) → lt a b ≡ set (ltb a b)) (most : (a b : ℕ) → le a b ≡ set (leb a b)) (joins : (a b : ℕ) → or a b ≡ bit_or a b) where
  abbrev wrong : ℕ → List ℕ → List ℕ → List Bool
  wrong n xs ys = map (top 7) (zip2 or (zip2 lt xs (replicate n 0xA3)) (zip2 le ys (replicate n 2)))

  one_wrong : (x y : ℕ) → top 7 (or (lt x 0xA3) (le y 2)) ≡ not (leb 0xA3 x && leb 3 y)
  one_wrong x y = rw (less x 0xA3, most y 2, joins (set (ltb x 0xA3)) (set (leb y 2)), or_set (ltb x 0xA3) (leb y 2), top_set (ltb x 0xA3 || leb y 2)) (grind (arith, nat_tests))

  none_wrong : (n : ℕ) (xs ys : List ℕ) → length xs ≡ n → length ys ≡ n → eqb (mask_l (wrong n xs ys)) 0 ≡ seen_tame xs ys
  unfolding seen_tame each_of
  none_wrong n [] [] p q = refl
  none_wrong n [] (y ∷ ys) p q = absurd (omega (arith, p, q))
  none_wrong n (x ∷ xs) [] p q = absurd (omega (arith, p, q))
  none_wrong zero (x ∷ xs) (y ∷ ys) p q = absurd (omega (arith, p, q))
  none_wrong (suc n) (x ∷ xs) (y ∷ ys) p q =
      let r = none_wrong n xs ys (omega (arith, p)) (omega (arith, q)) in
      rw (one_wrong x y, no_bit (not (leb 0xA3 x && leb 3 y)) (mask_l (wrong n xs ys)), r) (grind (arith, nat_tests))

  length_wrong : (n : ℕ) (xs ys : List ℕ) → length xs ≡ n → length ys ≡ n → length (wrong n xs ys) ≡ n
  length_wrong n xs ys p q =
      let a = length_splat lt n xs 0xA3 p in
      let b = length_splat le n ys 2 q in
      length-map _ (top 7) ∙ length-zip2 or _ _ (a ∙ sym b) ∙ a

  -- no bit is set where only tame bytes were seen
  pub wrong_bits : (xs ys : List ℕ) → Full xs ys → eqb (mask_l (wrong 16 xs ys) % 2 ^ 64) 0 ≡ seen_tame xs ys
  wrong_bits xs ys f = ap (λ m. eqb m 0) (mask_l-mod (wrong 16 xs ys) 64 (omega (arith, length_wrong 16 xs ys f.0 f.1))) ∙ none_wrong 16 xs ys f.0 f.1

-- What is seen of sixteen bytes

-- add, sub and or are what is done in a lane
module _ (add sub or : ℕ → ℕ → ℕ) (adds : (x : ℕ) → add x 0x81 ≡ raised x) (joins : (x : ℕ) → sub (or (add x 0x81) 0x20) 0xFC ≡ above x) where
  abbrev raised_lanes : ℕ → List ℕ → List ℕ
  raised_lanes n xs = zip2 add xs (replicate n 0x81)

  abbrev above_lanes : ℕ → List ℕ → List ℕ
  above_lanes n xs = zip2 sub (zip2 or (raised_lanes n xs) (replicate n 0x20)) (replicate n 0xFC)

  seen : (n : ℕ) (xs : List ℕ) → length xs ≡ n → Each1 (Fits w8) xs → seen_tame (raised_lanes n xs) (above_lanes n xs) ≡ tame_text xs
  unfolding seen_tame tame_text each_of
  seen n [] p f = refl
  seen zero (x ∷ xs) p f = absurd (omega (arith, p))
  seen (suc n) (x ∷ xs) p f =
      let r = seen n xs (omega (arith, p)) f.1 in
      rw (joins x, adds x, tame_raised x f.0.fits) (grind (arith, nat_tests))

  pub seen_bytes : (s : Text) → 16 ≤ length s → ((k : ℕ) → Fits w8 (get_or s k 0)) → seen_tame (raised_lanes 16 (take 16 s)) (above_lanes 16 (take 16 s)) ≡ tame_text (take 16 s)
  seen_bytes s h f = seen 16 (take 16 s) (length-chunk 0 16 s h) (chunk-fits w8 0 16 s f)
