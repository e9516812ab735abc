-- The bits of a block of sixteen places, which are looked at by the lanes of vectors. Assumes nothing.
use mathlib.Core.Path.{◌≡◌, ap, fun_ext, ◌∙◌}
use mathlib.Core.List.{List, map}
use mathlib.Core.Bool.{Bool, not, ◌&&◌, ◌||◌}
use Prim.Native.Nat.{ℕ, ◌+◌, ◌%◌, ◌^◌, ◌≤◌}
use native.Mathlib.Omega.{arith}
use Rattle.std.proofs.Common.{bit_and, bit_or}
use Rattle.std.proofs.lemmas.Bool.Decides.{nat_tests}
use Rattle.std.proofs.lemmas.Simd.{splat_is_map, zip2_of_maps, map-map, mask_l-mod}
use lib.ListN.{length, get_or, replicate}
use lib.Lanes.{chunk, zip2, mask_l, top}
use lib.Dec.{eqb}
use Rattle.text.specs.Bytes.{Text, slash, star}
use Rattle.text.proofs.Lanes.{set, and_set, or_set, top_set, places, sixteen, bytes_from}
use Rattle.patterns.specs.Scan.{crowded_at, crowd_bits}

-- the top bit of a lane where the tests of a place are joined: y, x and z are those for a star, a and b those for a slash
joined_tells : (y x z a b : Bool) → top 7 (bit_and (bit_and (bit_and (set y) (bit_or (set x) (set z))) (set (not a))) (set (not b))) ≡ y && ((x || z) && not (a || b))
joined_tells y x z a b =
    rw (or_set x z, and_set y (x || z), and_set (y && (x || z)) (not a), and_set ((y && (x || z)) && not a) (not b), top_set (((y && (x || z)) && not a) && not b)) (grind (arith, nat_tests))

-- e and n are a lane's tests for the same byte and for another
module _ (e n : ℕ → ℕ → ℕ) (same : (a b : ℕ) → e a b ≡ set (eqb a b)) (other : (a b : ℕ) → n a b ≡ set (not (eqb a b))) (s : Text) (h : 18 ≤ length s) where
  abbrev tested : List ℕ
  tested =
      zip2 bit_and
      (zip2 bit_and
      (zip2 bit_and (zip2 e (chunk 1 16 s) (replicate 16 star)) (zip2 bit_or (zip2 e (chunk 0 16 s) (replicate 16 star)) (zip2 e (chunk 2 16 s) (replicate 16 star))))
      (zip2 n (chunk 0 16 s) (replicate 16 slash)))
      (zip2 n (chunk 2 16 s) (replicate 16 slash))

  abbrev lane : ℕ → ℕ
  lane k =
      bit_and
      (bit_and
      (bit_and (e (get_or s (1 + k) 0) star) (bit_or (e (get_or s (0 + k) 0) star) (e (get_or s (2 + k) 0) star)))
      (n (get_or s (0 + k) 0) slash))
      (n (get_or s (2 + k) 0) slash)

  by_lanes : tested ≡ map lane places
  by_lanes =
      let x = bytes_from s 0 (omega arith) in
      let y = bytes_from s 1 (omega arith) in
      let z = bytes_from s 2 (omega arith) in
      let a = splat_is_map places 16 star sixteen in
      let b = splat_is_map places 16 slash sixteen in
      zip2_of_maps bit_and _ _ places
      (zip2_of_maps bit_and _ _ places
      (zip2_of_maps bit_and _ _ places (zip2_of_maps e _ _ places y a) (zip2_of_maps bit_or _ _ places (zip2_of_maps e _ _ places x a) (zip2_of_maps e _ _ places z a)))
      (zip2_of_maps n _ _ places x b))
      (zip2_of_maps n _ _ places z b)

  lane_tells : (k : ℕ) → top 7 (lane k) ≡ crowded_at s k
  lane_tells k =
      let x = get_or s k 0 in
      let y = get_or s (k + 1) 0 in
      let z = get_or s (k + 2) 0 in
      let none : 0 + k ≡ k = omega arith in
      let one : 1 + k ≡ k + 1 = omega arith in
      let two : 2 + k ≡ k + 2 = omega arith in
      rw (none, one, two, same y star, same x star, same z star, other x slash, other z slash) (joined_tells (eqb y star) (eqb x star) (eqb z star) (eqb x slash) (eqb z slash))

  -- the bits that the code makes are those of the definition
  pub lanes_bits : mask_l (map (top 7) tested) % 2 ^ 64 ≡ crowd_bits s
  unfolding crowd_bits places
  lanes_bits =
      ap (λ l. mask_l l % 2 ^ 64) (ap (map (top 7)) by_lanes ∙ map-map (top 7) lane places ∙ ap (λ f. map f places) (fun_ext lane_tells))
      ∙ mask_l-mod (map (crowded_at s) places) 64 (omega arith)
