-- Sixteen bytes looked at in one step. Assumes nothing.
use mathlib.Core.Path.{◌≡◌, refl, ap, ◌∙◌}
use mathlib.Core.List.{map}
use mathlib.Core.Bool.{Bool, true, false, cond, ◌&&◌}
use Prim.Native.Nat.{ℕ, ◌+◌, ◌%◌, ◌^◌, ◌≤◌, ◌<◌}
use native.Mathlib.Omega.{arith}
use lib.ListN.{length, get_or, take, drop, replicate}
use lib.Dec.{eqb}
use lib.Lanes.{zip2, mask_l, top}
use lib.Bits.{bit_and}
use mir.Syntax.{w8}
use borrow.Author.Tests.{eq-eqb, eqb-true}
use Rattle.std.specs.Int.{bit_at}
use Rattle.std.proofs.lemmas.Simd.{length-chunk, get_or-chunk, bitmask_splat, bit_mask_l}
use Rattle.std.proofs.lemmas.List.{get_or-map}
use Rattle.std.proofs.lemmas.Nat.Bits.{bit_at_and, bit_at-zero}
use Rattle.std.proofs.lemmas.Bool.{and_parts}
use Rattle.text.specs.Bytes.{Text, slash}
use Rattle.text.proofs.Picks.{by_test}
use Rattle.meeting.specs.Files.{son_at, file_above}

-- the mask of the places from i on where x stands
pub place_set : (s : Text) (i x : ℕ) → i + 16 ≤ length s → (j : ℕ) → j < 16 → get_or s (i + j) 0 ≡ x
    → bit_at (mask_l (map (top 7) (zip2 (λ a b. cond (eqb a b) 255 0) (take 16 (drop i s)) (replicate 16 x))) % 2 ^ 64) j ≡ 1
place_set s i x h j l e =
    let long = length-chunk i 16 s h in
    ap (λ (m : ℕ). bit_at m j) (bitmask_splat w8 eqb (take 16 (drop i s)) 16 x long (omega arith))
    ∙ bit_mask_l (map (λ y. eqb y x) (take 16 (drop i s))) j
    ∙ ap (λ (b : Bool). cond {A = ℕ} b 1 0)
    (get_or-map (λ y. eqb y x) (take 16 (drop i s)) j 0 false (omega (arith, l, long)) ∙ eq-eqb (get_or (take 16 (drop i s)) j 0) x (get_or-chunk i 16 s j 0 l ∙ e))

both_set : (a b j : ℕ) → bit_at a j ≡ 1 → bit_at b j ≡ 1 → bit_at (bit_and a b) j ≡ 1
both_set a b j e f = rw (bit_at_and a b j, e, f) refl

none_set : (m j : ℕ) → m ≡ 0 → bit_at m j ≡ 1 → ⊥
none_set m j z e = let w : bit_at m j ≡ 0 = ap (λ (k : ℕ). bit_at k j) z ∙ bit_at-zero j in omega (arith, w, e)

-- Each of the masks has the places of one of the bytes, and none has a place in common with the others: from i on stands `son/` at none of sixteen places.
module _ (s : Text) (i a b : ℕ) (third : (j : ℕ) → j < 16 → get_or s (i + 2 + j) 0 ≡ 0x6E → bit_at a j ≡ 1) (last : (j : ℕ) → j < 16 → get_or s (i + 3 + j) 0 ≡ slash → bit_at b j ≡ 1) where
  record Above (j : ℕ) : Type 0 where
    first : get_or s (i + j) 0 ≡ 0x73
    second : get_or s (i + 1 + j) 0 ≡ 0x6F
    ends : bit_at (bit_and a b) j ≡ 1

  -- a byte k behind, as the mask says it
  behind : (j k x : ℕ) → eqb (get_or s (i + j + k) 0) x ≡ true → get_or s (i + k + j) 0 ≡ x
  behind j k x e = let q : i + k + j ≡ i + j + k = omega arith in rw q (eqb-true _ _ e)

  above : (j : ℕ) → j < 16 → file_above s (i + j) ≡ true → Above j
  above j h e =
      let u = and_parts (son_at s (i + j)) (eqb (get_or s (i + j + 3) 0) slash) e in
      let v = and_parts (eqb (get_or s (i + j) 0) 0x73) (eqb (get_or s (i + j + 1) 0) 0x6F && eqb (get_or s (i + j + 2) 0) 0x6E) u.0 in
      let w = and_parts (eqb (get_or s (i + j + 1) 0) 0x6F) (eqb (get_or s (i + j + 2) 0) 0x6E) v.1 in
      record {
        first = eqb-true _ _ v.0;
        second = behind j 1 0x6F w.0;
        ends = both_set a b j (third j h (behind j 2 0x6E w.1)) (last j h (behind j 3 slash u.1));
      }

  pub no_ends : eqb (bit_and a b) 0 ≡ true → (j : ℕ) → j < 16 → file_above s (i + j) ≡ false
  no_ends z j h = by_test (file_above s (i + j)) (λ y. absurd (none_set (bit_and a b) j (eqb-true _ _ z) (above j h y).ends)) (λ y. y)

  module _ (c d : ℕ) (one : (j : ℕ) → j < 16 → get_or s (i + j) 0 ≡ 0x73 → bit_at c j ≡ 1) (two : (j : ℕ) → j < 16 → get_or s (i + 1 + j) 0 ≡ 0x6F → bit_at d j ≡ 1) where
    pub no_whole : eqb (bit_and (bit_and (bit_and a b) c) d) 0 ≡ true → (j : ℕ) → j < 16 → file_above s (i + j) ≡ false
    no_whole z j h =
        by_test (file_above s (i + j))
        (λ y.
        let w = above j h y in
        absurd (none_set (bit_and (bit_and (bit_and a b) c) d) j (eqb-true _ _ z) (both_set (bit_and (bit_and a b) c) d j (both_set (bit_and a b) c j w.ends (one j h w.first)) (two j h w.second))))
        (λ y. y)
