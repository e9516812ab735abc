-- Sixteen bytes looked at in one step, by the lanes of vectors. Assumes nothing.
use mathlib.Core.Path.{◌≡◌, refl, sym, ap, ap₂, fun_ext, ◌∙◌}
use mathlib.Core.List.{List, map}
use mathlib.Core.Bool.{Bool, true, false, not, cond, ◌&&◌, ◌||◌, true≢false}
use Prim.Native.Nat.{ℕ, ◌+◌, ◌%◌, ◌^◌, ◌≤◌, ◌<◌}
use native.Mathlib.Omega.{arith}
use lib.Bits.{bit_or}
use lib.Dec.{eqb, leb}
use lib.Lanes.{chunk, zip2, sel_l, mask_l, top}
use lib.ListN.{length, get_or, replicate}
use borrow.Author.Tests.{eqb-true}
use Rattle.std.proofs.lemmas.List.FromFn.{get_or-range_with_len}
use Rattle.std.proofs.lemmas.Simd.{map-map, mask_l-mod, none_from_empty_mask}
use Rattle.std.specs.List.{range_with_len}
use Rattle.text.specs.Bytes.{Text, bytes, slash, star, dot}
use Rattle.text.specs.Text.{some_of}
use Rattle.text.proofs.Lanes.{set, or_set, top_set, places, bytes_from}
use Rattle.text.proofs.Picks.{by_test}
use Rattle.strings.specs.Strings.{none_of}
use Rattle.path_rules.specs.Scan.{plain_behind}

-- The test of a byte: b says whether it stands behind a slash

abbrev caught : Bool → ℕ → Bool
caught b y = leb y star || eqb (bit_or y (cond b 0x11 0)) 0x3F

other : (b : Bool) (y v : ℕ) → caught b y ≡ false → caught b v ≡ true → eqb y v ≡ false
other b y v f t = by_test (eqb y v) (λ e. absurd (true≢false (sym t ∙ ap (caught b) (sym (eqb-true y v e)) ∙ f))) (λ e. e)

plain : (b : Bool) (y : ℕ) → caught b y ≡ false → none_of (bytes "*?#") y && not (b && (eqb y slash || eqb y dot)) ≡ true
unfolding some_of
plain true y f = rw (other true y star f refl, other true y 0x3F f refl, other true y 0x23 f refl, other true y slash f refl, other true y dot f refl) refl
plain false y f = rw (other false y star f refl, other false y 0x3F f refl, other false y 0x23 f refl) refl

-- The lanes of a block: x are the bytes from its place on, and y those behind

abbrev tested : List ℕ → List ℕ → List ℕ
tested x y =
    let given = sel_l (map (top 7) (zip2 (λ a b. set (eqb a b)) x (replicate 16 slash))) (replicate 16 0x11) (replicate 16 0) in
    zip2 bit_or (zip2 (λ a b. set (leb a b)) y (replicate 16 star)) (zip2 (λ a b. set (eqb a b)) (zip2 bit_or y given) (replicate 16 0x3F))

abbrev lane : ℕ → ℕ → ℕ
lane x y = bit_or (set (leb y star)) (set (eqb (bit_or y (cond (top 7 (set (eqb x slash))) 0x11 0)) 0x3F))

lane_tells : (x y : ℕ) → top 7 (lane x y) ≡ caught (eqb x slash) y
lane_tells x y =
    let b = eqb x slash in
    rw (top_set b) (ap (top 7) (or_set (leb y star) (eqb (bit_or y (cond b 0x11 0)) 0x3F)) ∙ top_set (caught b y))

computed : (x y : ℕ → ℕ) → tested (map x places) (map y places) ≡ map (λ k. lane (x k) (y k)) places
unfolding places
computed x y = refl

module _ (s : Text) (i : ℕ) (h : i + 17 ≤ length s) where
  abbrev caught_at : ℕ → Bool
  caught_at k = caught (eqb (get_or s (i + k) 0) slash) (get_or s (i + 1 + k) 0)

  abbrev lanes : List ℕ
  lanes = tested (chunk i 16 s) (chunk (i + 1) 16 s)

  bits : map (top 7) lanes ≡ map caught_at places
  bits =
      let x = λ (k : ℕ). get_or s (i + k) 0 in
      let y = λ (k : ℕ). get_or s (i + 1 + k) 0 in
      ap (map (top 7)) (ap₂ tested (bytes_from s i (omega arith)) (bytes_from s (i + 1) (omega arith)) ∙ computed x y)
      ∙ map-map (top 7) (λ k. lane (x k) (y k)) places
      ∙ ap (λ f. map f places) (fun_ext (λ k. lane_tells (x k) (y k)))

  empty : eqb (mask_l (map (top 7) lanes) % 2 ^ 64) 0 ≡ true → mask_l (map caught_at places) ≡ 0
  unfolding places
  empty e = sym (mask_l-mod (map caught_at places) 64 (omega arith)) ∙ ap (λ l. mask_l l % 2 ^ 64) (sym bits) ∙ eqb-true _ 0 e

  pub block_plain : eqb (mask_l (map (top 7) lanes) % 2 ^ 64) 0 ≡ true → (j : ℕ) → j < 16 → plain_behind s (i + j) ≡ true
  unfolding places
  block_plain e j l =
      let at : get_or (range_with_len 0 16) j 0 ≡ j = get_or-range_with_len 0 16 j 0 l ∙ omega arith in
      let none : caught_at j ≡ false = ap caught_at (sym at) ∙ none_from_empty_mask caught_at places 0 16 0 (omega arith) (empty e) j (omega arith) l in
      let n : i + 1 + j ≡ i + j + 1 = omega arith in
      plain (eqb (get_or s (i + j) 0) slash) (get_or s (i + j + 1) 0) (rw (← n) none)
