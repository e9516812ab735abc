-- The rule of adjacent stars by blocks of sixteen places. Assumes nothing.
use mathlib.Core.Path.{◌≡◌, refl, sym, ap, ◌∙◌}
use mathlib.Core.List.{List, [], ◌∷◌, map}
use mathlib.Core.Bool.{Bool, true, false, not, cond, ◌&&◌}
use Prim.Native.Nat.{ℕ, zero, suc, ◌+◌, ◌-◌, ◌*◌, ◌≤◌, ◌<◌}
use native.Mathlib.Omega.{arith}
use Rattle.std.proofs.Common.{inl, inr}
use Rattle.std.proofs.lemmas.Bool.{and_parts, not-true, not-false, leb-true, leb-false, cases_lt}
use Rattle.std.proofs.lemmas.Bool.Decides.{nat_tests}
use Rattle.std.proofs.lemmas.List.{get_or-take, length-take, drop-take}
use Rattle.std.proofs.lemmas.List.FromFn.{get_or-range_with_len}
use Rattle.std.proofs.lemmas.List.Sums.{prefix_len-le-length, prefix_len_passes, prefix_len_stops}
use Rattle.std.proofs.lemmas.Simd.{leading_from_mask_l, trailing_mask_l}
use Rattle.std.specs.List.{range_with_len, prefix_len}
use lib.Count.{count_trailing_zeros}
use lib.ListN.{length, get_or, take, drop, length-drop}
use lib.Seq.{drop-drop}
use lib.Lanes.{mask_l}
use lib.Dec.{leb}
use Rattle.text.specs.Bytes.{Text}
use Rattle.text.proofs.Picks.{by_test}
use Rattle.patterns.specs.Scan.{clear, stars_apart, crowded_at, crowd_bits}
use Rattle.patterns.proofs.Stars.{apart_short, apart_at}

-- The rule by its places

-- the rule of what stands from m on
apart_next : (t : Text) (m : ℕ) → (m + 2 < length t → crowded_at t m ≡ false) → stars_apart (drop m t) ≡ stars_apart (drop (m + 1) t)
apart_next t m h =
    elim (cases_lt (m + 2) (length t)) [
      | inl inside ↦ apart_at t m inside ∙ rw (h inside) refl
      | inr outside ↦ apart_short (drop m t) (omega (arith, length-drop m t)) ∙ sym (apart_short (drop (m + 1) t) (omega (arith, length-drop (m + 1) t)))
    ]

-- places that are not crowded are left out
quiet : (t : Text) (m : ℕ) → ((k : ℕ) → k < m → k + 2 < length t → crowded_at t k ≡ false) → stars_apart t ≡ stars_apart (drop m t)
quiet t zero h = refl
quiet t (suc m) h =
    let n : m + 1 ≡ suc m = omega arith in
    quiet t m (λ k l. h k (omega (arith, l))) ∙ apart_next t m (h m (omega arith)) ∙ ap (λ i. stars_apart (drop i t)) n

-- what follows a place obeys the rule where the whole does
rest_apart : (m : ℕ) (t : Text) → stars_apart t ≡ true → stars_apart (drop m t) ≡ true
unfolding stars_apart
rest_apart zero t e = e
rest_apart (suc m) [] e = e
rest_apart (suc m) (x ∷ t) e = rest_apart m t (and_parts (clear x t) (stars_apart t) e).1

-- one that is crowded decides
loud : (t : Text) (k : ℕ) → k + 2 < length t → crowded_at t k ≡ true → stars_apart t ≡ false
loud t k h e =
    by_test (stars_apart t)
    (λ w. let r : stars_apart (drop k t) ≡ true = rest_apart k t w in let f : stars_apart (drop k t) ≡ false = apart_at t k h ∙ rw e refl in grind (arith, nat_tests))
    (λ w. w)

-- The bits of a block

positive : (n : ℕ) → (n ≡ 0 → ⊥) → 0 < n
positive zero e = absurd (e refl)
positive (suc n) e = omega arith

-- where each place passes, no bit is set
no_bit : (p : ℕ → Bool) (xs : List ℕ) → prefix_len (λ x. not (p x)) xs ≡ length xs → mask_l (map p xs) ≡ 0
no_bit p [] e = refl
no_bit p (x ∷ xs) e = of (p x) e (no_bit p xs)
  where
    of : (b : Bool) → cond (not b) (1 + prefix_len (λ y. not (p y)) xs) 0 ≡ suc (length xs) → (prefix_len (λ y. not (p y)) xs ≡ length xs → mask_l (map p xs) ≡ 0) → cond b 1 0 + 2 * mask_l (map p xs) ≡ 0
    of true e f = absurd (omega (arith, e))
    of false e f = omega (arith, f (omega (arith, e)))

module _ (s : Text) (n : ℕ) (room : 18 ≤ length s) where
  abbrev t : Text
  t = take n s

  -- the places before the first crowded one
  abbrev first : ℕ
  first = prefix_len (λ k. not (crowded_at s k)) (range_with_len 0 16)

  low : first ≤ 16
  low = prefix_len-le-length (λ k. not (crowded_at s k)) (range_with_len 0 16)

  -- a place whose three bytes are among the first n
  own : (k : ℕ) → k + 2 < length t → crowded_at t k ≡ crowded_at s k
  own k h =
      let w = length-take n s in
      rw (get_or-take n s k 0 (omega arith), get_or-take n s (k + 1) 0 (omega arith), get_or-take n s (k + 2) 0 (omega arith)) refl

  before : (k : ℕ) → k < first → crowded_at s k ≡ false
  before k h =
      let at : get_or (range_with_len 0 16) k 0 ≡ k = get_or-range_with_len 0 16 k 0 (omega (arith, low)) ∙ omega arith in
      not-true _ (ap (λ j. not (crowded_at s j)) (sym at) ∙ prefix_len_passes (λ j. not (crowded_at s j)) (range_with_len 0 16) k 0 h)

  none_set : crowd_bits s ≡ 0 → first ≡ 16
  unfolding crowd_bits
  none_set e = leading_from_mask_l (crowded_at s) (range_with_len 0 16) e

  -- no place of the block is crowded
  pub bits_none : crowd_bits s ≡ 0 → stars_apart t ≡ stars_apart (drop 16 t)
  bits_none e = quiet t 16 (λ k l h. own k h ∙ before k (omega (arith, none_set e, l)))

  some_set : (crowd_bits s ≡ 0 → ⊥) → (first < 16) × (count_trailing_zeros 64 (crowd_bits s) ≡ first)
  unfolding crowd_bits
  some_set e =
      let more : 0 < mask_l (map (crowded_at s) (range_with_len 0 16)) = positive (mask_l (map (crowded_at s) (range_with_len 0 16))) e in (
        elim (cases_lt first 16) [
          | inl l ↦ l
          | inr l ↦ absurd (omega (arith, more, no_bit (crowded_at s) (range_with_len 0 16) (omega (arith, l, low))))
        ],
        trailing_mask_l (crowded_at s) 64 (range_with_len 0 16) (omega arith) more,
      )

  at_first : first < 16 → crowded_at s first ≡ true
  at_first h =
      let at : get_or (range_with_len 0 16) first 0 ≡ first = get_or-range_with_len 0 16 first 0 h ∙ omega arith in
      not-false _ (ap (λ j. not (crowded_at s j)) (sym at) ∙ prefix_len_stops (λ j. not (crowded_at s j)) (range_with_len 0 16) 0 h)

  -- some place is: the first one decides, if its three bytes are among the first n
  pub bits_some : (crowd_bits s ≡ 0 → ⊥) → stars_apart t ≡ leb (n - 2) (count_trailing_zeros 64 (crowd_bits s)) && stars_apart (drop 16 t)
  bits_some e =
      let w = some_set e in
      let l = length-take n s in
      by_test (leb (n - 2) (count_trailing_zeros 64 (crowd_bits s)))
      (λ y. rw y (quiet t 16 (λ k i h. own k h ∙ before k (omega (arith, w.1, leb-true _ _ y, l, h)))))
      (λ f. let inside : first + 2 < length t = omega (arith, w.0, w.1, leb-false _ _ f, l) in rw f (loud t first inside (own first inside ∙ at_first w.0)))

-- The blocks of the first n bytes of s

-- the rule from i on
abbrev pub apart_from : Text → ℕ → ℕ → Bool
apart_from s n i = stars_apart (drop i (take n s))

module _ (s : Text) (n : ℕ) (i : ℕ) (inv : stars_apart (take n s) ≡ apart_from s n i) where
  -- f says whether the block at i is clear
  module _ (h : i ≤ n) (l : Text) (d : l ≡ drop i s) (f : Bool) (e : stars_apart (take (n - i) l) ≡ f && stars_apart (drop 16 (take (n - i) l))) where
    here : apart_from s n i ≡ f && apart_from s n (i + 16)
    here =
        let own : take (n - i) l ≡ drop i (take n s) = ap (take (n - i)) d ∙ sym (drop-take i (n - i) s) ∙ ap (λ m. drop i (take m s)) (omega (arith, h)) in
        ap stars_apart (sym own) ∙ e ∙ ap (λ t. f && stars_apart t) (ap (drop 16) own ∙ drop-drop 16 i (take n s))

    pub blocks_none : f ≡ false → false ≡ stars_apart (take n s)
    blocks_none w = sym (inv ∙ here ∙ rw w refl)

    pub blocks_next : f ≡ true → stars_apart (take n s) ≡ apart_from s n (i + 16)
    blocks_next w = inv ∙ here ∙ rw w refl

  -- no three bytes in a row stand behind the last block
  pub blocks_end : n - 2 ≤ i → true ≡ stars_apart (take n s)
  blocks_end h = let w = length-take n s in sym (inv ∙ apart_short (drop i (take n s)) (omega (arith, h, w, length-drop i (take n s))))
