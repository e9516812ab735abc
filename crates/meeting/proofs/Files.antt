-- Of paths of files none lies under another. Assumes nothing.
use mathlib.Core.Path.{◌≡◌, refl, sym, ap, ◌∙◌}
use mathlib.Core.List.{[], ◌∷◌}
use mathlib.Core.Bool.{true, false, not, ◌&&◌, true≢false}
use Prim.Native.Nat.{ℕ, zero, suc, ◌+◌, ◌-◌, ◌≤◌, ◌<◌}
use native.Mathlib.Omega.{arith}
use lib.ListN.{length, get_or, get_or-eq_default}
use lib.Dec.{eqb, leb}
use borrow.Author.Tests.{le-leb, eqb-true, eqb-false, leb-true, leb-false, not-true}
use Rattle.std.proofs.lemmas.Bool.{and_parts}
use Rattle.std.proofs.lemmas.Bool.Decides.{nat_tests}
use Rattle.text.specs.Bytes.{Text, slash}
use Rattle.text.specs.Text.{prefix_of}
use Rattle.text.proofs.Picks.{by_test}
use Rattle.text.proofs.Scans.{prefix_differs}
use Rattle.compare.specs.Compare.{covers}
use Rattle.compare.proofs.Ways.{over_by, over_other}
use Rattle.book.specs.State.{meets}
use Rattle.meeting.specs.Files.{son_at, file_above, no_file_above, file_path}
use Rattle.meeting.proofs.Rows.{meet_same, meet_short, meet_long, meet_not}

-- No place has `son/`

next : (x : ℕ) (s : Text) (j : ℕ) → file_above (x ∷ s) (suc j) ≡ file_above s j
next x s j =
    let a : suc j + 1 ≡ suc (j + 1) = omega arith in
    let b : suc j + 2 ≡ suc (j + 2) = omega arith in
    let c : suc j + 3 ≡ suc (j + 3) = omega arith in
    rw (a, b, c) refl

none_behind : (s : Text) (j : ℕ) → length s ≤ j + 3 → file_above s j ≡ false
none_behind s j h =
    let z : get_or s (j + 3) 0 ≡ 0 = get_or-eq_default s 0 h in
    grind (arith, nat_tests)

pub none_above : (s : Text) → ((j : ℕ) → j + 3 < length s → file_above s j ≡ false) → no_file_above s ≡ true
unfolding no_file_above
none_above [] h = refl
none_above (x ∷ s) h = rw (first, none_above s (λ j l. sym (next x s j) ∙ h (suc j) (omega (arith, l)))) refl
  where
    first : file_above (x ∷ s) 0 ≡ false
    first = by_test (leb (length (x ∷ s)) 3) (λ y. none_behind (x ∷ s) 0 (leb-true (length (x ∷ s)) 3 y)) (λ y. h 0 (leb-false (length (x ∷ s)) 3 y))

none_at : (s : Text) → no_file_above s ≡ true → (j : ℕ) → file_above s j ≡ false
unfolding no_file_above
none_at [] e j = refl
none_at (x ∷ s) e zero = not-true (file_above (x ∷ s) 0) (and_parts (not (file_above (x ∷ s) 0)) (no_file_above s) e).0
none_at (x ∷ s) e (suc j) = next x s j ∙ none_at s (and_parts (not (file_above (x ∷ s) 0)) (no_file_above s) e).1 j

-- The blocks: what stands before i has none, and neither has the block at j
module _ (s : Text) (i : ℕ) (inv : (k : ℕ) → k < i → file_above s k ≡ false) (j : ℕ) (block : (k : ℕ) → k < 16 → file_above s (j + k) ≡ false) where
  pub block_next : j ≤ i → (k : ℕ) → k < j + 16 → file_above s k ≡ false
  block_next h k l =
      by_test (leb i k)
      (λ y.
      let at : j + (k - j) ≡ k = omega (arith, leb-true i k y, h) in
      ap (file_above s) (sym at) ∙ block (k - j) (omega (arith, l, h, leb-true i k y)))
      (λ y. inv k (leb-false i k y))

  -- the last block
  pub none_whole : j ≤ i → j + 19 ≡ length s → no_file_above s ≡ true
  none_whole h e = none_above s (λ k l. block_next h k (omega (arith, l, e)))

-- A path of a file

pub file_by : (s : Text) → 3 ≤ length s → get_or s (length s - 3) 0 ≡ 0x73 → get_or s (length s - 2) 0 ≡ 0x6F → get_or s (length s - 1) 0 ≡ 0x6E → no_file_above s ≡ true → file_path s ≡ true
unfolding file_path
file_by s l x y z n =
    let a : length s - 3 + 1 ≡ length s - 2 = omega (arith, l) in
    let b : length s - 3 + 2 ≡ length s - 1 = omega (arith, l) in
    rw (a, b, x, y, z, n, le-leb 3 (length s) l) refl

record File (s : Text) : Type 0 where
  long : 3 ≤ length s
  ends : son_at s (length s - 3) ≡ true
  none : no_file_above s ≡ true

file_is : (s : Text) → file_path s ≡ true → File s
unfolding file_path
file_is s e =
    let h = and_parts (leb 3 (length s)) (son_at s (length s - 3) && no_file_above s) e in
    let k = and_parts (son_at s (length s - 3)) (no_file_above s) h.1 in
    record { long = leb-true 3 (length s) h.0; ends = k.0; none = k.1 }

-- one that is shorter is above no other
under_none : (p q : Text) → file_path p ≡ true → file_path q ≡ true → length p < length q → covers p q ≡ false
under_none p q f g l = by_test (covers p q) (λ y. absurd (no y)) (λ y. y)
  where
    a : File p
    a = file_is p f

    byte : (prefix_of p q ≡ true) → (j : ℕ) → j < length p → get_or q j 0 ≡ get_or p j 0
    byte y j h = by_test (eqb (get_or q j 0) (get_or p j 0)) (eqb-true _ _) (λ e. absurd (true≢false (sym y ∙ prefix_differs p q j h (eqb-false _ _ e))))

    no : covers p q ≡ true → ⊥
    no y =
        let h = (and_parts _ (prefix_of p q) (sym (over_by p q) ∙ y)).1 in
        let b3 : get_or q (length p) 0 ≡ slash = by_test (eqb (get_or q (length p) 0) slash) (eqb-true _ _) (λ e. absurd (true≢false (sym y ∙ sym (over_other p q l (eqb-false _ _ e))))) in
        let n = none_at q (file_is q g).none (length p - 3) in
        let b0 = byte h (length p - 3) (omega (arith, a.long)) in
        let b1 = byte h (length p - 3 + 1) (omega (arith, a.long)) in
        let b2 = byte h (length p - 3 + 2) (omega (arith, a.long)) in
        let at : length p - 3 + 3 ≡ length p = omega (arith, a.long) in
        let w : file_above q (length p - 3) ≡ true = rw (b0, b1, b2, at, b3, a.ends) refl in
        true≢false (sym w ∙ n)

-- two meet only where they are the same
pub files_meet : (p q : Text) → file_path p ≡ true → file_path q ≡ true → meets false p q ≡ meets true p q
files_meet p q f g =
    by_test (eqb (length p) (length q))
    (λ e. sym (meet_same false p q (covers q p) (eqb-true _ _ e) refl) ∙ meet_same true p q (covers q p) (eqb-true _ _ e) refl)
    (λ e.
    let d = eqb-false (length p) (length q) e in
    sym (meet_not false p q refl d)
    ∙ by_test (leb (length p) (length q))
    (λ l. meet_short true p q false refl (omega (arith, leb-true (length p) (length q) l, d)) (sym (under_none p q f g (omega (arith, leb-true (length p) (length q) l, d)))))
    (λ l. meet_long true p q false refl (leb-false (length p) (length q) l) (sym (under_none q p g f (leb-false (length p) (length q) l)))))
