-- Laws of the parts of a text. Assumes nothing.
use mathlib.Core.Path.{◌≡◌, refl, ap, sym, ◌∙◌}
use mathlib.Core.List.{[], ◌∷◌}
use Prim.Native.Nat.{ℕ, suc, ◌+◌, ◌-◌, ◌≤◌}
use native.Mathlib.Omega.{arith}
use lib.ListN.{length, take, drop, length-drop, drop_of_length-le}
use lib.Seq.{take_all}
use Rattle.text.specs.Bytes.{Text}
use Rattle.text.proofs.Picks.{by_test}
use lib.Dec.{eqb}
use Rattle.text.specs.Text.{find_from, find, between, before_byte, after_byte}
use Rattle.std.specs.Prelude.{Option, Some, None}
use Rattle.std.proofs.lemmas.Option.{none-some}

module _ (s : Text) (k : ℕ) where
  -- past the end
  pub from_none : length s ≤ k → [] ≡ drop k s
  from_none h = sym (drop_of_length-le s h)

  -- as the code cuts it
  pub from_some : take (length s - k) (drop k s) ≡ drop k s
  from_some = take_all (length s - k) (drop k s) (omega (arith, length-drop k s))

  pub upto_all : length s ≤ k → s ≡ take k s
  upto_all h = sym (take_all k s h)

pub between_none : (s : Text) (a e : ℕ) → e ≤ a → [] ≡ between a e s
between_none s a e h = let z : e - a ≡ 0 = omega arith in rw z

-- What stands before and after the first place of a byte, as a search finds it

found_none : (b : ℕ) (s : Text) (j : ℕ) → find_from b j s ≡ None → (s ≡ before_byte b s) × ([] ≡ after_byte b s)
unfolding find_from before_byte after_byte
found_none b [] j e = (refl, refl)
found_none b (x ∷ s) j e =
    by_test (eqb x b) (λ t. absurd (none-some j (sym (rw t at e))))
    (λ f. let ih = found_none b s (suc j) (rw f at e) in (rw f (ap (λ (l : Text). x ∷ l) ih.0), rw f ih.1))

found_at :
    (b : ℕ) (s : Text) (j i : ℕ) → find_from b j s ≡ Some i →
    (j ≤ i) × ((take (i - j) s ≡ before_byte b s) × (drop (suc (i - j)) s ≡ after_byte b s))
unfolding find_from before_byte after_byte
found_at b [] j i e = absurd (none-some i e)
found_at b (x ∷ s) j i e =
    by_test (eqb x b)
    (λ t.
    let k : j ≡ i = (let y : Some j ≡ Some i = rw t at e in cc) in
    let z : i - j ≡ 0 = omega arith in
    (omega arith, (rw (t, z), rw (t, z))))
    (λ f.
    let ih = found_at b s (suc j) i (rw f at e) in
    let z : i - j ≡ suc (i - suc j) = omega (arith, ih.0) in
    (omega (arith, ih.0), (rw (f, z) (ap (λ (l : Text). x ∷ l) ih.1.0), rw (f, z) ih.1.1)))

module _ (b : ℕ) (s : Text) (r : Option ℕ) (f : r ≡ find b s) where
  pub before_all : r ≡ None → s ≡ before_byte b s
  before_all n = (found_none b s 0 (sym f ∙ n)).0

  pub after_none : r ≡ None → [] ≡ after_byte b s
  after_none n = (found_none b s 0 (sym f ∙ n)).1

  module _ (i : ℕ) (e : r ≡ Some i) where
    pub before_at : take i s ≡ before_byte b s
    before_at = let z : i - 0 ≡ i = omega arith in rw z at (found_at b s 0 i (sym f ∙ e)).1.0

    pub after_at : drop (i + 1) s ≡ after_byte b s
    after_at = let z : suc (i - 0) ≡ i + 1 = omega arith in rw z at (found_at b s 0 i (sym f ∙ e)).1.1

-- what stands after a byte is less than the whole
pub after_less : (b : ℕ) (s : Text) → length (after_byte b s) ≤ length s - 1
unfolding after_byte
after_less b [] = omega arith
after_less b (x ∷ s) = by_test (eqb x b) (λ t. rw t (omega arith)) (λ f. rw f (omega (arith, after_less b s)))
