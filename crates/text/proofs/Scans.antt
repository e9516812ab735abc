-- Laws of the tests and searches: what one step of a scan does to them. Assumes nothing.
use mathlib.Core.Path.{◌≡◌, refl, ap₂, sym, ◌∙◌}
use mathlib.Core.List.{List, [], ◌∷◌, ◌++◌}
use mathlib.Core.Bool.{Bool, true, false, and-false, cond, false≢true}
use Prim.Native.Nat.{ℕ, zero, suc, ◌+◌, ◌≤◌, ◌<◌}
use native.Mathlib.Numerals.{add-one}
use native.Mathlib.Nat.{add-zero, add-suc, suc-add}
use native.Mathlib.Omega.{arith}
use lib.ListN.{length, get_or, take}
use lib.Dec.{eqb}
use Rattle.std.proofs.lemmas.Bool.{and_parts}
use Rattle.std.proofs.lemmas.Bool.Decides.{nat_tests}
use borrow.Author.Tests.{ne_eqb, eqb-true}
use Rattle.std.specs.Cmp.Lexicographic.{pointwise}
use Rattle.std.specs.List.{position_from, list_all, list_any}
use Rattle.text.specs.Bytes.{Text}
use Rattle.text.specs.Text.{prefix_of, same_text, some_of, each_of, find_from, find, find_last_from}
use Rattle.std.specs.Prelude.{Option, Some}

-- As std says it

pub eqb_sym : (x y : ℕ) → eqb x y ≡ eqb y x
eqb_sym x y = grind (arith, nat_tests)

prefix_is : (p s : Text) → pointwise eqb p (take (length p) s) ≡ prefix_of p s
unfolding prefix_of
prefix_is [] s = refl
prefix_is (x ∷ p) [] = refl
prefix_is (x ∷ p) (y ∷ s) = rw (eqb_sym x y, prefix_is p s) refl

pub prefix_as_std : (r : Bool) (p s : Text) → r ≡ pointwise eqb p (take (length p) s) → r ≡ prefix_of p s
prefix_as_std r p s e = e ∙ prefix_is p s

pub same_is : (a b : Text) → pointwise eqb a b ≡ same_text a b
unfolding same_text
same_is [] [] = refl
same_is [] (y ∷ b) = refl
same_is (x ∷ a) [] = refl
same_is (x ∷ a) (y ∷ b) = rw (same_is a b) refl

pub same_as_std : (r : Bool) (a b : Text) → r ≡ pointwise eqb a b → r ≡ same_text a b
same_as_std r a b e = e ∙ same_is a b

pub same_eq : (a b : Text) → same_text a b ≡ true → a ≡ b
unfolding same_text
same_eq [] [] e = refl
same_eq [] (y ∷ b) e = absurd (false≢true e)
same_eq (x ∷ a) [] e = absurd (false≢true e)
same_eq (x ∷ a) (y ∷ b) e = let h = and_parts (eqb x y) (same_text a b) e in ap₂ ◌∷◌ (eqb-true x y h.0) (same_eq a b h.1)

pub position_as_find : (b i : ℕ) (s : Text) → position_from (λ (x : ℕ). eqb x b) i s ≡ find_from b i s
unfolding find_from
position_as_find b i [] = refl
position_as_find b i (x ∷ s) = rw (add-one, position_as_find b (suc i) s) refl

-- Texts of other lengths

pub prefix_differs : (p s : Text) (i : ℕ) → i < length p → (get_or s i 0 ≡ get_or p i 0 → ⊥) → prefix_of p s ≡ false
unfolding prefix_of
prefix_differs [] s i h e = let z : ⊥ = omega (arith, h) in absurd z
prefix_differs (x ∷ p) [] i h e = refl
prefix_differs (x ∷ p) (y ∷ s) zero h e = rw (ne_eqb y x e) refl
prefix_differs (x ∷ p) (y ∷ s) (suc i) h e = rw (prefix_differs p s i (omega (arith, h)) e) (and-false (eqb y x))

pub prefix_short : (p s : Text) → length s < length p → false ≡ prefix_of p s
unfolding prefix_of
prefix_short [] s h = let z : ⊥ = omega arith in absurd z
prefix_short (x ∷ p) [] h = refl
prefix_short (x ∷ p) (y ∷ s) h = sym (rw (← prefix_short p s (omega arith)) (and-false (eqb y x)))

pub same_length : (a b : Text) → (length a ≡ length b → ⊥) → same_text a b ≡ false
unfolding same_text
same_length [] [] e = absurd (e refl)
same_length [] (y ∷ b) e = refl
same_length (x ∷ a) [] e = refl
same_length (x ∷ a) (y ∷ b) e = rw (same_length a b (omega arith)) (and-false (eqb x y))

pub each_as_std : {A : Type 0} (ok : A → Bool) (xs : List A) → list_all ok xs ≡ each_of ok xs
unfolding each_of
each_as_std ok [] = refl
each_as_std ok (x ∷ xs) = rw (each_as_std ok xs) refl

pub some_as_std : {A : Type 0} (ok : A → Bool) (xs : List A) → list_any ok xs ≡ some_of ok xs
unfolding some_of
some_as_std ok [] = refl
some_as_std ok (x ∷ xs) = rw (some_as_std ok xs) refl

-- The last place of a byte

pub last_more : (b : ℕ) (f : Option ℕ) (i : ℕ) (s : Text) (x : ℕ) → find_last_from b f i (s ++ (x ∷ [])) ≡ cond (eqb x b) (Some (i + length s)) (find_last_from b f i s)
unfolding find_last_from
last_more b f i [] x = rw add-zero
last_more b f i (y ∷ s) x = last_more b (cond (eqb y b) (Some i) f) (suc i) s x ∙ rw (add-suc, suc-add)

-- What a search that found a byte says: it is within the text, the byte stands there, and before it, or after it, the byte does not stand

find_in : (b : ℕ) (s : Text) (j i : ℕ) → find_from b j s ≡ Some i → (j ≤ i) × (i < j + length s)
unfolding find_from
find_in b [] j i e = let z : ◌≡◌ {A = ℕ} 0 1 = cc in let w : ⊥ = omega arith in absurd w
find_in b (x ∷ s) j i e = go (eqb x b) (find_in b s (suc j) i) e
  where
    go : (t : Bool) → (find_from b (suc j) s ≡ Some i → (suc j ≤ i) × (i < suc j + length s)) → cond t (Some j) (find_from b (suc j) s) ≡ Some i → (j ≤ i) × (i < j + suc (length s))
    go true ih e = let k : j ≡ i = cc in omega arith
    go false ih e = let h : (suc j ≤ i) × (i < suc j + length s) = ih e in omega arith

pub find_within : (b : ℕ) (s : Text) (i : ℕ) → Some i ≡ find b s → i < length s
find_within b s i e = let h : (0 ≤ i) × (i < 0 + length s) = find_in b s 0 i (sym e) in omega arith
