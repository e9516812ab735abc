-- A rule of a table, proved at all of its entries by one test that antt computes, one entry after the other.
-- Assumes nothing.
use mathlib.Core.Path.{◌≡◌, refl, ◌∙◌, subst, sym}
use mathlib.Core.Bool.{Bool, true, false, ◌||◌}
use mathlib.Core.List.{List, [], ◌∷◌}
use Prim.Native.Nat.{ℕ, zero, suc, ◌+◌, ◌<◌}
use native.Mathlib.Nat.{add-zero, zero-add, add-suc, suc-add, le_of_suc-le-suc, not-suc-le-zero}
use lib.Dec.{T, eqb}
use types.Run.{OneOf}
use mathlib.Core.Logic.{inl, inr}
use borrow.Author.Tests.{ne_eqb}
use lib.ListN.{length, get_or}

abbrev pub both : Bool → Bool → Bool
both true b = b
both false b = false

both_left : (a b : Bool) → T (both a b) → T a
both_left true b t = tt
both_left false b t = t

both_right : (a b : Bool) → T (both a b) → T b
both_right true b t = t
both_right false b t = absurd t

-- the test f passes at each entry of the list and its place, counted from i
abbrev pub every : (ℕ → ℕ → Bool) → ℕ → List ℕ → Bool
every f i [] = true
every f i (x ∷ xs) = both (f i x) (every f (suc i) xs)

from : (f : ℕ → ℕ → Bool) (xs : List ℕ) (i : ℕ) → T (every f i xs) → (k : ℕ) → k < length xs → T (f (i + k) (get_or xs k 0))
from f [] i t k h = absurd (not-suc-le-zero h)
from f (x ∷ xs) i t zero h = subst (λ (m : ℕ). T (f m x)) (sym (add-zero i)) (both_left (f i x) (every f (suc i) xs) t)
from f (x ∷ xs) i t (suc k) h =
    subst (λ (m : ℕ). T (f m (get_or xs k 0))) (suc-add i k ∙ sym (add-suc i k))
    (from f xs (suc i) (both_right (f i x) (every f (suc i) xs) t) k (le_of_suc-le-suc h))

pub at_each : (f : ℕ → ℕ → Bool) (xs : List ℕ) → T (every f 0 xs) → (k : ℕ) → k < length xs → T (f k (get_or xs k 0))
at_each f xs t k h = subst (λ (m : ℕ). T (f m (get_or xs k 0))) (zero-add k) (from f xs 0 t k h)

-- x is one of the keys of a match's arm
abbrev pub among : List ℕ → ℕ → Bool
among [] x = false
among (k ∷ ks) x = eqb x k || among ks x

among_no : (ks : List ℕ) (x : ℕ) → (OneOf ks x → ⊥) → among ks x ≡ false
among_no [] x h = refl
among_no (k ∷ []) x h = rw (ne_eqb x k h) refl
among_no (k ∷ j ∷ ks) x h = rw (ne_eqb x k (λ e. h (inl e))) (among_no (j ∷ ks) x (λ e. h (inr e)))

pub T_true : (b : Bool) → T b → b ≡ true
T_true true t = refl
T_true false t = absurd t

-- a test that passes at each key of an arm passes at x, where the arm is taken
pub at_keys : (f : ℕ → Bool) (ks : List ℕ) → T (every (λ i k. f k) 0 ks) → (x : ℕ) → OneOf ks x → f x ≡ true
at_keys f ks t x h = T_true (f x) (go ks 0 t h)
  where
    go : (ks : List ℕ) (i : ℕ) → T (every (λ i k. f k) i ks) → OneOf ks x → T (f x)
    go [] i t h = absurd h
    go (k ∷ []) i t h = subst (λ (j : ℕ). T (f j)) (sym h) (both_left (f k) true t)
    go (k ∷ j ∷ ks) i t (inl h) = subst (λ (j : ℕ). T (f j)) (sym h) (both_left (f k) (every (λ i k. f k) (suc i) (j ∷ ks)) t)
    go (k ∷ j ∷ ks) i t (inr h) = go (j ∷ ks) (suc i) (both_right (f k) (every (λ i k. f k) (suc i) (j ∷ ks)) t) h

-- the test f is asked at all places but an arm's keys
abbrev pub spare : List ℕ → (ℕ → Bool) → ℕ → Bool
spare ks f x = among ks x || f x

-- where the arm is not taken, it is asked
pub past : (ks : List ℕ) (f : ℕ → Bool) (x : ℕ) → (OneOf ks x → ⊥) → T (spare ks f x) → T (f x)
past ks f x h t = subst (λ (b : Bool). T (b || f x)) (among_no ks x h) t
