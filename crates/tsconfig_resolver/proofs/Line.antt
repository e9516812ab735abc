-- A line's equation: where a record's extends end within the size of the book, its line is itself and then its parents' lines, with no word of a bound.
-- Assumes nothing.
use mathlib.Core.Path.{◌≡◌, refl, sym, ap, ap₂, ◌∙◌}
use Rattle.std.proofs.lemmas.Bool.{false_from_ne_true}
use mathlib.Core.Bool.{Bool, true, false, ◌||◌, false≢true}
use mathlib.Core.List.{List, [], ◌∷◌, ◌++◌, Memᴰ}
use Prim.Native.Nat.{ℕ, zero, suc, ◌≤◌, ◌<◌}
use native.Mathlib.Omega.{arith}
use borrow.Author.Tests.{eqb-true}
use lib.Dec.{eqb}
use Rattle.tsconfig_resolver.proofs.Tally.{Below, below_append, elem_append}
use Rattle.tsconfig.specs.Config.{Field}
use Rattle.tsconfig_resolver.specs.Line.{Configs, lines, elem, parents, rest}

pub lines_same : (u v : ℕ → List ℕ) (ps : List ℕ) → ((p : ℕ) → Memᴰ p ps → u p ≡ v p) → lines u ps ≡ lines v ps
lines_same u v [] h = refl
lines_same u v (p ∷ ps) h =
    ap (p ∷◌) (ap₂ ◌++◌ (h p (Memᴰ.head refl)) (lines_same u v ps (λ q m. h q (Memᴰ.tail m))))

-- one of two tests holds
either : {X : Type 0} (a b : Bool) → a || b ≡ true → (a ≡ true → X) → (b ≡ true → X) → X
either true b h f g = f refl
either false b h f g = g h

-- a record of the lines of some records is one of these, or stands above one
lines_elem :
    {X : Type 0} (up : ℕ → List ℕ) (j : ℕ) (ps : List ℕ) → elem j (lines up ps) ≡ true →
    ((p : ℕ) → Memᴰ p ps → j ≡ p → X) → ((p : ℕ) → Memᴰ p ps → elem j (up p) ≡ true → X) → X
lines_elem up j [] e f g = absurd (false≢true e)
lines_elem up j (p ∷ ps) e f g =
    either (eqb j p) (elem j (up p ++ lines up ps)) e (λ k. f p (Memᴰ.head refl) (eqb-true j p k))
    (λ k. either (elem j (up p)) (elem j (lines up ps)) (sym (elem_append j (up p) (lines up ps)) ∙ k) (g p (Memᴰ.head refl))
    (λ l. lines_elem up j ps l (λ q m. f q (Memᴰ.tail m)) (λ q m. g q (Memᴰ.tail m))))

module _ {Val : Field → Type 0} {B : Type 0} (b : Configs Val B) where
  -- each way up from the record by extends ends in fewer than k steps
  abbrev pub Within : ℕ → ℕ → Type 0
  Within zero c = ⊥
  Within (suc k) c = (p : ℕ) → Memᴰ p (parents b c) → Within k p

  pub within_more : (h k c : ℕ) → h ≤ k → Within h c → Within k c
  within_more zero k c le w = absurd w
  within_more (suc h) zero c le w = absurd (omega arith)
  within_more (suc h) (suc k) c le w = λ p m. within_more h k p (omega arith) (w p m)

  pub rest_same : (h k c : ℕ) → h ≤ k → Within h c → rest b k c ≡ rest b h c
  unfolding rest
  rest_same zero k c le w = absurd w
  rest_same (suc h) zero c le w = absurd (omega arith)
  rest_same (suc h) (suc k) c le w = lines_same (rest b k) (rest b h) (parents b c) (λ p m. rest_same h k p (omega arith) (w p m))

  pub rest_step : (h n c : ℕ) → h ≤ n → Within h c → rest b n c ≡ lines (rest b n) (parents b c)
  unfolding rest
  rest_step zero n c le w = absurd w
  rest_step (suc h) zero c le w = absurd (omega arith)
  rest_step (suc h) (suc n) c le w =
      lines_same (rest b n) (rest b (suc n)) (parents b c)
      (λ p m. rest_same h n p (omega arith) (w p m) ∙ sym (rest_same h (suc n) p (omega arith) (w p m)))

  -- what stands above a record ends in fewer steps; so nothing stands above itself
  above_within : (k h c j : ℕ) → Within (suc h) c → elem j (rest b k c) ≡ true → Within h j
  unfolding rest
  above_within zero h c j w e = absurd (false≢true e)
  above_within (suc k) zero c j w e = lines_elem (rest b k) j (parents b c) e (λ p m q. absurd (w p m)) (λ p m q. absurd (w p m))
  above_within (suc k) (suc h) c j w e =
      lines_elem (rest b k) j (parents b c) e (λ p m q. rw q (w p m)) (λ p m q. within_more h (suc h) j (omega arith) (above_within k h p j (w p m) q))

  circle : (h k c : ℕ) → Within h c → elem c (rest b k c) ≡ true → ⊥
  circle zero k c w e = w
  circle (suc h) k c w e = circle h k c (above_within k h c c w e) e

  pub no_circle : (h k c : ℕ) → Within h c → elem c (rest b k c) ≡ false
  no_circle h k c w = false_from_ne_true (elem c (rest b k c)) (circle h k c w)

  -- every record of a line is the book's
  lines_below :
      (n : ℕ) (up : ℕ → List ℕ) → ((p : ℕ) → Below n (up p)) → (ps : List ℕ) → ((p : ℕ) → Memᴰ p ps → p < n) → Below n (lines up ps)
  lines_below n up h [] m = tt
  lines_below n up h (p ∷ ps) m =
      (m p (Memᴰ.head refl), below_append n (up p) (lines up ps) (h p) (lines_below n up h ps (λ q k. m q (Memᴰ.tail k))))

  pub rest_below : ((c p : ℕ) → Memᴰ p (parents b c) → p < b.size) → (k c : ℕ) → Below b.size (rest b k c)
  unfolding rest
  rest_below inside zero c = tt
  rest_below inside (suc k) c = lines_below b.size (rest b k) (rest_below inside k) (parents b c) (inside c)
