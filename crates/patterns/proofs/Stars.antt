-- The rule of adjacent stars by three bytes in a row is the rule by components. Assumes nothing.
use mathlib.Core.Path.{◌≡◌, refl, sym, ◌∙◌}
use mathlib.Core.List.{List, [], ◌∷◌}
use mathlib.Core.Bool.{Bool, true, false, not, ◌&&◌, ◌||◌, and_assoc}
use Prim.Native.Nat.{ℕ, suc, ◌+◌, ◌-◌, ◌≤◌, ◌<◌}
use native.Mathlib.Numerals.{add-one}
use native.Mathlib.Omega.{arith}
use Rattle.std.proofs.lemmas.Bool.Decides.{nat_tests}
use lib.ListN.{length, get_or, drop, length-drop}
use lib.Seq.{drop-cons}
use lib.Dec.{eqb}
use borrow.Author.Tests.{eqb-true}
use Rattle.text.specs.Bytes.{Text, slash, star}
use Rattle.text.specs.Text.{prefix_of, same_text, each_of}
use Rattle.components.specs.Components.{split, on_first}
use Rattle.components.specs.Places.{first_of}
use Rattle.text.proofs.Picks.{by_test}
use Rattle.strings.proofs.Gather.{each_same}
use Rattle.patterns.specs.Patterns.{two_stars, whole_stars}
use Rattle.patterns.specs.Scan.{crowded, clear, stars_apart}

-- Within a component, where no byte is a slash

abbrev close : ℕ → Text → Bool
close x [] = true
close x (y ∷ []) = true
close x (y ∷ z ∷ s) = not (eqb y star && (eqb x star || eqb z star))

unfoldable alone : Text → Bool
alone [] = true
alone (x ∷ s) = close x s && alone s

-- of three bytes or more, no two stars are adjacent
alone_long : (x y z : ℕ) (s : Text) → alone (x ∷ y ∷ z ∷ s) ≡ not (two_stars (x ∷ y ∷ z ∷ s))
unfolding alone two_stars prefix_of
alone_long x y z [] = three (eqb x star) (eqb y star) (eqb z star)
  where
    three : (a b c : Bool) → not (b && (a || c)) && true ≡ not ((a && (b && true)) || ((b && (c && true)) || ((c && false) || false)))
    three a b c = grind (arith, nat_tests)
alone_long x y z (w ∷ s) = rw (alone_long y z w s) (more (eqb x star) (eqb y star) (eqb z star) (two_stars (z ∷ w ∷ s)))
  where
    more : (a b c r : Bool) → not (b && (a || c)) && not ((b && (c && true)) || r) ≡ not ((a && (b && true)) || ((b && (c && true)) || r))
    more a b c r = grind (arith, nat_tests)

alone_whole : (p : Text) → alone p ≡ whole_stars p
unfolding alone two_stars prefix_of same_text
alone_whole [] = refl
alone_whole (x ∷ []) = one (eqb x star)
  where
    one : (a : Bool) → true ≡ not ((a && false) || false) || (a && false)
    one a = grind (arith, nat_tests)
alone_whole (x ∷ y ∷ []) = two (eqb x star) (eqb y star)
  where
    two : (a b : Bool) → true ≡ not ((a && (b && true)) || ((b && false) || false)) || (a && (b && true))
    two a b = grind (arith, nat_tests)
alone_whole (x ∷ y ∷ z ∷ s) = alone_long x y z s ∙ long (eqb x star) (eqb y star) (not (two_stars (x ∷ y ∷ z ∷ s)))
  where
    long : (a b r : Bool) → r ≡ r || (a && (b && false))
    long a b r = grind (arith, nat_tests)

-- A slash is never among the three

-- as the first
clear_slash : (x : ℕ) (s : Text) → eqb x slash ≡ true → clear x s ≡ true
unfolding clear
clear_slash x [] e = refl
clear_slash x (y ∷ []) e = refl
clear_slash x (y ∷ z ∷ s) e = rw e (first (eqb y star) (eqb x star || eqb z star))
  where
    first : (a b : Bool) → not (a && (b && false)) ≡ true
    first a b = grind (arith, nat_tests)

-- so only the first component behind a byte is looked at
clear_first : (x : ℕ) (s : Text) → eqb x slash ≡ false → clear x s ≡ close x (first_of (split s))
unfolding clear split on_first
clear_first x [] e = refl
clear_first x (y ∷ []) e = by_test (eqb y slash) (λ t. rw t) (λ f. rw f)
clear_first x (y ∷ z ∷ s) e =
    by_test (eqb y slash)
    (λ t. let n : y ≡ slash = eqb-true y slash t in rw n)
    (λ f. by_test (eqb z slash)
    (λ t. rw (f, t) (last (eqb y star) (eqb x star || eqb z star) (eqb x slash)))
    (λ g. rw (f, g, e) (behind (split s))))
  where
    last : (a b c : Bool) → not (a && (b && not (c || true))) ≡ true
    last a b c = grind (arith, nat_tests)

    inside : (a b : Bool) → not (a && (b && true)) ≡ not (a && b)
    inside a b = grind (arith, nat_tests)

    behind : (q : List Text) → not (eqb y star && ((eqb x star || eqb z star) && true)) ≡ close x (first_of (on_first y (on_first z q)))
    behind [] = inside (eqb y star) (eqb x star || eqb z star)
    behind (p ∷ ps) = inside (eqb y star) (eqb x star || eqb z star)

alone_first : (x : ℕ) (q : List Text) → close x (first_of q) && each_of alone q ≡ each_of alone (on_first x q)
unfolding each_of alone on_first
alone_first x [] = refl
alone_first x (p ∷ ps) = sym (and_assoc (close x p) (alone p) (each_of alone ps))

apart_alone : (s : Text) → stars_apart s ≡ each_of alone (split s)
unfolding stars_apart split each_of alone
apart_alone [] = refl
apart_alone (x ∷ s) =
    by_test (eqb x slash)
    (λ t. rw (clear_slash x s t, t) (apart_alone s))
    (λ f. rw (clear_first x s f, f, apart_alone s) (alone_first x (split s)))

-- the rule by three bytes is the rule by components
pub apart_whole : (s : Text) → stars_apart s ≡ each_of whole_stars (split s)
apart_whole s = apart_alone s ∙ each_same alone whole_stars (split s) alone_whole

-- The loops

pub apart_short : (s : Text) → length s ≤ 2 → stars_apart s ≡ true
unfolding stars_apart clear
apart_short [] h = refl
apart_short (x ∷ []) h = refl
apart_short (x ∷ y ∷ []) h = refl
apart_short (x ∷ y ∷ z ∷ s) h = absurd (omega arith)

pub apart_at : (s : Text) (j : ℕ) → j + 2 < length s → stars_apart (drop j s) ≡ not (crowded (get_or s j 0) (get_or s (j + 1) 0) (get_or s (j + 2) 0)) && stars_apart (drop (j + 1) s)
unfolding stars_apart clear
apart_at s j h =
    let n : j + 2 ≡ suc (suc j) = omega arith in
    rw (n, add-one, drop-cons s j 0 (omega arith), drop-cons s (suc j) 0 (omega arith), drop-cons s (suc (suc j)) 0 (omega arith)) refl

-- the rule from the second byte before i on
abbrev pub apart : Text → ℕ → Bool
apart s i = stars_apart (drop (i - 2) s)

module _ (s : Text) (i : ℕ) where
  pub apart_next : 2 ≤ i → i < length s → apart s i ≡ not (crowded (get_or s (i - 2) 0) (get_or s (i - 1) 0) (get_or s i 0)) && apart s (i + 1)
  apart_next l h =
      let y : i - 2 + 1 ≡ i - 1 = omega arith in
      let z : i - 2 + 2 ≡ i = omega arith in
      let n : i - 1 ≡ i + 1 - 2 = omega arith in
      rw (← n) (rw (y, z) at (apart_at s (i - 2) (omega arith)))

  pub apart_end : length s ≤ i → apart s i ≡ true
  apart_end h = apart_short (drop (i - 2) s) (omega (arith, length-drop (i - 2) s))
