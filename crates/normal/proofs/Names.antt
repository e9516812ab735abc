-- The rule of names by the three bytes behind a slash is the rule by components. Assumes nothing.
use mathlib.Core.Path.{◌≡◌, refl, sym, ap}
use mathlib.Core.List.{List, [], ◌∷◌}
use mathlib.Core.Bool.{Bool, true, false, not, ◌&&◌, ◌||◌, cond}
use Prim.Native.Nat.{ℕ, suc, ◌+◌, ◌-◌, ◌≤◌, ◌<◌}
use native.Mathlib.Numerals.{add-one}
use native.Mathlib.Omega.{arith}
use Rattle.std.proofs.lemmas.Bool.Decides.{nat_tests}
use lib.ListN.{length, get_or, take, drop, drop_of_length-le}
use lib.Seq.{drop-cons}
use lib.Dec.{eqb}
use borrow.Author.Tests.{eqb-true, eqb-false}
use Rattle.text.specs.Bytes.{Text, slash, dot}
use Rattle.text.specs.Text.{each_of}
use Rattle.components.specs.Components.{split, on_first, piece_of, is_name, starts}
use Rattle.path.specs.Path.{normal}
use Rattle.components.specs.Places.{first_of}
use Rattle.components.specs.declared.Piece.TheVariants.{Skip, Up, Name}
use Rattle.text.proofs.Picks.{by_test}
use Rattle.text.proofs.Parts.{from_some}
use Rattle.path.proofs.Normal.{normal_not, normal_root, normal_deep}
use Rattle.normal.specs.Scan.{nameless, names_behind}

-- The first piece of a text is a name, by its first three bytes

abbrev named : Text → Bool
named p = is_name (piece_of p)

-- the piece is `.`, or another byte
one : (a r : Bool) → is_name (cond a Skip Name) ≡ not (a && (true || r))
one a r = grind (arith, nat_tests)

-- .. is `..`, or two bytes else
two : (a b : Bool) → is_name (cond a (cond b Up Name) Name) ≡ not (a && (b && true))
two a b = grind (arith, nat_tests)

more : (a b : Bool) → true ≡ not (a && (b && false))
more a b = grind (arith, nat_tests)

first_named : (u : Text) → named (first_of (split u)) ≡ not (nameless (get_or u 0 slash) (get_or u 1 slash) (get_or u 2 slash))
unfolding split on_first piece_of
first_named [] = refl
first_named (a ∷ []) = by_test (eqb a slash) (λ t. rw t) (λ f. rw f (one (eqb a dot) false))
first_named (a ∷ b ∷ []) =
    by_test (eqb a slash)
    (λ t. rw t)
    (λ f. by_test (eqb b slash)
    (λ t. rw (f, t) (one (eqb a dot) (eqb b dot && true)))
    (λ g. rw (f, g) (two (eqb a dot) (eqb b dot))))
first_named (a ∷ b ∷ c ∷ u) =
    by_test (eqb a slash)
    (λ t. rw t)
    (λ f. by_test (eqb b slash)
    (λ t. rw (f, t) (one (eqb a dot) (eqb b dot && eqb c slash)))
    (λ g. by_test (eqb c slash)
    (λ t. rw (f, g, t) (two (eqb a dot) (eqb b dot)))
    (λ h. rw (f, g, h) (long (split u)))))
  where
    long : (q : List Text) → named (first_of (on_first a (on_first b (on_first c q)))) ≡ not (eqb a dot && (eqb b dot && false))
    long [] = more (eqb a dot) (eqb b dot)
    long (p ∷ ps) = more (eqb a dot) (eqb b dot)

-- Every piece but the first stands behind a slash

abbrev others : List Text → List Text
others [] = []
others (p ∷ ps) = ps

split_first : (u : Text) → split u ≡ first_of (split u) ∷ others (split u)
unfolding split on_first
split_first [] = refl
split_first (x ∷ u) = by_test (eqb x slash) (λ t. rw t) (λ f. rw f (grown (split u)))
  where
    grown : (q : List Text) → on_first x q ≡ first_of (on_first x q) ∷ others (on_first x q)
    grown [] = refl
    grown (p ∷ ps) = refl

each_first : (u : Text) → each_of named (split u) ≡ named (first_of (split u)) && each_of named (others (split u))
unfolding each_of
each_first u = ap (each_of named) (split_first u)

behind_others : (s : Text) → names_behind s ≡ each_of named (others (split s))
unfolding names_behind split on_first each_of
behind_others [] = refl
behind_others (x ∷ s) =
    by_test (eqb x slash)
    (λ t. rw (t, ← first_named s, behind_others s) (sym (each_first s)))
    (λ f. rw (f, behind_others s) (same (split s)))
  where
    same : (q : List Text) → each_of named (others q) ≡ each_of named (others (on_first x q))
    same [] = refl
    same (p ∷ ps) = refl

behind_each : (s : Text) → starts slash s ≡ true → names_behind s ≡ each_of named (split (drop 1 s))
unfolding names_behind starts
behind_each [] e = let z : ◌≡◌ {A = ℕ} 0 1 = cc in absurd (omega arith)
behind_each (x ∷ s) e = rw (e, ← first_named s, behind_others s) (sym (each_first s))

-- the rule as the code tests it
pub normal_by : (s : Text) → normal s ≡ starts slash s && (eqb (length s) 1 || names_behind s)
normal_by s =
    by_test (starts slash s)
    (λ t. by_test (eqb (length s) 1)
    (λ l. rw (t, l) (sym (normal_root s true (sym t) refl (eqb-true (length s) 1 l))))
    (λ n. rw (t, n) (sym (normal_deep s true (sym t) refl (eqb-false (length s) 1 n) (names_behind s) (behind_each s t)))))
    (λ f. rw f (sym (normal_not s false (sym f) refl)))

-- The loops

-- the rule from the third byte before i on
abbrev pub behind : Text → ℕ → Bool
behind s i = names_behind (drop (i - 3) s)

-- at a byte that three follow
pub names_at : (s : Text) (j : ℕ) → j + 3 < length s → names_behind (drop j s) ≡ not (eqb (get_or s j 0) slash && nameless (get_or s (j + 1) 0) (get_or s (j + 2) 0) (get_or s (j + 3) 0)) && names_behind (drop (j + 1) s)
unfolding names_behind
names_at s j h =
    let a : j + 2 ≡ suc (suc j) = omega arith in
    let b : j + 3 ≡ suc (suc (suc j)) = omega arith in
    rw (a, b, add-one, drop-cons s j 0 (omega arith), drop-cons s (suc j) 0 (omega arith), drop-cons s (suc (suc j)) 0 (omega arith), drop-cons s (suc (suc (suc j))) 0 (omega arith)) refl

module _ (s : Text) (i : ℕ) where
  pub behind_next : 3 ≤ i → i < length s → behind s i ≡ not (eqb (get_or s (i - 3) 0) slash && nameless (get_or s (i - 2) 0) (get_or s (i - 1) 0) (get_or s i 0)) && behind s (i + 1)
  behind_next l h =
      let x : i - 3 + 1 ≡ i - 2 = omega arith in
      let y : i - 3 + 2 ≡ i - 1 = omega arith in
      let z : i - 3 + 3 ≡ i = omega arith in
      let n : i - 2 ≡ i + 1 - 3 = omega arith in
      rw (← n) (rw (x, y, z) at (names_at s (i - 3) (omega arith)))

  -- slash by slash: what is behind i is cut as the code cuts it
  abbrev pub tail : Text
  tail = take (length s - (i + 1)) (drop (i + 1) s)

  pub ends_next : i < length s → names_behind (drop i s) ≡ not (eqb (get_or s i 0) slash && nameless (get_or tail 0 slash) (get_or tail 1 slash) (get_or tail 2 slash)) && names_behind (drop (i + 1) s)
  unfolding names_behind
  ends_next h = rw (from_some s (i + 1), add-one, drop-cons s i 0 h) refl

  pub ends_all : length s ≤ i → names_behind (drop i s) ≡ true
  unfolding names_behind
  ends_all h = rw (drop_of_length-le s h) refl
