-- Paths that are `./` and one name: what they mean from a directory. Assumes nothing.
use mathlib.Core.Path.{◌≡◌, refl, sym, ap, ◌∙◌}
use Rattle.std.proofs.lemmas.Bool.{and_parts}
use mathlib.Core.List.{List, [], ◌∷◌}
use mathlib.Core.Bool.{Bool, true, false, not, cond, true≢false}
use Rattle.std.specs.Prelude.{Option, Some, None, is_some}
use Prim.Native.Nat.{ℕ, ◌<◌, ◌≤◌}
use native.Mathlib.Omega.{arith}
use lib.Dec.{eqb}
use lib.ListN.{length, get_or, drop}
use borrow.Author.Tests.{eq-eqb, ne_eqb, eqb-true, eqb-false, not-true}
use Rattle.text.specs.Bytes.{Text, slash, dot}
use Rattle.text.specs.Text as text
use Rattle.text.proofs.Picks.{by_test}
use Rattle.components.specs.Components.{on_first, split, piece_of}
use Rattle.components.specs.declared.Piece.TheVariants.{Name}
use Rattle.components.proofs.Pieces.{piece_name, pieces_one}
use Rattle.join.specs.Join.{push_of, step_by, step_of, walk_of, normalize_with}
use Rattle.book.specs.Find.{find, locate}
use Rattle.records.proofs.Paths.{locate_own}
use Rattle.entries.specs.Entries.{is_nothing, is_beside}

-- the tests in their order

pub beside_short : (s : Text) → length s < 3 → false ≡ is_beside s
unfolding is_beside
beside_short [] h = refl
beside_short (a ∷ []) h = refl
beside_short (a ∷ b ∷ []) h = refl
beside_short (a ∷ b ∷ c ∷ s) h = absurd (omega (arith, h))

-- by its first three bytes, and by what follows them
by_three : (P : Text → Type 0) → ((a b c : ℕ) (t : Text) → P (a ∷ b ∷ c ∷ t)) → (s : Text) → 3 ≤ length s → P s
by_three P f [] h = absurd (omega (arith, h))
by_three P f (a ∷ []) h = absurd (omega (arith, h))
by_three P f (a ∷ b ∷ []) h = absurd (omega (arith, h))
by_three P f (a ∷ b ∷ c ∷ t) h = f a b c t

module _ (s : Text) (h : 3 ≤ length s) where
  pub beside_bare : (get_or s 0 0 ≡ dot → ⊥) → false ≡ is_beside s
  unfolding is_beside
  beside_bare = by_three (λ s. (get_or s 0 0 ≡ dot → ⊥) → false ≡ is_beside s) (λ a b c t n. rw (ne_eqb a dot n) refl) s h

  module _ (d : get_or s 0 0 ≡ dot) where
    pub beside_other : (get_or s 1 0 ≡ slash → ⊥) → false ≡ is_beside s
    unfolding is_beside
    beside_other = by_three (λ s. get_or s 0 0 ≡ dot → (get_or s 1 0 ≡ slash → ⊥) → false ≡ is_beside s) (λ a b c t e n. rw (eq-eqb a dot e, ne_eqb b slash n) refl) s h d

    module _ (l : get_or s 1 0 ≡ slash) where
      pub beside_dot : get_or s 2 0 ≡ dot → false ≡ is_beside s
      unfolding is_beside
      beside_dot = by_three (λ s. get_or s 0 0 ≡ dot → get_or s 1 0 ≡ slash → get_or s 2 0 ≡ dot → false ≡ is_beside s) (λ a b c t e f g. rw (eq-eqb a dot e, eq-eqb b slash f, eq-eqb c dot g) refl) s h d l

      pub beside_name : (get_or s 2 0 ≡ dot → ⊥) → (t : Text) → t ≡ drop 2 s → (o : Option ℕ) → o ≡ text.find slash t → (b : Bool) → is_some o ≡ not b → b ≡ is_beside s
      unfolding is_beside
      beside_name n t q o i b j =
          none b o j
          ∙ ap is_nothing (i ∙ ap (text.find slash) q)
          ∙ by_three (λ s. get_or s 0 0 ≡ dot → get_or s 1 0 ≡ slash → (get_or s 2 0 ≡ dot → ⊥) → is_nothing (text.find slash (drop 2 s)) ≡ is_beside s) (λ a b c t e f g. rw (eq-eqb a dot e, eq-eqb b slash f, ne_eqb c dot g) refl) s h d l n
        where
          none : (b : Bool) (o : Option ℕ) → is_some o ≡ not b → b ≡ is_nothing o
          none true None j = refl
          none true (Some x) j = absurd (true≢false j)
          none false None j = absurd (true≢false (sym j))
          none false (Some x) j = refl

-- whichever fails, from its length and its bytes
pub ruleset besides = (beside_short, beside_bare, beside_other, beside_dot)

-- what it means

nothing : (o : Option ℕ) → is_nothing o ≡ true → None ≡ o
nothing (Some i) e = absurd (true≢false (sym e))
nothing None e = refl

beside_means : (d t : Text) → None ≡ text.find slash t → Name ≡ piece_of t → normalize_with d (dot ∷ slash ∷ t) ≡ push_of d t
unfolding normalize_with split on_first walk_of step_of step_by piece_of
beside_means d t n u = rw (pieces_one t n, ← u) refl

beside_path : (d s : Text) → is_beside s ≡ true → normalize_with d s ≡ push_of d (drop 2 s)
unfolding is_beside
beside_path d [] b = absurd (true≢false (sym b))
beside_path d (x ∷ []) b = absurd (true≢false (sym b))
beside_path d (x ∷ y ∷ []) b = absurd (true≢false (sym b))
beside_path d (x ∷ y ∷ z ∷ t) b =
    let e : x ≡ dot = eqb-true x dot (and_parts (eqb x dot) _ b).0 in
    let l = (and_parts (eqb x dot) _ b).1 in
    let f : y ≡ slash = eqb-true y slash (and_parts (eqb y slash) _ l).0 in
    let m = (and_parts (eqb y slash) _ l).1 in
    let g : eqb z dot ≡ false = not-true (eqb z dot) (and_parts (not (eqb z dot)) _ m).0 in
    rw (e, f) (beside_means d (z ∷ t) (nothing (text.find slash (z ∷ t)) (and_parts (not (eqb z dot)) _ m).1) (piece_name (z ∷ t) (omega arith) (eqb-false z dot g)))

-- the record that is found so

module _ (paths : List Text) (dir s : Text) where
  pub meant_beside : (r : Option ℕ) → r ≡ cond (is_beside s) (find (push_of dir (drop 2 s)) paths) None → (i : ℕ) → r ≡ Some i → Some i ≡ locate paths (normalize_with dir s)
  meant_beside r e i y =
      by_test (is_beside s)
      (λ t. locate_own paths (normalize_with dir s) r (e ∙ (rw t (ap (λ (p : Text). find p paths) (sym (beside_path dir s t))))) i y)
      (λ f. let z : Some i ≡ None = sym y ∙ e ∙ (rw f refl) in let w : ◌≡◌ {A = ℕ} 0 1 = cc in absurd (omega (arith, w)))
