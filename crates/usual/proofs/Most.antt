-- Of which commands there may be some now, by the arms of the code. Assumes nothing.
use mathlib.Core.Path.{◌≡◌, refl, sym, ◌∙◌}
use Rattle.std.proofs.lemmas.Bool.{and_parts, or_parts}
use mathlib.Core.List.{List, [], ◌∷◌}
use mathlib.Core.Bool.{Bool, true, not, ◌&&◌, ◌||◌, or-true}
use Prim.Native.Nat.{ℕ, ◌-◌, ◌≤◌, ◌<◌}
use native.Mathlib.Omega.{arith}
use lib.ListN.{get_or}
use lib.Dec.{T, eqb}
use types.Run.{OneOf}
use mathlib.Core.Logic.{inl, inr}
use borrow.Author.Tests.{ne_eqb, eqb-true, eqb-false, not-true}
use Rattle.text.proofs.Picks.{by_test}
use Rattle.book.specs.Command.{begin, key, target, width_of}
use Rattle.book.specs.Rules.{openers, limits}
use Rattle.book.specs.State.{has}
use Rattle.book.proofs.Table.{every, at_keys}
use Rattle.faults.proofs.Keeps.{limits_small}
use Rattle.usual.specs.Usual.{most_of, Open}

pub most_small : (op : ℕ) → op < 21 → most_of op ≤ 64
most_small op h = by_test (eqb (get_or limits op 0) 0) (λ e. rw e (omega arith)) (λ e. rw e (limits_small op h))

-- behind an opener that is the byte f of the command's, at most m
unfoldable armed : (ℕ → ℕ) → ℕ → ℕ → Bool
armed f m k =
    eqb (width_of k) 4 && (not (eqb k begin || eqb k key) && (not (eqb k target) && (eqb (get_or openers k 0) (f k) && eqb (most_of k) m)))

module _ (ns : List ℕ) (last : ℕ) where
  opened : (n : ℕ) → (has ns n ≡ 0 → ⊥) → (eqb n 0 || not (eqb (has ns n) 0)) ≡ true
  opened n h = rw (ne_eqb (has ns n) 0 h) (or-true (eqb n 0))

  open_keys : (f : ℕ → ℕ) (m : ℕ) (ks : List ℕ) → T (every (λ i k. armed f m k) 0 ks) → (op : ℕ) → OneOf ks op → (has ns (f op) ≡ 0 → ⊥) → Open ns last op m
  unfolding armed
  open_keys f m ks t op h z =
      let a : armed f m op ≡ true = at_keys (armed f m) ks t op h in
      let a₂ = (and_parts (eqb (width_of op) 4) _ a).1 in
      let a₃ = (and_parts (not (eqb op begin || eqb op key)) _ a₂).1 in
      let a₄ = (and_parts (not (eqb op target)) _ a₃).1 in
      let n = or_parts (eqb op begin) (eqb op key) (not-true _ (and_parts (not (eqb op begin || eqb op key)) _ a₂).0) in
      let t = (and_parts (not (eqb op target)) _ a₃).0 in
      let q = eqb-true (get_or openers op 0) (f op) (and_parts (eqb (get_or openers op 0) (f op)) _ a₄).0 in
      record {
        width = eqb-true (width_of op) 4 (and_parts (eqb (width_of op) 4) _ a).0;
        no_begin = eqb-false op begin n.0;
        no_key = eqb-false op key n.1;
        follow = rw t refl;
        unlocked = rw q (opened (f op) z);
        limit = sym (eqb-true (most_of op) m (and_parts (eqb (get_or openers op 0) (f op)) _ a₄).1);
      }

  pub items_open : (op : ℕ) → OneOf (3 ∷ 5 ∷ 7 ∷ []) op → (has ns (op - 1) ≡ 0 → ⊥) → Open ns last op 64
  unfolding width_of armed
  items_open = open_keys (λ k. k - 1) 64 (3 ∷ 5 ∷ 7 ∷ []) tt

  pub roots_open : (op : ℕ) → OneOf (15 ∷ []) op → (has ns 14 ≡ 0 → ⊥) → Open ns last op 8
  unfolding width_of armed
  roots_open = open_keys (λ k. 14) 8 (15 ∷ []) tt

  pub extends_open : (op : ℕ) → OneOf (8 ∷ []) op → (has ns 1 ≡ 0 → ⊥) → Open ns last op 8
  unfolding width_of armed
  extends_open = open_keys (λ k. 1) 8 (8 ∷ []) tt

  pub references_open : (op : ℕ) → OneOf (13 ∷ []) op → (has ns 1 ≡ 0 → ⊥) → Open ns last op 16
  unfolding width_of armed
  references_open = open_keys (λ k. 1) 16 (13 ∷ []) tt

  pub once_open : (op : ℕ) → OneOf (9 ∷ 16 ∷ 17 ∷ []) op → (has ns 1 ≡ 0 → ⊥) → Open ns last op 1
  unfolding width_of armed
  once_open = open_keys (λ k. 1) 1 (9 ∷ 16 ∷ 17 ∷ []) tt

  pub targets_open : (b : Bool) → b ≡ (not (eqb 12 target) || (eqb last key || eqb last target)) → b ≡ true → (has ns 11 ≡ 0 → ⊥) → Open ns last 12 8
  unfolding width_of
  targets_open b e f h =
      record {
        width = refl;
        no_begin = λ e. absurd (omega (arith, e));
        no_key = λ e. absurd (omega (arith, e));
        follow = sym e ∙ f;
        unlocked = opened 11 h;
        limit = refl;
      }

-- what a test of the tally tells
pub stands : (n : ℕ) (b : Bool) → b ≡ not (eqb n 0) → b ≡ true → n ≡ 0 → ⊥
stands n b e f = eqb-false n 0 (not-true (eqb n 0) (sym e ∙ f))

-- one of those that come once
pub once_here : (op : ℕ) → ((op ≡ 9 → ⊥) → (op ≡ 16 → ⊥) → (op ≡ 17 → ⊥) → ⊥) → OneOf (9 ∷ 16 ∷ 17 ∷ []) op
once_here op f =
    by_test (eqb op 9)
    (λ e. inl (eqb-true op 9 e))
    (λ e. by_test (eqb op 16)
    (λ g. inr (inl (eqb-true op 16 g)))
    (λ g. by_test (eqb op 17)
    (λ h. inr (inr (eqb-true op 17 h)))
    (λ h. absurd (f (eqb-false op 9 e) (eqb-false op 16 g) (eqb-false op 17 h)))))
