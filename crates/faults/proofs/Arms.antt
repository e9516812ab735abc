-- The rules of their own that strings have, as the arms of a match. Assumes nothing.
use mathlib.Core.Path.{◌≡◌, refl}
use mathlib.Core.List.{[], ◌∷◌}
use mathlib.Core.Bool.{true}
use mathlib.Core.Logic.{inl, inr}
use Prim.Native.Nat.{ℕ}
use types.Run.{OneOf}
use borrow.Author.Tests.{ne_eqb}
use Rattle.text.specs.Bytes.{Text}
use Rattle.path_rules.specs.Paths.{record_path, lead_rule}
use Rattle.patterns.specs.Patterns.{pattern_rule}
use Rattle.book.specs.Command.{begin}
use Rattle.book.specs.Rules.{own_rule}

-- the rule of its own that a string has
module _ (op : ℕ) (s : Text) where
  pub own_pattern : OneOf (5 ∷ 7 ∷ []) op → pattern_rule s ≡ own_rule op s
  unfolding own_rule
  own_pattern (inl e) = rw e refl
  own_pattern (inr e) = rw e refl

  pub own_lead : OneOf (8 ∷ 13 ∷ []) op → lead_rule s ≡ own_rule op s
  unfolding own_rule
  own_lead (inl e) = rw e refl
  own_lead (inr e) = rw e refl

  pub own_begin : op ≡ begin → record_path s ≡ own_rule op s
  unfolding own_rule
  own_begin e = rw e refl

  pub own_none : (op ≡ begin → ⊥) → (OneOf (5 ∷ 7 ∷ []) op → ⊥) → (OneOf (8 ∷ 13 ∷ []) op → ⊥) → true ≡ own_rule op s
  unfolding own_rule
  own_none n a b =
      rw (ne_eqb op 1 n, ne_eqb op 8 (λ e. b (inl e)), ne_eqb op 13 (λ e. b (inr e)), ne_eqb op 5 (λ e. a (inl e)), ne_eqb op 7 (λ e. a (inr e))) refl
