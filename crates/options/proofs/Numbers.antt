-- A line with a name and an id. Assumes nothing.
use Rattle.std.proofs.Common.{◌≡◌, ℕ, ◌+◌, ◌-◌, ◌<◌, ◌≤◌, [], ◌∷◌, ◌++◌, Option, Some, None, Bor, option_copied, refl, ap, arith}
use mathlib.Core.List.{append_assoc}
use borrow.Author.Tests.{lt-ltb, le-ltb}
use Rattle.text.specs.Bytes.{Text}
use Rattle.tsconfig.specs.Listing.{row, decimal, if_named}
use Rattle.lines.specs.Lines.{valued}
use Rattle.options.specs.Options.{option_line}

module _ (name : Text) (id : ℕ) (value : Option (Bor Text)) where
  pub line_unset : value ≡ None → option_line name id (option_copied value) ≡ []
  unfolding option_line if_named
  line_unset e = rw e refl

  pub line_set : (v : Bor Text) → value ≡ Some v → option_line name id (option_copied value) ≡ name ++ (decimal id ++ valued v.now)
  unfolding option_line if_named row
  line_set v e = rw e (append_assoc name (decimal id) (valued v.now))

pub decimal_low : (id : ℕ) → id < 10 → decimal id ≡ (48 + id) ∷ []
unfolding decimal
decimal_low id l = rw (lt-ltb id 10 l)

pub decimal_high : (id : ℕ) → 10 ≤ id → decimal id ≡ 49 ∷ (48 + (id - 10)) ∷ []
unfolding decimal
decimal_high id g =
    let e : 38 + id ≡ 48 + (id - 10) = omega (arith, g) in
    rw (le-ltb id 10 g) (ap (λ (d : ℕ). 49 ∷ d ∷ []) e)
