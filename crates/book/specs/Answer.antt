-- What a step answers: a refusal, by its number and place, or what it gives. Steps are put together by `do`.
use Rattle.std.specs.Prelude.{Option, Some, None}
use Rattle.std.specs.Prelude.{ℕ}

-- "A refusal is its number and a place"
pub data Answer (A : Type 0) : Type 0 where
  refused : ℕ → ℕ → Answer A
  given : A → Answer A

module _ {A : Type 0} where
  -- the next step, which a refusal ends
  infixl 20 ◌>>=◌
  abbrev pub ◌>>=◌ : {C : Type 0} → Answer A → (A → Answer C) → Answer C
  ◌>>=◌ (refused n p) k = refused n p
  ◌>>=◌ (given a) k = k a

  -- the refusal at the place, if there is one, else what comes next, which is handed s
  abbrev pub unless : {S : Type 0} → Option ℕ → ℕ → (S → Answer A) → S → Answer A
  unless (Some n) p k s = refused n p
  unless None p k s = k s
