-- The numbers of refusals: 1 to 13, so that 0 stands for an answer.
use Rattle.std.specs.Prelude.{ℕ, ◌≤◌}
use Rattle.std.specs.Prelude.{Option, Some, None}
use Rattle.book.specs.Answer.{Answer, refused, given}

-- a number of document 01's table
abbrev pub InTable : ℕ → Type 0
InTable k = (1 ≤ k) × (k ≤ 13)

-- if it refuses, then by a number of the table
abbrev pub Numbered : {A : Type 0} → Answer A → Type 0
Numbered (refused k p) = InTable k
Numbered (given a) = Unit {0}

-- if there is a refusal, it is one of the table
abbrev pub NumberedIf : Option ℕ → Type 0
NumberedIf None = Unit {0}
NumberedIf (Some k) = InTable k
