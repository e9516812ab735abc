use mathlib.Core.Path.{sym}
use mathlib.Core.Bool.{true≢false}
use Rattle.checker.proofs.Plain.{none_noted}
use Rattle.checker.proofs.unknown.Goals as goal

pub invariant_of-result : goal.invariant_of-result
invariant_of-result c = record { known_plain = λ e. absurd (true≢false (sym e)); known = λ e. absurd (true≢false (sym e)); known_parts = λ i e. none_noted 129 _ i e }
