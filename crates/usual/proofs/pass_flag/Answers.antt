use mathlib.Core.Path.{ap}
use native.Mathlib.Omega.{arith}
use Prim.Native.Nat.{ℕ, ◌+◌}
use Rattle.usual.specs.Usual.{still}
use Rattle.usual.proofs.Passing.{once_taken}
use Rattle.usual.proofs.Flags.{flag_on}
use Rattle.usual.proofs.pass_flag.Goals as goal

pub returns-then-part-at-lt-FLAG_STRIDE : goal.returns-then-part-at-lt-FLAG_STRIDE
returns-then-part-at-lt-FLAG_STRIDE c = λ text. still

pub returns : goal.returns
returns c =
    let a = c.args in
    let o = c.pass_once.ensures in
    λ text. once_taken a.part.now text a.tally.now.counts a.tally.now.last a.at _ _ o.counts_after _ _ o.last_after _ _ o.value
    (flag_on a.part.now a.at c.requires.at_in_bounds.1 c.if-part-at-lt-FLAG_STRIDE.false (omega arith) c.if-part-at-gt1.false text a.tally.now.counts a.tally.now.last _ (ap (λ (i : ℕ). 21 + i) c.from-k.ensures) c.requires.begun)
