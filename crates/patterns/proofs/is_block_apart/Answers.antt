use Rattle.std.proofs.Common.{sym, ◌∙◌}
use Rattle.patterns.proofs.Blocks.{bits_none, bits_some}
use Rattle.patterns.proofs.is_block_apart.Goals as goal

pub returns-then-bits-eq0 : goal.returns-then-bits-eq0
returns-then-bits-eq0 c = rw c.if-bits-eq0.true (bits_none c.args.s.now c.args.n c.requires.1 (sym c.crowds-bits.ensures ∙ c.if-bits-eq0.true))

pub returns-else-bits-eq0 : goal.returns-else-bits-eq0
returns-else-bits-eq0 c = rw c.crowds-bits.ensures (bits_some c.args.s.now c.args.n c.requires.1 (λ e. c.if-bits-eq0.false (c.crowds-bits.ensures ∙ e)))
