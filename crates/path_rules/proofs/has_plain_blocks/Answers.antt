use Rattle.std.proofs.Common.{length, ◌-◌, arith}
use Rattle.path_rules.proofs.Places.{block_next, plain_whole}
use Rattle.path_rules.proofs.has_plain_blocks.Goals as goal

pub loop-at-preserved : goal.loop-at-preserved
loop-at-preserved c = block_next c.args.s.now c.loop-at.at c.loop-at.invariant c.loop-at.at (c.is_block_plain.ensures c.if-not-is_block_plain.false) (omega arith)

pub returns : goal.returns
returns c t = plain_whole c.args.s.now c.loop-at.at c.loop-at.invariant (length c.args.s.now - 17) (c.is_block_plain-2.ensures t) (omega arith) (omega arith)
