use Rattle.std.proofs.Common.{◌+◌, refl, arith}
use Rattle.text.proofs.Parts.{from_some}
use Rattle.patterns.proofs.Blocks.{blocks_none, blocks_next, blocks_end}
use Rattle.patterns.proofs.has_blocks_apart.Goals as goal

pub loop-i-init : goal.loop-i-init
loop-i-init c = refl

pub returns-then-not-is_block_apart : goal.returns-then-not-is_block_apart
returns-then-not-is_block_apart c =
    let s = c.args.s.now in
    let i = c.loop-i.i in
    blocks_none s c.args.len i c.loop-i.invariant (omega arith) _ (from_some s i) _ c.is_block_apart.ensures c.if-not-is_block_apart.true

pub loop-i-preserved : goal.loop-i-preserved
loop-i-preserved c =
    let s = c.args.s.now in
    let i = c.loop-i.i in
    blocks_next s c.args.len i c.loop-i.invariant (omega arith) _ (from_some s i) _ c.is_block_apart.ensures c.if-not-is_block_apart.false

pub returns : goal.returns
returns c = blocks_end c.args.s.now c.args.len c.loop-i.i c.loop-i.invariant (omega arith)

-- the last turn's block ends at the last place or behind it
pub returns-else-not-is_block_apart : goal.returns-else-not-is_block_apart
returns-else-not-is_block_apart c =
    let s = c.args.s.now in
    let i = c.loop-i.i in
    blocks_end s c.args.len (i + 16) (blocks_next s c.args.len i c.loop-i.invariant (omega arith) _ (from_some s i) _ c.is_block_apart.ensures c.if-not-is_block_apart.false) (omega arith)
