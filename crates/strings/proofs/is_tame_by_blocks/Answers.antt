use Rattle.std.proofs.Common.{◌-◌, length, drop, ◌∙◌, arith}
use Rattle.text.proofs.Parts.{from_some}
use Rattle.strings.specs.Scan.{tame_text}
use Rattle.strings.proofs.Blocks.{last_block, next_block, blocks_end}
use Rattle.strings.proofs.is_tame_by_blocks.Goals as goal

pub loop-i-init : goal.loop-i-init
loop-i-init c =
    let s = c.args.s.now in
    (omega arith, c.seen_in_block-seen.ensures ∙ last_block s _ c.requires (from_some s (length s - 64)))

pub loop-i-preserved : goal.loop-i-preserved
loop-i-preserved c =
    let s = c.args.s.now in
    let i = c.loop-i.i in
    (omega arith, c.seen_in_both-seen.ensures ∙ rw (c.loop-i.invariant.1, c.seen_in_block.ensures) (next_block s _ i (tame_text (drop (length s - 64) s)) (from_some s i)))

pub returns : goal.returns
returns c =
    let s = c.args.s.now in
    c.is_seen_tame.ensures ∙ c.loop-i.invariant.1 ∙ blocks_end s (length s - 64) c.loop-i.i (omega arith)
