use Rattle.std.proofs.Common.{◌≡◌, ◌<◌, ◌≤◌, ◌-◌, ◌+◌, ℕ, false, length, arith}
use Rattle.meeting.specs.Files.{file_above}
use Rattle.meeting.proofs.Files.{block_next, none_whole}
use Rattle.meeting.proofs.has_no_file_above.Goals.{else-loop-i-test, then-loop-i-test+else-not-has_none_in_block+else-n-i-gt16}
use Rattle.meeting.proofs.has_no_file_above.Goals as goal

pub loop-i-preserved : goal.loop-i-preserved
loop-i-preserved c = block_next c.args.s.now c.loop-i.i c.loop-i.invariant c.loop-i.i (c.has_none_in_block.ensures c.if-not-has_none_in_block.false) (omega arith)

-- the last turn ends at n or behind it, or its block reaches there
pub returns : goal.returns
returns c t =
    let s = c.args.s.now in
    let i = c.loop-i.i in
    let n = length s - 19 in
    let whole = λ (k : ℕ) (h : n ≤ k) (inv : (j : ℕ) → j < k → file_above s j ≡ false). none_whole s k inv n (c.has_none_in_block-2.ensures t) h (omega arith) in
    elim c.loop-i-test.branch [
      | else-loop-i-test w ↦ whole i (omega arith) c.loop-i.invariant
      | then-loop-i-test+else-not-has_none_in_block+else-n-i-gt16 w ↦ whole (i + 16) (omega arith) (block_next s i c.loop-i.invariant i (w.has_none_in_block.ensures w.if-not-has_none_in_block.false) (omega arith))
    ]
