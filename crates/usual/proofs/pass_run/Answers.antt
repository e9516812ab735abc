use Rattle.std.proofs.Common.{rules, arith}
use Rattle.usual.proofs.Passing.{run_none, run_more, small}
use Rattle.usual.proofs.Runs.{item_good}
use Rattle.usual.proofs.pass_run.Goals as goal

pub loop-tally-init : goal.loop-tally-init
loop-tally-init g c = run_none _ _ _ _ _ _ c.requires.open (search rules) c.requires.place

pub bounds-tally-k : goal.bounds-tally-k
bounds-tally-k g c = omega (arith, c.from-k.ensures, small c.requires.open)

pub bounds-tally-k-in-loop-tally : goal.bounds-tally-k-in-loop-tally
bounds-tally-k-in-loop-tally g c = omega (arith, c.from-k.ensures, small c.requires.open)

pub bounds-tally-k-in-loop-tally-2 : goal.bounds-tally-k-in-loop-tally-2
bounds-tally-k-in-loop-tally-2 g c = omega (arith, c.from-k.ensures, small c.requires.open)

pub loop-tally-preserved : goal.loop-tally-preserved
loop-tally-preserved g c =
    let a = c.args in
    let plain = a.text.now.known_plain (search rules) in
    let own = c.requires.rule c.word_at-start.result c.word_at-len.result c.keeps.result (omega arith) c.keeps.ensures in
    let good = item_good a.part.now c.loop-tally.to a.text.now.bytes.now a.op plain (omega arith) c.if-part-to.true
    c.word_at-start.result c.word_at-start.ensures c.word_at-len.result c.word_at-len.ensures (omega arith) (omega arith)
    c.keeps.result own c.if-not-keeps.false in
    rw c.from-k.ensures
    (run_more a.part.now a.text.now.bytes.now a.tally.now.counts a.tally.now.last a.at a.op c.requires.open c.loop-tally.invariant (omega arith) c.if-part-to.true good
    (rw c.from-k.ensures at c.loop-tally-test.true))
