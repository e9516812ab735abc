use Rattle.glob.specs.Verdicts.{Ahead}
use Rattle.glob.proofs.reach.Given as goal

abbrev pub invariant-loop-i : goal.invariant-loop-i
invariant-loop-i l = Ahead l.i l.p l.s
