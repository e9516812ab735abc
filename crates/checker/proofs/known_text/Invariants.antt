use Rattle.checker.proofs.Plain.{Looked}
use Rattle.checker.proofs.known_text.Given as goal

abbrev pub invariant-loop-i : goal.invariant-loop-i
invariant-loop-i l = Looked l.bytes l.tame l.parts l.i
