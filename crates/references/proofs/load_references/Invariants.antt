use Rattle.record.specs.Lists.{strings_left}
use Rattle.references.proofs.Refers.{Referring}
use Rattle.references.proofs.load_references.Given as goal

abbrev pub invariant-loop-s : goal.invariant-loop-s
invariant-loop-s l = Referring l.initial.loads l.c l.loads l.refs (strings_left l.s-iterator) l.count
