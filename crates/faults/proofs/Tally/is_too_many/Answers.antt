use mathlib.Core.Path.{refl}
use Rattle.std.proofs.Common.{rules, tests}
use Rattle.book.specs.State.{has}
use Rattle.faults.proofs.Keeps.{slotted_some, slot_small, many_few, many_by}
use Rattle.faults.proofs.Tally.is_too_many.Goals as goal

pub bounds-self-k : goal.bounds-self-k
bounds-self-k c = slot_small c.args.c c.requires.0 c.requires.1.0

pub returns-then-m-lt-FEWEST : goal.returns-then-m-lt-FEWEST
returns-then-m-lt-FEWEST c = λ n. many_few (has c.args.self.now.counts) 0 c.args.c _ refl n _ c.args.k c.requires.1.1 c.requires.0 (slotted_some c.args.c c.requires.1.0).1 refl c.if-m-lt-FEWEST.true

pub returns : goal.returns
returns c = λ n. many_by (has c.args.self.now.counts) 0 c.args.c _ refl n c.args.k c.requires.1.1 (slotted_some c.args.c c.requires.1.0).1 _ c.limit_of.ensures _ _ c.is_some_and.ensures (λ x p. search (rules, tests))
