use borrow.Author.Tests.{eq-eqb, ne_eqb}
use Rattle.book.specs.State.{pushed}
use Rattle.faults.proofs.Tally.push.Goals.{then-c-eq-KEY, else-c-eq-KEY}
use Rattle.faults.proofs.Tally.push.Goals as goal

pub returns-clause-counts_after : goal.returns-clause-counts_after
unfolding pushed
returns-clause-counts_after c =
    elim c.if-c-eq-KEY.branch [
      | then-c-eq-KEY w ↦ rw w.self-is (simp (eq-eqb _ _ w.if-c-eq-KEY.true))
      | else-c-eq-KEY w ↦ rw w.self-is (simp (ne_eqb _ _ w.if-c-eq-KEY.false))
    ]
