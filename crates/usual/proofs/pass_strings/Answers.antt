use mathlib.Core.Logic.{inl, inr}
use Rattle.std.proofs.Common.{rules, arith}
use Rattle.usual.proofs.Most.{items_open, roots_open, extends_open, references_open, once_open, targets_open, stands, once_here}
use Rattle.usual.proofs.Runs.{own_of_pattern, own_of_lead, own_of_none}
use Rattle.usual.proofs.pass_strings.Goals.{in-9-1, in_default+else-op-lt15+then-op-lt18}
use Rattle.usual.proofs.pass_strings.Goals as goal

pub pass_run-requires-clause-open : goal.pass_run-requires-clause-open
pass_run-requires-clause-open c = items_open _ _ _ (inl c.in-3.is) (rw c.in-3.is (rw c.from.ensures at (stands _ _ c.has.ensures c.if-has.true)))

pub pass_run-requires-clause-rule : goal.pass_run-requires-clause-rule
pass_run-requires-clause-rule c = λ start len r h e. own_of_none _ _ (inl c.in-3.is) r e

pub pass_run-requires-in-5-clause-open : goal.pass_run-requires-in-5-clause-open
pass_run-requires-in-5-clause-open c = items_open _ _ _ (inr c.in-5.is) (search (rules, c.if-has-2.ensures))

pub pass_run-requires-in-5-clause-rule : goal.pass_run-requires-in-5-clause-rule
pass_run-requires-in-5-clause-rule c = λ start len r h e. own_of_pattern _ _ c.in-5.is r (search rules)

pub pass_run-requires-in-15-clause-open : goal.pass_run-requires-in-15-clause-open
pass_run-requires-in-15-clause-open c = roots_open _ _ _ c.in-15.is (search (rules, c.if-has-3.ensures))

pub pass_run-requires-in-15-clause-rule : goal.pass_run-requires-in-15-clause-rule
pass_run-requires-in-15-clause-rule c = λ start len r h e. own_of_none _ _ (inr (inl c.in-15.is)) r e

pub pass_run-requires-in-8-clause-open : goal.pass_run-requires-in-8-clause-open
pass_run-requires-in-8-clause-open c = extends_open _ _ _ c.in-8.is c.requires.begun

pub pass_run-requires-in-8-clause-rule : goal.pass_run-requires-in-8-clause-rule
pass_run-requires-in-8-clause-rule c = λ start len r h e. own_of_lead _ _ (inl c.in-8.is) r (search rules)

pub pass_run-requires-in-13-clause-open : goal.pass_run-requires-in-13-clause-open
pass_run-requires-in-13-clause-open c = references_open _ _ _ c.in-13.is c.requires.begun

pub pass_run-requires-in-13-clause-rule : goal.pass_run-requires-in-13-clause-rule
pass_run-requires-in-13-clause-rule c = λ start len r h e. own_of_lead _ _ (inr c.in-13.is) r (search rules)

pub pass_run-requires-in-12-clause-open : goal.pass_run-requires-in-12-clause-open
pass_run-requires-in-12-clause-open c = rw c.in-12.is (targets_open _ _ _ c.does_follow.ensures c.if-does_follow.true (stands _ _ c.has-then-does_follow.ensures c.if-has-4.true))

pub pass_run-requires-in-12-clause-rule : goal.pass_run-requires-in-12-clause-rule
pass_run-requires-in-12-clause-rule c = λ start len r h e. own_of_none _ _ (inr (inr (inl c.in-12.is))) r e

pub pass_run-requires-in-9-clause-open : goal.pass_run-requires-in-9-clause-open
pass_run-requires-in-9-clause-open c =
    elim c.in-9-1.branch [
      | in-9-1 w ↦ once_open _ _ _ (once_here c.args.op (λ a b d. omega (arith, a, b, d))) c.requires.begun
      | in_default+else-op-lt15+then-op-lt18 w ↦ once_open _ _ _ (once_here c.args.op (λ a b d. omega (arith, a, b, d))) c.requires.begun
    ]

pub pass_run-requires-in-9-clause-rule : goal.pass_run-requires-in-9-clause-rule
pass_run-requires-in-9-clause-rule c = λ start len r h e.
    elim c.in-9-1.branch [
      | in-9-1 w ↦ own_of_none _ _ (inr (inr (inr (once_here c.args.op (λ a b d. omega (arith, a, b, d)))))) r e
      | in_default+else-op-lt15+then-op-lt18 w ↦ own_of_none _ _ (inr (inr (inr (once_here c.args.op (λ a b d. omega (arith, a, b, d)))))) r e
    ]
