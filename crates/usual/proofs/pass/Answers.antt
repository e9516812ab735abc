use mathlib.Core.Path.{refl, sym}
use native.Mathlib.Omega.{arith}
use Rattle.book.specs.Command.{width_of}
use Rattle.usual.specs.Usual.{still, passed, behind}
use Rattle.usual.proofs.Passing.{once_taken, lone_on}
use Rattle.usual.proofs.Keys.{none_there, keyed_place, keyed_begun}
use Rattle.usual.proofs.pass.Goals as goal

pub returns-then-part-at : goal.returns-then-part-at
returns-then-part-at c = none_there c.args.part.now c.args.at c.args.text.now.bytes.now c.args.tally.now.counts c.args.keys.now c.args.tally.now.last c.if-part-at.true

pub pass_strings-requires-clause-place : goal.pass_strings-requires-clause-place
pass_strings-requires-clause-place c = keyed_place c.pass_key-next.ensures (omega arith)

pub pass_strings-requires-clause-begun : goal.pass_strings-requires-clause-begun
pass_strings-requires-clause-begun c = keyed_begun c.pass_key-next.ensures c.requires.begun

pub pass_list-requires-clause-alone : goal.pass_list-requires-clause-alone
unfolding width_of
pass_list-requires-clause-alone c = (refl, λ e. absurd (omega (arith, e)))

pub pass_list-requires-in-4-clause-alone : goal.pass_list-requires-in-4-clause-alone
unfolding width_of
pass_list-requires-in-4-clause-alone c = (refl, λ e. absurd (omega (arith, e)))

pub pass_list-requires-in-6-clause-alone : goal.pass_list-requires-in-6-clause-alone
unfolding width_of
pass_list-requires-in-6-clause-alone c = (refl, λ e. absurd (omega (arith, e)))

pub pass_list-requires-in-14-clause-alone : goal.pass_list-requires-in-14-clause-alone
unfolding width_of
pass_list-requires-in-14-clause-alone c = (refl, λ e. absurd (omega (arith, e)))

pub returns-then-next-at : goal.returns-then-next-at
returns-then-next-at c = rw c.if-next-at.true at (behind c.pass_key-next.ensures still)

pub returns-else-next-at : goal.returns-else-next-at
returns-else-next-at c = behind c.pass_key-next.ensures c.pass_strings.ensures

pub returns-in-18 : goal.returns-in-18
returns-in-18 c = passed (λ e. absurd (omega (arith, c.in-18.is, e))) (c.pass_flag.ensures c.args.text.now.bytes.now)

pub returns-in-19 : goal.returns-in-19
returns-in-19 c = passed (λ e. absurd (omega (arith, c.in-19.is, e))) c.pass_text.ensures

pub returns-in-2 : goal.returns-in-2
returns-in-2 c = passed (λ e. absurd (omega (arith, c.in-2.is, e))) c.pass_list.ensures

pub returns-in-4 : goal.returns-in-4
returns-in-4 c = passed (λ e. absurd (omega (arith, c.in-4.is, e))) c.pass_list-in-4.ensures

pub returns-in-6 : goal.returns-in-6
returns-in-6 c = passed (λ e. absurd (omega (arith, c.in-6.is, e))) c.pass_list-in-6.ensures

pub returns-in-14 : goal.returns-in-14
returns-in-14 c = passed (λ e. absurd (omega (arith, c.in-14.is, e))) c.pass_list-in-14.ensures

pub returns-in-10 : goal.returns-in-10
unfolding width_of
returns-in-10 c =
    let a = c.args in
    let o = c.pass_once.ensures in
    passed (λ e. absurd (omega (arith, c.in-10.is, e)))
    (once_taken a.part.now a.text.now.bytes.now a.tally.now.counts a.tally.now.last a.at _ _ o.counts_after _ _ o.last_after _ _ o.value
    (lone_on a.part.now a.text.now.bytes.now a.tally.now.counts a.tally.now.last a.at 10 c.requires.begun c.if-part-at.false (sym c.in-10.is) refl (λ e. absurd (omega (arith, e))) 10 refl))

pub returns-in_default : goal.returns-in_default
returns-in_default c = passed (λ e. omega (arith, e)) c.pass_strings-in_default.ensures
