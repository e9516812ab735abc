use mathlib.Core.Path.{refl}
use borrow.Author.Tests.{eq-eqb, ne_eqb}
use Rattle.book.specs.Command.{operands}
use Rattle.book.proofs.read.Goals as goal

pub returns-in-5 : goal.returns-in-5
unfolding operands
returns-in-5 c = simp (ne_eqb _ _ c.requires.1, eq-eqb _ _ c.in-5.is, c.word_at.ensures, c.word_at-in-5.ensures)

pub returns-in-2 : goal.returns-in-2
unfolding operands
returns-in-2 c = rw c.in-2.is refl

pub returns-in_default : goal.returns-in_default
unfolding operands
returns-in_default c = simp (ne_eqb c.args.w 4 c.requires.1, ne_eqb c.args.w 5 c.in_default.in_default-own.rest.0.1, ne_eqb c.args.w 2 c.in_default.in_default-own.rest.1)
