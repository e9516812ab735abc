use Rattle.book.specs.Command.{operands}
use Rattle.book.proofs.read_span.Goals as goal

pub returns : goal.returns
unfolding operands
returns c = simp (c.word_at.ensures, c.word_at-2.ensures)
