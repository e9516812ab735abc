use Rattle.book.specs.Rules.{text_of}
use Rattle.book.proofs.string_of.Goals as goal

pub returns : goal.returns
unfolding text_of
returns c = c.piece.ensures
