use Rattle.std.proofs.Common.{◌∙◌}
use Rattle.compare.proofs.Ways.{word_as_bytes}
use Rattle.compare.proofs.word.Goals as goal

pub returns : goal.returns
returns c = c.from_le_bytes.ensures ∙ word_as_bytes c.args.s.now c.args.at
