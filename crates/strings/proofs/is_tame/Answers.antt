use Rattle.std.proofs.Common.{rules}
use Rattle.strings.specs.Scan.{tame_text}
use Rattle.strings.proofs.is_tame.Goals as goal

pub returns : goal.returns
unfolding tame_text
returns c = search rules
