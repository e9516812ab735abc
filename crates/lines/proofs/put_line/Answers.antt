use Rattle.std.proofs.Common.{[], ◌∷◌}
use Rattle.emit.proofs.Outputs.{puts_both}
use Rattle.lines.proofs.put_line.Goals as goal

pub returns : goal.returns
returns c = puts_both c.args.s.now (10 ∷ []) _ _ _ c.put_text.ensures c.put.ensures
