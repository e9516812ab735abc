use Rattle.std.proofs.Common.{[], ◌∷◌}
use Rattle.emit.proofs.Outputs.{puts_both}
use Rattle.lines.specs.Lines.{ended}
use Rattle.lines.proofs.put_value.Goals as goal

pub returns : goal.returns
returns c = puts_both (61 ∷ []) (ended c.args.v.now) _ _ _ c.put.ensures c.put_line.ensures
