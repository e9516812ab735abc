use Rattle.std.proofs.Common.{arith}
use Rattle.std.proofs.lemmas.Grind.{common_steps}
use Rattle.std.proofs.lemmas.List.Edits.{paste_none, paste_more, paste_all}
use Rattle.emit.proofs.copy.Goals as goal

pub loop-i-init : goal.loop-i-init
loop-i-init c = paste_none c.args.to.now 0 c.args.s.now

pub loop-i-preserved : goal.loop-i-preserved
loop-i-preserved c = grind (arith, common_steps, paste_more c.args.to.now 0 c.args.s.now)

pub returns : goal.returns
returns c = grind (arith, common_steps, paste_all c.args.to.now 0 c.args.s.now)
