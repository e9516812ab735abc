use Prim.Native.Nat.{◌-◌}
use mathlib.Core.Path.{ap, ◌∙◌}
use lib.ListN.{take}
use Rattle.text.proofs.Parts.{between_none}
use Rattle.text.proofs.between.Goals as goal

pub returns-then-e-a : goal.returns-then-e-a
returns-then-e-a c = let a = c.args in between_none a.s.now a.a a.e c.if-e-a.true

pub returns : goal.returns
returns c = let a = c.args in c.upto.ensures ∙ ap (take (a.e - a.a)) c.from.ensures
