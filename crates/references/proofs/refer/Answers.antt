use Rattle.references.proofs.Refers.{refer_walk}
use Rattle.references.proofs.refer.Goals as goal

pub returns : goal.returns
returns c = let a = c.args in refer_walk a.loads.now a.c a.r c.if-r-c.false _ c.in_ok-entries.ensures.ok _ c.as_slice.ensures _ _ c.walk.ensures
