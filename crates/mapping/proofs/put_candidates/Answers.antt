use Rattle.std.proofs.Common.{arith}
use Rattle.mapping.proofs.Sites.{some_mapped, none_near, none_mapped}
use Rattle.mapping.proofs.put_candidates.Goals as goal

pub returns-then-count-gt0 : goal.returns-then-count-gt0
returns-then-count-gt0 c = some_mapped _ _ _ _ _ c.put_aliases-count.ensures c.if-count-gt0.true

pub put_from_base-requires-clause-near : goal.put_from_base-requires-clause-near
put_from_base-requires-clause-near c = omega (arith, none_near _ _ _ _ _ c.put_aliases-count.ensures c.if-count-gt0.false, c.requires.near)

pub returns : goal.returns
returns c = none_mapped _ _ _ _ _ c.put_aliases-count.ensures c.if-count-gt0.false _ _ c.put_from_base.ensures.paths
