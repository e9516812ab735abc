use mathlib.Core.Logic.{inl}
use mathlib.Core.Path.{refl, ap}
use lib.ListN.{length}
use Rattle.std.proofs.lemmas.Iterator.Consumers.{YieldsList-from_first, count_from_yields_List}
use Rattle.component_walk.specs.declared.Components.{Components}
use Rattle.components.specs.Components.{split, names}
use Rattle.component_walk.proofs.Walk.{names_le, lead_small, counted}
use native.Mathlib.Omega.{arith}
use Rattle.component_walk.proofs.count_components.Goals as goal

pub count-requires-clause-fits : goal.count-requires-clause-fits
count-requires-clause-fits c = inl (omega (arith, names_le c.new.result.rest.now, ap length c.new.ensures))

pub overflow_add-result : goal.overflow_add-result
overflow_add-result c =
    omega (arith, c.count.ensures.bound, names_le c.new.result.rest.now, ap length c.new.ensures, c.lead_len.ensures, lead_small c.args.s.now)

pub returns : goal.returns
returns c =
    let n = count_from_yields_List _ _ c.count.ensures.ran (YieldsList-from_first (λ x. x.now) (λ (s : Components). names (split s.rest.now)) _ refl) in
    let e = ap (λ s. length (names (split s))) c.new.ensures in
    omega (arith, n, e, c.lead_len.ensures, counted c.args.s.now)
