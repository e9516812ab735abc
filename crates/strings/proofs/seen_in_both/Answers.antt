use Rattle.std.proofs.Common.{refl}
use Rattle.strings.proofs.Lanes.{both_tame, both_full}
use Rattle.strings.proofs.seen_in_both.Goals as goal

pub invariant_of-result : goal.invariant_of-result
invariant_of-result c = record { full = both_full _ (λ a b. refl) _ _ _ _ c.args.a.full c.args.b.full }

pub returns : goal.returns
returns c = both_tame _ (λ a b. refl) _ _ _ _ c.args.a.full c.args.b.full
