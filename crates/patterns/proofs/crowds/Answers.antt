use Rattle.std.proofs.Common.{refl}
use Rattle.patterns.proofs.Lanes.{lanes_bits}
use Rattle.patterns.proofs.crowds.Goals as goal

pub returns : goal.returns
returns c = lanes_bits _ _ (λ a b. refl) (λ a b. refl) c.args.s.now c.requires
