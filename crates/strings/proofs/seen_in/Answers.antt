use Rattle.std.proofs.Common.{refl}
use Rattle.strings.proofs.Lanes.{seen_bytes}
use Rattle.strings.proofs.seen_in.Goals as goal

pub returns : goal.returns
returns c = seen_bytes _ _ _ (λ x. refl) (λ x. refl) c.args.s.now c.requires c.type_inv.s
