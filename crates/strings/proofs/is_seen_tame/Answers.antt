use Rattle.std.proofs.Common.{refl, ◌∙◌}
use mathlib.Core.Bool.{not-not}
use Rattle.strings.proofs.Lanes.{wrong_bits}
use Rattle.strings.proofs.is_seen_tame.Goals as goal

pub returns : goal.returns
returns c = not-not _ ∙ wrong_bits _ _ _ (λ a b. refl) (λ a b. refl) (λ a b. refl) c.args.seen.least c.args.seen.above c.args.seen.full
