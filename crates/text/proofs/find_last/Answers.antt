use Rattle.std.proofs.Common.{rules, tests}
use Rattle.text.proofs.Backwards.{last_as_std, from_the_end}
use Rattle.text.proofs.find_last.Goals as goal

pub returns : goal.returns
returns c =
    last_as_std c.args.s.now c.args.b _ _ (from_the_end c.args.s.now cc) (λ x t q k. search (rules, tests)) _ _ (cc) c.rposition.ensures.ran
