use Rattle.std.proofs.Common.{drop, arith, sym}
use Rattle.std.proofs.lemmas.List.{length-take}
use Rattle.patterns.proofs.Stars.{apart_short}
use Rattle.patterns.proofs.has_stars_apart_at.Goals as goal

pub returns-then-len-lt3 : goal.returns-then-len-lt3
returns-then-len-lt3 c = sym (apart_short _ (omega (arith, length-take c.args.len (drop c.args.start c.args.text.now))))
