use Rattle.tsconfig.specs.Claims.{matched}
use Rattle.matching.proofs.is_matched.Goals as goal

pub returns-then-same_text : goal.returns-then-same_text
unfolding matched
returns-then-same_text g c = rw (← c.same_text.ensures, c.if-same_text.true)

pub returns : goal.returns
unfolding matched
returns g c = rw (← c.same_text.ensures, c.if-same_text.false, ← c.imply.ensures) c.is_matched_by.ensures
