use Rattle.std.proofs.Common.{refl, add-one}
use Rattle.compare.specs.Compare.{words_stirred}
use Rattle.compare.proofs.words.Goals as goal

pub loop-k-init : goal.loop-k-init
loop-k-init c = c.requires.start

pub loop-k-preserved : goal.loop-k-preserved
unfolding words_stirred
loop-k-preserved c = rw (c.stir-all.ensures, c.loop-k.invariant, c.word.ensures, add-one) refl
