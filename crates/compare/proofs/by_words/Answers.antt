use Rattle.std.proofs.Common.{refl}
use Rattle.compare.specs.Compare.{words_stirred}
use Rattle.compare.proofs.by_words.Goals as goal

pub words-first-requires-clause-start : goal.words-first-requires-clause-start
unfolding words_stirred
words-first-requires-clause-start c = refl
