use Rattle.std.proofs.Common.{◌≡◌}
use Rattle.compare.specs.Compare.{words_stirred}
use Rattle.compare.proofs.words.Given as goal

abbrev pub invariant-loop-k : goal.invariant-loop-k
invariant-loop-k l = l.all ≡ words_stirred l.s l.k
