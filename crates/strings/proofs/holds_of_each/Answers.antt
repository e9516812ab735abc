use Rattle.std.proofs.Common.{rules, not, ap, eqb, bit_or, ◌∙◌}
use Rattle.std.proofs.lemmas.Iterator.{YieldsList-from_slice}
use Rattle.std.proofs.lemmas.Iterator.Consumers.{fold_from_yields_List}
use Rattle.strings.specs.Scan.{flag}
use Rattle.strings.proofs.Gather.{each_as_fold}
use Rattle.strings.proofs.holds_of_each.Goals as goal

pub returns : goal.returns
returns g c = λ test tells. ap (λ n. eqb n 0) (fold_from_yields_List _ (λ a x. bit_or a (flag (not (test x)))) 0 _ c.fold.ensures.ran (YieldsList-from_slice c.args.s.now cc) (λ a x b q k. search (rules, tells))) ∙ each_as_fold test 0 c.args.s.now
