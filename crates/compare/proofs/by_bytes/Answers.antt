use Rattle.std.proofs.Common.{rules}
use Rattle.std.proofs.lemmas.Iterator.{YieldsList-from_slice}
use Rattle.std.proofs.lemmas.Iterator.Consumers.{fold_from_yields_List}
use Rattle.compare.specs.Compare.{stir}
use Rattle.compare.proofs.by_bytes.Goals as goal

pub returns : goal.returns
returns c = fold_from_yields_List _ stir _ _ c.fold.ensures.ran (YieldsList-from_slice c.args.s.now cc) (λ a x b q k. search rules)
