use Rattle.std.proofs.Common.{◌∙◌, rules, tests}
use Rattle.std.proofs.lemmas.Iterator.{YieldsList-from_slice}
use Rattle.std.proofs.lemmas.Iterator.Search.{any_from_yields_List}
use Rattle.text.proofs.Scans.{some_as_std}
use Rattle.tsconfig.specs.Claims.{is_special}
use Rattle.matching.proofs.has_special.Goals as goal

pub returns : goal.returns
returns c =
    let s = c.args.s.now in
    any_from_yields_List is_special _ _ c.any.result c.any.ensures.ran (YieldsList-from_slice s cc) (λ x b q k. search (rules, tests)) ∙ some_as_std is_special s
