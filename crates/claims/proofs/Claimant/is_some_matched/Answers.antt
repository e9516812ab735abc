use Rattle.std.proofs.Common.{◌∙◌, rules, tests}
use Rattle.std.proofs.lemmas.Iterator.Search.{any_from_yields_List}
use Rattle.text.proofs.Scans.{some_as_std}
use Rattle.tsconfig.specs.Claims.{matched}
use Rattle.claims.proofs.Listed.{built_strings}
use Rattle.claims.proofs.Claimant.is_some_matched.Goals as goal

pub returns : goal.returns
returns c =
    let s = c.args.self.now in
    let test = matched s.js c.args.path.now in
    any_from_yields_List test _ _ c.any.result c.any.ensures.ran (built_strings s.config.now.dir.now c.args.supplier.now c.args.op c.strings.result c.strings.ensures.place c.strings.ensures.op) (λ x b q k. search (rules, tests))
    ∙ some_as_std test _
