use Rattle.std.proofs.Common.{ℕ, ◌∙◌, eqb, rules, tests}
use Rattle.std.proofs.lemmas.Iterator.{YieldsList-from_slice}
use Rattle.std.proofs.lemmas.Iterator.Search.{all_from_yields_List}
use Rattle.asked.specs.Asked.{pattern}
use Rattle.asked.proofs.Filled.{all_kept}
use Rattle.asked.proofs.is_kept.Goals as goal

pub returns : goal.returns
returns c =
    let s = c.args.s.now in
    all_from_yields_List (λ (x : ℕ). eqb x pattern) _ _ _ c.all.ensures.ran (YieldsList-from_slice s cc) (λ x b q k. search (rules, tests)) ∙ all_kept pattern s
