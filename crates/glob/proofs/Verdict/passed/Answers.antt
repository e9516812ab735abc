use Rattle.std.proofs.Common.{ℕ, ◌∙◌, rules, tests}
use Rattle.std.proofs.lemmas.Iterator.Adapters.{YieldsList-from_rev_slice}
use Rattle.std.proofs.lemmas.Iterator.Consumers.{fold_from_yields_List}
use Rattle.glob.specs.Verdicts.{behind_of}
use Rattle.glob.specs.declared.Verdict.{Verdict}
use Rattle.glob.proofs.Fronts.{passed_by_fold}
use Rattle.glob.proofs.Verdict.passed.Goals as goal

pub returns : goal.returns
returns c =
    let w = c.args.w.now in
    fold_from_yields_List _ (λ (v : Verdict) (x : ℕ). behind_of x v) c.args.self _ c.fold.ensures.ran (YieldsList-from_rev_slice w (cc)) (λ v x b q k. search (rules, tests)) ∙ passed_by_fold w c.args.self
