use Rattle.std.proofs.Common.{ℕ, ◌∙◌, eqb, rules, tests}
use Rattle.std.proofs.lemmas.Iterator.{YieldsList-from_slice}
use Rattle.std.proofs.lemmas.Iterator.Search.{position_from_yields_List}
use Rattle.std.proofs.lemmas.Iterator.Adapters.{position_from-zero}
use Rattle.text.proofs.Scans.{position_as_find}
use Rattle.text.proofs.find_byte.Goals as goal

pub returns : goal.returns
returns c =
    let s = c.args.s.now in
    let test = λ (x : ℕ). eqb x c.args.b in
    position_from_yields_List test _ _ _ c.position.ensures.ran (YieldsList-from_slice s cc) (λ x b q k. search (rules, tests)) ∙ (position_from-zero test s ∙ position_as_find c.args.b 0 s)
