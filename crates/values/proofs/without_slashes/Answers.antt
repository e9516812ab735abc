use Rattle.std.proofs.Common.{ℕ, not, eqb, sym, ap, ◌∙◌, refl, rules, tests}
use Rattle.std.proofs.lemmas.Iterator.{YieldsList-from_slice}
use Rattle.std.proofs.lemmas.Iterator.Search.{position_from_yields_List}
use Rattle.std.proofs.lemmas.Iterator.Adapters.{position_from-zero}
use Rattle.text.specs.Bytes.{slash}
use Rattle.text.proofs.Parts.{from_some}
use Rattle.values.proofs.Forms.{from_place, first_kept}
use Rattle.values.proofs.without_slashes.Goals as goal

pub returns-in-Some : goal.returns-in-Some
returns-in-Some c =
    let s = c.args.s.now in
    let test = λ (x : ℕ). not (eqb x slash) in
    let told = position_from_yields_List test _ _ c.position.result c.position.ensures.ran (YieldsList-from_slice s cc) (λ x b q k. search (rules, tests)) ∙ position_from-zero test s in
    from_some s c.in-Some.i ∙ ap (from_place s) (sym c.in-Some.is ∙ told) ∙ sym (first_kept 0 s s refl)

pub returns-in-None : goal.returns-in-None
returns-in-None c =
    let s = c.args.s.now in
    let test = λ (x : ℕ). not (eqb x slash) in
    let told = position_from_yields_List test _ _ c.position.result c.position.ensures.ran (YieldsList-from_slice s cc) (λ x b q k. search (rules, tests)) ∙ position_from-zero test s in
    ap (from_place s) (sym c.in-None.is ∙ told) ∙ sym (first_kept 0 s s refl)
