use Rattle.std.proofs.Common.{sym, ap, ◌∙◌}
use Rattle.record.specs.Lists.{key_of}
use Rattle.tsconfig.specs.Mapping.{equal_key}
use Rattle.choice.proofs.Chosen.{equal_end, equal_taken, equal_other}
use Rattle.choice.proofs.equal_key.Goals as goal

pub returns-then-eq-clause-value : goal.returns-then-eq-clause-value
returns-then-eq-clause-value g c =
    let s = c.args.spec.now in
    sym (equal_taken s (key_of c.in-Some.key) _ _ c.eq.ensures c.if-eq.true) ∙ ap (equal_key s) (sym c.in-Some.ensures.steps.first) ∙ c.loop-key.invariant

pub loop-key-preserved : goal.loop-key-preserved
loop-key-preserved g c =
    let s = c.args.spec.now in
    sym (equal_other s (key_of c.in-Some.key) _ _ c.eq.ensures c.if-eq.false) ∙ ap (equal_key s) (sym c.in-Some.ensures.steps.first) ∙ c.loop-key.invariant

pub returns-clause-value : goal.returns-clause-value
returns-clause-value g c =
    let s = c.args.spec.now in
    sym (equal_end s) ∙ ap (equal_key s) (sym c.in-None.ensures.steps.first.0) ∙ c.loop-key.invariant
