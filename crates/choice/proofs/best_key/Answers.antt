use Rattle.std.proofs.Common.{sym, ap, option_map, arith, ◌∙◌}
use Rattle.record.specs.Lists.{key_of, keys_left}
use Rattle.tsconfig.specs.Mapping.{best_key}
use Rattle.keys.proofs.Laws.{star_in}
use Rattle.choice.proofs.Chosen.{best_bare, best_shorter, best_other, best_taken, best_end, least_taken}
use Rattle.choice.proofs.best_key.Goals.{else-least-star-via-then-least-star+else-matches_at, else-least-star-via-else-least-star}
use Rattle.choice.proofs.best_key.Goals as goal

pub loop-key-preserved-in_default : goal.loop-key-preserved-in_default
loop-key-preserved-in_default g c =
    let i = c.loop-key.invariant in
    let on = c.in-Some.ensures.steps.first in
    let b = option_map key_of c.loop-key.best in
    record { left = sym (best_bare c.args.spec.now b _ _ _ c.find_star.ensures c.in_default.is) ∙ ap (best_key c.args.spec.now b) (sym on) ∙ i.left; least_is = i.least_is; short = i.short }

pub matches_at-requires : goal.matches_at-requires
matches_at-requires g c = star_in _ c.args.spec.now _ c.find_star.ensures _ c.in-Some-find_star.is

pub overflow_add-least : goal.overflow_add-least
overflow_add-least g c = omega (arith, c.in-Some.ensures.steps.short, star_in _ c.args.spec.now _ c.find_star.ensures _ c.in-Some-find_star.is)

pub loop-key-preserved-then-matches_at : goal.loop-key-preserved-then-matches_at
loop-key-preserved-then-matches_at g c =
    let i = c.loop-key.invariant in
    let on = c.in-Some.ensures.steps.first in
    let b = option_map key_of c.loop-key.best in
    record {
      left = sym (best_taken c.args.spec.now b (key_of c.in-Some.key) (keys_left c.next.new.self) _ c.find_star.ensures _ c.in-Some-find_star.is _ i.least_is _ c.matches_at.ensures c.if-matches_at.true c.if-least-star.true) ∙ ap (best_key c.args.spec.now b) (sym on) ∙ i.left;
      least_is = least_taken c.args.spec.now b (key_of c.in-Some.key) (keys_left c.next.new.self) _ c.find_star.ensures _ c.in-Some-find_star.is;
      short = c.in-Some.ensures.steps.short;
    }

pub loop-key-preserved : goal.loop-key-preserved
loop-key-preserved g c =
    let i = c.loop-key.invariant in
    let s = c.args.spec.now in
    let b = option_map key_of c.loop-key.best in
    let on = ap (best_key s b) (sym c.in-Some.ensures.steps.first) ∙ i.left in
    record {
      left = elim c.else-least-star.branch [
        | else-least-star-via-then-least-star+else-matches_at w ↦
            sym (best_other s b (key_of c.in-Some.key) _ _ c.find_star.ensures _ c.in-Some-find_star.is _ i.least_is _ w.matches_at.ensures w.if-matches_at.false) ∙ on
        | else-least-star-via-else-least-star w ↦
            sym (best_shorter s b (key_of c.in-Some.key) _ _ c.find_star.ensures _ c.in-Some-find_star.is _ i.least_is w.if-least-star.false) ∙ on
      ];
      least_is = i.least_is;
      short = i.short;
    }

pub returns-clause-value : goal.returns-clause-value
returns-clause-value g c =
    let b = option_map key_of c.loop-key.best in
    sym (best_end c.args.spec.now b) ∙ ap (best_key c.args.spec.now b) (sym c.in-None.ensures.steps.first.0) ∙ c.loop-key.invariant.left
