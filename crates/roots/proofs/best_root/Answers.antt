use Rattle.std.proofs.Common.{suc, length, map, option_copied, option_map, sym, ap, ◌∙◌, add-one}
use Rattle.tsconfig.specs.Mapping.{root_above}
use Rattle.roots.specs.Roots.{built_place}
use Rattle.roots.proofs.Roots.{root_end, root_shorter, root_other, root_taken}
use Rattle.roots.proofs.best_root.Goals.{else-least-root-via-then-least-root+else-lies_under, else-least-root-via-else-least-root}
use Rattle.roots.proofs.best_root.Goals as goal

pub loop-s-preserved-then-lies_under : goal.loop-s-preserved-then-lies_under
loop-s-preserved-then-lies_under c =
    let i = c.loop-s.invariant in
    let p = c.args.p.now in
    let place = built_place c.args.dir.now c.args.own.now in
    let b = option_map place (option_copied c.loop-s.best) in
    let on = ap (root_above p b) (sym (ap (map place) c.in-Some.ensures.steps.first)) ∙ i.left in
    record {
      left = sym (root_taken p b (place c.in-Some.s.now) _ _ c.build_place-root.ensures _ i.least_is _ c.lies_under.ensures c.if-lies_under.true c.if-least-root.true) ∙ on;
      least_is = add-one (length c.build_place-root.result.now) ∙ ap suc (ap length c.build_place-root.ensures);
      short = c.in-Some.ensures.steps.short;
    }

pub loop-s-preserved : goal.loop-s-preserved
loop-s-preserved c =
    let i = c.loop-s.invariant in
    let p = c.args.p.now in
    let place = built_place c.args.dir.now c.args.own.now in
    let b = option_map place (option_copied c.loop-s.best) in
    let on = ap (root_above p b) (sym (ap (map place) c.in-Some.ensures.steps.first)) ∙ i.left in
    record {
      left = elim c.else-least-root.branch [
        | else-least-root-via-then-least-root+else-lies_under w ↦
            sym (root_other p b (place c.in-Some.s.now) _ _ c.build_place-root.ensures _ i.least_is _ w.lies_under.ensures w.if-lies_under.false) ∙ on
        | else-least-root-via-else-least-root w ↦
            sym (root_shorter p b (place c.in-Some.s.now) _ _ c.build_place-root.ensures _ i.least_is w.if-least-root.false) ∙ on
      ];
      least_is = i.least_is;
      short = i.short;
    }

pub returns-clause-value : goal.returns-clause-value
returns-clause-value c =
    let place = built_place c.args.dir.now c.args.own.now in
    sym (root_end c.args.p.now _ _ (ap (map place) c.in-None.ensures.steps.first.0)) ∙ c.loop-s.invariant.left
