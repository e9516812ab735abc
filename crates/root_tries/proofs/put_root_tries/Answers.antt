use Rattle.std.proofs.Common.{Some, ◌≤◌, length, option_copied, option_map, sym, ap, ◌∙◌, arith}
use Rattle.targets.proofs.Lays.{laid_one_length}
use Rattle.roots.specs.Roots.{built_place}
use Rattle.root_tries.proofs.Others.{others_few}
use Rattle.root_tries.proofs.Prefixes.{strip_le}
use Rattle.root_tries.proofs.Rests.{tries_none, tries_alone, tries_on}
use Rattle.root_tries.proofs.put_root_tries.Goals as goal

pub returns-in_default : goal.returns-in_default
returns-in_default c =
    let place = built_place c.args.dir.now c.dir-own.result.now in
    rw (← c.dir-own.ensures.value) (tries_none c.args.p.now _ _ (sym c.best_root.ensures.value ∙ ap (λ o. option_map place (option_copied o)) c.in_default.is))

pub put_path-requires-clause-room : goal.put_path-requires-clause-room
put_path-requires-clause-room c = record { room = omega (arith, laid_one_length c.args.p.now, c.requires.p, c.requires.near) }

pub put_in_roots-requires-clause-rest : goal.put_in_roots-requires-clause-rest
put_in_roots-requires-clause-rest c = omega (arith, strip_le c.args.p.now _ _ (sym c.strip_prefix.ensures ∙ ap option_copied c.in-Some-strip_prefix.is), c.requires.p)

pub put_in_roots-requires-clause-near : goal.put_in_roots-requires-clause-near
put_in_roots-requires-clause-near c = omega (arith, c.put_path.ensures.wrote.next, laid_one_length c.args.p.now, c.requires.p, c.requires.near)

pub overflow_add-result : goal.overflow_add-result
overflow_add-result c =
    let a = c.args in
    let r = a.record.now in
    let rest : length c.in-Some-strip_prefix.rest.now ≤ 1100 = omega (arith, strip_le a.p.now _ _ (sym c.strip_prefix.ensures ∙ ap option_copied c.in-Some-strip_prefix.is), c.requires.p) in
    omega (arith, c.put_in_roots.ensures.counts, others_few c.build_place-root.result.now c.in-Some-strip_prefix.rest.now a.dir.now c.dir-own.result.now c.requires.dir c.dir-own.ensures.short rest r.commands.now r.text.now r.at r.short c.requires.book)

pub returns-in-Some-strip_prefix : goal.returns-in-Some-strip_prefix
returns-in-Some-strip_prefix c =
    let place = built_place c.args.dir.now c.dir-own.result.now in
    let best = sym c.best_root.ensures.value ∙ ap (λ o. option_map place (option_copied o)) c.in-Some.is ∙ ap Some (sym c.build_place-root.ensures) in
    rw (← c.dir-own.ensures.value) (tries_on c.args.p.now _ _ _ best _ c.put_path.ensures _ (sym c.strip_prefix.ensures ∙ ap option_copied c.in-Some-strip_prefix.is) _ _ c.put_in_roots.ensures)

pub returns-in-None : goal.returns-in-None
returns-in-None c =
    let place = built_place c.args.dir.now c.dir-own.result.now in
    let best = sym c.best_root.ensures.value ∙ ap (λ o. option_map place (option_copied o)) c.in-Some.is ∙ ap Some (sym c.build_place-root.ensures) in
    rw (← c.dir-own.ensures.value) (tries_alone c.args.p.now _ _ _ best _ c.put_path.ensures (sym c.strip_prefix.ensures ∙ ap option_copied c.in-None.is))
