use Rattle.std.proofs.Common.{◌≤◌, length, option_map, sym, ap, ◌∙◌, arith}
use Rattle.record.specs.Read.{read}
use Rattle.record.specs.Lists.{key_of}
use Rattle.values.proofs.Lengths.{record_length}
use Rattle.targets.proofs.Aims.{lists_none}
use Rattle.mapping.proofs.Mapped.{equal_small, best_small, equal_wanted, none_wanted, best_wanted, part_length, part_short}
use Rattle.mapping.proofs.put_mapped.Goals as goal

pub put_targets-requires : goal.put_targets-requires
put_targets-requires c =
    let r = c.args.record.now in
    let l : length (read r.commands.now r.at) ≤ 32768 = omega (arith, record_length r.commands.now r.at, c.requires.book) in
    let few = equal_small r.text.now 32768 _ r.short l c.args.spec.now _ (sym c.equal_key.ensures.value ∙ ap (option_map key_of) c.in-Some.is) in (
      omega arith,
      (
        record { dir_short = c.args.built.now.config.short; base_short = c.args.built.now.short; part_short = tt },
        (few.short, record { few = few.few; near = c.requires.asks.near }),
      ),
    )

pub returns-in-Some : goal.returns-in-Some
returns-in-Some c =
    rw (← equal_wanted c.args.built.now.config.dir.now c.args.built.now.base.now c.args.spec.now _ _ (sym c.equal_key.ensures.value ∙ ap (option_map key_of) c.in-Some.is)) c.put_targets.ensures

pub returns-in_default-best_key : goal.returns-in_default-best_key
returns-in_default-best_key c =
    rw (none_wanted c.args.built.now.config.dir.now c.args.built.now.base.now c.args.spec.now _ (sym c.equal_key.ensures.value ∙ ap (option_map key_of) c.in_default.is) (sym c.best_key.ensures.value ∙ ap (option_map key_of) c.in_default-best_key.is)) (lists_none _)

pub put_targets-requires-2 : goal.put_targets-requires-2
put_targets-requires-2 c =
    let r = c.args.record.now in
    let l : length (read r.commands.now r.at) ≤ 32768 = omega (arith, record_length r.commands.now r.at, c.requires.book) in
    let few = best_small r.text.now 32768 _ r.short l c.args.spec.now _ (sym c.best_key.ensures.value ∙ ap (option_map key_of) c.in-Some-best_key.is) in (
      omega arith,
      (
        record { dir_short = c.args.built.now.config.short; base_short = c.args.built.now.short; part_short = rw c.key_match.ensures (part_short c.args.spec.now _ (part_length c.in-Some-best_key.key.name.now c.args.spec.now) c.requires.asks.spec_short) },
        (few.short, record { few = few.few; near = c.requires.asks.near }),
      ),
    )

pub returns : goal.returns
returns c =
    rw (← best_wanted c.args.built.now.config.dir.now c.args.built.now.base.now c.args.spec.now _ (sym c.equal_key.ensures.value ∙ ap (option_map key_of) c.in_default.is) _ (sym c.best_key.ensures.value ∙ ap (option_map key_of) c.in-Some-best_key.is) _ c.key_match.ensures) c.put_targets-2.ensures
