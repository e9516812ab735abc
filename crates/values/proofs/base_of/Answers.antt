use Rattle.std.proofs.Common.{sym, ap, ◌∙◌}
use Rattle.std.specs.Prelude.{option_copied}
use Rattle.values.proofs.Forms.{base_some, base_none}
use native.Mathlib.Omega.{arith}
use lib.ListN.{length}
use mathlib.Core.Path.{ap}
use Rattle.tsconfig.specs.Parsed.{placed}
use Rattle.values.proofs.Lengths.{substituted_length, placed_length}
use Rattle.values.proofs.base_of.Goals as goal

pub returns-in-Some-clause-value : goal.returns-in-Some-clause-value
returns-in-Some-clause-value c = c.build_place.ensures ∙ rw c.dir-own.ensures.value (base_some c.args.dir.now _ _ c.in-Some.url.now (sym c.string.ensures.value ∙ ap option_copied c.in-Some.is))

pub returns-in-None-clause-value : goal.returns-in-None-clause-value
returns-in-None-clause-value c = c.substitute.ensures ∙ rw c.dir-own.ensures.value (base_none c.args.dir.now _ _ (sym c.string.ensures.value ∙ ap option_copied c.in-None.is))

pub returns-in-Some-clause-short : goal.returns-in-Some-clause-short
returns-in-Some-clause-short c =
    let a = c.args in
    let own = c.dir-own.result.now in
    let url = c.in-Some.url.now in
    omega (arith, ap length c.build_place.ensures, substituted_length a.dir.now (placed own url), placed_length own url, c.requires.dir, c.dir-own.ensures.short, c.in-Some.ensures.short)

pub returns-in-None-clause-short : goal.returns-in-None-clause-short
returns-in-None-clause-short c =
    let a = c.args in
    omega (arith, ap length c.substitute.ensures, substituted_length a.dir.now c.dir-own.result.now, c.requires.dir, c.dir-own.ensures.short)
