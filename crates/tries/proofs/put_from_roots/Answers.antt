use Rattle.std.proofs.Common.{length, ap, arith}
use Rattle.values.proofs.Lengths.{normalize_length}
use Rattle.mapping.proofs.Sites.{lists_empty}
use Rattle.tries.proofs.Tries.{roots_none, roots_named}
use Rattle.tries.proofs.put_from_roots.Goals as goal

pub returns-in_default : goal.returns-in_default
returns-in_default c = lists_empty _ _ (roots_none c.args.config.now _ c.in_default.ensures.at)

pub put_root_tries-requires-clause-p : goal.put_root_tries-requires-clause-p
put_root_tries-requires-clause-p c = omega (arith, ap length c.normalize_with-p.ensures, normalize_length c.args.directory.now c.args.spec.now, c.requires.directory, c.requires.asks.spec_short)

pub returns : goal.returns
returns c =
    let e = c.in-Some.ensures in
    rw (roots_named c.args.config.now _ e.at) (rw (c.normalize_with-p.ensures, e.commands, e.text) at c.put_root_tries.ensures)
