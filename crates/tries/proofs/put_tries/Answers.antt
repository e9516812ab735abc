use Rattle.std.proofs.Common.{arith}
use Rattle.mapping.proofs.Sites.{aliases_few, lists_empty}
use Rattle.tries.proofs.Tries.{inside, dotted, read_too}
use Rattle.tries.proofs.put_tries.Goals as goal

pub returns-then-inside_node_modules : goal.returns-then-inside_node_modules
returns-then-inside_node_modules c = lists_empty _ _ (inside _ _ _ _ c.inside_node_modules.ensures c.if-inside_node_modules.true)

pub returns-then-starts_dot : goal.returns-then-starts_dot
returns-then-starts_dot c =
    rw (← dotted _ _ _ _ c.inside_node_modules.ensures c.if-inside_node_modules.false _ c.starts_dot.ensures c.if-starts_dot.true) c.put_from_roots.ensures

pub put_from_base-requires-clause-near : goal.put_from_base-requires-clause-near
put_from_base-requires-clause-near c =
    let few = aliases_few c.args.built.now _ _ c.starts_dot.ensures c.if-starts_dot.false c.requires.asks.spec_short in
    omega (arith, c.put_aliases-mapped.ensures.puts.wrote.next, few.size, c.requires.asks.near)

pub overflow_add-result : goal.overflow_add-result
overflow_add-result c =
    let few = aliases_few c.args.built.now _ _ c.starts_dot.ensures c.if-starts_dot.false c.requires.asks.spec_short in
    omega (arith, c.put_aliases-mapped.ensures.counts, few.count, c.put_from_base.ensures.one)

pub returns : goal.returns
returns c = read_too _ _ _ _ c.inside_node_modules.ensures c.if-inside_node_modules.false _ c.starts_dot.ensures c.if-starts_dot.false _ _ _ c.put_aliases-mapped.ensures _ _ c.put_from_base.ensures.paths
