use Rattle.mapping.proofs.Sites.{dotted, unmapped, mapped, lists_empty}
use Rattle.mapping.proofs.put_aliases.Goals as goal

pub returns-then-starts_dot : goal.returns-then-starts_dot
returns-then-starts_dot c = lists_empty _ _ (dotted c.args.built.now _ _ c.starts_dot.ensures c.if-starts_dot.true)

pub returns-in-Some : goal.returns-in-Some
returns-in-Some c =
    let e = c.in-Some.ensures in
    rw (← mapped c.args.built.now _ _ c.starts_dot.ensures c.if-starts_dot.false _ e.at) (rw (e.commands, e.text) at c.put_mapped.ensures)

pub returns-in-None : goal.returns-in-None
returns-in-None c = lists_empty _ _ (unmapped c.args.built.now _ _ c.starts_dot.ensures c.if-starts_dot.false c.in-None.ensures.at)
