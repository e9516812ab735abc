use Rattle.std.proofs.Common.{◌∙◌}
use Rattle.items.proofs.Reading.{named_as_some}
use Rattle.items.proofs.is_named.Goals as goal

pub returns : goal.returns
returns c = c.is_some.ensures ∙ named_as_some c.args.op c.args.commands.now c.args.at _ c.next_item.ensures
