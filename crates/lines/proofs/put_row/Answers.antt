use Rattle.emit.proofs.Emits.{room_first}
use Rattle.emit.proofs.Outputs.{puts_room, puts_both}
use Rattle.tsconfig.specs.Listing.{row}
use Rattle.lines.specs.Lines.{valued}
use Rattle.lines.proofs.put_row.Goals as goal

pub put_text-requires : goal.put_text-requires
unfolding row
put_text-requires c = room_first c.args.name.now (valued c.args.v.now) _ c.requires

pub put_value-requires : goal.put_value-requires
unfolding row
put_value-requires c = puts_room c.args.name.now (valued c.args.v.now) _ _ c.put_text.ensures c.requires

pub returns : goal.returns
unfolding row
returns c = puts_both c.args.name.now (valued c.args.v.now) _ _ _ c.put_text.ensures c.put_value.ensures
