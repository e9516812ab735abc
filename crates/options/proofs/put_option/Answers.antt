use Rattle.std.proofs.Common.{◌++◌, sym}
use Rattle.emit.proofs.Emits.{room_first}
use Rattle.emit.proofs.Outputs.{puts_by, puts_both, puts_room}
use Rattle.tsconfig.specs.Listing.{decimal}
use Rattle.lines.specs.Lines.{valued}
use Rattle.lines.proofs.Rows.{room_as, puts_nothing}
use Rattle.options.proofs.Numbers.{line_unset, line_set}
use Rattle.options.proofs.put_option.Goals as goal

pub returns-in_default : goal.returns-in_default
returns-in_default c = puts_nothing _ _ (line_unset _ _ _ c.in_default.is)

pub put_text-requires : goal.put_text-requires
put_text-requires c =
    let v = c.in-Some.value.now in
    let room = room_as (line_set c.args.name.now c.args.id _ _ c.in-Some.is) c.requires.room in
    room_first c.args.name.now (decimal c.args.id ++ valued v) _ room

pub put_decimal-requires-clause-room : goal.put_decimal-requires-clause-room
put_decimal-requires-clause-room c =
    let v = c.in-Some.value.now in
    let room = room_as (line_set c.args.name.now c.args.id _ _ c.in-Some.is) c.requires.room in
    room_first (decimal c.args.id) (valued v) _ (puts_room c.args.name.now (decimal c.args.id ++ valued v) _ _ c.put_text.ensures room)

pub put_value-requires : goal.put_value-requires
put_value-requires c =
    let v = c.in-Some.value.now in
    let room = room_as (line_set c.args.name.now c.args.id _ _ c.in-Some.is) c.requires.room in
    puts_room (decimal c.args.id) (valued v) _ _ c.put_decimal.ensures (puts_room c.args.name.now (decimal c.args.id ++ valued v) _ _ c.put_text.ensures room)

pub returns : goal.returns
returns c =
    let v = c.in-Some.value.now in
    let e = line_set c.args.name.now c.args.id _ _ c.in-Some.is in
    puts_by _ _ _ _ (sym e) (puts_both c.args.name.now (decimal c.args.id ++ valued v) _ _ _ c.put_text.ensures (puts_both (decimal c.args.id) (valued v) _ _ _ c.put_decimal.ensures c.put_value.ensures))
