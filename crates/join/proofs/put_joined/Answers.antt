use Rattle.emit.proofs.Outputs.{puts_room, puts_both}
use Rattle.join.specs.Join.{slash_if}
use Rattle.join.proofs.Buffer.{room_slash, slash_put, slash_left}
use Rattle.join.proofs.put_joined.Goals.{then-apart, else-apart}
use Rattle.join.proofs.put_joined.Goals as goal

pub put-requires : goal.put-requires
put-requires c = room_slash c.args.apart c.args.s.now _ c.requires c.if-apart.true

pub put_text-requires : goal.put_text-requires
put_text-requires c =
    let s = c.args.s.now in
    elim c.if-apart.branch [
      | then-apart w ↦ puts_room (slash_if c.args.apart) s c.args.out.now c.if-apart.out (slash_put c.args.apart s c.args.out.now c.if-apart.out w.if-apart.true (rw w.out-is w.put.ensures)) c.requires
      | else-apart w ↦ puts_room (slash_if c.args.apart) s c.args.out.now c.if-apart.out (slash_left c.args.apart s c.args.out.now c.if-apart.out w.if-apart.false w.out-is) c.requires
    ]

pub returns : goal.returns
returns c =
    let s = c.args.s.now in
    elim c.if-apart.branch [
      | then-apart w ↦ puts_both (slash_if c.args.apart) s c.args.out.now c.if-apart.out c.put_text.new.self (slash_put c.args.apart s c.args.out.now c.if-apart.out w.if-apart.true (rw w.out-is w.put.ensures)) c.put_text.ensures
      | else-apart w ↦ puts_both (slash_if c.args.apart) s c.args.out.now c.if-apart.out c.put_text.new.self (slash_left c.args.apart s c.args.out.now c.if-apart.out w.if-apart.false w.out-is) c.put_text.ensures
    ]
