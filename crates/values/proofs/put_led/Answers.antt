use Rattle.std.proofs.Common.{length, ap, arith}
use Rattle.values.proofs.Lengths.{placed_length}
use Rattle.values.proofs.put_led.Goals as goal

pub put_in_config_dir-requires-clause-room : goal.put_in_config_dir-requires-clause-room
put_in_config_dir-requires-clause-room c =
    omega (arith, c.requires.room, ap length c.place-placed.ensures, placed_length c.args.own.now c.args.s.now)
