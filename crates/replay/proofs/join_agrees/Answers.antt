use Rattle.std.proofs.Common.{ℕ, length, ap, arith}
use Rattle.std.proofs.lemmas.List.{length-replicate}
use Rattle.emit.proofs.Outputs.{puts_length}
use Rattle.join.proofs.Buffer.{join_size}
use Rattle.replay.proofs.join_agrees.Goals as goal

pub join-requires : goal.join-requires
join-requires c = record { room = omega (arith, join_size c.args.a.now c.args.b.now, c.new-path.ensures.at) }

pub text-requires : goal.text-requires
text-requires c =
    let long = puts_length _ _ _ c.join.ensures in
    omega (arith, join_size c.args.a.now c.args.b.now, c.new-path.ensures.at, ap length c.new-path.ensures.bytes, length-replicate {A = ℕ} 2048 0, c.join.ensures.wrote.next, long)
