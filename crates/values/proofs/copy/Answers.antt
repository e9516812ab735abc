use Rattle.std.proofs.Common.{length, ap, ◌∙◌, arith}
use Rattle.emit.proofs.Outputs.{puts_first}
use Rattle.values.proofs.copy.Goals as goal

pub into_text-requires : goal.into_text-requires
into_text-requires c =
    let e = c.new-text.ensures in
    let b = puts_first c.args.s.now _ _ e.at (omega (arith, ap length e.bytes, c.requires)) c.put_text.ensures in
    omega (arith, b.long, b.holds.size, ap length e.bytes, c.requires)

pub returns : goal.returns
returns c =
    let e = c.new-text.ensures in
    let b = puts_first c.args.s.now _ _ e.at (omega (arith, ap length e.bytes, c.requires)) c.put_text.ensures in
    c.into_text.ensures ∙ b.holds.bytes
