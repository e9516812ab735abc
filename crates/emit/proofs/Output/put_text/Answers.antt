use Rattle.std.proofs.Common.{refl, sym, subst, ◌+◌, length, arith}
use Rattle.emit.specs.declared.Output.{Output}
use Rattle.emit.specs.Output.{Puts}
use Rattle.emit.proofs.Emits.{copied_front, emits_out}
use Rattle.emit.proofs.Output.put_text.Goals.{then-self, else-self}
use Rattle.emit.proofs.Output.put_text.Goals as goal

pub returns : goal.returns
returns c =
    let o = c.args.self.now in
    let s = c.args.s.now in
    let put = λ (u : Output). Puts s o (record { bytes = u.bytes; at = u.at + length s }) in
    elim c.if-self.branch [
      | then-self w ↦
          subst put (sym w.self-is) (record { same = refl; wrote = record { text = copied_front o.bytes.now s o.at _ w.if-self.true w.min-n.ensures _ _ (omega arith) w.copy.ensures; next = refl } })
      | else-self w ↦
          subst put (sym w.self-is) (record { same = refl; wrote = emits_out s o.bytes.now o.at w.if-self.false })
    ]
