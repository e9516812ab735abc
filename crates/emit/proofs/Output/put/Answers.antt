use Rattle.std.proofs.Common.{[], ◌∷◌, refl, sym, subst, ◌+◌}
use Rattle.emit.specs.declared.Output.{Output}
use Rattle.emit.specs.Output.{Puts}
use Rattle.emit.proofs.Emits.{put_in, put_out}
use Rattle.emit.proofs.Output.put.Goals.{then-self, else-self}
use Rattle.emit.proofs.Output.put.Goals as goal

pub returns : goal.returns
returns c =
    let o = c.args.self.now in
    let put = λ (u : Output). Puts (c.args.b ∷ []) o (record { bytes = u.bytes; at = u.at + 1 }) in
    elim c.if-self.branch [
      | then-self w ↦ subst put (sym w.self-is) (record { same = refl; wrote = put_in o.bytes.now o.at c.args.b })
      | else-self w ↦ subst put (sym w.self-is) (record { same = refl; wrote = put_out o.bytes.now o.at c.args.b w.if-self.false })
    ]
