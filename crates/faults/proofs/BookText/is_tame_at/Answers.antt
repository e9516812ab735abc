use mathlib.Core.Path.{refl}
use Rattle.strings.proofs.Tame.{tame_part}
use native.Mathlib.Omega.{arith}
use Rattle.faults.proofs.Parts.{tame_across}
use Rattle.faults.proofs.BookText.is_tame_at.Goals as goal

pub returns-then-self : goal.returns-then-self
returns-then-self c = let a = c.args in λ e. tame_part a.self.now.bytes.now a.start a.len (a.self.now.known c.if-self.true)

pub returns-then-self-start : goal.returns-then-self-start
returns-then-self-start c =
    let a = c.args in
    λ e. tame_across a.self.now.bytes.now a.start a.len _ _ (omega (arith, c.if-len-gt-LONGEST.false)) refl refl (a.self.now.known_parts _ c.if-self-start.true) (a.self.now.known_parts _ e)
