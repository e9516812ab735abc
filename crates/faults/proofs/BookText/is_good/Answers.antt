use mathlib.Core.Path.{◌≡◌, ap, ◌∙◌}
use native.Mathlib.Omega.{arith}
use Prim.Native.Nat.{◌+◌, ◌-◌}
use Rattle.book.specs.Rules.{own_rule}
use Rattle.faults.proofs.Keeps.{good_not, good_on, cut_text}
use Rattle.faults.proofs.BookText.is_good.Goals as goal

pub own_rule-requires : goal.own_rule-requires
own_rule-requires c =
    let a = c.args in
    let k : a.c.start + a.c.len - a.c.start ≡ a.c.len = omega arith in
    λ e. rw k (c.is_tame_at.ensures e)

pub returns-then-is_held : goal.returns-then-is_held
returns-then-is_held c = let a = c.args in good_on _ _ _ c.is_held.ensures c.if-is_held.true _ (c.own_rule.ensures ∙ ap (own_rule a.c.op) (cut_text a.self.now.bytes.now a.c))

pub returns-else-is_held : goal.returns-else-is_held
returns-else-is_held c = c.if-is_held.false ∙ good_not _ _ _ c.is_held.ensures c.if-is_held.false
