use mathlib.Core.Path.{◌≡◌, ap, ◌∙◌}
use Rattle.tsconfig.specs.Claims.{implied}
use Rattle.matching.proofs.Patterns.{stars, implied_fits, implied_text}
use Rattle.matching.proofs.imply.Goals.{then-ends_with, else-ends_with}
use Rattle.matching.proofs.imply.Goals as goal

pub returns-then-has_special : goal.returns-then-has_special
unfolding implied
returns-then-has_special c = rw (← c.last_piece.ensures, ← c.has_special.ensures, c.if-has_special.true)

pub into_text-requires : goal.into_text-requires
into_text-requires c =
    let e : c.if-ends_with.put_text.now ≡ stars c.args.p.now =
    elim c.if-ends_with.branch [
      | then-ends_with w ↦ rw (← c.ends_with.ensures, w.if-ends_with.true) (ap (λ b. b.now) w.put_text-is)
      | else-ends_with w ↦ rw (← c.ends_with.ensures, w.if-ends_with.false) (ap (λ b. b.now) w.put_text-is)
    ] in
    implied_fits c.args.p.now _ _ _ _ c.new-pattern.ensures.at (rw c.new-pattern.ensures.bytes c.requires) (rw (← c.last_piece.ensures, ← c.has_special.ensures) c.if-has_special.false) c.put_text.ensures e c.put_text-2.ensures

pub returns : goal.returns
returns c =
    let e : c.if-ends_with.put_text.now ≡ stars c.args.p.now =
    elim c.if-ends_with.branch [
      | then-ends_with w ↦ rw (← c.ends_with.ensures, w.if-ends_with.true) (ap (λ b. b.now) w.put_text-is)
      | else-ends_with w ↦ rw (← c.ends_with.ensures, w.if-ends_with.false) (ap (λ b. b.now) w.put_text-is)
    ] in
    c.into_text.ensures ∙ implied_text c.args.p.now _ _ _ _ c.new-pattern.ensures.at (rw c.new-pattern.ensures.bytes c.requires) (rw (← c.last_piece.ensures, ← c.has_special.ensures) c.if-has_special.false) c.put_text.ensures e c.put_text-2.ensures
