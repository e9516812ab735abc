use Rattle.std.proofs.Common.{arith, sym, ap, ◌∙◌, ◌+◌, length, length-drop}
use Rattle.text.proofs.Parts.{from_some}
use Rattle.text.proofs.Scans.{find_within}
use Rattle.glob.proofs.Tries.{star_start, star_settled, star_end, star_slash, star_on, stars_start, stars_decided, stars_none, stars_on}
use Rattle.matcher.proofs.+glob.Goals as goal

pub after_star-loop-here-init : goal.after_star-loop-here-init
after_star-loop-here-init t c = star_start _ _

pub after_star-returns-then-is_settled : goal.after_star-returns-then-is_settled
after_star-returns-then-is_settled t c =
    star_settled _ _ _ c.loop-here.invariant _ c.skip.ensures _ (from_some c.loop-here.left.now c.skip.result) c.glob-v.result c.glob-v.ensures (sym c.is_settled.ensures ∙ c.if-is_settled.true)

pub after_star-returns-in-empty : goal.after_star-returns-in-empty
after_star-returns-in-empty t c =
    star_end _ _ _ c.loop-here.invariant _ c.skip.ensures _ (from_some c.loop-here.left.now c.skip.result) c.glob-v.result c.glob-v.ensures (sym c.is_settled.ensures ∙ c.if-is_settled.false) c.in-empty.len_below

pub after_star-returns-in-47 : goal.after_star-returns-in-47
after_star-returns-in-47 t c =
    star_slash _ _ _ c.loop-here.invariant _ c.skip.ensures _ (from_some c.loop-here.left.now c.skip.result) c.glob-v.result c.glob-v.ensures (sym c.is_settled.ensures ∙ c.if-is_settled.false) c.in-47.len_at_least (omega arith)

pub after_star-loop-here-preserved : goal.after_star-loop-here-preserved
after_star-loop-here-preserved t c =
    star_on _ _ _ c.loop-here.invariant _ c.skip.ensures _ (from_some c.loop-here.left.now c.skip.result) c.glob-v.result c.glob-v.ensures (sym c.is_settled.ensures ∙ c.if-is_settled.false) c.in-len1-up.len_at_least (omega arith) _ (from_some _ 1)

pub after_stars-loop-here-init : goal.after_stars-loop-here-init
after_stars-loop-here-init t c = stars_start _ _

pub after_stars-returns-then-is_decided : goal.after_stars-returns-then-is_decided
after_stars-returns-then-is_decided t c =
    rw c.dirs.ensures (stars_decided _ _ _ c.loop-here.invariant c.glob-v.result c.glob-v.ensures (sym c.is_decided.ensures ∙ c.if-is_decided.true))

pub after_stars-returns-in_default : goal.after_stars-returns-in_default
after_stars-returns-in_default t c =
    stars_none _ _ _ c.loop-here.invariant c.glob-v.result c.glob-v.ensures (sym c.is_decided.ensures ∙ c.if-is_decided.false) (sym c.in_default.is ∙ c.find_byte.ensures)

pub after_stars-overflow_add-here : goal.after_stars-overflow_add-here
after_stars-overflow_add-here t c = omega (arith, find_within _ _ c.in-Some.j (sym c.in-Some.is ∙ c.find_byte.ensures))

pub after_stars-slice_bounds-here-count : goal.after_stars-slice_bounds-here-count
after_stars-slice_bounds-here-count t c = omega (arith, find_within _ _ c.in-Some.j (sym c.in-Some.is ∙ c.find_byte.ensures))

pub after_stars-slice_bounds-here-start : goal.after_stars-slice_bounds-here-start
after_stars-slice_bounds-here-start t c = omega (arith, find_within _ _ c.in-Some.j (sym c.in-Some.is ∙ c.find_byte.ensures))

pub after_stars-loop-here-smaller : goal.after_stars-loop-here-smaller
after_stars-loop-here-smaller t c =
    let here = c.loop-here.here.now in
    omega (arith, find_within _ _ c.in-Some.j (sym c.in-Some.is ∙ c.find_byte.ensures), ap length (from_some here (c.in-Some.j + 1)), length-drop (c.in-Some.j + 1) here)

pub after_stars-loop-here-preserved : goal.after_stars-loop-here-preserved
after_stars-loop-here-preserved t c =
    stars_on _ _ _ c.loop-here.invariant c.glob-v.result c.glob-v.ensures (sym c.is_decided.ensures ∙ c.if-is_decided.false) c.in-Some.j (sym c.in-Some.is ∙ c.find_byte.ensures) _ (from_some c.loop-here.here.now (c.in-Some.j + 1))
