use Rattle.std.proofs.Common.{◌∙◌, ap, arith, ◌+◌, length-drop}
use Rattle.keys.proofs.Laws.{none_part, star_in, prefix_missed, piece_is}
use Rattle.std.specs.Option.{option_copied}
use lib.Seq.{length-take-le, take_all}
use Rattle.keys.proofs.key_match.Goals as goal

pub returns-in_err-star : goal.returns-in_err-star
returns-in_err-star c = let a = c.args in ap option_copied c.from_residual.ensures ∙ none_part a.key.now a.spec.now _ c.find_star.ensures c.in_err-star.was

pub slice_bounds-strip_prefix-end : goal.slice_bounds-strip_prefix-end
slice_bounds-strip_prefix-end c = let a = c.args in omega (arith, length-take-le c.in_ok-star.star a.key.now (omega (arith, star_in a.key.now a.spec.now _ c.find_star.ensures _ c.in_ok-star.was)))

pub returns-in_err-rest : goal.returns-in_err-rest
returns-in_err-rest c = let a = c.args in ap option_copied c.from_residual-in_err-rest.ensures ∙ prefix_missed a.key.now a.spec.now _ c.find_star.ensures _ c.in_ok-star.was c.in_err-rest.ensures.cases

pub overflow_add-star : goal.overflow_add-star
overflow_add-star c = let a = c.args in omega (arith, star_in a.key.now a.spec.now _ c.find_star.ensures _ c.in_ok-star.was)

pub slice_bounds-strip_suffix-count : goal.slice_bounds-strip_suffix-count
slice_bounds-strip_suffix-count c = let a = c.args in omega (arith, star_in a.key.now a.spec.now _ c.find_star.ensures _ c.in_ok-star.was)

pub returns : goal.returns
returns c = let a = c.args in let e = c.in_ok-rest.ensures.cases in piece_is a.key.now a.spec.now _ c.find_star.ensures _ c.in_ok-star.was _ _ e.0 e.1 e.2 (take_all _ _ (omega (arith, length-drop (c.in_ok-star.star + 1) a.key.now))) c.strip_suffix.result c.strip_suffix.ensures.cases

pub slice_bounds-strip_suffix-start : goal.slice_bounds-strip_suffix-start
slice_bounds-strip_suffix-start c = let a = c.args in omega (arith, star_in a.key.now a.spec.now _ c.find_star.ensures _ c.in_ok-star.was)
