use mathlib.Core.Path.{refl}
use mathlib.Core.List.{[], ◌∷◌}
use Rattle.book.specs.Command.{width_of}
use Rattle.book.proofs.Widths.{bare, told_keys, told_rest}
use Rattle.book.proofs.width.Goals as goal

pub returns-in-2 : goal.returns-in-2
unfolding width_of
returns-in-2 c = told_keys 0 bare tt _ c.in-2.is refl

pub returns-in-18 : goal.returns-in-18
unfolding width_of
returns-in-18 c = told_keys 2 (18 ∷ []) tt _ c.in-18.is refl

pub returns-in-19 : goal.returns-in-19
unfolding width_of
returns-in-19 c = told_keys 5 (19 ∷ []) tt _ c.in-19.is refl

pub returns-in_default : goal.returns-in_default
returns-in_default c = told_rest _ c.in_default.in_default-own.rest.0.0.1 c.in_default.in_default-own.rest.0.1 c.in_default.in_default-own.rest.1 c.requires
