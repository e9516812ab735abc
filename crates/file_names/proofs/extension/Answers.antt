use mathlib.Core.Path.{ap, ◌∙◌}
use Rattle.std.specs.Prelude.{option_copied}
use Rattle.ends.proofs.Names.{extension_missing, extension_none, extension_hidden, extension_some, extension_within}
use native.Mathlib.Omega.{arith}
use borrow.Author.Rules.{rules}
use Rattle.file_names.proofs.extension.Goals as goal

pub returns-in_err-name : goal.returns-in_err-name
returns-in_err-name c = ap option_copied c.from_residual.ensures ∙ extension_missing _ _ c.file_name.ensures (ap option_copied c.in_err-name.was)

pub returns-in_err-find_last : goal.returns-in_err-find_last
returns-in_err-find_last c = ap option_copied c.from_residual-in_err-find_last.ensures ∙ extension_none _ _ c.file_name.ensures _ (ap option_copied c.in_ok-name.was) _ c.find_last.ensures c.in_err-find_last.was

pub split_at-requires : goal.split_at-requires
split_at-requires c = omega (arith, extension_within _ _ c.file_name.ensures _ (ap option_copied c.in_ok-name.was) _ c.find_last.ensures _ c.in_ok-find_last.was)

pub returns-then-is_empty : goal.returns-then-is_empty
returns-then-is_empty c = extension_hidden _ _ c.file_name.ensures _ (ap option_copied c.in_ok-name.was) _ c.find_last.ensures _ c.in_ok-find_last.was _ c.split_at.ensures.front (search rules)

pub returns : goal.returns
returns c = extension_some _ _ c.file_name.ensures _ (ap option_copied c.in_ok-name.was) _ c.find_last.ensures _ c.in_ok-find_last.was _ c.split_at.ensures.front (search rules) _ _ c.split_at.ensures.back c.from.ensures
