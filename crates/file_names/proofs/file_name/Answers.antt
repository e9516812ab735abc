use mathlib.Core.Path.{ap, ◌∙◌}
use Rattle.std.specs.Prelude.{option_copied}
use Rattle.ends.specs.Ends.{last_piece}
use Rattle.ends.proofs.Names.{named}
use Rattle.file_names.proofs.file_name.Goals as goal

pub returns : goal.returns
returns c = ap option_copied c.then_some.ensures ∙ named c.args.s.now _ (c.last_piece-name.ensures ∙ ap last_piece c.trim_end.ensures) _ c.is_name.ensures
