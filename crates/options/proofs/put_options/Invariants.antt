use Rattle.std.proofs.Common.{◌-◌, ◌++◌}
use Rattle.emit.proofs.Outputs.{Left}
use Rattle.options.specs.Options.{flags_from, texts_from, options_from}
use Rattle.options.proofs.put_options.Given as goal

abbrev pub invariant-loop-id : goal.invariant-loop-id
invariant-loop-id l = Left (options_from l.commands l.paths.rows.now l.row l.paths.text.now) l.fn.out (flags_from l.commands l.paths.rows.now l.row l.id (11 - l.id) ++ texts_from l.commands l.paths.rows.now l.row l.paths.text.now 0 7) l.out

abbrev pub invariant-loop-id-2 : goal.invariant-loop-id-2
invariant-loop-id-2 l = Left (options_from l.commands l.paths.rows.now l.row l.paths.text.now) l.fn.out (texts_from l.commands l.paths.rows.now l.row l.paths.text.now l.id (7 - l.id)) l.out
