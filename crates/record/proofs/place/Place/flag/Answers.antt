use Rattle.std.proofs.Common.{sym, ◌∙◌}
use Rattle.items.proofs.Reading.{flag_missing, flag_got}
use Rattle.record.proofs.place.Place.flag.Goals as goal

pub returns-in_err-c : goal.returns-in_err-c
returns-in_err-c g c = c.from_residual.ensures ∙ sym (flag_missing c.args.id c.args.self.now.commands.now c.args.self.now.at (sym c.in_err-c.was ∙ c.next_option.ensures))

pub returns : goal.returns
returns g c = sym (flag_got c.args.id c.args.self.now.commands.now c.args.self.now.at _ _ (sym c.in_ok-c.was ∙ c.next_option.ensures))
