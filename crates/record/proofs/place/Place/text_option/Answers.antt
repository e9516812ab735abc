use Rattle.std.proofs.Common.{sym, ap, ◌∙◌, arith, length}
use Rattle.std.specs.Prelude.{option_copied}
use Rattle.book.specs.Command.{text_option}
use Rattle.book.specs.Record.{is_id}
use Rattle.items.proofs.Reading.{option_missing, option_got}
use Rattle.record.proofs.Short.{found_short}
use Rattle.record.proofs.place.Place.text_option.Goals as goal

pub returns-in_err-c-clause-value : goal.returns-in_err-c-clause-value
returns-in_err-c-clause-value g c =
    let r = c.args.self.now in
    ap option_copied c.from_residual.ensures ∙ sym (option_missing c.args.id r.commands.now r.at r.text.now (sym c.in_err-c.was ∙ c.next_option.ensures))

pub returns-clause-value : goal.returns-clause-value
returns-clause-value g c =
    let r = c.args.self.now in
    rw c.string_of.ensures (sym (option_got c.args.id r.commands.now r.at r.text.now _ _ (sym c.in_ok-c.was ∙ c.next_option.ensures)))

pub returns-clause-short : goal.returns-clause-short
returns-clause-short g c =
    let r = c.args.self.now in
    omega (arith, ap length c.string_of.ensures, found_short _ r.text.now r.commands.now r.at r.short _ c.in_ok-c.was (is_id text_option c.args.id) c.next_option.ensures)
