use Rattle.std.proofs.Common.{sym, ap, ◌∙◌, arith, length}
use Rattle.std.specs.Prelude.{option_copied}
use Rattle.book.specs.Record.{is}
use Rattle.items.proofs.Reading.{single_missing, single_got}
use Rattle.record.proofs.Short.{found_short}
use Rattle.record.proofs.place.Place.string.Goals as goal

pub returns-in_err-c-clause-value : goal.returns-in_err-c-clause-value
returns-in_err-c-clause-value g c =
    let r = c.args.self.now in
    ap option_copied c.from_residual.ensures ∙ sym (single_missing r.text.now c.args.op r.commands.now r.at (sym c.in_err-c.was ∙ c.next_item.ensures))

pub returns-clause-value : goal.returns-clause-value
returns-clause-value g c =
    let r = c.args.self.now in
    rw c.string_of.ensures (sym (single_got r.text.now c.args.op r.commands.now r.at _ _ (sym c.in_ok-c.was ∙ c.next_item.ensures)))

pub returns-clause-short : goal.returns-clause-short
returns-clause-short g c =
    let r = c.args.self.now in
    omega (arith, ap length c.string_of.ensures, found_short _ r.text.now r.commands.now r.at r.short _ c.in_ok-c.was (is c.args.op) c.next_item.ensures)
