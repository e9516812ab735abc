use Rattle.std.proofs.Common.{sym, ap, ◌∙◌, arith, length}
use Rattle.book.specs.Command.{key}
use Rattle.book.specs.Record.{is}
use Rattle.items.proofs.Reading.{keys_missing, keys_got}
use Rattle.record.proofs.Short.{found_short, found_rest}
use Rattle.record.proofs.lists.KeysIterator.next.Goals as goal

pub invariant_of-self : goal.invariant_of-self
invariant_of-self g c =
    let r = c.args.self.now.place in
    record { short = found_rest _ r.text.now r.commands.now r.at r.short _ c.in_ok-c.was (is key) c.next_item.ensures }

pub returns-in_err-c-clause-steps : goal.returns-in_err-c-clause-steps
returns-in_err-c-clause-steps g c =
    let r = c.args.self.now.place in
    let none = keys_missing r.text.now r.commands.now r.at (sym c.in_err-c.was ∙ c.next_item.ensures) in
    rw c.from_residual.ensures (record { first = (none, none); short = tt })

pub returns-clause-steps : goal.returns-clause-steps
returns-clause-steps g c =
    let r = c.args.self.now.place in
    let got = keys_got r.text.now r.commands.now r.at _ _ (sym c.in_ok-c.was ∙ c.next_item.ensures) in
    record {
      first = rw c.string_of.ensures got;
      short = omega (arith, ap length c.string_of.ensures, found_short _ r.text.now r.commands.now r.at r.short _ c.in_ok-c.was (is key) c.next_item.ensures);
    }

pub returns-clause-goes : goal.returns-clause-goes
returns-clause-goes g c =
    let r = c.args.self.now.place in
    let got = keys_got r.text.now r.commands.now r.at _ _ (sym c.in_ok-c.was ∙ c.next_item.ensures) in
    record { on = λ _. (tt, tt, omega (arith, ap length got)); keeps = tt; rests = λ _. tt }
