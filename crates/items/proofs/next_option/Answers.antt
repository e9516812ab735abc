use Rattle.std.proofs.Common.{ℕ, refl, ◌∙◌, sym, rules, tests}
use Rattle.std.proofs.lemmas.Iterator.Search.{find_from_yields_List}
use Rattle.std.proofs.lemmas.Iterator.Consumers.{YieldsList-from_first}
use Rattle.std.proofs.lemmas.Iterator.Adapters.{option_map_id}
use Rattle.book.specs.declared.Cmd.{Cmd}
use Rattle.book.specs.Record.{is_id}
use Rattle.items.specs.declared.Commands.{Commands}
use Rattle.items.specs.Runs.{commands_left}
use Rattle.items.proofs.Reading.{read_from, found_first}
use Rattle.items.proofs.next_option.Goals as goal

pub returns : goal.returns
returns c =
    let a = c.args in
    let it : Commands = record { commands = a.commands; at = a.at } in
    sym (option_map_id _)
    ∙ find_from_yields_List (λ (p : Cmd × ℕ). is_id a.op a.id p.0) c.find.new.self _ c.find.result c.find.ensures.ran (YieldsList-from_first (λ x. x) commands_left (commands_left it) refl) (λ x b q k. search (rules, tests))
    ∙ found_first (is_id a.op a.id) (read_from a.commands.now a.at)
