use Rattle.std.proofs.Common.{sym, ap, ◌∙◌}
use Rattle.book.specs.Refusals.{number_of}
use Rattle.std.specs.Prelude.{option_map}
use Rattle.tsconfig_resolver.specs.Load.{unread}
use Rattle.rows.proofs.Configs.{own_config, own_row, own_number}
use Rattle.entries.specs.Entries.{entries_of}
use Rattle.entries.proofs.Dirs.{inside_records}
use Rattle.entries.proofs.open_record.Goals as goal

pub returns-clause-ok : goal.returns-clause-ok
returns-clause-ok c =
    let b = c.args.checked.now in
    let h = inside_records b c.args.c c.requires in
    let own = c.own_row-row.ensures in
    record {
      read = ap unread (sym c.read_entries-entries.ensures.entries ∙ sym (ap entries_of c.as_slice.ensures)) ∙ sym c.unread.ensures ∙ ap (option_map number_of) c.in_default.is;
      entries = c.read_entries-entries.ensures;
      config = own_config b.book.commands.now b.book.paths.text.now b.book.paths.rows.now b.book.records c.args.c h _ own;
      row = own_row b.book.commands.now b.book.paths.text.now b.book.paths.rows.now b.book.records c.args.c h _ own;
      own = own_number _ _ _ own;
    }
