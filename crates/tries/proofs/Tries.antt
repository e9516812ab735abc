-- The tries in root dirs, and those of a row's config. Assumes nothing.
use Rattle.std.proofs.Common.{◌≡◌, ℕ, ◌+◌, Bool, true, false, List, [], ◌++◌, Option, Some, None, option_map, refl, sym, ap, ◌∙◌, length-append, true≢false, arith}
use Rattle.text.specs.Bytes.{Text, dot}
use Rattle.text.specs.Text.{some_of}
use Rattle.text.proofs.Picks.{by_test}
use Rattle.emit.specs.declared.Output.{Output}
use Rattle.emit.proofs.Outputs.{puts_both}
use Rattle.components.specs.Components.{starts, inside_node_modules}
use Rattle.path.specs.Path.{is_some}
use Rattle.join.specs.Join.{normalize_with}
use Rattle.book.specs.declared.Cmd.{Cmd}
use Rattle.book.specs.Command as command
use Rattle.book.specs.Record.{is, strings, listed}
use Rattle.items.proofs.Reading.{listed_is, listed_not}
use Rattle.record.specs.Read.{read}
use Rattle.tsconfig.specs.Config.{base_url, root_dirs}
use Rattle.tsconfig.specs.Parsed.{placed, placed_value, said}
use Rattle.tsconfig.specs.Build.{Settings, substituted, built_value}
use Rattle.tsconfig.specs.Mapping.{aliases, from_base_url, root_tries, tries}
use Rattle.rows.specs.Rows.{slot, begin_at}
use Rattle.rows.specs.Records.{dir_of}
use Rattle.rows.specs.declared.Book.{Book}
use Rattle.rows.proofs.Fields.{site_none, site_at_lem}
use Rattle.targets.specs.Targets.{Lists}
use Rattle.targets.proofs.Lays.{laid_append}
use Rattle.roots.specs.Roots.{roots_of}
use Rattle.sites.specs.Sites.{settings_in}
use Rattle.sites.specs.declared.Config.{Config}
use mathlib.Core.List.{map-map}
use Rattle.mapping.proofs.Sites.{said_some, dir_is}

-- What a row says of rootDirs

listed_some : (text : Text) (mark item : ℕ) (r : List Cmd) → is_some (listed text mark item r) ≡ true → listed text mark item r ≡ Some (strings text item r)
unfolding is_some
listed_some text mark item r e = by_test (some_of (is mark) r) (λ t. listed_is text r mark item t) (λ f. absurd (true≢false (sym e ∙ ap is_some (listed_not text r mark item f))))

module _ (c : Config) where
  abbrev b : Book
  b = c.book.now

  abbrev row : List ℕ
  row = c.row.now

  abbrev config : Settings
  config = settings_in c

  pub roots_none : (p : Text) → None ≡ begin_at b.paths.rows.now row 5 → root_tries p (config.named root_dirs) ≡ []
  unfolding root_tries slot
  roots_none p q =
      let y : config.named root_dirs ≡ None = site_none b.commands.now b.paths.text.now b.paths.rows.now b.records row c.named c.dir.now (dir_is c) config.base refl root_dirs q in
      rw y

  pub roots_named : (rec : ℕ) → Some rec ≡ begin_at b.paths.rows.now row 5 → config.named root_dirs ≡ Some (roots_of b.commands.now b.paths.text.now c.dir.now (dir_of b.paths.text.now (read b.commands.now rec)) rec)
  unfolding slot built_value placed_value said
  roots_named rec q =
      let own = dir_of b.paths.text.now (read b.commands.now rec) in
      site_at_lem b.commands.now b.paths.text.now b.paths.rows.now b.records row c.named c.dir.now (dir_is c) config.base refl root_dirs rec q
      ∙ ap (λ (o : Option (List Text)). option_map (built_value c.dir.now config.base root_dirs) (option_map (placed_value own root_dirs) o))
      (listed_some b.paths.text.now command.root_dirs command.root_dir (read b.commands.now rec) (said_some c root_dirs rec q))
      ∙ ap Some (map-map (substituted c.dir.now) (placed own) (strings b.paths.text.now command.root_dir (read b.commands.now rec)))

-- The tries of a config

module _ (c : Settings) (directory spec : Text) (k : Bool) (e : k ≡ inside_node_modules directory) where
  pub inside : k ≡ true → tries c directory spec ≡ []
  unfolding tries
  inside t = rw (← e, t)

  module _ (n : k ≡ false) (m : Bool) (w : m ≡ starts dot spec) where
    pub dotted : m ≡ true → root_tries (normalize_with directory spec) (c.named root_dirs) ≡ tries c directory spec
    unfolding tries aliases
    dotted t = rw (← e, n, ← w, t)

    module _ (f : m ≡ false) (o u : Output) (i : ℕ) (y : Lists (aliases c spec) o u i) where
      plain : tries c directory spec ≡ aliases c spec ++ from_base_url c spec (c.named base_url)
      unfolding tries
      plain = rw (← e, n, ← w, f)

      -- with what baseUrl gives
      pub read_too : (v : Output) (j : ℕ) → Lists (from_base_url c spec (c.named base_url)) u v j → Lists (tries c directory spec) o v (i + j)
      read_too v j l = rw plain (record {
        counts = omega (arith, y.counts, l.counts, length-append (aliases c spec) (from_base_url c spec (c.named base_url)));
        puts = rw (laid_append (aliases c spec) (from_base_url c spec (c.named base_url))) (puts_both _ _ o u v y.puts l.puts);
      })
