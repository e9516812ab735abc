-- The calls that write a listing, one after the other: what each of them is to write, and what is left after it. Assumes nothing.
use Rattle.std.proofs.Common.{◌≡◌, ℕ, ◌≤◌, List, [], ◌++◌, Option, Some, length, refl, sym, ap, ◌∙◌, append-nil}
use Rattle.text.specs.Bytes.{Text, bytes}
use Rattle.emit.specs.Emit.{Room}
use Rattle.emit.specs.Output.{Puts}
use Rattle.emit.specs.declared.Output.{Output}
use Rattle.emit.proofs.Outputs.{Left, left_all, left_room, left_step, left_end, puts_by}
use Rattle.book.specs.Command as command
use Rattle.book.specs.Record.{strings}
use Rattle.record.specs.Read.{read}
use Rattle.record.specs.Lists.{Record}
use Rattle.tsconfig.specs.Config as config
use Rattle.tsconfig.specs.Build.{Settings}
use Rattle.tsconfig.specs.Listing.{row, rows, items, mapping, if_named, listing}
use Rattle.rows.specs.Rows.{own_place}
use Rattle.rows.specs.declared.Book.{Book}
use Rattle.fields.specs.Fields.{list_at, roots_at, url_at, place_at, mapping_at}
use Rattle.options.specs.Options.{options_from, options_part}
use Rattle.options.proofs.Suppliers.{options_said}
use Rattle.sites.specs.Configs.{Supplied}
use Rattle.sites.specs.Sites.{record_in, settings_in}
use Rattle.sites.specs.declared.Config.{Config}
use Rattle.listing.specs.Parts.{lists_part, places_part, base_part}
use Rattle.listing.proofs.Whole.{files_part, include_part, exclude_part, url_part, paths_part, roots_part, out_part, declarations_part, listing_room, listing_is}

-- x is the next of all that o is to have, there is room for it, and y is what is left after it
pub record Turn (all : Text) (o : Output) (x y : Text) (u : Output) : Type 0 where
  pub room : Room u.at x
  pub left : (v : Output) → Puts x u v → Left all o y v

turn : (all rest x y : Text) (o u : Output) → Room o.at all → Left all o rest u → rest ≡ x ++ y → Turn all o x y u
turn all rest x y o u h l e = record { room = left_room all o rest u l x y e h; left = λ v p. left_step all o rest u l x y v e p }

module _ (c : Config) (o : Output) where
  abbrev b : Book
  b = c.book.now

  abbrev r : List ℕ
  r = c.row.now

  abbrev s : Settings
  s = settings_in c

  abbrev dir : Text
  dir = c.dir.now

  -- what `supplier` says of what it gives
  abbrev Told : ℕ → Option Record → Type 0
  Told k x = Supplied b r k x

  -- what comes before the base

  abbrev from_exclude : Text
  from_exclude = if_named (items (bytes "exclude")) (s.named config.exclude) ++ if_named (row (bytes "baseUrl")) (s.named config.base_url)

  abbrev from_include : Text
  from_include = if_named (items (bytes "include")) (s.named config.include) ++ from_exclude

  module _ (a : Room o.at (lists_part s)) (x : Option Record) (t : Told 0 x) where
    pub files_turn : Turn (lists_part s) o (list_at (bytes "files") dir command.file x) from_include o
    unfolding lists_part
    files_turn = turn _ _ _ _ _ _ a (left_all _ _) (ap (λ t. t ++ from_include) (files_part b r c.named dir c.place _ refl x t))

    module _ {u : Output} (p : Puts (list_at (bytes "files") dir command.file x) o u) (x' : Option Record) (t' : Told 1 x') where
      pub include_turn : Turn (lists_part s) o (list_at (bytes "include") dir command.include_item x') from_exclude u
      include_turn = turn _ _ _ _ _ _ a (files_turn.left _ p) (ap (λ t. t ++ from_exclude) (include_part b r c.named dir c.place _ refl x' t'))

      module _ {v : Output} (q : Puts (list_at (bytes "include") dir command.include_item x') u v) (y : Option Record) (g : Told 2 y) where
        pub exclude_turn : Turn (lists_part s) o (list_at (bytes "exclude") dir command.exclude_item y) (if_named (row (bytes "baseUrl")) (s.named config.base_url)) v
        exclude_turn = turn _ _ _ _ _ _ a (include_turn.left _ q) (ap (λ t. t ++ if_named (row (bytes "baseUrl")) (s.named config.base_url)) (exclude_part b r c.named dir c.place _ refl y g))

        module _ {w : Output} (q' : Puts (list_at (bytes "exclude") dir command.exclude_item y) v w) (y' : Option Record) (g' : Told 3 y') where
          pub url_turn : Turn (lists_part s) o (url_at dir y') [] w
          url_turn = turn _ _ _ _ _ _ a (exclude_turn.left _ q') (url_part b r c.named dir c.place _ refl y' g' ∙ sym (append-nil _))

  -- what follows the references

  abbrev from_declarations : Text
  from_declarations = if_named (row (bytes "declarationDir")) (s.named config.declaration_dir) ++ options_part s

  abbrev from_out : Text
  from_out = if_named (row (bytes "outDir")) (s.named config.out_dir) ++ from_declarations

  module _ (a : Room o.at (places_part s)) (x : Option Record) (t : Told 5 x) where
    pub roots_turn : Turn (places_part s) o (roots_at dir x) from_out o
    unfolding places_part
    roots_turn = turn _ _ _ _ _ _ a (left_all _ _) (ap (λ t. t ++ from_out) (roots_part b r c.named dir c.place _ refl x t))

    module _ {u : Output} (p : Puts (roots_at dir x) o u) (x' : Option Record) (t' : Told 6 x') where
      pub out_turn : Turn (places_part s) o (place_at (bytes "outDir") dir command.out_dir x') from_declarations u
      out_turn = turn _ _ _ _ _ _ a (roots_turn.left _ p) (ap (λ t. t ++ from_declarations) (out_part b r c.named dir c.place _ refl x' t'))

      module _ {v : Output} (q : Puts (place_at (bytes "outDir") dir command.out_dir x') u v) (y : Option Record) (g : Told 7 y) where
        pub declarations_turn : Turn (places_part s) o (place_at (bytes "declarationDir") dir command.declaration_dir y) (options_part s) v
        declarations_turn = turn _ _ _ _ _ _ a (out_turn.left _ q) (ap (λ t. t ++ options_part s) (declarations_part b r c.named dir c.place _ refl y g))

        pub options_turn : (w : Output) → Puts (place_at (bytes "declarationDir") dir command.declaration_dir y) v w → Turn (places_part s) o (options_from b.commands.now b.paths.rows.now r b.paths.text.now) [] w
        options_turn w k = turn _ _ _ _ _ _ a (declarations_turn.left w k) (sym (options_said b r c.named) ∙ sym (append-nil _))

  -- the whole

  module _ (e : Text) (value : e ≡ s.base) (short : length e ≤ 1600) (start : o.at ≤ 65536) (own : Record) (t : Told own_place (Some own)) where
    abbrev references : List Text
    references = strings own.text.now command.reference (read own.commands.now own.at)

    abbrev whole : Text
    whole = lists_part s ++ base_part references s

    abbrev from_references : Text
    from_references = rows (bytes "reference") references ++ places_part s

    abbrev from_paths : Text
    from_paths = if_named mapping (s.named config.paths) ++ from_references

    pub whole_room : Room o.at whole
    whole_room = listing_room b r c.named dir c.place c.short e value short own t o.at start

    pub lists_turn : Turn whole o (lists_part s) (base_part references s) o
    lists_turn = turn _ _ _ _ _ _ whole_room (left_all _ _) refl

    module _ {u : Output} (p : Puts (lists_part s) o u) where
      pub base_turn : Turn whole o (row (bytes "base") e) from_paths u
      unfolding base_part
      base_turn = turn _ _ _ _ _ _ whole_room (lists_turn.left _ p) (ap (λ (t : Text). row (bytes "base") t ++ from_paths) (sym value))

      module _ {v : Output} (q : Puts (row (bytes "base") e) u v) (x : Option Record) (f : Told 4 x) where
        pub paths_turn : Turn whole o (mapping_at dir e x) from_references v
        paths_turn = turn _ _ _ _ _ _ whole_room (base_turn.left _ q) (ap (λ (t : Text). t ++ from_references) (paths_part b r c.named dir c.place e value x f))

        module _ {w : Output} (k : Puts (mapping_at dir e x) v w) where
          pub references_turn : Turn whole o (rows (bytes "reference") references) (places_part s) w
          references_turn = turn _ _ _ _ _ _ whole_room (paths_turn.left _ k) refl

          module _ {y : Output} (l : Puts (rows (bytes "reference") references) w y) where
            pub places_turn : Turn whole o (places_part s) [] y
            places_turn = turn _ _ _ _ _ _ whole_room (references_turn.left _ l) (sym (append-nil _))

            pub listing_done : (z : Output) → Puts (places_part s) y z → Puts (listing (record_in c).references s) o z
            listing_done z m =
                puts_by _ _ _ _ (sym (listing_is b r c.named dir c.place c.short e value short own t)) (left_end _ _ _ _ (places_turn.left z m) refl)
