-- A record as parsed: TsConfig::parse over a record of the book.
use Rattle.std.specs.Prelude.{List, map, Bool, cond}
use Rattle.std.specs.Prelude.{Option, Some, None, option_map}
use Rattle.text.specs.Bytes.{Text}
use Rattle.names.specs.Names.{config_dir}
use Rattle.text.specs.Text.{prefix_of}
use Rattle.ends.specs.Ends.{parent_of}
use Rattle.join.specs.Join.{normalize_with}
use Rattle.book.specs.declared.Cmd.{Cmd}
use Rattle.book.specs.Command as command
use Rattle.book.specs.Record.{Key, strings, single, listed, mapping, option_of, flag_of, record_path_of}
use Rattle.tsconfig.specs.Config.{Field, files, include, exclude, base_url, paths, root_dirs, out_dir, declaration_dir, flag, text}

-- what a value of each field is
abbrev pub Value : Field → Type 0
Value files = List Text
Value include = List Text
Value exclude = List Text
Value base_url = Text
Value paths = List Key
Value root_dirs = List Text
Value out_dir = Text
Value declaration_dir = Text
Value (flag id) = Bool
Value (text id) = Text

-- a record: its path, its extends entries and references as given, what it says of each field, its own paths base
pub record Parsed : Type 0 where
  pub path : Text
  pub extended : List Text
  pub references : List Text
  pub says : (f : Field) → Option (Value f)
  pub base : Text

-- "a leading `${configDir}` kept for the build", else read from the record's own directory
unfoldable pub placed : Text → Text → Text
placed dir s = cond (prefix_of config_dir s) s (normalize_with dir s)

-- "Parsing sets paths base, root dirs, outDir and declarationDir from the record's own directory"
unfoldable pub placed_value : Text → (f : Field) → Value f → Value f
placed_value dir files v = v
placed_value dir include v = v
placed_value dir exclude v = v
placed_value dir base_url v = v
placed_value dir paths v = v
placed_value dir root_dirs v = map (placed dir) v
placed_value dir out_dir v = placed dir v
placed_value dir declaration_dir v = placed dir v
placed_value dir (flag id) v = v
placed_value dir (text id) v = v

-- "with its own paths base": its baseUrl, else its directory
unfoldable pub own_base : Text → Option Text → Text
own_base dir None = dir
own_base dir (Some u) = placed dir u

-- a record as parsed, from its path, its extends entries, its references and what it says of each field
unfoldable pub parse : Text → List Text → List Text → ((f : Field) → Option (Value f)) → Parsed
parse path extended references says =
    record {
      path = path;
      extended = extended;
      references = references;
      says = λ f. option_map (placed_value (parent_of path) f) (says f);
      base = own_base (parent_of path) (says base_url);
    }

-- "A field is named where its command stands, even if empty."
unfoldable pub said : Text → List Cmd → (f : Field) → Option (Value f)
said t r files = listed t command.files command.file r
said t r include = listed t command.include command.include_item r
said t r exclude = listed t command.exclude command.exclude_item r
said t r base_url = single t command.base_url r
said t r paths = mapping t r
said t r root_dirs = listed t command.root_dirs command.root_dir r
said t r out_dir = single t command.out_dir r
said t r declaration_dir = single t command.declaration_dir r
said t r (flag id) = flag_of id r
said t r (text id) = option_of t id r

-- the record that commands say, over the book's text
unfoldable pub parsed : Text → List Cmd → Parsed
parsed t r = parse (record_path_of t r) (strings t command.extends r) (strings t command.reference r) (said t r)
