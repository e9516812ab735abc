-- The lines of a record's items, as the functions that write them have them: as built.
use Rattle.std.specs.Prelude.{ℕ, List, [], ◌∷◌, ◌++◌, map}
use Rattle.text.specs.Bytes.{Text, bytes}
use Rattle.ends.specs.Ends.{parent_of}
use Rattle.book.specs.Command.{root_dir}
use Rattle.book.specs.Record.{Key, strings, keys_of, record_path_of}
use Rattle.record.specs.Read.{read}
use Rattle.record.specs.Lists.{Record}
use Rattle.tsconfig.specs.Parsed.{placed}
use Rattle.tsconfig.specs.Build.{substituted, adjusted}
use Rattle.tsconfig.specs.Listing.{row, rows}

-- a text and the end of its line
abbrev pub ended : Text → Text
ended s = s ++ 10 ∷ []

-- what follows a name in its line
abbrev pub valued : Text → Text
valued v = 61 ∷ ended v

-- a key with its targets as built
abbrev pub built_key : Text → Text → Key → Key
built_key dir base k = record { key = k.key; targets = map (adjusted dir base) k.targets }

-- a root dir, outDir or declarationDir of a record whose directory is own, as built
abbrev pub built_place : Text → Text → Text → Text
built_place dir own s = substituted dir (placed own s)

-- the lines of one key, with its targets as built
abbrev pub key_text : Text → Text → Key → Text
key_text dir base k = row (bytes "key") k.key ++ rows (bytes "target") (map (adjusted dir base) k.targets)

module _ (r : Record) where
  -- the record's directory
  abbrev pub dir_of : Text
  dir_of = parent_of (record_path_of r.text.now (read r.commands.now r.at))

  -- its strings with the byte, as built
  abbrev pub built_strings : Text → ℕ → List Text
  built_strings dir op = map (adjusted dir dir) (strings r.text.now op (read r.commands.now r.at))

  -- its root dirs, as built where its directory is own
  abbrev pub built_roots : Text → Text → List Text
  built_roots dir own = map (built_place dir own) (strings r.text.now root_dir (read r.commands.now r.at))

  -- its keys, as built
  abbrev pub built_keys : Text → Text → List Key
  built_keys dir base = map (built_key dir base) (keys_of r.text.now (read r.commands.now r.at))
