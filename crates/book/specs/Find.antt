-- Finding a config by path among the paths of a book's records: `get_tsconfig`.
use Rattle.std.specs.Prelude.{ℕ, suc, List, [], ◌∷◌, ◌++◌, Bool, cond, ◌&&◌}
use Rattle.std.specs.Prelude.{Option, Some, None, option_map}
use Rattle.text.specs.Bytes.{Text, slash}
use Rattle.names.specs.Names.{tsconfig_json, json}
use Rattle.text.specs.Text.{prefix_of, same_text, some_of}
use Rattle.components.specs.Components.{starts}
use Rattle.path.specs.Path.{is_some}
use Rattle.join.specs.Join.{push_of}

-- the number of the record with the path: "Record numbers run from 0."
unfoldable pub find : Text → List Text → Option ℕ
find p [] = None
find p (q ∷ qs) = cond (same_text p q) (Some 0) (option_map suc (find p qs))

-- "A directory is a proper ancestor of a record's path." The empty path is none, as in the crate's file system; no answer hangs on it.
unfoldable pub is_dir : List Text → Text → Bool
is_dir paths p = starts slash p && some_of (prefix_of (push_of p [])) paths

-- "An asked path that is a record is that record; a directory means its `tsconfig.json`; else `.json` is appended."
unfoldable pub config_path : List Text → Text → Text
config_path paths p = cond (is_some (find p paths)) p (cond (is_dir paths p) (push_of p tsconfig_json) (p ++ json))

-- the record that an asked path means
unfoldable pub locate : List Text → Text → Option ℕ
locate paths p = find (config_path paths p) paths
