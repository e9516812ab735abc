-- The built config: `TsConfig::build`.
use Rattle.std.specs.Prelude.{[], ◌∷◌, map, cond, eqb, drop}
use Rattle.tsconfig.specs.Config.{Field, files, include, exclude, base_url, paths, root_dirs, out_dir, declaration_dir, flag, text, Config, mapped}
use Rattle.text.specs.Bytes.{Text, slash}
use Rattle.names.specs.Names.{config_dir}
use Rattle.tsconfig.specs.Parsed.{Value}
use Rattle.text.specs.Text.{prefix_of}
use Rattle.ends.specs.Ends.{parent_of}
use Rattle.join.specs.Join.{push_of, normalize_with}

-- a config with its values and its base as texts
abbrev pub Settings : Type 0
Settings = Config Value Text

-- trim_start_matches('/')
unfoldable pub without_slashes : Text → Text
without_slashes [] = []
without_slashes (x ∷ s) = cond (eqb x slash) (without_slashes s) (x ∷ s)

-- what follows `${configDir}`, joined to the built config's directory: "`${configDir}` built in `/p`: `/p/`"
unfoldable pub in_config_dir : Text → Text → Text
in_config_dir dir s = push_of dir (without_slashes (drop 12 s))

-- a leading `${configDir}` replaced, else as placed when parsed
unfoldable pub substituted : Text → Text → Text
substituted dir s = cond (prefix_of config_dir s) (in_config_dir dir s) s

-- adjust_path: a leading `${configDir}` replaced, else read from the directory
unfoldable pub adjusted : Text → Text → Text → Text
adjusted dir from s = cond (prefix_of config_dir s) (in_config_dir dir s) (normalize_with from s)

-- "Files, include, exclude and the printed baseUrl are read from the built config's directory, inherited or not"; targets from the base
unfoldable pub built_value : Text → Text → (f : Field) → Value f → Value f
built_value dir base files v = map (adjusted dir dir) v
built_value dir base include v = map (adjusted dir dir) v
built_value dir base exclude v = map (adjusted dir dir) v
built_value dir base base_url v = adjusted dir dir v
built_value dir base paths v = map (λ k. record { key = k.key; targets = map (adjusted dir base) k.targets }) v
built_value dir base root_dirs v = map (substituted dir) v
built_value dir base out_dir v = substituted dir v
built_value dir base declaration_dir v = substituted dir v
built_value dir base (flag id) v = v
built_value dir base (text id) v = v

-- the config at the path, built: "The flat config is built as the core says."
unfoldable pub built : Text → Settings → Settings
built path c = mapped (built_value (parent_of path) (substituted (parent_of path) c.base)) (substituted (parent_of path)) c
