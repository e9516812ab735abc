-- The fixed names, and the extensions of the two families.
use Rattle.std.specs.Prelude.{[], ◌∷◌, Bool}
use Rattle.text.specs.Bytes.{Text, bytes}
use Rattle.text.specs.Text.{same_text, some_of}

-- "`${configDir}` is compared as its twelve bytes"
abbrev pub config_dir : Text
config_dir = bytes "${configDir}"

-- "inside `node_modules`"
abbrev pub node_modules : Text
node_modules = bytes "node_modules"

-- "a directory means its `tsconfig.json`"
abbrev pub tsconfig_json : Text
tsconfig_json = bytes "tsconfig.json"

-- "else `.json` is appended"
abbrev pub json : Text
json = bytes ".json"

-- is_file_extension_allowed_in_tsconfig: TS_EXTENSIONS
abbrev pub is_ts_extension : Text → Bool
is_ts_extension s = some_of (same_text s) (bytes "ts" ∷ bytes "tsx" ∷ bytes "mts" ∷ bytes "cts" ∷ [])

-- is_file_extension_allowed_in_tsconfig: JS_EXTENSIONS
abbrev pub is_js_extension : Text → Bool
is_js_extension s = some_of (same_text s) (bytes "js" ∷ bytes "jsx" ∷ bytes "mjs" ∷ bytes "cjs" ∷ [])
