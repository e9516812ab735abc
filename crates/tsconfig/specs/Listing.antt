-- A build's whole output.
use Rattle.std.specs.Prelude.{List, [], ◌∷◌, ◌++◌, Bool, cond, ℕ, zero, suc, ◌+◌, ltb}
use Rattle.std.specs.Prelude.{Option, Some, None}
use Rattle.tsconfig.specs.Config.{files, include, exclude, base_url, paths, root_dirs, out_dir, declaration_dir, flag, text}
use Rattle.text.specs.Bytes.{Text, bytes}
use Rattle.book.specs.Record.{Key}
use Rattle.tsconfig.specs.Build.{Settings}

-- "Each is a name, `=` and the value, one line an item", "each ended by byte 0A"
unfoldable pub row : Text → Text → Text
row name v = name ++ (61 ∷ (v ++ 10 ∷ []))

-- "one line an item"
unfoldable pub rows : Text → List Text → Text
rows name [] = []
rows name (v ∷ vs) = row name v ++ rows name vs

-- "A present but empty list is its name alone"
unfoldable pub items : Text → List Text → Text
items name [] = name ++ 10 ∷ []
items name (v ∷ vs) = rows name (v ∷ vs)

-- "each `key` followed by its `target` lines"
unfoldable pub key_rows : List Key → Text
key_rows [] = []
key_rows (k ∷ ks) = row (bytes "key") k.key ++ (rows (bytes "target") k.targets ++ key_rows ks)

-- "(`paths` for a mapping without keys)"
unfoldable pub mapping : List Key → Text
mapping [] = bytes "paths" ++ 10 ∷ []
mapping (k ∷ ks) = key_rows (k ∷ ks)

-- an id, which is below 20, in decimal
unfoldable pub decimal : ℕ → Text
decimal id = cond (ltb id 10) ((48 + id) ∷ []) (49 ∷ (38 + id) ∷ [])

-- "an absent field has no line"
unfoldable pub if_named : {A : Type 0} → (A → Text) → Option A → Text
if_named show None = []
if_named show (Some v) = show v

-- "`flag` and id", "as `flag 2=1`"
unfoldable pub flag_row : ℕ → Bool → Text
flag_row id v = row (bytes "flag " ++ decimal id) (cond v (bytes "1") (bytes "0"))

-- "`text` and id"
unfoldable pub text_row : ℕ → Text → Text
text_row id v = row (bytes "text " ++ decimal id) v

-- "by rising id": those from id on, k of them
unfoldable pub flags : Settings → ℕ → ℕ → Text
flags c id zero = []
flags c id (suc k) = if_named (flag_row id) (c.named (flag id)) ++ flags c (suc id) k

-- the like for text options
unfoldable pub texts : Settings → ℕ → ℕ → Text
texts c id zero = []
texts c id (suc k) = if_named (text_row id) (c.named (text id)) ++ texts c (suc id) k

-- "in order: `files`, `include`, `exclude`, `baseUrl`, `base`, each `key` followed by its `target` lines, `reference`, .."
unfoldable pub listing : List Text → Settings → Text
listing references c =
    if_named (items (bytes "files")) (c.named files)
    ++ (if_named (items (bytes "include")) (c.named include)
    ++ (if_named (items (bytes "exclude")) (c.named exclude)
    ++ (if_named (row (bytes "baseUrl")) (c.named base_url)
    ++ (row (bytes "base") c.base
    ++ (if_named mapping (c.named paths)
    ++ (rows (bytes "reference") references
    ++ (if_named (items (bytes "rootDir")) (c.named root_dirs)
    ++ (if_named (row (bytes "outDir")) (c.named out_dir)
    ++ (if_named (row (bytes "declarationDir")) (c.named declaration_dir) ++ (flags c 0 11 ++ texts c 0 7))))))))))
