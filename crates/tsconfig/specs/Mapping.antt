-- Path mapping: key choice, candidates and tries.
use Rattle.std.specs.Prelude.{List, [], ◌∷◌, ◌++◌, map, Bool, true, ◌&&◌, cond, ℕ, suc, ltb, length, take, drop}
use Rattle.std.specs.Prelude.{Option, Some, None, unwrap_or}
use Rattle.tsconfig.specs.Config.{base_url, paths, root_dirs}
use Rattle.text.specs.Bytes.{Text, dot}
use Rattle.book.specs.Record.{Key}
use Rattle.text.specs.Text.{same_text, star_of}
use Rattle.keys.specs.Keys.{key_part, is_match}
use Rattle.components.specs.Components.{starts, inside_node_modules}
use Rattle.path.specs.Path.{same_path, under, strip_prefix}
use Rattle.join.specs.Join.{normalize_with}
use Rattle.tsconfig.specs.Build.{Settings}

-- "An equal key wins, empty or not": with or without targets
unfoldable pub equal_key : Text → List Key → Option Key
equal_key s [] = None
equal_key s (k ∷ ks) = cond (same_text k.key s) (Some k) (equal_key s ks)

-- how long a key is before its star
unfoldable pub prefix_len : Option ℕ → ℕ
prefix_len None = 0
prefix_len (Some i) = i

-- the key has a longer prefix than the best so far
unfoldable pub longer : Option Key → Key → Bool
longer None k = true
longer (Some b) k = ltb (prefix_len (star_of b.key)) (prefix_len (star_of k.key))

-- Modules Reference, paths: of the patterns that match, the one with the longest prefix before its star; of equal ones the earliest. b is the best
-- so far. "A key without a star is passed over among wildcards"
unfoldable pub best_key : Text → Option Key → List Key → Option Key
best_key s b [] = b
best_key s b (k ∷ ks) = best_key s (cond (is_match (key_part k.key s) && longer b k) (Some k) b) ks

-- Modules Reference, paths: what the star of the key stood for is put in for the star of the target, its first
unfoldable pub filled_at : Option ℕ → Text → Text → Text
filled_at None part t = t
filled_at (Some i) part t = take i t ++ (part ++ drop (suc i) t)

-- a target with its first star filled
unfoldable pub filled : Text → Text → Text
filled part t = filled_at (star_of t) part t

-- the targets of the key chosen among the wildcards, each filled; a key without targets gives none, and no other key is looked at
unfoldable pub from_best : Text → Option Key → List Text
from_best s None = []
from_best s (Some k) = map (filled (unwrap_or (key_part k.key s) [])) k.targets

-- the targets of an equal key as they are, else those of the best wildcard
unfoldable pub from_equal : Text → List Key → Option Key → List Text
from_equal s ks (Some k) = k.targets
from_equal s ks None = from_best s (best_key s None ks)

-- the mapping of the config, if it names `paths`
unfoldable pub from_paths : Text → Option (List Key) → List Text
from_paths s None = []
from_paths s (Some ks) = from_equal s ks (equal_key s ks)

-- resolve_path_alias: a specifier that starts with a dot is not mapped
unfoldable pub aliases : Settings → Text → List Text
aliases c s = cond (starts dot s) [] (from_paths s (c.named paths))

-- TSConfig Reference, baseUrl: the specifier read from it. resolve_base_url, from the config's base
unfoldable pub from_base_url : Settings → Text → Option Text → List Text
from_base_url c s None = []
from_base_url c s (Some u) = normalize_with c.base s ∷ []

-- the first list, unless it is empty
unfoldable pub or_if_none : List Text → List Text → List Text
or_if_none [] other = other
or_if_none (x ∷ xs) other = x ∷ xs

-- "Candidates are `resolve_path_alias_or_base_url`'s list": the baseUrl path only where the mapping gave nothing
unfoldable pub candidates : Settings → Text → List Text
candidates c s = or_if_none (aliases c s) (from_base_url c s (c.named base_url))

-- the root dir is longer than the best so far
unfoldable pub longer_text : Option Text → Text → Bool
longer_text None r = true
longer_text (Some b) r = ltb (length b) (length r)

-- the root dir above the candidate whose text is longest, of equal ones the earliest
unfoldable pub root_above : Text → Option Text → List Text → Option Text
root_above p b [] = b
root_above p b (r ∷ rs) = root_above p (cond (under p r && longer_text b r) (Some r) b) rs

-- TSConfig Reference, rootDirs: the rest of the path in each other root dir; those equal by components are the same one
unfoldable pub in_roots : Text → Option Text → List Text → List Text
in_roots m None rs = []
in_roots m (Some l) [] = []
in_roots m (Some l) (r ∷ rs) = cond (same_path r m) (in_roots m (Some l) rs) (normalize_with r l ∷ in_roots m (Some l) rs)

-- the path itself, then its rest in the other root dirs
unfoldable pub from_root : Text → List Text → Option Text → List Text
from_root p rs None = []
from_root p rs (Some m) = p ∷ in_roots m (strip_prefix p m) rs

-- load_tsconfig_root_dirs, from the directory
unfoldable pub root_tries : Text → Option (List Text) → List Text
root_tries p None = []
root_tries p (Some rs) = from_root p rs (root_above p None rs)

-- "Tries (01's term): the paths that `resolve_tsconfig_compiler_options` would test from a given directory, in order, as if that directory alone existed; none inside
-- `node_modules`."
unfoldable pub tries : Settings → Text → Text → List Text
tries c dir s =
    cond (inside_node_modules dir) []
    (aliases c s ++ cond (starts dot s) (root_tries (normalize_with dir s) (c.named root_dirs)) (from_base_url c s (c.named base_url)))

-- the second list, unless the first is empty
unfoldable pub if_any : List Text → List Text → List Text
if_any [] other = []
if_any (x ∷ xs) other = other

-- what is tried after the candidates, where the specifier does not start with a dot: the baseUrl path, unless it is a candidate itself
unfoldable pub after_candidates : Settings → Text → List Text
after_candidates c s = if_any (aliases c s) (from_base_url c s (c.named base_url))
