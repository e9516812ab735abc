-- A key of `paths` against a specifier: CompiledTsconfigPaths::resolve for one key.
use Rattle.std.specs.Prelude.{ℕ, suc, ◌+◌, ◌-◌, Bool, ◌&&◌, cond, leb, length, take, drop, Option, Some, None, is_some}
use Rattle.text.specs.Bytes.{Text}
use Rattle.text.specs.Text.{prefix_of, same_text, star_of, between}

-- what stands before and after the star at i: "the first star divides"
abbrev pub prefix : Text → ℕ → Text
prefix key i = take i key

-- and what stands after it
abbrev pub suffix : Text → ℕ → Text
suffix key i = drop (suc i) key

-- s is at least as long as prefix and suffix together, begins with the one and ends with the other
unfoldable pub matches_at : Text → ℕ → Text → Bool
matches_at key i s =
    leb (length (prefix key i) + length (suffix key i)) (length s)
    && (prefix_of (prefix key i) s && same_text (drop (length s - length (suffix key i)) s) (suffix key i))

-- the piece, by where the star of the key stands
unfoldable pub part_at : Option ℕ → Text → Text → Option Text
part_at None key s = None
part_at (Some i) key s = cond (matches_at key i s) (Some (between i (length s - length (suffix key i)) s)) None

-- the piece of the specifier that the star stood for, where the key has a star and matches
unfoldable pub key_part : Text → Text → Option Text
key_part key s = part_at (star_of key) key s

-- whether there was a match
abbrev pub is_match : Option Text → Bool
is_match o = is_some o
