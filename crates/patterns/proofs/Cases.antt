-- The edges of the rule of patterns: one table, and its one theorem by computation.
use mathlib.Core.Path.{◌≡◌, refl}
use mathlib.Core.List.{List, [], ◌∷◌, map}
use mathlib.Core.Bool.{Bool, true, false}
use Prim.Native.String.{String}
use Rattle.text.specs.Bytes.{bytes}
use Rattle.text.specs.Text.{prefix_of, same_text, some_of, each_of}
use Rattle.components.specs.Components.{on_first, split}
use Rattle.patterns.specs.Patterns.{after_config_dir, two_stars, pattern_text, pattern_rule}

-- a text, and whether it may be an item of include or exclude
abbrev pub table : List (String × Bool)
table =
    -- "lack `{ } [ ] !`, and two adjacent stars are a whole component", "after a leading `${configDir}`"
    ("a/**/*.ts", true)
    ∷ ("${configDir}**", true)
    ∷ ("a/${configDir}", false)
    ∷ ("***", false)
    ∷ ("a**", false)
    ∷ ("b/**a/c", false)
    ∷ []

pub cases : map (λ (c : String × Bool). pattern_rule (bytes c.0)) table ≡ map (λ (c : String × Bool). c.1) table
unfolding after_config_dir two_stars pattern_text pattern_rule prefix_of same_text some_of each_of on_first split
cases = refl
