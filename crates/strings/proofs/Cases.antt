-- The edges of the rule of strings: one table, and its one theorem by computation.
use mathlib.Core.Path.{◌≡◌, refl}
use mathlib.Core.List.{List, [], ◌∷◌, map}
use mathlib.Core.Bool.{Bool, true, false}
use lib.ListN.{replicate}
use Rattle.text.specs.Bytes.{Text}
use Rattle.text.specs.Text.{each_of}
use Rattle.strings.specs.Strings.{string_rule}

-- a text, and whether it is a string
abbrev pub table : List (Text × Bool)
table =
    -- "512 bytes accepted, 513 refused"
    (replicate 512 0x20, true)
    ∷ (replicate 513 0x20, false)
    -- "each hexadecimal 20 to 7E, no backslash"
    ∷ (0x7E ∷ [], true)
    ∷ (0x7F ∷ [], false)
    ∷ (0x1F ∷ [], false)
    ∷ (0x5C ∷ [], false)
    ∷ []

pub cases : map (λ (c : Text × Bool). string_rule c.0) table ≡ map (λ (c : Text × Bool). c.1) table
unfolding string_rule each_of
cases = refl
