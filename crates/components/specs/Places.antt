-- Where the pieces of a text end, for the contracts of the functions that look for them.
use Rattle.std.specs.Prelude.{ℕ, ◌+◌, List, [], ◌∷◌, drop, length}
use Rattle.text.specs.Bytes.{Text}
use Rattle.components.specs.Components.{split}

-- the first of the list, nothing where there is none
abbrev pub first_of : List Text → Text
first_of [] = []
first_of (p ∷ ps) = p

-- where the piece of s that begins at `at` ends
unfoldable pub piece_end : ℕ → Text → ℕ
piece_end at s = at + length (first_of (split (drop at s)))
