-- How the paths of candidates and tries are laid out in the output.
use Rattle.std.specs.Prelude.{ℕ, ◌%◌, ◌/◌, List, [], ◌∷◌, ◌++◌, length}
use Rattle.text.specs.Bytes.{Text}

-- "a 2-byte length, low byte first"
abbrev pub size_of : ℕ → Text
size_of n = (n % 256) ∷ (n / 256) ∷ []

-- "each a 2-byte length, low byte first, and bytes"
unfoldable pub laid : List Text → Text
laid [] = []
laid (t ∷ ts) = (length t % 256) ∷ (length t / 256) ∷ (t ++ laid ts)
