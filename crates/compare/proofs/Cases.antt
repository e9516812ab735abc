-- The edges of the rule of covers: one table, and its one theorem by computation.
use mathlib.Core.Path.{◌≡◌, refl}
use mathlib.Core.List.{List, [], ◌∷◌, map}
use mathlib.Core.Bool.{Bool, true, false}
use Prim.Native.String.{String}
use Rattle.text.specs.Bytes.{bytes}
use Rattle.text.specs.Text.{prefix_of}
use Rattle.compare.specs.Compare.{covers}

-- two paths, and whether the second is the first or lies under it
abbrev pub table : List (String × String × Bool)
table =
    -- "`/ab` does not lie under `/a`"
    ("/a", "/a/b", true)
    ∷ ("/a", "/a", true)
    ∷ ("/a", "/ab", false)
    ∷ ("/a/b", "/a", false)
    ∷ []

pub cases : map (λ (c : String × String × Bool). covers (bytes c.0) (bytes c.1)) table ≡ map (λ (c : String × String × Bool). c.2) table
unfolding covers prefix_of
cases = refl
