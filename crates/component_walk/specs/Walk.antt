-- What is left of a path when its first components are taken one by one.
use Rattle.std.specs.Prelude.{◌≡◌, List, [], ◌∷◌, Option, Some, None}
use Rattle.text.specs.Bytes.{Text}
use Rattle.components.specs.Components.{split, trim_start}

-- the pieces of a text, none where it is empty
unfoldable pub pieces : Text → List Text
pieces [] = []
pieces (x ∷ s) = split (x ∷ s)

-- the first component of s is taken, and t is what stands behind it: nothing, or its slash and the pieces behind that
abbrev pub Takes : Text → Option Text → Text → Type 0
Takes s None t = trim_start (split s) ≡ []
Takes s (Some p) t = (ps : List Text) × (trim_start (split s) ≡ p ∷ ps) × (split t ≡ [] ∷ ps)
