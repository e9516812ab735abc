-- The subpaths that are joined at once: each piece is told to be a name by its first byte.
use Rattle.std.specs.Prelude.{ℕ, [], ◌∷◌, Bool, false, not, ◌||◌, eqb}
use Rattle.text.specs.Bytes.{Text, slash, dot}
use Rattle.text.specs.Text.{each_of}
use Rattle.components.specs.Components.{split}

-- neither a slash nor a dot
abbrev pub opens_name : ℕ → Bool
opens_name x = not (eqb x slash || eqb x dot)

-- the piece is not empty and does not begin with a dot: it is a name
unfoldable pub plain_name : Text → Bool
plain_name [] = false
plain_name (x ∷ p) = not (eqb x dot)

-- each piece of the text is such a name
unfoldable pub plain_names : Text → Bool
plain_names s = each_of plain_name (split s)
