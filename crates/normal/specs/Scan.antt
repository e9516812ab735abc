-- What the loops over a path test at each place: the rule of names by the three bytes behind a slash.
use Rattle.std.specs.Prelude.{ℕ, [], ◌∷◌, Bool, true, not, ◌&&◌, ◌||◌, get_or, eqb}
use Rattle.text.specs.Bytes.{Text, slash, dot}

-- what begins with the three bytes is nothing, `.` or `..`, up to the next slash
abbrev pub nameless : ℕ → ℕ → ℕ → Bool
nameless x y z = eqb x slash || (eqb x dot && (eqb y slash || (eqb y dot && eqb z slash)))

-- behind each slash of s stands a name; where s ends, slashes are read
unfoldable pub names_behind : Text → Bool
names_behind [] = true
names_behind (x ∷ s) = not (eqb x slash && nameless (get_or s 0 slash) (get_or s 1 slash) (get_or s 2 slash)) && names_behind s
