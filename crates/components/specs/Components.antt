-- The pieces of a path between its slashes and its components, as Rust's `Path` reads them on Unix: for every byte string, not only for normal paths.
use Rattle.std.specs.Prelude.{ℕ, List, [], ◌∷◌, ◌++◌, Bool, true, false, ◌&&◌, cond, eqb, drop, length}
use Rattle.text.specs.Bytes.{Text, bytes, slash, dot}
use Rattle.text.specs.Text.{same_text, some_of}
use Rattle.names.specs.Names.{node_modules}
use Rattle.components.specs.declared.Piece.{Piece}
use Rattle.components.specs.declared.Piece.TheVariants.{Skip, Up, Name}

-- a byte put before the first piece
unfoldable pub on_first : ℕ → List Text → List Text
on_first x [] = (x ∷ []) ∷ []
on_first x (p ∷ ps) = (x ∷ p) ∷ ps

-- the pieces of a text between its slashes; an empty one counts
unfoldable pub split : Text → List Text
split [] = [] ∷ []
split (x ∷ s) = cond (eqb x slash) ([] ∷ split s) (on_first x (split s))

-- "`.` is skipped", and so is an empty piece; "`..` drops the last component"; "names are pushed"
unfoldable pub piece_of : Text → Piece
piece_of [] = Skip
piece_of (a ∷ []) = cond (eqb a dot) Skip Name
piece_of (a ∷ b ∷ []) = cond (eqb a dot) (cond (eqb b dot) Up Name) Name
piece_of (a ∷ b ∷ c ∷ s) = Name

-- the piece is passed over
abbrev pub is_skip : Piece → Bool
is_skip Skip = true
is_skip Up = false
is_skip Name = false

-- the piece is a name
abbrev pub is_name : Piece → Bool
is_name Skip = false
is_name Up = false
is_name Name = true

-- the text begins with the byte
unfoldable pub starts : ℕ → Text → Bool
starts c [] = false
starts c (x ∷ s) = eqb x c

-- the text is `.` or begins `./`: there the `.` is a component
unfoldable pub leads_dot : Text → Bool
leads_dot [] = false
leads_dot (a ∷ []) = eqb a dot
leads_dot (a ∷ b ∷ s) = eqb a dot && eqb b slash

-- the pieces that are components: names and `..`
unfoldable pub names : List Text → List Text
names [] = []
names (p ∷ ps) = cond (is_skip (piece_of p)) (names ps) (p ∷ names ps)

-- a leading `/` and a leading `.` are components of their own
unfoldable pub heads : Text → List Text
heads s = cond (starts slash s) (bytes "/" ∷ []) (cond (leads_dot s) (bytes "." ∷ []) [])

-- Path::components
unfoldable pub components : Text → List Text
components s = heads s ++ names (split s)

-- the pieces from the first component on
unfoldable pub trim_start : List Text → List Text
trim_start [] = []
trim_start (p ∷ ps) = cond (is_skip (piece_of p)) (trim_start ps) (p ∷ ps)

-- the `/` or the `.` that a path begins with, if any
unfoldable pub lead_of : Text → Text
lead_of s = cond (starts slash s) (bytes "/") (cond (leads_dot s) (bytes ".") [])

-- and what follows it
abbrev pub rest_of : Text → Text
rest_of s = drop (length (lead_of s)) s

-- "inside `node_modules`": a component is that name
unfoldable pub inside_node_modules : Text → Bool
inside_node_modules s = some_of (λ p. same_text p node_modules) (split s)
