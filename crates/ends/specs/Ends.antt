-- The end of a path as Rust's `Path` reads it on Unix: up to the last component, without it, its file name and extension.
use Rattle.std.specs.Prelude.{ℕ, suc, zero, List, [], ◌∷◌, ◌++◌, Option, Some, None, cond, drop}
use Rattle.text.specs.Bytes.{Text, slash, dot}
use Rattle.text.specs.Text.{find_last}
use Rattle.components.specs.Components.{split, piece_of, is_skip, names, lead_of, rest_of, is_name, leads_dot}

-- pieces with slashes between
unfoldable pub joined : List Text → Text
joined [] = []
joined (p ∷ []) = p
joined (p ∷ q ∷ ps) = p ++ slash ∷ joined (q ∷ ps)

-- a piece before the pieces that are kept behind it
unfoldable pub ending : Text → List Text → List Text
ending p [] = cond (is_skip (piece_of p)) [] (p ∷ [])
ending p (q ∷ ps) = p ∷ q ∷ ps

-- the pieces up to the last component
unfoldable pub trim_end : List Text → List Text
trim_end [] = []
trim_end (p ∷ ps) = ending p (trim_end ps)

-- the pieces without the last
unfoldable pub all_but_last : List Text → List Text
all_but_last [] = []
all_but_last (p ∷ []) = []
all_but_last (p ∷ q ∷ ps) = p ∷ all_but_last (q ∷ ps)

-- the pieces of a path after its lead, up to its last component
abbrev pub body : Text → List Text
body s = trim_end (split (rest_of s))

-- the text up to the end of its last component
unfoldable pub trimmed : Text → Text
trimmed s = lead_of s ++ joined (body s)

-- without the last component; with none left "nothing" is dropped "at `/` or in the empty path", and a `.` alone goes
unfoldable pub without_last : Text → List Text → Text
without_last s [] = cond (leads_dot s) [] s
without_last s (p ∷ ps) = lead_of s ++ joined (trim_end (all_but_last (p ∷ ps)))

-- "Dropping is `Path::parent` on the text." Also the directory of a record's path.
unfoldable pub parent_of : Text → Text
parent_of s = without_last s (body s)

-- the last of the list, p where there is none
unfoldable pub last_of : Text → List Text → Text
last_of p [] = p
last_of p (q ∷ ps) = last_of q ps

-- what follows the last slash: rsplit('/')
unfoldable pub last_piece : Text → Text
last_piece s = last_of [] (split s)

-- the last component, where it is a name; an empty text stands for no component
unfoldable pub if_name : Text → Option Text
if_name p = cond (is_name (piece_of p)) (Some p) None

-- Path::file_name
unfoldable pub file_name : Text → Option Text
file_name s = if_name (last_of [] (names (split s)))

-- what follows the last dot of a file name; a dot in front begins the stem: "`.ts` has no extension"
unfoldable pub after_dot : Option ℕ → Text → Option Text
after_dot None p = None
after_dot (Some zero) p = None
after_dot (Some (suc i)) p = Some (drop (suc (suc i)) p)

-- of a file name
unfoldable pub extension_of : Option Text → Option Text
extension_of None = None
extension_of (Some p) = after_dot (find_last dot p) p

-- Path::extension
unfoldable pub extension : Text → Option Text
extension s = extension_of (file_name s)
