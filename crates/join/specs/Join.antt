-- Joining paths.
use Rattle.std.specs.Prelude.{◌-◌, List, [], ◌∷◌, ◌++◌, Bool, cond, eqb, length, get_or}
use Rattle.text.specs.Bytes.{Text, slash}
use Rattle.components.specs.Components.{split, piece_of, starts}
use Rattle.components.specs.declared.Piece.{Piece}
use Rattle.components.specs.declared.Piece.TheVariants.{Skip, Up, Name}
use Rattle.ends.specs.Ends.{parent_of}

-- a slash, where the text neither is empty nor ends with one
unfoldable pub joint : Text → Text
joint s = cond (eqb (length s) 0) [] (cond (eqb (get_or s (length s - 1) 0) slash) [] (slash ∷ []))

-- PathBuf::push of a relative path: "Joining the empty path adds a final `/` where none stands."
unfoldable pub push_of : Text → Text → Text
push_of s name = s ++ (joint s ++ name)

-- Path::join: an absolute path replaces
unfoldable pub join_of : Text → Text → Text
join_of base sub = cond (starts slash sub) sub (push_of base sub)

-- by what the piece is
unfoldable pub step_by : Piece → Text → Text → Text
step_by Skip s p = s
step_by Up s p = parent_of s
step_by Name s p = push_of s p

-- one piece of a subpath: push_normalized_component
unfoldable pub step_of : Text → Text → Text
step_of s p = step_by (piece_of p) s p

-- one piece after the other
unfoldable pub walk_of : Text → List Text → Text
walk_of s [] = s
walk_of s (p ∷ ps) = walk_of (step_of s p) ps

-- `normalize_with`: "an empty subpath gives the empty path; an absolute one is returned unchanged; otherwise .. The base itself is not normalised."
unfoldable pub normalize_with : Text → Text → Text
normalize_with base [] = []
normalize_with base (x ∷ s) = cond (eqb x slash) (x ∷ s) (walk_of base (split (x ∷ s)))

-- a slash where it is asked for
abbrev pub slash_if : Bool → Text
slash_if b = cond b (slash ∷ []) []
