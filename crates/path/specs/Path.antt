-- Whole paths as Rust's `Path` compares them on Unix, by components.
use Rattle.std.specs.Prelude.{List, [], ◌∷◌, Bool, true, false, ◌&&◌, ◌||◌, Option, Some, None, option_map, cond, drop}
use Rattle.text.specs.Bytes.{Text, bytes, slash}
use Rattle.text.specs.Text.{same_text, each_of}
use Rattle.components.specs.Components.{split, piece_of, is_skip, names, lead_of, rest_of, is_name, starts, components, trim_start}
use Rattle.ends.specs.Ends.{joined, trim_end, trimmed}

-- the lists have the same texts
unfoldable pub same_list : List Text → List Text → Bool
same_list [] [] = true
same_list [] (b ∷ bs) = false
same_list (a ∷ l) [] = false
same_list (a ∷ l) (b ∷ bs) = same_text a b && same_list l bs

-- what is left of a list after another that it begins with
unfoldable pub left_of : List Text → List Text → Option (List Text)
left_of l [] = Some l
left_of [] (b ∷ bs) = None
left_of (a ∷ l) (b ∷ bs) = cond (same_text a b) (left_of l bs) None

-- there is an answer
unfoldable pub is_some : {A : Type 0} → Option A → Bool
is_some None = false
is_some (Some a) = true

-- "Path equality .. by components, as Rust's `Path` does on Unix"
unfoldable pub same_path : Text → Text → Bool
same_path a b = same_list (components a) (components b)

-- ""lies under" go by components": "a path lies under itself, every path under the empty one". Path::starts_with
unfoldable pub under : Text → Text → Bool
under p d = is_some (left_of (components p) (components d))

-- the pieces left after components that they begin with
unfoldable pub left_pieces : List Text → List Text → Option (List Text)
left_pieces ps [] = Some ps
left_pieces [] (c ∷ cs) = None
left_pieces (p ∷ ps) (c ∷ cs) = cond (is_skip (piece_of p)) (left_pieces ps (c ∷ cs)) (cond (same_text p c) (left_pieces ps cs) None)

-- Path::strip_prefix: what is left of p after the directory d
unfoldable pub strip_prefix : Text → Text → Option Text
strip_prefix p [] = Some (trimmed p)
strip_prefix p (x ∷ d) =
    cond (same_text (lead_of p) (lead_of (x ∷ d))) (option_map (λ ps. joined (trim_start (trim_end ps))) (left_pieces (split (rest_of p)) (names (split (rest_of (x ∷ d))))))
    None

-- "A *normal* path starts with `/` and has no empty, `.` or `..` component and no final `/`, except `/` itself."
unfoldable pub normal : Text → Bool
normal s = same_text s (bytes "/") || (starts slash s && each_of (λ p. is_name (piece_of p)) (split (drop 1 s)))
