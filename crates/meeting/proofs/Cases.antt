-- Which paths are told to be those of files: one table, and its one theorem by computation.
use mathlib.Core.Path.{◌≡◌, refl}
use mathlib.Core.List.{List, [], ◌∷◌, map}
use mathlib.Core.Bool.{Bool, true, false}
use Prim.Native.String.{String}
use Rattle.text.specs.Bytes.{bytes}
use Rattle.meeting.specs.Files.{no_file_above, file_path}

-- a path, and whether it is told to be that of a file
abbrev pub table : List (String × Bool)
table =
    ("/tsconfig.json", true)
    ∷ ("/json.d/tsconfig.json", true)
    -- `son/` tells that what stands before it may be another's path
    ∷ ("/a.json/tsconfig.json", false)
    -- nothing tells that no other lies under it
    ∷ ("/a", false)
    ∷ ("/tsconfig.jso", false)
    ∷ ("on", false)
    ∷ []

pub cases : map (λ (c : String × Bool). file_path (bytes c.0)) table ≡ map (λ (c : String × Bool). c.1) table
unfolding no_file_above file_path
cases = refl
