-- Worked examples: one table, and one theorem by computation. Assumes nothing.
use Prim.Native.String.{String}
use mathlib.Core.Path.{◌≡◌, refl}
use mathlib.Core.List.{List, [], ◌∷◌, map}
use Rattle.text.specs.Bytes.{Text, bytes}
use Rattle.components.specs.Components.{on_first, split, piece_of, starts, leads_dot, lead_of}
use Rattle.ends.specs.Ends.{joined, ending, trim_end, all_but_last, without_last, parent_of}
use Rattle.join.specs.Join.{joint, push_of, join_of, step_by, step_of, walk_of, normalize_with}

-- what is asked, and last the answer
pub data Case : Type 0 where
  parent : String → String → Case
  joins : String → String → String → Case
  normal : String → String → String → Case

abbrev pub table : List Case
table =
    -- "`/a/b` with `../c`: `/a/c`", and the next three
    normal "/a/b" "../c" "/a/c"
    ∷ normal "/a" "" ""
    ∷ normal "/" "../z" "/z"
    ∷ normal "/a" "/u/../v" "/u/../v"
    -- "`${configDir}` built in `/p`: `/p/`"
    ∷ joins "/p" "" "/p/"
    ∷ joins "/" "" "/"
    ∷ joins "/p" "x/../y/" "/p/x/../y/"
    ∷ joins "/p" "/q/" "/q/"
    -- a base that is not normal
    ∷ normal "/u/w/" "../*" "/u/*"
    ∷ normal "/u/w/" "x" "/u/w/x"
    ∷ normal "/u/w/." "../*" "/u/*"
    ∷ normal "/u/w/." "x" "/u/w/./x"
    ∷ normal "/u/w/.." "../*" "/u/w/*"
    ∷ normal "//u//w" "../*" "//u/*"
    ∷ normal "//u//w" "../../*" "/*"
    ∷ normal "" "../*" "*"
    ∷ normal "" "src/*" "src/*"
    -- a final slash goes
    ∷ normal "/p" "./src//" "/p/src"
    -- a lead is the last to go, and `/` stays
    ∷ parent "/a/b" "/a"
    ∷ parent "/a//." "/"
    ∷ parent "//" "//"
    ∷ parent "./a/" "."
    ∷ parent "./" ""
    ∷ parent "a" ""
    ∷ parent "" ""
    ∷ []

abbrev pub given : Case → Text
given (parent s r) = parent_of (bytes s)
given (joins base sub r) = join_of (bytes base) (bytes sub)
given (normal base sub r) = normalize_with (bytes base) (bytes sub)

abbrev pub answer : Case → Text
answer (parent s r) = bytes r
answer (joins base sub r) = bytes r
answer (normal base sub r) = bytes r

pub cases : map given table ≡ map answer table
unfolding on_first split piece_of starts leads_dot joined ending trim_end all_but_last lead_of without_last parent_of joint push_of join_of step_by step_of walk_of normalize_with
cases = refl
