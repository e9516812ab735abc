-- Worked examples of patterns: one table and its one theorem, by computation.
use Prim.Native.String.{String}
use mathlib.Core.List.{List, [], ◌∷◌}
use mathlib.Core.Path.{◌≡◌, refl}
use mathlib.Core.Bool.{Bool, true, false, beq}
use Rattle.text.specs.Bytes.{bytes}
use Rattle.text.specs.Text.{each_of}
use Rattle.glob.specs.Glob.{glob_of, tokens, token_at, after_star, after_stars, match_tokens, eat, after, after_dirs}

-- a pattern, a path, and whether it matches
pub record Case : Type 0 where
  pub pattern : String
  pub path : String
  pub matched : Bool

abbrev pub on : String → String → Bool → Case
on p s b = record { pattern = p; path = s; matched = b }

abbrev pub right : Case → Bool
right c = beq (glob_of (bytes c.pattern) (bytes c.path)) c.matched

abbrev pub table : List Case
table =
    -- "`?` is one byte but `/`"
    on "/a?c" "/abc" true
    ∷ on "/a?c" "/a/c" false
    ∷ on "/a?c" "/ac" false
    -- "`*` a run without `/`, perhaps empty"
    ∷ on "/a/*.ts" "/a/b.ts" true
    ∷ on "/a/*.ts" "/a/.ts" true
    ∷ on "/a/*.ts" "/a/c/b.ts" false
    ∷ on "/*a*a*a*b" "/aaaaaaaa" false
    -- "`**` any number of components"
    ∷ on "/a/**/*.ts" "/a/b.ts" true
    ∷ on "/a/**/*.ts" "/a/c/d/b.ts" true
    ∷ on "/a/**/d/*.ts" "/a/xd/b.ts" false
    -- "one or more where last"
    ∷ on "/a/**" "/a/b/c" true
    ∷ on "/a/**" "/a" false
    -- "A leading dot is ordinary."
    ∷ on "/p/**/*" "/p/.git/x" true
    ∷ on "/p/*" "/p/.x" true
    -- pattern and path are cut at every `/`, and empty pieces count
    ∷ on "//a" "/a" false
    -- "`/p/./k.ts` names `/p/k.ts` there, but as a pattern matches nothing"
    ∷ on "/p/./k.ts" "/p/k.ts" false
    -- the other bytes stand for themselves
    ∷ on "/p/x.*" "/p/x.vue" true
    ∷ on "/p/*.TS" "/p/x.ts" false
    ∷ []

pub cases : each_of right table ≡ true
unfolding each_of glob_of tokens token_at after_star after_stars match_tokens eat after after_dirs
cases = refl
