-- The file test over a built config (is_file_included_in_tsconfig), what a config claims, and the solution.
use Rattle.std.specs.Prelude.{List, [], ◌∷◌, ◌++◌, Bool, true, false, not, ◌&&◌, ◌||◌, cond, ℕ, eqb}
use Rattle.std.specs.Prelude.{Option, Some, None, unwrap_or}
use Rattle.tsconfig.specs.Config.{files, include, exclude, flag}
use Rattle.text.specs.Bytes.{Text, bytes, slash, dot, star, question}
use Rattle.text.specs.Text.{same_text, some_of}
use Rattle.names.specs.Names.{is_ts_extension, is_js_extension}
use Rattle.ends.specs.Ends.{parent_of, last_piece, extension}
use Rattle.path.specs.Path.{same_path, under, is_some}
use Rattle.glob.specs.Glob.{glob_of}
use Rattle.tsconfig.specs.Build.{Settings}

-- a built config at its path, with its record's number
pub record Site : Type 0 where
  pub number : ℕ
  pub path : Text
  pub config : Settings

-- the ninth bool field of `CompilerOptions`
abbrev pub allow_js : Settings → Bool
allow_js c = unwrap_or (c.named (flag 8)) false

-- the extensions that a config takes in: TypeScript's own, and JavaScript's where allowJs is on, js. is_file_extension_allowed_in_tsconfig
unfoldable pub allowed : Bool → Option Text → Bool
allowed js None = false
allowed js (Some e) = is_ts_extension e || (js && is_js_extension e)

-- no program's input: no extension, or JavaScript's without allowJs. is_extensionless_or_uncompiled_js
unfoldable pub outside : Bool → Option Text → Bool
outside js None = true
outside js (Some e) = not js && is_js_extension e

-- the text ends with the byte
unfoldable pub ends : ℕ → Text → Bool
ends c [] = false
ends c (x ∷ []) = eqb x c
ends c (x ∷ y ∷ s) = ends c (y ∷ s)

-- a dot, a star or a question mark
abbrev pub is_special : ℕ → Bool
is_special x = eqb x dot || (eqb x star || eqb x question)

-- "The implicit `/**/*` .. are `is_glob_match`'s": where the last piece has no dot, star or question mark
unfoldable pub implied : Text → Text
implied p = cond (some_of is_special (last_piece p)) p (p ++ cond (ends slash p) (bytes "**/*") (bytes "/**/*"))

-- is_glob_match: "patterns by text", so an equal text matches; a pattern that ends in a star only for the extensions that are taken in
unfoldable pub matched : Bool → Text → Text → Bool
matched js path p = same_text p path || ((not (ends star (implied p)) || allowed js (extension path)) && glob_of (implied p) path)

-- TSConfig Reference, include: without it nothing where `files` is there, else `**/*`, all below the config's directory
unfoldable pub included : Site → Text → Option (List Text) → Bool
included s path (Some ps) = some_of (matched (allow_js s.config) path) ps
included s path None =
    not (is_some (s.config.named files)) && (under path (parent_of s.path) && allowed (allow_js s.config) (extension path))

-- TSConfig Reference, exclude: what include takes in and these match is left out; no default (02, #113)
unfoldable pub excluded : Site → Text → Option (List Text) → Bool
excluded s path None = false
excluded s path (Some ps) = some_of (matched (allow_js s.config) path) ps

-- TSConfig Reference, files: the files themselves, whatever exclude says. "`files` compares by components"
unfoldable pub named_file : Text → Option (List Text) → Bool
named_file path None = false
named_file path (Some fs) = some_of (λ f. same_path f path) fs

-- "A config claims a path if the core's file test over its built form accepts it" (claim is 01's term): is_file_included_in_tsconfig
unfoldable pub claims : Text → Site → Bool
claims path s =
    named_file path (s.config.named files)
    || (not (outside (allow_js s.config) (extension path))
    && (included s path (s.config.named include) && not (excluded s path (s.config.named exclude))))

-- the list is there and empty
unfoldable pub is_empty_list : Option (List Text) → Bool
is_empty_list None = false
is_empty_list (Some []) = true
is_empty_list (Some (x ∷ xs)) = false

-- there are none
unfoldable pub no_references : List Site → Bool
no_references [] = true
no_references (r ∷ rs) = false

-- "have `references` and explicit empty `files` / `include`". As the Rust has it; it changes no answer, since such a config claims nothing by
-- itself (proofs/Style, solution_style_idle).
unfoldable pub solution_style : Site → List Site → Bool
solution_style s refs = not (no_references refs) && (is_empty_list (s.config.named files) && is_empty_list (s.config.named include))

-- claims_ownership_of: a reference that claims the path counts for the config that holds it
unfoldable pub claims_ownership : Text → Site → List Site → Bool
claims_ownership path s refs = some_of (claims path) refs || (not (solution_style s refs) && claims path s)

-- The solution (01's term), resolve_tsconfig_solution: the first reference that claims the path, else the config itself
unfoldable pub solution : Text → Site → List Site → ℕ
solution path s [] = s.number
solution path s (r ∷ rs) = cond (claims path r) r.number (solution path s rs)
