-- The test for solution style changes no answer: such a config claims nothing by itself.
use mathlib.Core.Path.{◌≡◌, refl}
use Rattle.std.proofs.lemmas.Bool.{and_parts}
use mathlib.Core.List.{List, [], ◌∷◌}
use mathlib.Core.Bool.{true, false, not, false≢true, and-false}
use Rattle.std.specs.Prelude.{Option, Some, None}
use Rattle.text.specs.Bytes.{Text}
use Rattle.text.specs.Text.{some_of}
use Rattle.ends.specs.Ends.{extension}
use Rattle.tsconfig.specs.Config.{files, include}
use Rattle.tsconfig.specs.Claims.{Site, allow_js, solution_style, no_references, is_empty_list, claims, named_file, included, outside}

not_listed : (path : Text) (o : Option (List Text)) → is_empty_list o ≡ true → named_file path o ≡ false
unfolding is_empty_list named_file some_of
not_listed path None h = refl
not_listed path (Some []) h = refl
not_listed path (Some (x ∷ xs)) h = absurd (false≢true h)

not_included : (s : Site) (path : Text) (o : Option (List Text)) → is_empty_list o ≡ true → included s path o ≡ false
unfolding is_empty_list included some_of
not_included s path None h = absurd (false≢true h)
not_included s path (Some []) h = refl
not_included s path (Some (x ∷ xs)) h = absurd (false≢true h)

pub solution_style_idle : (path : Text) (s : Site) (refs : List Site) → solution_style s refs ≡ true → claims path s ≡ false
unfolding solution_style claims
solution_style_idle path s refs h =
    let e = (and_parts (not (no_references refs)) _ h).1 in
    rw (not_listed path (s.config.named files) (and_parts (is_empty_list (s.config.named files)) _ e).0) (
    rw (not_included s path (s.config.named include) (and_parts (is_empty_list (s.config.named files)) _ e).1) (
    and-false (not (outside (allow_js s.config) (extension path)))))
