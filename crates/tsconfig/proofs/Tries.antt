-- The candidates lead the tries, so that the two questions tell one story. Assumes nothing.
use mathlib.Core.Path.{◌≡◌, refl, sym}
use mathlib.Core.List.{List, [], ◌∷◌, ◌++◌, append-nil}
use mathlib.Core.Bool.{false}
use Rattle.text.specs.Bytes.{Text, dot}
use Rattle.components.specs.Components.{starts, inside_node_modules}
use Rattle.tsconfig.specs.Config.{base_url}
use Rattle.tsconfig.specs.Build.{Settings}
use Rattle.tsconfig.specs.Mapping.{aliases, from_base_url, or_if_none, candidates, tries, if_any, after_candidates}

first_then_rest : (a u : List Text) → a ++ u ≡ or_if_none a u ++ if_any a u
unfolding or_if_none if_any
first_then_rest [] u = sym (append-nil u)
first_then_rest (x ∷ xs) u = refl

-- Outside node_modules, the tries of a specifier that does not start with a dot are its candidates, and then the baseUrl path where the mapping gave the candidates.
pub candidates_lead : (c : Settings) (dir s : Text) → inside_node_modules dir ≡ false → starts dot s ≡ false → tries c dir s ≡ candidates c s ++ after_candidates c s
unfolding tries candidates after_candidates
candidates_lead c dir s outside plain = rw (outside, plain) (first_then_rest (aliases c s) (from_base_url c s (c.named base_url)))
