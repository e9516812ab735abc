-- A tame text has no bracket, and so no `${configDir}`. Assumes nothing.
use mathlib.Core.Path.{◌≡◌, refl, sym}
use Rattle.std.proofs.lemmas.Bool.{and_parts}
use mathlib.Core.List.{[], ◌∷◌}
use mathlib.Core.Bool.{true, false, ◌&&◌, and-false, true≢false}
use lib.Dec.{eqb}
use Rattle.text.specs.Bytes.{Text, bytes}
use Rattle.names.specs.Names.{config_dir}
use Rattle.text.specs.Text.{prefix_of, some_of, each_of}
use Rattle.text.proofs.Picks.{by_test}
use Rattle.strings.specs.Strings.{none_of}
use Rattle.strings.specs.Scan.{tame_text}
use Rattle.strings.proofs.Tame.{tame_bare}
use Rattle.patterns.specs.Patterns.{after_config_dir, pattern_text, pattern_rule}
use Rattle.patterns.specs.Scan.{stars_apart}
use Rattle.patterns.proofs.Stars.{apart_whole}

-- `${configDir}` has a brace
config_none : (s : Text) → each_of (none_of (bytes "{}[]!")) s ≡ true → prefix_of config_dir s ≡ false
unfolding each_of prefix_of some_of
config_none [] e = refl
config_none (x ∷ []) e = and-false (eqb x 0x24)
config_none (x ∷ y ∷ s) e =
    by_test (eqb y 0x7B)
    (λ t.
    let z : none_of (bytes "{}[]!") y && each_of (none_of (bytes "{}[]!")) s ≡ true = (and_parts (none_of (bytes "{}[]!") x) _ e).1 in
    let w : false ≡ true = rw t at z in
    absurd (true≢false (sym w)))
    (λ f. rw f (and-false (eqb x 0x24)))

pub tame_pattern : (s : Text) → tame_text s ≡ true → stars_apart s ≡ pattern_rule s
unfolding pattern_rule after_config_dir pattern_text
tame_pattern s e = let bare = tame_bare s e in rw (config_none s bare, bare, apart_whole s) refl
