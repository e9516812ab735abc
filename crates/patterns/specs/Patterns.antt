-- The rule of the items of include and exclude: what refusal 4 tests in a book.
use Rattle.std.specs.Prelude.{[], ◌∷◌, Bool, false, not, ◌&&◌, ◌||◌, cond, drop}
use Rattle.text.specs.Bytes.{Text, bytes, star}
use Rattle.names.specs.Names.{config_dir}
use Rattle.text.specs.Text.{prefix_of, same_text, each_of}
use Rattle.components.specs.Components.{split}
use Rattle.strings.specs.Strings.{none_of}

-- "after a leading `${configDir}`"
unfoldable pub after_config_dir : Text → Text
after_config_dir s = cond (prefix_of config_dir s) (drop 12 s) s

-- two stars stand side by side in a component
unfoldable pub two_stars : Text → Bool
two_stars [] = false
two_stars (x ∷ s) = prefix_of (star ∷ star ∷ []) (x ∷ s) || two_stars s

-- "two adjacent stars are a whole component"
abbrev pub whole_stars : Text → Bool
whole_stars p = not (two_stars p) || same_text p (bytes "**")

-- "lack `{ } [ ] !`, and two adjacent stars are a whole component"
unfoldable pub pattern_text : Text → Bool
pattern_text s = each_of (none_of (bytes "{}[]!")) s && each_of whole_stars (split s)

-- "Include and exclude items, after a leading `${configDir}`, .."
unfoldable pub pattern_rule : Text → Bool
pattern_rule s = pattern_text (after_config_dir s)
