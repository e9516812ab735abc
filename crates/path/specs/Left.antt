-- What is left of a path, for the contract of the function that looks for it.
use Rattle.std.specs.Prelude.{List, Option, None, option_map, cond}
use Rattle.text.specs.Bytes.{Text}
use Rattle.text.specs.Text.{same_text}
use Rattle.components.specs.Components.{split, names, lead_of, rest_of, trim_start}
use Rattle.path.specs.Path.{left_pieces}

-- the pieces of p after the directory d, from the next component on; nothing where they begin differently
unfoldable pub left_after : Text → Text → Option (List Text)
left_after p d = cond (same_text (lead_of p) (lead_of d)) (option_map trim_start (left_pieces (split (rest_of p)) (names (split (rest_of d))))) None
