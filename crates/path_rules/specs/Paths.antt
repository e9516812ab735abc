-- The rules of paths: what refusal 4 tests in a book, and 7 in a question.
use Rattle.std.specs.Prelude.{Bool, true, not, ◌&&◌, cond, length, leb}
use Rattle.text.specs.Bytes.{Text, bytes, slash}
use Rattle.text.specs.Text.{each_of}
use Rattle.components.specs.Components.{starts}
use Rattle.path.specs.Path.{normal}
use Rattle.strings.specs.Strings.{none_of, string_rule}

-- "A record's path is normal, not `/`, without `* ? { } [ ] ! #`." A normal path of one byte is `/`.
unfoldable pub record_path : Text → Bool
record_path s = normal s && (not (leb (length s) 1) && each_of (none_of (bytes "*?{}[]!#")) s)

-- "Extends or reference starting with `/` is normal."
unfoldable pub lead_rule : Text → Bool
lead_rule s = cond (starts slash s) (normal s) true

-- "7: asked path not normal, holds `?` or `#`, or path or specifier breaks the string rule"
unfoldable pub asked_path : Text → Bool
asked_path p = string_rule p && (normal p && each_of (none_of (bytes "?#")) p)
