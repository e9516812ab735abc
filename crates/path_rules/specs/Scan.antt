-- What the quick test of a long path looks for at each place.
use Rattle.std.specs.Prelude.{ℕ, ◌+◌, Bool, not, ◌&&◌, ◌||◌, get_or, eqb}
use Rattle.text.specs.Bytes.{Text, bytes, slash, dot}
use Rattle.strings.specs.Strings.{none_of}

-- the byte behind the place k of s is none of `* ? #`, and behind a slash it is no slash and no dot
abbrev pub plain_behind : Text → ℕ → Bool
plain_behind s k = none_of (bytes "*?#") (get_or s (k + 1) 0) && not (eqb (get_or s k 0) slash && (eqb (get_or s (k + 1) 0) slash || eqb (get_or s (k + 1) 0) dot))
