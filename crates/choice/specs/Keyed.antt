-- How a key of `paths` is chosen, and its targets built.
use Rattle.std.specs.Prelude.{ℕ, suc, map}
use Rattle.std.specs.Prelude.{Option, Some, None}
use Rattle.text.specs.Bytes.{Text}
use Rattle.text.specs.Text.{star_of}
use Rattle.book.specs.Record.{Key}
use Rattle.tsconfig.specs.Build.{adjusted}
use Rattle.tsconfig.specs.Mapping.{prefix_len}

-- how long a key's prefix must be to be better than the best so far
abbrev pub least_of : Option Key → ℕ
least_of None = 0
least_of (Some k) = suc (prefix_len (star_of k.key))

-- a key with its targets built, in the directory and from the base
abbrev pub built_key : Text → Text → Key → Key
built_key dir base k = record { key = k.key; targets = map (adjusted dir base) k.targets }
