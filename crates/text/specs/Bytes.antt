-- Byte strings, and the bytes that have a meaning.
use Rattle.std.specs.Prelude.{ℕ, List, [], ◌∷◌}
use Prim.Native.Char.{code}
use Prim.Native.String.{String}
use Prim.Native.String as string

-- a byte string, as the list of its bytes
abbrev pub Text : Type 0
Text = List ℕ

-- the bytes of a literal in ASCII
abbrev pub bytes : String → Text
bytes string.[] = []
bytes (string.◌∷◌ c s) = code c ∷ bytes s

-- `/`
abbrev pub slash : ℕ
slash = 0x2F

-- `.`
abbrev pub dot : ℕ
dot = 0x2E

-- `*`
abbrev pub star : ℕ
star = 0x2A

-- `?`
abbrev pub question : ℕ
question = 0x3F
