-- Two strings compared.
use Rattle.std.specs.Prelude.{ℕ, zero, suc, ◌+◌, ◌-◌, ◌*◌, ◌/◌, ◌%◌, ◌^◌, [], ◌∷◌, ◌++◌, Bool, cond, length, take, drop, leb}
use Rattle.std.specs.List.{fold}
use Rattle.std.specs.Int.{w64, from_le_bytes}
use Rattle.text.specs.Bytes.{Text, slash}
use Rattle.text.specs.Text.{prefix_of}

-- q is p or lies under it, both normal and not `/`
unfoldable pub covers : Text → Text → Bool
covers p q = prefix_of (p ++ (slash ∷ [])) (q ++ (slash ∷ []))

-- The digest serves the code alone, which compares no two texts that differ in it.

-- the number of the eight bytes from `at` on, low byte first
unfoldable pub word_at : Text → ℕ → ℕ
word_at s at = from_le_bytes w64 (take 8 (drop at s))

-- a number stirred into what stands before: the low 64 bits of a product, whose top byte depends on all of them
unfoldable pub stir : ℕ → ℕ → ℕ
stir all x = (all + x) * 0x9E3779B97F4A7C15 % 2 ^ 64

-- the length of s with its first k words stirred into it
unfoldable pub words_stirred : Text → ℕ → ℕ
words_stirred s zero = length s
words_stirred s (suc k) = stir (words_stirred s k) (word_at s (8 * k))

-- the top byte of all words and the last eight bytes, which may lie over the last word; of a text too short for a word, of all bytes
unfoldable pub digest_of : Text → ℕ
digest_of s =
    cond (leb 8 (length s)) (stir (words_stirred s (length s / 8)) (word_at s (length s - 8))) (fold stir (length s) s) / 2 ^ 56
