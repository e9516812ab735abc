-- What the loops over a pattern test at each place: the rule of adjacent stars by three bytes in a row.
use Rattle.std.specs.Prelude.{ℕ, ◌+◌, [], ◌∷◌, Bool, true, not, ◌&&◌, ◌||◌, eqb, map, slice_index}
use Rattle.std.specs.List.{range_with_len}
use Rattle.std.specs.Simd.Lanes.{mask_l}
use Rattle.text.specs.Bytes.{Text, slash, star}

-- the middle one is a star, one beside it is a star too, and none is a slash: two adjacent stars, and a third byte in their component
abbrev pub crowded : ℕ → ℕ → ℕ → Bool
crowded x y z = eqb y star && ((eqb x star || eqb z star) && not (eqb x slash || eqb z slash))

-- x and the two bytes behind it are no such three
unfoldable pub clear : ℕ → Text → Bool
clear x [] = true
clear x (y ∷ []) = true
clear x (y ∷ z ∷ s) = not (crowded x y z)

-- no three bytes in a row are
unfoldable pub stars_apart : Text → Bool
stars_apart [] = true
stars_apart (x ∷ s) = clear x s && stars_apart s

-- the place k of s is crowded: the bytes k, k + 1 and k + 2 are such three
abbrev pub crowded_at : Text → ℕ → Bool
crowded_at s k = crowded (slice_index s k) (slice_index s (k + 1)) (slice_index s (k + 2))

-- the first sixteen places of s, from the lowest bit on: 1 where one is crowded
unfoldable pub crowd_bits : Text → ℕ
crowd_bits s = mask_l (map (crowded_at s) (range_with_len 0 16))
