-- Tests on byte strings, searches and parts.
use Rattle.std.specs.Prelude.{ℕ, suc, ◌-◌, List, [], ◌∷◌, Bool, true, false, ◌&&◌, ◌||◌, cond, eqb, take, drop}
use Rattle.std.specs.Prelude.{Option, Some, None}
use Rattle.text.specs.Bytes.{Text, star}

-- p is a prefix of s
unfoldable pub prefix_of : Text → Text → Bool
prefix_of [] s = true
prefix_of (x ∷ p) [] = false
prefix_of (x ∷ p) (y ∷ s) = eqb y x && prefix_of p s

-- a and b are the same bytes
unfoldable pub same_text : Text → Text → Bool
same_text [] [] = true
same_text [] (y ∷ b) = false
same_text (x ∷ a) [] = false
same_text (x ∷ a) (y ∷ b) = eqb x y && same_text a b

-- the test holds of one of the list
unfoldable pub some_of : {A : Type 0} → (A → Bool) → List A → Bool
some_of ok [] = false
some_of ok (x ∷ xs) = ok x || some_of ok xs

-- the test holds of each of the list
unfoldable pub each_of : {A : Type 0} → (A → Bool) → List A → Bool
each_of ok [] = true
each_of ok (x ∷ xs) = ok x && each_of ok xs

-- where a byte first stands in a text whose first byte is at i
unfoldable pub find_from : ℕ → ℕ → Text → Option ℕ
find_from b i [] = None
find_from b i (x ∷ s) = cond (eqb x b) (Some i) (find_from b (suc i) s)

-- where a byte first stands
abbrev pub find : ℕ → Text → Option ℕ
find b s = find_from b 0 s

-- "the first star divides": where it stands
abbrev pub star_of : Text → Option ℕ
star_of s = find star s

-- where a byte last stands in a text whose first byte is at i; before is the answer for what stands before i
unfoldable pub find_last_from : ℕ → Option ℕ → ℕ → Text → Option ℕ
find_last_from b before i [] = before
find_last_from b before i (x ∷ s) = find_last_from b (cond (eqb x b) (Some i) before) (suc i) s

-- where a byte last stands
abbrev pub find_last : ℕ → Text → Option ℕ
find_last b s = find_last_from b None 0 s

-- the bytes of s from a up to e
abbrev pub between : ℕ → ℕ → Text → Text
between a e s = take (e - a) (drop a s)

-- what stands before the first b, all of it where there is none
unfoldable pub before_byte : ℕ → Text → Text
before_byte b [] = []
before_byte b (x ∷ s) = cond (eqb x b) [] (x ∷ before_byte b s)

-- what stands after the first b, nothing where there is none
unfoldable pub after_byte : ℕ → Text → Text
after_byte b [] = []
after_byte b (x ∷ s) = cond (eqb x b) s (after_byte b s)
