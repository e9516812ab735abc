-- The configs as the load sees them, and a config's line of inheritance.
use Rattle.std.specs.Prelude.{List, [], ◌∷◌, ◌++◌, map, reverse, Bool, false, ◌||◌, cond, ℕ, zero, suc, ◌+◌, eqb, length}
use Rattle.tsconfig.specs.Config.{Field, Config, flat}

-- what an extends entry leads to
pub data Entry : Type 0 where
  empty bare missing : Entry
  leads : ℕ → Entry

-- the configs of a book: how many, what each says as parsed, and what its extends entries lead to
pub record Configs (Val : Field → Type 0) (B : Type 0) : Type 0 where
  pub size : ℕ
  pub own : ℕ → Config Val B
  pub entries : ℕ → List Entry

-- the records that a list of entries leads to
abbrev pub led : List Entry → List ℕ
led [] = []
led (empty ∷ es) = led es
led (bare ∷ es) = led es
led (missing ∷ es) = led es
led (leads p ∷ es) = p ∷ led es

-- the lines of a list of records, one after the other, where `up` gives the rest of each record's line
abbrev pub lines : (ℕ → List ℕ) → List ℕ → List ℕ
lines up [] = []
lines up (p ∷ ps) = p ∷ (up p ++ lines up ps)

-- the number is in the list
abbrev pub elem : ℕ → List ℕ → Bool
elem i [] = false
elem i (x ∷ xs) = eqb i x || elem i xs

-- the sum of w over the numbers below n that pass the test
abbrev pub tally : ℕ → (ℕ → ℕ) → (ℕ → Bool) → ℕ
tally zero w d = 0
tally (suc i) w d = cond (d i) (w i) 0 + tally i w d

-- each of a list once
abbrev pub distinct : List ℕ → List ℕ
distinct [] = []
distinct (x ∷ l) = cond (elem x l) (distinct l) (x ∷ distinct l)

-- the sum of w over the list
abbrev pub total : (ℕ → ℕ) → List ℕ → ℕ
total w [] = 0
total w (x ∷ l) = w x + total w l

module _ {Val : Field → Type 0} {B : Type 0} (b : Configs Val B) where
  -- the records that a record's extends entries lead to, last entry first
  abbrev pub parents : ℕ → List ℕ
  parents c = led (reverse (b.entries c))

  -- what follows a record in its line, through k extends
  unfoldable pub rest : ℕ → ℕ → List ℕ
  rest zero c = []
  rest (suc k) c = lines (rest k) (parents c)

  -- what follows a record in its line: no way up by extends is longer than the book, unless it meets itself
  abbrev pub above : ℕ → List ℕ
  above = rest b.size

  -- The line (01's term): "A line is the config's record, then the lines of the records its extends entries lead to, last entry first; one
  -- met twice stands twice."
  abbrev pub line : ℕ → List ℕ
  line c = c ∷ above c

  -- the flat config of a record's line
  abbrev pub flat_line : ℕ → Config Val B
  flat_line c = flat (b.own c) (map b.own (above c))

  -- demand 3: "the extends entries of the distinct configs in the line, each once"
  abbrev pub entries_of : List ℕ → ℕ
  entries_of l = total (λ i. length (b.entries i)) (distinct l)
