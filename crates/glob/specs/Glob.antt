-- What a pattern matches: "`?` is one byte but `/`; `*` a run without `/`, perhaps empty; `**` any number of components, one or more where
-- last. A leading dot is ordinary." A pattern is read as tokens; each token says how much of the path it takes.
use Rattle.std.specs.Prelude.{ℕ, zero, suc, List, [], ◌∷◌, Bool, true, false, not, ◌&&◌, ◌||◌, cond, eqb}
use Rattle.text.specs.Bytes.{Text, slash, star, question}

-- what a pattern is made of
pub data Token : Type 0 where
  -- a byte that stands for itself, a dot too: "A leading dot is ordinary."
  Byte : ℕ → Token
  -- `?`
  One : Token
  -- `*`
  Run : Token
  -- `**/`
  Dirs : Token
  -- `**`, where last
  Rest : Token

-- what two stars begin: `**` where last, or `**/`; p is what follows them ("two adjacent stars are a whole component")
unfoldable pub after_stars : Text → Token
after_stars [] = Rest
after_stars (e ∷ p) = cond (eqb e slash) Dirs Run

-- what a star begins; p is what follows it
unfoldable pub after_star : Text → Token
after_star [] = Run
after_star (d ∷ p) = cond (eqb d star) (after_stars p) Run

-- the token that the byte c begins; p is what follows it
unfoldable pub token_at : ℕ → Text → Token
token_at c p = cond (eqb c star) (after_star p) (cond (eqb c question) One (Byte c))

-- how many bytes a token has after its first
abbrev pub more : Token → ℕ
more (Byte c) = 0
more One = 0
more Run = 0
more Dirs = 2
more Rest = 1

-- the tokens of a pattern whose first k bytes belong to a token before
unfoldable pub tokens : ℕ → Text → List Token
tokens k [] = []
tokens zero (c ∷ p) = token_at c p ∷ tokens (more (token_at c p)) p
tokens (suc k) (c ∷ p) = tokens k p

-- nothing is left of a path
abbrev pub is_empty : Text → Bool
is_empty [] = true
is_empty (x ∷ s) = false

-- a byte that ends a component
abbrev pub is_slash : ℕ → Bool
is_slash x = eqb x slash

-- a byte of a component: "but `/`", "without `/`"
abbrev pub no_slash : ℕ → Bool
no_slash x = not (eqb x slash)

-- every byte
abbrev pub any_byte : ℕ → Bool
any_byte x = true

-- "one byte", of which ok holds, and then P
unfoldable pub eat : (ℕ → Bool) → (Text → Bool) → Text → Bool
eat ok P [] = false
eat ok P (x ∷ s) = ok x && P s

-- "a run", "perhaps empty", of bytes of which ok holds, and then P
unfoldable pub after : (ℕ → Bool) → (Text → Bool) → Text → Bool
after ok P [] = P []
after ok P (x ∷ s) = P (x ∷ s) || (ok x && after ok P s)

-- "any number of components", none too, and then P: P here, or after some slash
unfoldable pub after_dirs : (Text → Bool) → Text → Bool
after_dirs P s = P s || after any_byte (eat is_slash P) s

-- the tokens match the whole of a path
unfoldable pub match_tokens : List Token → Text → Bool
match_tokens [] s = is_empty s
match_tokens (Byte c ∷ ts) s = eat (λ x. eqb x c) (match_tokens ts) s
-- "`?` is one byte but `/`"
match_tokens (One ∷ ts) s = eat no_slash (match_tokens ts) s
-- "`*` a run without `/`, perhaps empty"
match_tokens (Run ∷ ts) s = after no_slash (match_tokens ts) s
-- "`**` any number of components"
match_tokens (Dirs ∷ ts) s = after_dirs (match_tokens ts) s
-- "one or more where last": something is left
match_tokens (Rest ∷ ts) s = not (is_empty s)

-- the pattern p matches the whole of the path s
unfoldable pub glob_of : Text → Text → Bool
glob_of p s = match_tokens (tokens 0 p) s
