-- "Bracketing merges neighbours until one is left; a line of one is its own result": a binary tree whose leaves are the line, in order.
use Rattle.std.specs.Prelude.{List, [], ◌∷◌, ◌++◌}

-- a way to bracket
pub data Tree (A : Type 0) : Type 0 where
  leaf : A → Tree A
  join : Tree A → Tree A → Tree A

module _ {A : Type 0} where
  -- what is bracketed, in order
  abbrev pub leaves : Tree A → List A
  leaves (leaf a) = a ∷ []
  leaves (join s t) = leaves s ++ leaves t

  -- what the tree comes to, by one operation on two neighbours
  abbrev pub eval : (A → A → A) → Tree A → A
  eval op (leaf a) = a
  eval op (join s t) = op (eval op s) (eval op t)
