-- The row of a record by itself: it supplies each field that it names.
use Rattle.std.specs.Prelude.{ℕ, ◌+◌, ◌<◌, ◌≡◌, List, [], ◌∷◌, Bool, cond, eqb, ltb, length, get_or, set}
use Rattle.text.specs.Text.{some_of}
use Rattle.book.specs.declared.Cmd.{Cmd}
use Rattle.book.specs.Command.{flag, text_option}
use Rattle.rows.specs.Rows.{absent, base_place, own_place}

-- the places of the fields that the commands 00 to 14 name; 28 where a command names none
abbrev pub places : List ℕ
places = 28 ∷ 28 ∷ 0 ∷ 28 ∷ 1 ∷ 28 ∷ 2 ∷ 28 ∷ 28 ∷ 3 ∷ 4 ∷ 28 ∷ 28 ∷ 28 ∷ 5 ∷ 28 ∷ 6 ∷ 7 ∷ 28 ∷ 28 ∷ 28 ∷ []

-- the place of the field that a command names; 28 where it names none
unfoldable pub slot_of : Cmd → ℕ
slot_of c =
    cond (eqb c.op flag) (cond (ltb c.id 11) (8 + c.id) 28)
    (cond (eqb c.op text_option) (cond (ltb c.id 7) (19 + c.id) 28)
    (cond (ltb c.op 0x15) (get_or places c.op 0) 28))

-- the command names the field with the place k
abbrev pub names : ℕ → Cmd → Bool
names k c = eqb (slot_of c) k

-- a row with c at the place of each field that the commands name
unfoldable pub marked : ℕ → List Cmd → List ℕ → List ℕ
marked c [] row = row
marked c (x ∷ r) row = marked c r (set row (slot_of x) c)

-- the row of the record number c, whose commands are r, by itself
pub record OwnRow (c : ℕ) (r : List Cmd) (row : List ℕ) : Type 0 where
  pub long : length row ≡ 28
  pub fields : (k : ℕ) → k < 26 → get_or row k absent ≡ cond (some_of (names k) r) c absent
  pub base : get_or row base_place absent ≡ c
  pub own : get_or row own_place absent ≡ c
