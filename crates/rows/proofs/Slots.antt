-- The places of the fields that commands name. Assumes nothing.
use mathlib.Core.Path.{◌≡◌, refl, sym, ap, ◌∙◌}
use Prim.Native.Nat.{ℕ, ◌+◌, ◌≤◌, ◌<◌}
use native.Mathlib.Omega.{arith}
use lib.ListN.{get_or}
use borrow.Author.Tests.{eq-eqb, ne_eqb, lt-ltb, le-ltb}
use Rattle.book.specs.declared.Cmd.{Cmd}
use Rattle.book.specs.Command.{flag, text_option}
use Rattle.rows.specs.Own.{places, slot_of}

-- the ways out of the code
module _ (c : Cmd) where
  module _ (e : c.op ≡ flag) (i : ℕ) (w : i ≡ c.id) where
    pub slot_flag : i < 11 → 8 + i ≡ slot_of c
    unfolding slot_of
    slot_flag h = ap (λ (x : ℕ). 8 + x) w ∙ sym (rw (eq-eqb c.op flag e, lt-ltb c.id 11 (omega (arith, w, h))) refl)

    pub slot_flag_out : 11 ≤ i → 28 ≡ slot_of c
    unfolding slot_of
    slot_flag_out h = sym (rw (eq-eqb c.op flag e, le-ltb c.id 11 (omega (arith, w, h))) refl)

  module _ (n : c.op ≡ flag → ⊥) where
    module _ (e : c.op ≡ text_option) (i : ℕ) (w : i ≡ c.id) where
      pub slot_text : i < 7 → 19 + i ≡ slot_of c
      unfolding slot_of
      slot_text h = ap (λ (x : ℕ). 19 + x) w ∙ sym (rw (ne_eqb c.op flag n, eq-eqb c.op text_option e, lt-ltb c.id 7 (omega (arith, w, h))) refl)

      pub slot_text_out : 7 ≤ i → 28 ≡ slot_of c
      unfolding slot_of
      slot_text_out h = sym (rw (ne_eqb c.op flag n, eq-eqb c.op text_option e, le-ltb c.id 7 (omega (arith, w, h))) refl)

    module _ (m : c.op ≡ text_option → ⊥) (i : ℕ) (w : i ≡ c.op) where
      pub slot_place : i < 21 → get_or places i 0 ≡ slot_of c
      unfolding slot_of
      slot_place h = ap (λ (x : ℕ). get_or places x 0) w ∙ sym (rw (ne_eqb c.op flag n, ne_eqb c.op text_option m, lt-ltb c.op 21 (omega (arith, w, h))) refl)

      pub slot_none : 21 ≤ i → 28 ≡ slot_of c
      unfolding slot_of
      slot_none h = sym (rw (ne_eqb c.op flag n, ne_eqb c.op text_option m, le-ltb c.op 21 (omega (arith, w, h))) refl)
