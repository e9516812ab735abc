-- The row of a record by itself. Assumes nothing.
use mathlib.Core.Path.{◌≡◌, refl, sym, ap, ◌∙◌}
use mathlib.Core.List.{List, [], ◌∷◌, map}
use mathlib.Core.Bool.{cond}
use Prim.Native.Nat.{ℕ, ◌≤◌, ◌<◌}
use native.Mathlib.Omega.{arith}
use lib.Dec.{eqb}
use lib.ListN.{length, get_or, set, drop, length-set, replicate}
use Rattle.std.proofs.lemmas.List.{get_or-replicate}
use lib.Seq.{get_or-set_same, get_or-set_other, set_out}
use borrow.Author.Tests.{eqb-true, eqb-false}
use Rattle.text.specs.Bytes.{Text}
use Rattle.text.specs.Text.{some_of}
use Rattle.text.proofs.Picks.{by_test}
use Rattle.book.specs.declared.Cmd.{Cmd}
use Rattle.book.specs.Command.{decode}
use Rattle.book.specs.Index.{record_at}
use Rattle.items.specs.Runs.{commands_left}
use Rattle.items.specs.declared.Commands.{Commands}
use Rattle.items.proofs.Reading.{paired_all}
use Rattle.rows.specs.Rows.{absent}
use Rattle.rows.specs.Own.{slot_of, names, marked, OwnRow}

-- The places of the fields of the commands that are left, one after the other

pub marks_start : (c : ℕ) (s : Text) (at : ℕ) (it : Commands) → it.commands.now ≡ s → it.at ≡ at → (row : List ℕ) → marked c (map (λ p. p.0) (commands_left it)) row ≡ marked c (record_at s at) row
unfolding record_at
marks_start c s at it e f row = rw (e, f) (ap (λ (l : List Cmd). marked c l row) (paired_all (decode 0 at (drop at s))))

module _ (c : ℕ) (left : List (Cmd × ℕ)) (row : List ℕ) where
  pub marks_over : left ≡ [] → row ≡ marked c (map (λ p. p.0) left) row
  unfolding marked
  marks_over e = rw e refl

  module _ (p : Cmd × ℕ) (rest : List (Cmd × ℕ)) (e : left ≡ p ∷ rest) (k : ℕ) (w : k ≡ slot_of p.0) where
    pub marks_on : marked c (map (λ p. p.0) rest) (set row k c) ≡ marked c (map (λ p. p.0) left) row
    unfolding marked
    marks_on = rw (e, w) refl

    pub marks_past : length row ≤ k → marked c (map (λ p. p.0) rest) row ≡ marked c (map (λ p. p.0) left) row
    marks_past h = ap (marked c (map (λ p. p.0) rest)) (sym (set_out row k c h)) ∙ marks_on

-- What stands at a place in the end

module _ (c : ℕ) where
  pub marked_length : (r : List Cmd) (row : List ℕ) → length (marked c r row) ≡ length row
  unfolding marked
  marked_length [] row = refl
  marked_length (x ∷ r) row = marked_length r (set row (slot_of x) c) ∙ length-set row (slot_of x) c

  marked_kept : (r : List Cmd) (row : List ℕ) (k : ℕ) → k < length row → get_or row k absent ≡ c → get_or (marked c r row) k absent ≡ c
  unfolding marked
  marked_kept [] row k h e = e
  marked_kept (x ∷ r) row k h e =
      marked_kept r (set row (slot_of x) c) k (omega (arith, length-set row (slot_of x) c, h))
      (by_test (eqb k (slot_of x))
      (λ y. ap (λ (j : ℕ). get_or (set row j c) k absent) (sym (eqb-true k (slot_of x) y)) ∙ get_or-set_same row k c absent h)
      (λ y. get_or-set_other row (slot_of x) k c absent (eqb-false k (slot_of x) y) ∙ e))

  pub marked_place : (r : List Cmd) (row : List ℕ) (k : ℕ) → k < length row → get_or row k absent ≡ absent → get_or (marked c r row) k absent ≡ cond (some_of (names k) r) c absent
  unfolding marked some_of
  marked_place [] row k h e = e
  marked_place (x ∷ r) row k h e =
      by_test (eqb (slot_of x) k)
      (λ y. marked_kept r (set row (slot_of x) c) k (omega (arith, length-set row (slot_of x) c, h))
      (ap (λ (j : ℕ). get_or (set row j c) k absent) (eqb-true (slot_of x) k y) ∙ get_or-set_same row k c absent h)
      ∙ (rw y refl))
      (λ y. marked_place r (set row (slot_of x) c) k (omega (arith, length-set row (slot_of x) c, h)) (get_or-set_other row (slot_of x) k c absent (λ q. eqb-false (slot_of x) k y (sym q)) ∙ e)
      ∙ (rw y refl))

-- the row of the record
pub own_row_law : (c : ℕ) (r : List Cmd) (b : List ℕ) → b ≡ marked c r (replicate 28 absent) → OwnRow c r (set (set b 26 c) 27 c)
own_row_law c r b e =
    let m : length b ≡ 28 = ap length e ∙ marked_length c r (replicate 28 absent) in
    let m' : length (set b 26 c) ≡ 28 = length-set b 26 c ∙ m in
    record {
      long = length-set (set b 26 c) 27 c ∙ m';
      fields = λ k h. get_or-set_other (set b 26 c) 27 k c absent (λ q. omega (arith, q, h)) ∙ get_or-set_other b 26 k c absent (λ q. omega (arith, q, h)) ∙ ap (λ (x : List ℕ). get_or x k absent) e ∙ marked_place c r (replicate 28 absent) k (omega (arith, h)) (get_or-replicate 28 k absent absent (omega (arith, h)));
      base = get_or-set_other (set b 26 c) 27 26 c absent (λ q. omega (arith, q)) ∙ get_or-set_same b 26 c absent (omega (arith, m));
      own = get_or-set_same (set b 26 c) 27 c absent (omega (arith, m'));
    }
