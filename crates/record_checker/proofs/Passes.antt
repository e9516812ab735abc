-- What was taken in passing keeps what holds at each turn of the record checker's loop. Assumes nothing.
use mathlib.Core.Path.{◌≡◌, refl, sym, subst}
use mathlib.Core.List.{List, [], ◌∷◌, ◌++◌}
use mathlib.Core.Bool.{true}
use Prim.Native.Nat.{ℕ, ◌+◌, ◌≤◌}
use native.Mathlib.Omega.{arith}
use lib.ListN.{length, get_or, drop}
use borrow.Author.Tests.{eq-eqb, ne_eqb}
use Rattle.text.specs.Bytes.{Text}
use Rattle.book.specs.Command.{key, operands}
use Rattle.book.specs.declared.Seen.{Seen}
use Rattle.book.specs.State.{pushed, texts, row_of}
use Rattle.book.proofs.Steps.{step_moves}
use Rattle.verdicts.proofs.Turns.{Sofar, turn_on}
use Rattle.usual.specs.Usual.{key_fine, Passed, still, more, Keyed, keyed, barred, Taken, passed, behind}
use Rattle.usual.proofs.Keys.{key_op, key_reads, key_slotted, key_clear}

pub passed_forth : (part text : Text) (ns : List ℕ) (last at : ℕ) {ns' : List ℕ} {last' at' : ℕ} → Passed part text ns last at ns' last' at' → at ≤ at'
passed_forth part text ns last at still = omega arith
passed_forth part text ns last at (more {at' = p} {c = c} {nx = nx} x e u) = omega (arith, passed_forth part text ns last at x, (step_moves part p c nx (sym e)).forth)

key_forth : (part text : Text) (ns : List ℕ) (last at : ℕ) (ks : List Seen) {ns' : List ℕ} {last' to : ℕ} {ks' : List Seen} → Keyed part text ns last at ks ns' last' to ks' → at ≤ to
key_forth part text ns last at ks (keyed byte fine) = omega arith
key_forth part text ns last at ks (barred f) = omega arith

back : (part text : Text) (ns : List ℕ) (last at : ℕ) (ks : List Seen) {ns' : List ℕ} {last' to : ℕ} {ks' : List Seen} → Taken part text ns last at ks ns' last' to ks' → to ≤ at → to ≡ at
back part text ns last at ks (passed o p) h = omega (arith, h, passed_forth part text ns last at p)
back part text ns last at ks (behind {counts' = ms} {last' = l} {mid = m} k p) h = omega (arith, h, key_forth part text ns last at ks k, passed_forth part text ms l m p)

module _ (part : Text) (base : ℕ) (text : Text) (rows : List Seen) where
  module _ {ns : List ℕ} {last : ℕ} {ks : List Seen} {at : ℕ} (s : Sofar part base text rows ns last ks at) where
    passed_on : {ns' : List ℕ} {last' at' : ℕ} → Passed part text ns last at ns' last' at' → Sofar part base text rows ns' last' ks at'
    passed_on still = s
    passed_on (more {counts' = ns'} x e u) =
        turn_on part base text rows (passed_on x) (sym e) refl (u.clear (length rows) (texts text ks) (texts text rows)) u.slot ks (rw (ne_eqb _ _ u.no_key) refl) u.no_end _ refl _ refl

    key_on :
        get_or part at 0 ≡ key → key_fine part at text ns ks ≡ true →
        Sofar part base text rows (pushed ns (operands 4 (drop at part)) key) (operands 4 (drop at part)).op (ks ++ row_of text (operands 4 (drop at part)) ∷ []) (at + 5)
    key_on byte fine =
        subst
        (λ (p : ℕ). Sofar part base text rows (pushed ns (operands 4 (drop at part)) key) (operands 4 (drop at part)).op (ks ++ row_of text (operands 4 (drop at part)) ∷ []) p)
        (omega arith)
        (turn_on part base text rows s (sym (key_reads part at text ns ks byte fine)) refl
        (key_clear part at text ns ks byte fine last (length rows) (texts text rows)) (key_slotted part at text ns ks byte fine last)
        (ks ++ row_of text (operands 4 (drop at part)) ∷ []) (rw (eq-eqb (operands 4 (drop at part)).op key (sym (key_op part at text ns ks byte fine))) refl)
        (λ q. absurd (omega (arith, q, key_op part at text ns ks byte fine))) _ refl _ refl)

    key_part : {ns' : List ℕ} {last' to : ℕ} {ks' : List Seen} → Keyed part text ns last at ks ns' last' to ks' → Sofar part base text rows ns' last' ks' to
    key_part (keyed byte fine) = key_on byte fine
    key_part (barred f) = s

  module _ {ns : List ℕ} {last : ℕ} {ks : List Seen} {at : ℕ} (s : Sofar part base text rows ns last ks at) where
    -- commands were taken
    pub moved_on : {ns' : List ℕ} {last' to : ℕ} {ks' : List Seen} → Taken part text ns last at ks ns' last' to ks' → Sofar part base text rows ns' last' ks' to
    moved_on (passed o p) = passed_on s p
    moved_on (behind k p) = passed_on (key_part s k) p

    -- none was taken
    pub stood : {ns' : List ℕ} {last' to : ℕ} {ks' : List Seen} → Taken part text ns last at ks ns' last' to ks' → to ≤ at → Sofar part base text rows ns' last' ks' at
    stood {ns'} {last'} {to} {ks'} t h = subst (λ (i : ℕ). Sofar part base text rows ns' last' ks' i) (back part text ns last at ks t h) (moved_on t)
