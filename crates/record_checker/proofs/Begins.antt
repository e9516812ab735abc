-- A record's first command. Assumes nothing.
use mathlib.Core.Path.{◌≡◌, refl, sym, ap, fun_ext, ◌∙◌}
use mathlib.Core.List.{List, []}
use Rattle.std.specs.Prelude.{Some, None}
use Prim.Native.Nat.{ℕ, ◌<◌}
use native.Mathlib.Omega.{arith}
use native.Mathlib.Nat.{add-zero}
use lib.ListN.{length, set, replicate}
use Rattle.text.specs.Bytes.{Text}
use Rattle.book.specs.declared.Cmd.{Cmd}
use Rattle.book.specs.declared.Stop.{Stop}
use Rattle.std.specs.Prelude.{Result, Ok, Err}
use Rattle.book.specs.Answer.{refused}
use Rattle.book.specs.Command.{begin, decode, word}
use Rattle.book.specs.Rules.{slot, in_range, tally, fault_of}
use Rattle.book.specs.Book.{judge}
use Rattle.book.specs.Checks.{Held}
use Rattle.book.specs.Steps.{step_at}
use Rattle.book.specs.declared.Seen.{Seen}
use Rattle.book.specs.State.{has, pushed, slotted, texts}
use Rattle.book.proofs.Steps.{step_moves, step_begins}
use Rattle.faults.proofs.Keeps.{agree_none}
use Rattle.verdicts.proofs.Turns.{Sofar, sofar_none, turn_stopped, turn_refused, clear_on, turn_on, byte_known}

-- nothing is counted before it
none_counted : has (replicate 39 0) ≡ (λ (k : ℕ). 0)
unfolding tally
none_counted = fun_ext (λ k. (agree_none (replicate 39 0) 0 refl refl).each k)

-- BEGIN counts as itself
begin_slotted : (c : Cmd) → c.op ≡ begin → slotted c ≡ Some begin
unfolding slotted in_range slot
begin_slotted c b = rw b refl

begin_pushed : (c : Cmd) → c.op ≡ begin → set (replicate 39 0) begin 1 ≡ pushed (replicate 39 0) c begin
unfolding pushed
begin_pushed c b = rw b refl

module _ (part : Text) (base : ℕ) (text : Text) (rows : List Seen) {o : Result (Cmd × ℕ) Stop} (is : o ≡ step_at part 0) where
  before : Sofar part base text rows (replicate 39 0) 0 [] 0
  before = sofar_none part base text rows (replicate 39 0) 0 [] refl refl refl

  -- no command is read
  pub first_stopped : 0 < length part → (w : Stop) → o ≡ Err w → (records : List (List Cmd)) → Held text rows records → judge text (record { records = records; here = [] }) (decode 0 base part) ≡ refused 2 base
  first_stopped l w e r h = turn_stopped part base text rows before is l w e r h ∙ ap (refused 2) (add-zero base)

  module _ {c : Cmd} {nx : ℕ} (e : o ≡ Ok (c, nx)) where
    pub first_byte : c.op < 21
    first_byte = byte_known part base text rows before is e

    pub first_forth : 0 < nx
    first_forth = (step_moves part 0 c nx (sym e ∙ is)).forth

    -- something is wrong with it
    pub first_refused : (f : ℕ) → Some f ≡ fault_of text (λ k. 0) 0 (length rows) [] (texts text rows) c → (records : List (List Cmd)) → Held text rows records → judge text (record { records = records; here = [] }) (decode 0 base part) ≡ refused f base
    first_refused f d r h =
        turn_refused part base text rows before is e f (ap (λ (n : ℕ → ℕ). fault_of text n 0 (length rows) [] (texts text rows) c) none_counted ∙ sym d) r h
        ∙ ap (refused f) (add-zero base)

    -- it is BEGIN, and nothing is wrong with it
    module _ (b : c.op ≡ begin) (d : None ≡ fault_of text (λ k. 0) 0 (length rows) [] (texts text rows) c) where
      pub first_taken : (ns : List ℕ) → ns ≡ set (replicate 39 0) begin 1 → (last : ℕ) → last ≡ begin → (ks : List Seen) → ks ≡ [] → Sofar part base text rows ns last ks nx
      first_taken ns y last z ks k =
          turn_on part base text rows before is e
          (clear_on part base text rows before is e (ap (λ (n : ℕ → ℕ). fault_of text n 0 (length rows) [] (texts text rows) c) none_counted ∙ sym d) (λ q. absurd (omega (arith, q, b))))
          (begin_slotted c b) ks (k ∙ rw b refl) (λ q. absurd (omega (arith, q, b))) ns (y ∙ begin_pushed c b) last (z ∙ sym b)

      pub first_start : c.start ≡ word part 1
      first_start = (step_begins part c nx (sym e ∙ is) b).start

      pub first_len : c.len ≡ word part 3
      first_len = (step_begins part c nx (sym e ∙ is) b).len

-- behind it BEGIN is counted
pub counted_on : (part : Text) (base : ℕ) (text : Text) (rows : List Seen) {ns : List ℕ} {last : ℕ} {ks : List Seen} {at : ℕ} → Sofar part base text rows ns last ks at → 0 < at → has ns begin ≡ 0 → ⊥
counted_on part base text rows s h z = s.lead (λ y. absurd (omega (arith, h, s.begun y))) (sym (s.agrees.each begin) ∙ z)
