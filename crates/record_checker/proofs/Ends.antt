-- A record's END, a key given before, and what else the record checker looks at. Assumes nothing.
use mathlib.Core.Path.{◌≡◌, refl, sym, ap, subst, ◌∙◌}
use Rattle.std.proofs.lemmas.Bool.{and_parts}
use mathlib.Core.List.{List, []}
use Rattle.std.specs.Prelude.{Some, None}
use mathlib.Core.Bool.{Bool, true, false, not, ◌&&◌, ◌||◌, true≢false}
use Prim.Native.Nat.{ℕ, ◌+◌, ◌-◌, ◌≤◌, ◌<◌}
use native.Mathlib.Omega.{arith}
use lib.ListN.{length, get_or, drop}
use lib.Seq.{drop-cons}
use lib.Dec.{eqb, leb}
use borrow.Author.Tests.{ne_eqb, le-leb, lt-leb, eqb-true, leb-false, not-true}
use Rattle.text.specs.Bytes.{Text}
use Rattle.text.specs.Text.{each_of, some_of}
use Rattle.strings.specs.Strings.{string_rule}
use Rattle.book.specs.declared.Cmd.{Cmd}
use Rattle.book.specs.declared.Stop.{Stop}
use Rattle.std.specs.Prelude.{Result, Ok}
use Rattle.std.specs.Result.{IfOk}
use Rattle.std.proofs.lemmas.Result.{IfOk-at_ok}
use Rattle.book.specs.declared.Fault.{Fault}
use Rattle.book.specs.Refusals.{told}
use Rattle.book.specs.Answer.{refused}
use Rattle.book.specs.Command.{begin, key, end, word, width_of, operands, decode}
use Rattle.book.specs.Rules.{openers, opened, text_of, own_rule, good_string, fault_of}
use Rattle.book.specs.Book.{judge}
use Rattle.book.specs.Checks.{Held, ClosedAs}
use Rattle.book.specs.Steps.{step_at}
use Rattle.book.specs.declared.Seen.{Seen}
use Rattle.book.specs.State.{has, pushed, slotted, texts, meets}
use Rattle.book.proofs.Steps.{step_command, step_moves}
use Rattle.verdicts.proofs.Turns.{Sofar, Clear, clear, was_opened, end_first, keys_few, turn_met, turn_long, turn_closed, turn_on, turn_slot, turn_less, slot_room, clear_on}
use Rattle.record_checker.proofs.Passes.{passed_forth}
use Rattle.usual.specs.Usual.{key_fine, Passed, still, more, keyed, barred, Taken, passed, behind}
use Rattle.usual.proofs.Passing.{clear_still}
use Rattle.usual.proofs.Keys.{Standing, standing, was_given}

module _ (part : Text) (base : ℕ) (text : Text) (rows : List Seen) {ns : List ℕ} {last : ℕ} {ks : List Seen} {at : ℕ} (s : Sofar part base text rows ns last ks at)
    (r : Bool) (rv : r ≡ (not (leb (length part) at) && (eqb (get_or part at 0) end && (not (eqb (has ns begin) 0) && eqb (has ns end) 0)))) where
  -- END, in a record that has begun
  module _ (yes : r ≡ true) where
    inside : at < length part
    inside = leb-false (length part) at (not-true _ (and_parts (not (leb (length part) at)) _ (sym rv ∙ yes)).0)

    byte : get_or part at 0 ≡ end
    byte = eqb-true _ _ (and_parts (eqb (get_or part at 0) end) _ (and_parts (not (leb (length part) at)) _ (sym rv ∙ yes)).1).0

    both : (not (eqb (has ns begin) 0) && eqb (has ns end) 0) ≡ true
    both = (and_parts (eqb (get_or part at 0) end) _ (and_parts (not (leb (length part) at)) _ (sym rv ∙ yes)).1).1

    begun : not (eqb (has ns begin) 0) ≡ true
    begun = (and_parts (not (eqb (has ns begin) 0)) _ both).0

    first : has ns end ≡ 0
    first = eqb-true (has ns end) 0 (and_parts (not (eqb (has ns begin) 0)) _ both).1

    op_is : end ≡ (operands 0 (drop at part)).op
    unfolding operands
    op_is = sym (rw (drop-cons part at 0 inside) byte)

    reads : step_at part at ≡ Ok (operands 0 (drop at part), at + 0 + 1)
    unfolding width_of
    reads = sym (step_command part at 0 (operands 0 (drop at part)) inside (sym (ap width_of byte)) (λ e. absurd (omega (arith, e))) (omega (arith, inside)) refl)

    bare : (o : ℕ) → o ≡ end → own_rule o [] ≡ true
    unfolding own_rule
    bare o e = rw e refl

    good : good_string text (operands 0 (drop at part)) ≡ true
    unfolding good_string operands text_of string_rule each_of
    good = rw (le-leb (0 + 0) (length text) (omega arith)) (bare _ (rw (drop-cons part at 0 inside) byte))

    clear_end : fault_of text (has ns) last (length rows) (texts text ks) (texts text rows) (operands 0 (drop at part)) ≡ None
    clear_end =
        clear_still text ns last (operands 0 (drop at part)) end op_is (omega arith) (λ e. absurd (omega (arith, e))) (λ e. absurd (omega (arith, e))) (λ e. absurd (omega (arith, e)))
        refl begun (omega (arith, first)) good (λ e. absurd (omega (arith, e))) (length rows) (texts text ks) (texts text rows)

    pub ended_long : 4 < length part
    ended_long = turn_long part base text rows s (sym reads) refl clear_end (sym op_is)

    pub ended_closed : (start len : ℕ) → start ≡ word part 1 → len ≡ word part 3 → ClosedAs part base text rows (base + at + 1) start len
    ended_closed start len a b =
        subst (λ (p : ℕ). ClosedAs part base text rows p start len) (omega arith)
        (turn_closed part base text rows s (sym reads) refl clear_end (sym op_is) start len a b)

  -- any other command, in which nothing is wrong but that it may be a key given before
  module _ (no : r ≡ false) {o : Result (Cmd × ℕ) Stop} (is : o ≡ step_at part at) {c : Cmd} {nx : ℕ} (e : o ≡ Ok (c, nx))
      (d : fault_of text (has ns) last (length rows) [] (texts text rows) c ≡ None) where
    sound : Clear text (has ns) last (length rows) [] (texts text rows) c
    sound = clear text (has ns) last (length rows) [] (texts text rows) c d

    stands : Standing part at c nx (sym e ∙ is)
    stands = standing part at c nx (sym e ∙ is)

    behind_begin : (k : ℕ) → c.op ≡ k → (eqb (get_or openers k 0) 0 || not (eqb (has ns (get_or openers k 0)) 0)) ≡ true
    unfolding opened
    behind_begin k q = subst (λ (i : ℕ). (eqb (get_or openers i 0) 0 || not (eqb (has ns (get_or openers i 0)) 0)) ≡ true) q (was_opened (has ns) last c sound.order)

    no_end : c.op ≡ end → ⊥
    no_end q =
        let b : get_or part at 0 ≡ end = sym stands.byte ∙ q in
        let y : r ≡ true = rv ∙ rw (lt-leb (length part) at stands.inside, b, behind_begin end q, end_first (has ns) last c sound.order q) refl in
        true≢false (sym y ∙ no)

-- where the offset stays, nothing was taken
passed_none : (part text : Text) (ns : List ℕ) (last at : ℕ) {ns' : List ℕ} {last' to : ℕ} → Passed part text ns last at ns' last' to → to ≤ at → ns ≡ ns'
passed_none part text ns last at still h = refl
passed_none part text ns last at (more {at' = p} {c = c} {nx = nx} x e u) h = absurd (omega (arith, h, passed_forth part text ns last at x, (step_moves part p c nx (sym e)).forth))

-- a key that was not taken is not fine
pub left_key : (part text : Text) (ns : List ℕ) (last at : ℕ) (ks : List Seen) {ns' : List ℕ} {last' to : ℕ} {ks' : List Seen} → Taken part text ns last at ks ns' last' to ks' → to ≤ at →
    (c : Cmd) (nx : ℕ) → Ok (c, nx) ≡ step_at part at → c.op ≡ key → key_fine part at text ns' ks' ≡ false
left_key part text ns last at ks (passed o p) h c nx is k = absurd (o (sym (standing part at c nx is).byte ∙ k))
left_key part text ns last at ks (behind {counts' = ms} {last' = l} {mid = m} (keyed here fine) p) h c nx is k = absurd (omega (arith, h, passed_forth part text ms l m p))
left_key part text ns last at ks (behind {mid = m} (barred f) p) h c nx is k = rw (← passed_none part text ns last at p h) f

-- what is left is looked at: nothing is wrong with the command but that it may be a key given before, and k is the slot that it takes
module _ (part : Text) (base : ℕ) (text : Text) (rows : List Seen) {ns : List ℕ} {last : ℕ} {ks : List Seen} {at : ℕ} (s : Sofar part base text rows ns last ks at)
    {o : Result (Cmd × ℕ) Stop} (is : o ≡ step_at part at) {c : Cmd} {nx : ℕ} (e : o ≡ Ok (c, nx)) {f : Result ℕ Fault}
    (g : record { fault : (n : ℕ) (paths : List Text) → told f ≡ fault_of text (has ns) last n [] paths c; in_slot : IfOk f (λ k. slotted c ≡ Some k) }) {k : ℕ} (ok : f ≡ Ok k) where
  d : fault_of text (has ns) last (length rows) [] (texts text rows) c ≡ None
  d = sym (g.fault (length rows) (texts text rows)) ∙ ap told ok

  slot_of_it : slotted c ≡ Some k
  slot_of_it = IfOk-at_ok (λ k. slotted c ≡ Some k) ok g.in_slot

  whole : Clear text (has ns) last (length rows) [] (texts text rows) c
  whole = clear text (has ns) last (length rows) [] (texts text rows) c d

  -- a key given before
  module _ (q : c.op ≡ key) (left : key_fine part at text ns ks ≡ false) where
    in_paths : not (eqb (has ns 10) 0) ≡ true
    unfolding opened
    in_paths = subst (λ (i : ℕ). (eqb (get_or openers i 0) 0 || not (eqb (has ns (get_or openers i 0)) 0)) ≡ true) q (was_opened (has ns) last c whole.order)

    met : some_of (meets false (text_of text c)) (texts text ks) ≡ true
    met = was_given part at c nx (sym e ∙ is) q text ns ks left in_paths (keys_few (has ns) last c whole.order (length rows) q whole.few) whole.string

    pub key_refused : (records : List (List Cmd)) → Held text rows records → judge text (record { records = records; here = [] }) (decode 0 base part) ≡ refused 6 (base + at)
    key_refused = turn_met part base text rows s is e d q met

  -- any other command
  module _ (no_key : c.op ≡ key → ⊥) where
    pub clear_here : fault_of text (has ns) last (length rows) (texts text ks) (texts text rows) c ≡ None
    clear_here = clear_on part base text rows s is e d no_key

    pub looked_slot : (k < 39) × (has ns k < 255)
    looked_slot = (turn_slot part base text rows s is e clear_here slot_of_it, slot_room part base text rows s is e clear_here slot_of_it)

    pub looked_less : length part - nx < length part - at
    looked_less = turn_less part base text rows s is e clear_here

    pub looked_on :
        (r : Bool) → r ≡ (not (leb (length part) at) && (eqb (get_or part at 0) end && (not (eqb (has ns begin) 0) && eqb (has ns end) 0))) → r ≡ false →
        (ns' : List ℕ) → ns' ≡ pushed ns c k → (last' : ℕ) → last' ≡ c.op → Sofar part base text rows ns' last' ks nx
    looked_on r rv n ns' y last' x =
        turn_on part base text rows s is e clear_here slot_of_it ks (rw (ne_eqb _ _ no_key) refl) (no_end part base text rows s r rv n is e d) ns' y last' x
