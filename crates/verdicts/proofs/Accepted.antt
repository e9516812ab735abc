-- The records of an accepted book are sound. Assumes nothing.
use mathlib.Core.Path.{◌≡◌, refl, sym, ap, ap₂, subst, ◌∙◌}
use mathlib.Core.List.{List, [], ◌∷◌, map, reverse, reverse_aux, reverse-reverse}
use mathlib.Core.Bool.{Bool, false, ◌||◌, cond, and-false}
use Rattle.std.specs.Prelude.{Option, Some, None}
use Prim.Native.Nat.{ℕ, zero, suc, ◌+◌, ◌≤◌, ◌<◌}
use native.Mathlib.Omega.{arith}
use lib.ListN.{length, get_or, get_or-eq_default}
use lib.Dec.{eqb, leb, ltb}
use borrow.Author.Tests.{ne_eqb, eqb-true, leb-true, leb-false, le-ltb}
use Rattle.text.specs.Bytes.{Text}
use Rattle.text.proofs.Picks.{by_test}
use Rattle.book.specs.declared.Cmd.{Cmd}
use Rattle.book.specs.Answer.{refused, given, unless}
use Rattle.book.specs.Command.{Decoded, ended, broken, command, decode, begin, key, target, flag, text_option, end}
use Rattle.book.specs.Rules.{Before, slot, tally, last_op, limits, too_many, fault, path_of, keys_of}
use Rattle.book.specs.Record.{is, only}
use Rattle.book.specs.Book.{judge, next, finish, nothing, verdict}
use Rattle.book.specs.Sound.{All, nil, cons, Good, Sound}
use Rattle.faults.proofs.Keeps.{ranged}
use Rattle.verdicts.proofs.Turns.{clear}

module _ {A : Type 0} (P : A → Type 0) where
  all_onto : (l r : List A) → All P l → All P r → All P (reverse_aux l r)
  all_onto [] r p q = q
  all_onto (x ∷ l) r (cons p ps) q = all_onto l (x ∷ r) ps (cons p q)

  pub all_at : (l : List A) (d : A) → All P l → (i : ℕ) → i < length l → P (get_or l i d)
  all_at [] d p i h = absurd (omega (arith, h))
  all_at (x ∷ l) d (cons p ps) zero h = p
  all_at (x ∷ l) d (cons p ps) (suc i) h = all_at l d ps i (omega (arith, h))

  all_map : {B : Type 0} (f : B → A) (l : List B) → All (λ b. P (f b)) l → All P (map f l)
  all_map f [] p = nil
  all_map f (x ∷ l) (cons p ps) = cons p (all_map f l ps)

all_weaken : {A : Type 0} (P Q : A → Type 0) (l : List A) → ((x : A) → P x → Q x) → All P l → All Q l
all_weaken P Q [] f p = nil
all_weaken P Q (x ∷ l) f (cons p ps) = cons (f x p) (all_weaken P Q l f ps)

same_given : (x y : List (List Cmd)) → given x ≡ given y → x ≡ y
same_given x y e = cc

never : (n p : ℕ) (x : List (List Cmd)) → refused n p ≡ given x → ⊥
never n p x e = let z : ◌≡◌ {A = ℕ} 0 1 = cc in omega (arith, z)

-- What each accepted command keeps up holds of each record: R of the commands of the open one, newest first
module _ (text : Text) (R : List Cmd → Type 0) (none_yet : R []) (more : (b : Before) (c : Cmd) → fault text b c ≡ None → R b.here → R (c ∷ b.here)) where
  abbrev InOrder : List Cmd → Type 0
  InOrder r = R (reverse r)

  module _ (rs : List (List Cmd)) where
    module _ (at : ℕ) (c : Cmd) (rest : Decoded) (follow : (b : Before) → judge text b rest ≡ given rs → All R b.records → R b.here → All InOrder rs) (b : Before) (p : All R b.records) (q : R b.here) where
      one : (o : Option ℕ) → fault text b c ≡ o → unless o at (λ n. judge text n rest) (next b c) ≡ given rs → All InOrder rs
      unfolding next
      one (Some n) f e = absurd (never n at rs e)
      one None f e =
          by_test (eqb c.op end)
          (λ y. follow (record { records = b.here ∷ b.records; here = [] }) (rw y at e) (cons q p) none_yet)
          (λ y. follow (record { records = b.records; here = c ∷ b.here }) (rw y at e) p (more b c f q))

    kept : (b : Before) (d : Decoded) → judge text b d ≡ given rs → All R b.records → R b.here → All InOrder rs
    unfolding judge finish
    kept b (ended at) e p q =
        by_test (eqb (length b.here) 0)
        (λ y.
        let z : reverse (map reverse b.records) ≡ rs = same_given (reverse (map reverse b.records)) rs (rw y at e) in
        let turned : All InOrder (map reverse b.records) = all_map InOrder reverse b.records (all_weaken R (λ r. InOrder (reverse r)) b.records (λ r x. subst R (sym (reverse-reverse r)) x) p) in
        subst (All InOrder) z (all_onto InOrder (map reverse b.records) [] turned nil))
        (λ y. absurd (never 2 at rs (rw y at e)))
    kept b (broken at) e p q = absurd (never 2 at rs e)
    kept b (command at c rest) e p q = one at c rest (λ b e p q. kept b rest e p q) b p q (fault text b c) refl e

    pub kept_all : (commands : Text) → verdict commands text ≡ given rs → All InOrder rs
    unfolding verdict
    kept_all commands e =
        by_test (ltb 32768 (length commands) || ltb 65535 (length text))
        (λ y. absurd (never 1 0 rs (rw y at e)))
        (λ y. kept nothing (decode 0 0 commands) (rw y at e) nil none_yet)

-- a command that may repeat is counted by its byte
module _ (op : ℕ) (many : get_or limits op 0 ≡ 0 → ⊥) where
  limit_known : op < 21
  limit_known = by_test (leb 21 op) (λ y. absurd (many (get_or-eq_default limits 0 (leb-true 21 op y)))) (λ y. leb-false 21 op y)

  not_once : (k : ℕ) → get_or limits k 0 ≡ 0 → eqb k op ≡ false
  not_once k z = ne_eqb k op (λ e. many (ap (λ (i : ℕ). get_or limits i 0) (sym e) ∙ z))

  slot_op : (c : Cmd) → eqb (slot c) op ≡ eqb c.op op
  unfolding slot
  slot_op c =
      by_test (eqb c.op flag)
      (λ e. rw e (ne_eqb (0x15 + c.id) op (λ h. absurd (omega (arith, h, limit_known))) ∙ sym (ap (λ (i : ℕ). eqb i op) (eqb-true c.op flag e) ∙ not_once flag refl)))
      (λ e. by_test (eqb c.op text_option)
      (λ f. rw (e, f) (ne_eqb (0x20 + c.id) op (λ h. absurd (omega (arith, h, limit_known))) ∙ sym (ap (λ (i : ℕ). eqb i op) (eqb-true c.op text_option f) ∙ not_once text_option refl)))
      (λ f. rw (e, f) refl))

  module _ (other : op ≡ target → ⊥) where
    tally_more : (c : Cmd) (here : List Cmd) → tally op (c ∷ here) ≡ cond (eqb c.op op) (suc (tally op here)) (tally op here)
    unfolding tally
    tally_more c here = rw (slot_op c, ne_eqb op target other, and-false (eqb (slot c) key)) refl

    counted : (here : List Cmd) → tally op here ≡ length (only (is op) here)
    unfolding tally only
    counted [] = refl
    counted (c ∷ here) = tally_more c here ∙ by_test (eqb c.op op) (λ e. rw e (ap suc (counted here))) (λ e. rw e (counted here))

    few_more : (count : ℕ → ℕ) (last n : ℕ) (c : Cmd) (here : List Cmd) → count (slot c) ≡ tally (slot c) here → too_many count last c n ≡ false → tally op here ≤ get_or limits op 0 → tally op (c ∷ here) ≤ get_or limits op 0
    unfolding too_many
    few_more count last n c here same f h =
        by_test (eqb c.op op)
        (λ e.
        let o : c.op ≡ op = eqb-true c.op op e in
        let k : slot c ≡ op = eqb-true (slot c) op (slot_op c ∙ e) in
        let first : eqb c.op begin ≡ false = ap (λ (i : ℕ). eqb i begin) o ∙ eqb_flip in
        let bound : eqb (get_or limits c.op 0) 0 ≡ false = ap (λ (i : ℕ). eqb (get_or limits i 0) 0) o ∙ ne_eqb (get_or limits op 0) 0 many in
        let below : leb (get_or limits c.op 0) (count (slot c)) ≡ false = rw (first, bound) at f in
        let w : leb (get_or limits op 0) (tally op here) ≡ false = sym (ap₂ leb (ap (λ (i : ℕ). get_or limits i 0) o) (same ∙ ap (λ (i : ℕ). tally i here) k)) ∙ below in
        rw (tally_more c here, e) (leb-false (get_or limits op 0) (tally op here) w))
        (λ e. rw (tally_more c here, e) h)
      where
        eqb_flip : eqb op begin ≡ false
        eqb_flip = ne_eqb op begin (λ e. many (ap (λ (i : ℕ). get_or limits i 0) e))

-- the commands of the open record, newest first
record Open (text : Text) (here : List Cmd) : Type 0 where
  each : All (Good text) here
  few : (op : ℕ) → (get_or limits op 0 ≡ 0 → ⊥) → (op ≡ target → ⊥) → tally op here ≤ get_or limits op 0

module _ (text : Text) where
  open_none : Open text []
  unfolding tally
  open_none = record { each = nil; few = λ op m o. omega arith }

  open_more : (b : Before) (c : Cmd) → fault text b c ≡ None → Open text b.here → Open text (c ∷ b.here)
  unfolding fault
  open_more b c f s =
      let count : ℕ → ℕ = λ k. tally k b.here in
      let y = clear text count (last_op b.here) (length b.records) (keys_of text b.here) (map (path_of text) b.records) c f in
      record {
        each = cons (record { range = ranged count (last_op b.here) c y.order; string = y.string }) s.each;
        few = λ op m o. few_more op m o count (last_op b.here) (length b.records) c b.here refl y.few (s.few op m o);
      }

  length_only : (ok : Cmd → Bool) (l r : List Cmd) → length (only ok (reverse_aux l r)) ≡ length (only ok l) + length (only ok r)
  unfolding only
  length_only ok [] r = omega arith
  length_only ok (c ∷ l) r =
      length_only ok l (c ∷ r)
      ∙ by_test (ok c) (λ e. rw e (omega arith)) (λ e. rw e refl)

  closed_sound : (r : List Cmd) → Open text (reverse r) → Sound text r
  unfolding only
  closed_sound r s =
      record {
        each = subst (All (Good text)) (reverse-reverse r) (all_onto (Good text) (reverse r) [] s.each nil);
        few = λ op m o. omega (arith, s.few op m o, counted op m o (reverse r), length_only (is op) r []);
      }

  pub accepted_sound : (commands : Text) (rs : List (List Cmd)) → verdict commands text ≡ given rs → All (Sound text) rs
  accepted_sound commands rs e = all_weaken (λ r. Open text (reverse r)) (Sound text) rs closed_sound (kept_all text (Open text) open_none open_more rs commands e)

-- "An empty book is accepted."
pub empty_accepted : (text : Text) → length text ≤ 65535 → verdict [] text ≡ given []
unfolding verdict judge decode finish
empty_accepted text h = rw (le-ltb 65535 (length text) h) refl
