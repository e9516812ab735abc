-- Laws of what is written to lent output. Assumes nothing.
use mathlib.Core.Path.{◌≡◌, refl, sym, ap, ◌∙◌}
use mathlib.Core.List.{[], ◌∷◌, ◌++◌, append_assoc}
use Prim.Native.Nat.{ℕ, suc, ◌+◌, ◌-◌, ◌<◌, ◌≤◌, min}
use native.Mathlib.Omega.{arith}
use native.Mathlib.Nat.{add-zero, add-suc, suc-add}
use lib.ListN.{length, set, drop, take, length-append, drop_of_length-le}
use lib.Seq.{sets, sets-eq, length-sets, set_out, drop-drop, take_at, length-take-le}
use lib.ListN.{take-append-drop}
use borrow.Rule.Slice.PartMut.{put_mid}
use lib.Dec.{leb}
use borrow.Author.Tests.{leb-true, leb-false}
use Rattle.text.specs.Bytes.{Text}
use Rattle.text.proofs.Picks.{by_test}
use Rattle.emit.specs.Emit.{written, Room, Emits, Holds}

-- Two texts one after the other are one

pub written_append : (x o : Text) (at : ℕ) (y : Text) → written (written o at x) (at + length x) y ≡ written o at (x ++ y)
unfolding written
written_append [] o at y = ap (λ (k : ℕ). sets o k y) (add-zero at)
written_append (a ∷ x) o at y =
    ap (λ (k : ℕ). sets (sets (set o at a) (suc at) x) k y) (add-suc at (length x) ∙ sym (suc-add at (length x)))
    ∙ written_append x (set o at a) (suc at) y

pub emits_none : (o : Text) (at : ℕ) → Emits [] o at o at
unfolding written
emits_none o at = record { text = refl; next = sym (add-zero at) }

pub emits_both : (x y o u v : Text) (at a b : ℕ) → Emits x o at u a → Emits y u a v b → Emits (x ++ y) o at v b
emits_both x y o u v at a b p q = record {
  text = q.text ∙ ap (λ (l : Text). written l a y) p.text ∙ ap (λ (k : ℕ). written (written o at x) k y) p.next ∙ written_append x o at y;
  next = rw length-append (omega (arith, p.next, q.next));
}

pub room_first : (x y : Text) (at : ℕ) → Room at (x ++ y) → Room at x
room_first x y at h = record { room = omega (arith, h.room, length-append x y) }

pub room_rest : (x y o u : Text) (at r : ℕ) → Emits x o at u r → Room at (x ++ y) → Room r y
room_rest x y o u at r p h = record { room = omega (arith, h.room, length-append x y, p.next) }

-- The output keeps its length

pub written_length : (o : Text) (at : ℕ) (xs : Text) → length (written o at xs) ≡ length o
unfolding written
written_length o at xs = length-sets o at xs

pub emits_length : (xs o : Text) (at : ℕ) (u : Text) (r : ℕ) → Emits xs o at u r → length u ≡ length o
emits_length xs o at u r p = ap length p.text ∙ written_length o at xs

-- Past the end nothing is written: this is counting

pub written_out : (xs o : Text) (at : ℕ) → length o ≤ at → written o at xs ≡ o
unfolding written
written_out [] o at h = refl
written_out (x ∷ xs) o at h = rw (set_out o at x h) (written_out xs o (suc at) (omega arith))

pub emits_out : (xs o : Text) (at : ℕ) → length o ≤ at → Emits xs o at o (at + length xs)
emits_out xs o at h = record { text = sym (written_out xs o at h); next = refl }

-- The whole text, where it fits: the bytes before it, the text, and the old bytes after it

pub written_in : (o : Text) (at : ℕ) (xs : Text) → at + length xs ≤ length o → written o at xs ≡ take at o ++ xs ++ drop (at + length xs) o
unfolding written
written_in o at xs h = sets-eq xs o at h

pub written_whole : (xs o : Text) → length xs ≤ length o → written o 0 xs ≡ xs ++ drop (length xs) o
unfolding written
written_whole xs o h = let e : 0 + length xs ≡ length xs = omega arith in sets-eq xs o 0 (omega arith) ∙ ap (λ (n : ℕ). xs ++ drop n o) e

-- One byte

module _ (o : Text) (at b : ℕ) where
  pub put_in : Emits (b ∷ []) o at (set o at b) (at + 1)
  unfolding written
  put_in = record { text = refl; next = refl }

  pub put_out : length o ≤ at → Emits (b ∷ []) o at o (at + 1)
  unfolding written
  put_out h = record { text = sym (set_out o at b h); next = refl }

-- What is still to write: the whole, from `at` on the old output, is the rest from k on what the output is now. A loop's invariant, or the
-- state of a long run of calls.
pub record Owes (all o₀ : Text) (at : ℕ) (rest o : Text) (k : ℕ) : Type 0 where
  pub text : written o₀ at all ≡ written o k rest
  pub next : at + length all ≡ k + length rest

module _ (all o₀ : Text) (at : ℕ) where
  pub owes_all : Owes all o₀ at all o₀ at
  owes_all = record { text = refl; next = refl }

  module _ (rest o : Text) (k : ℕ) (p : Owes all o₀ at rest o k) where
    pub owes_step : (x y u : Text) (r : ℕ) → rest ≡ x ++ y → Emits x o k u r → Owes all o₀ at y u r
    owes_step x y u r e q = record {
      text = p.text ∙ ap (written o k) e ∙ sym (ap (λ (l : Text). written l r y) q.text ∙ ap (λ (j : ℕ). written (written o k x) j y) q.next ∙ written_append x o k y);
      next = omega (arith, p.next, ap length e, length-append x y, q.next);
    }

    pub owes_room : (x y : Text) → rest ≡ x ++ y → Room at all → Room k x
    owes_room x y e h = record { room = omega (arith, p.next, ap length e, length-append x y, h.room) }

    pub owes_end : rest ≡ [] → Emits all o₀ at o k
    unfolding written
    owes_end e = record { text = sym (p.text ∙ ap (written o k) e); next = omega (arith, p.next, ap length e) }

-- The front of a text that the output has room for, copied there, is all that is written

module _ (o s : Text) (at n : ℕ) (here : at < length o) (reach : n ≡ min (length s) (length o - at)) where
  front_in : length (take n s) ≡ n
  front_in = length-take-le n s (omega (arith, reach))

  rest_out : (w : Text) → length w ≡ length o → written w (at + n) (drop n s) ≡ w
  unfolding written
  rest_out w l =
      by_test (leb (length s) n)
      (λ t. ap (sets w (at + n)) (drop_of_length-le s (leb-true (length s) n t)))
      (λ f. let z = leb-false (length s) n f in written_out (drop n s) w (at + n) (omega (arith, reach, z, l)))

  written_front : written o at s ≡ written o at (take n s)
  written_front =
      ap (written o at) (sym (take-append-drop n s)) ∙ (sym (written_append (take n s) o at (drop n s))
      ∙ (ap (λ (k : ℕ). written (written o at (take n s)) (at + k) (drop n s)) front_in ∙ rest_out (written o at (take n s)) (written_length o at (take n s))))

  pub copied_front : (k : ℕ) (ys : Text) → k ≡ n → ys ≡ take n s → put_mid at k o ys ≡ written o at s
  copied_front k ys e f =
      rw (e, f, drop-drop n at o)
      (sym (written_front ∙ (written_in o at (take n s) (omega (arith, front_in, reach)) ∙ (append_assoc (take at o) (take n s) (drop (at + length (take n s)) o) ∙ ap (λ (j : ℕ). take at o ++ (take n s ++ drop (at + j) o)) front_in))))

-- What a buffer holds after a write that fits

-- the first n bytes are a text, and stay it
pub kept : (d : Text) (n : ℕ) → n ≤ length d → Holds n d (take n d)
kept d n h = record { size = sym (length-take-le n d h); bytes = refl }

pub emits_holds : (xs o u : Text) (n r : ℕ) → n + length xs ≤ length o → Emits xs o n u r → Holds r u (take n o ++ xs)
emits_holds xs o u n r h p =
    let l : length (take n o ++ xs) ≡ n + length xs = length-append (take n o) xs ∙ ap (λ (k : ℕ). k + length xs) (length-take-le n o (omega arith)) in
    record {
      size = p.next ∙ sym l;
      bytes = rw (p.text, p.next, written_in o n xs h) (take_at (take n o ++ xs) (drop (n + length xs) o) (n + length xs) l);
    }
