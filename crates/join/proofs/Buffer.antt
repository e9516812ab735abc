-- Laws of joining, and of what a buffer holds after it. Assumes nothing.
use mathlib.Core.Path.{◌≡◌, sym, subst}
use mathlib.Core.List.{[], ◌∷◌, ◌++◌}
use mathlib.Core.Bool.{Bool, true, false, not}
use Prim.Native.Nat.{ℕ, ◌+◌, ◌-◌, ◌≤◌, ◌<◌}
use native.Mathlib.Omega.{arith}
use lib.ListN.{length, get_or, length-append}
use lib.Dec.{eqb}
use borrow.Author.Tests.{eq-eqb, ne_eqb}
use Rattle.text.specs.Bytes.{Text, slash}
use Rattle.emit.specs.Emit.{Room}
use Rattle.emit.specs.Output.{text_of, Puts, Becomes}
use Rattle.emit.specs.declared.Output.{Output}
use Rattle.emit.proofs.Emits.{room_first}
use Rattle.emit.proofs.Outputs.{puts_none, puts_both, puts_room, puts_text}
use Rattle.components.specs.Components.{starts}
use Rattle.join.specs.Join.{joint, push_of, join_of, slash_if}
use Rattle.text.proofs.Picks.{by_test}

-- the slash between

pub joint_none : (s : Text) → length s ≡ 0 → joint s ≡ slash_if false
unfolding joint
joint_none s h = rw (eq-eqb (length s) 0 h)

pub joint_some : (s : Text) → 0 < length s → joint s ≡ slash_if (not (eqb (get_or s (length s - 1) 0) slash))
unfolding joint
joint_some s h = rw (ne_eqb (length s) 0 (omega arith)) (by_test (eqb (get_or s (length s - 1) 0) slash) (λ t. rw t) (λ f. rw f))

-- the same, as the code tells the last byte
pub joint_ends : (s : Text) → 0 < length s → get_or s (length s - 1) 0 ≡ slash → joint s ≡ slash_if false
unfolding joint
joint_ends s h e = rw (ne_eqb (length s) 0 (omega arith), eq-eqb (get_or s (length s - 1) 0) slash e)

pub joint_apart : (s : Text) → 0 < length s → (get_or s (length s - 1) 0 ≡ slash → ⊥) → joint s ≡ slash_if true
unfolding joint
joint_apart s h e = rw (ne_eqb (length s) 0 (omega arith), ne_eqb (get_or s (length s - 1) 0) slash e)

pub ruleset joints = (joint_none, joint_ends, joint_apart)

pub joint_size : (s : Text) → length (joint s) ≤ 1
unfolding joint
joint_size s = by_test (eqb (length s) 0) (λ t. rw t (omega arith)) (λ f. rw f (by_test (eqb (get_or s (length s - 1) 0) slash) (λ t. rw t (omega arith)) (λ g. rw g (omega arith))))

-- a joined path is longer than its two parts by at most the slash
pub join_size : (base sub : Text) → length (join_of base sub) ≤ length base + 1 + length sub
unfolding join_of push_of
join_size base sub =
    by_test (starts slash sub) (λ t. rw t (omega arith))
    (λ f. rw f (omega (arith, length-append base (joint base ++ sub), length-append (joint base) sub, joint_size base)))

-- a text after its slash, or with none

slash_size : (k : Bool) → length (slash_if k) ≤ 1
slash_size true = omega arith
slash_size false = omega arith

module _ (k : Bool) (s : Text) where
  pub room_slash : (at : ℕ) → Room at (slash_if k ++ s) → k ≡ true → Room at (slash ∷ [])
  room_slash at h t = room_first (slash ∷ []) s at (subst (λ (b : Bool). Room at (slash_if b ++ s)) t h)

  pub slash_put : (o u : Output) → k ≡ true → Puts (slash ∷ []) o u → Puts (slash_if k) o u
  slash_put o u t p = rw t p

  pub slash_left : (o u : Output) → k ≡ false → u ≡ o → Puts (slash_if k) o u
  slash_left o u f e = rw (f, e) (puts_none o)

-- a name joined to the path that was written, where it fits

module _ (o : Output) (name : Text) (h : o.at + 1 + length name ≤ length o.bytes.now) (k : Bool) where
  push_fits : o.at + length (slash_if k ++ name) ≤ length o.bytes.now
  push_fits = omega (arith, h, length-append (slash_if k) name, slash_size k)

  pub push_becomes : (u : Output) → joint (text_of o) ≡ slash_if k → Puts (slash_if k ++ name) o u → Becomes (push_of (text_of o) name) o u
  unfolding push_of
  push_becomes u j p = rw j (puts_text (slash_if k ++ name) o u push_fits p)

-- Path::join: k is the test for an absolute path, w whether a slash is to stand between

module _ (base sub : Text) (k : Bool) (e : k ≡ starts slash sub) where
  module _ (t : k ≡ true) where
    pub join_abs : sub ≡ join_of base sub
    unfolding join_of
    join_abs = rw (← e, t)

    pub room_abs : (at : ℕ) → Room at (join_of base sub) → Room at sub
    room_abs at h = subst (Room at) (sym join_abs) h

  module _ (f : k ≡ false) where
    rel : join_of base sub ≡ base ++ (joint base ++ sub)
    unfolding join_of push_of
    rel = rw (← e, f)

    pub room_base : (at : ℕ) → Room at (join_of base sub) → Room at base
    room_base at h = room_first base (joint base ++ sub) at (subst (Room at) rel h)

    module _ (o u : Output) (p : Puts base o u) (w : Bool) (j : joint base ≡ slash_if w) where
      pub room_sub : Room o.at (join_of base sub) → Room u.at (slash_if w ++ sub)
      room_sub h = subst (λ (l : Text). Room u.at (l ++ sub)) j (puts_room base (joint base ++ sub) o u p (subst (Room o.at) rel h))

      pub join_rel : (v : Output) → Puts (slash_if w ++ sub) u v → Puts (join_of base sub) o v
      join_rel v z = rw (rel, j) (puts_both base (slash_if w ++ sub) o u v p z)
