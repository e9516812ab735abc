-- Laws of what calls leave of an output: texts written one after the other, and the rest that a loop has still to write. Assumes nothing.
use Rattle.std.proofs.Common.{◌≡◌, ℕ, ◌+◌, ◌*◌, ◌^◌, ◌<◌, ◌≤◌, [], ◌++◌, length, take, refl, ap, ◌∙◌, arith}
use Rattle.text.specs.Bytes.{Text}
use Rattle.emit.specs.declared.Output.{Output}
use Rattle.emit.specs.Emit.{Room}
use Rattle.emit.specs.Output.{text_of, Puts, Becomes}
use Rattle.emit.proofs.Emits.{Owes, owes_all, owes_step, owes_room, owes_end, emits_none, emits_both, emits_length, emits_holds, room_rest}

pub puts_none : (o : Output) → Puts [] o o
puts_none o = record { same = refl; wrote = emits_none o.bytes.now o.at }

pub puts_both : (x y : Text) (o u v : Output) → Puts x o u → Puts y u v → Puts (x ++ y) o v
puts_both x y o u v p q = record { same = q.same ∙ p.same; wrote = emits_both x y _ _ _ _ _ _ p.wrote q.wrote }

pub puts_by : (x y : Text) (o u : Output) → x ≡ y → Puts x o u → Puts y o u
puts_by x y o u e p = rw (← e) p

pub puts_room : (x y : Text) (o u : Output) → Puts x o u → Room o.at (x ++ y) → Room u.at y
puts_room x y o u p h = room_rest x y _ _ _ _ p.wrote h

pub puts_length : (x : Text) (o u : Output) → Puts x o u → length u.bytes.now ≡ length o.bytes.now
puts_length x o u p = emits_length x _ _ _ _ p.wrote

-- What is still to write: the whole, from o on, is the rest on what the output is now. A loop's invariant, or the state of a long run of calls.
pub record Left (all : Text) (o : Output) (rest : Text) (u : Output) : Type 0 where
  pub same : u.bytes.ghost_name ≡ o.bytes.ghost_name
  pub owes : Owes all o.bytes.now o.at rest u.bytes.now u.at

module _ (all : Text) (o : Output) where
  pub left_all : Left all o all o
  left_all = record { same = refl; owes = owes_all all o.bytes.now o.at }

  -- the rest said otherwise
  pub left_by : (x y : Text) (u : Output) → x ≡ y → Left all o x u → Left all o y u
  left_by x y u e p = rw (← e) p

  module _ (rest : Text) (u : Output) (p : Left all o rest u) where
    pub left_room : (x y : Text) → rest ≡ x ++ y → Room o.at all → Room u.at x
    left_room x y e h = owes_room all o.bytes.now o.at rest u.bytes.now u.at p.owes x y e h

    pub left_step : (x y : Text) (v : Output) → rest ≡ x ++ y → Puts x u v → Left all o y v
    left_step x y v e q = record { same = q.same ∙ p.same; owes = owes_step all o.bytes.now o.at rest u.bytes.now u.at p.owes x y _ _ e q.wrote }

    pub left_end : rest ≡ [] → Puts all o u
    left_end e = record { same = p.same; wrote = owes_end all o.bytes.now o.at rest u.bytes.now u.at p.owes e }

-- What is written where it fits stands behind what stood there
pub puts_text : (xs : Text) (o u : Output) → o.at + length xs ≤ length o.bytes.now → Puts xs o u → Becomes (text_of o ++ xs) o u
puts_text xs o u h p = record { same = p.same; long = puts_length xs o u p; holds = emits_holds xs o.bytes.now u.bytes.now o.at u.at h p.wrote }

-- In an output of which nothing is written, it is the text
pub puts_first : (xs : Text) (o u : Output) → o.at ≡ 0 → length xs ≤ length o.bytes.now → Puts xs o u → Becomes xs o u
puts_first xs o u z h p =
    let e : text_of o ≡ [] = ap (λ (n : ℕ). take n o.bytes.now) z in
    rw e at (puts_text xs o u (omega arith) p)

-- a text that becomes another in turn
pub becomes_both : (s t : Text) (o u v : Output) → Becomes s o u → Becomes t u v → Becomes t o v
becomes_both s t o u v p q = record { same = q.same ∙ p.same; long = q.long ∙ p.long; holds = q.holds }

pub becomes_text : (t : Text) (o u : Output) → Becomes t o u → text_of u ≡ t
becomes_text t o u p = p.holds.bytes

-- every slice is shorter than 2 ^ 63 bytes
pub room_within : (o : Text) (at : ℕ) (xs : Text) → at + length xs ≤ length o → length o * 1 < 2 ^ 63 → Room at xs
room_within o at xs h b = record { room = omega arith }
