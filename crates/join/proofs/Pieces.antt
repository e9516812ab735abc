-- Laws of a subpath's pieces, joined one after the other. Assumes nothing.
use Rattle.std.proofs.Common.{◌≡◌, ℕ, suc, ◌+◌, ◌<◌, ◌≤◌, List, [], ◌∷◌, ◌++◌, Bool, true, false, eqb, length, take, drop, get_or, refl, sym, ap, ◌∙◌, arith, add-one, length-append, length-take}
use Rattle.components.proofs.Pieces.{split_some}
use lib.ListN.{drop_of_length-le}
use lib.Seq.{take-take, length-take-le, drop-cons}
use Rattle.text.specs.Bytes.{Text, slash}
use Rattle.text.proofs.Picks.{by_test}
use Rattle.emit.specs.Emit.{Holds}
use Rattle.emit.specs.Output.{text_of, Puts, Cut, Becomes}
use Rattle.emit.specs.declared.Output.{Output}
use Rattle.emit.proofs.Emits.{kept}
use Rattle.emit.proofs.Outputs.{puts_first, becomes_both}
use Rattle.components.specs.Components.{split, on_first, piece_of, starts}
use Rattle.components.specs.declared.Piece.{Piece}
use Rattle.components.specs.declared.Piece.TheVariants.{Skip, Up, Name}
use Rattle.ends.specs.Ends.{parent_of}
use Rattle.ends.proofs.Parents.{parent_le}
use Rattle.join.specs.Join.{joint, push_of, step_by, step_of, walk_of, normalize_with}
use Rattle.join.specs.Plain.{plain_names}
use Rattle.join.proofs.Buffer.{joint_size}
use Rattle.join.proofs.Plain.{walk_plain}

-- one piece; k is where the parent ends

module _ (o : Output) (h : o.at ≤ length o.bytes.now) (p : Text) where
  pub step_skip : Skip ≡ piece_of p → Becomes (step_of (text_of o) p) o o
  unfolding step_of step_by
  step_skip e = rw (← e) (record { same = refl; long = refl; holds = kept o.bytes.now o.at h })

  pub step_up : Up ≡ piece_of p → (k : ℕ) → Holds k (text_of o) (parent_of (text_of o)) → (u : Output) → Cut k o u → Becomes (step_of (text_of o) p) o u
  unfolding step_of step_by
  step_up e k q u t =
      let l : k ≤ o.at = omega (arith, parent_le (text_of o), length-take-le o.at o.bytes.now h, q.size) in
      rw (← e)
      (record {
        same = t.same;
        long = ap length t.bytes;
        holds = record { size = t.at ∙ q.size; bytes = rw (t.at, t.bytes) (sym (take-take k o.at o.bytes.now l) ∙ q.bytes) };
      })

pub step_name : (s p : Text) → Name ≡ piece_of p → push_of s p ≡ step_of s p
unfolding step_of step_by
step_name s p e = rw (← e)

step_size : (k : Piece) (s p : Text) → length (step_by k s p) ≤ length s + 1 + length p
unfolding step_by push_of
step_size Skip s p = omega arith
step_size Up s p = omega (arith, parent_le s)
step_size Name s p = omega (arith, length-append s (joint s ++ p), length-append (joint s) p, joint_size s)

pub step_length : (s p : Text) → length (step_of s p) ≤ length s + 1 + length p
unfolding step_of
step_length s p = step_size (piece_of p) s p

-- how many bytes the pieces have, with a slash behind each
abbrev pub spread : List Text → ℕ
spread [] = 0
spread (p ∷ ps) = length p + 1 + spread ps

spread_first : (x : ℕ) (q : List Text) → 0 < length q → spread (on_first x q) ≡ spread q + 1
unfolding on_first
spread_first x [] h = absurd (omega arith)
spread_first x (p ∷ ps) h = omega arith

pub spread_split : (s : Text) → spread (split s) ≡ length s + 1
unfolding split
spread_split [] = omega arith
spread_split (x ∷ s) =
    by_test (eqb x slash) (λ t. rw t (omega (arith, spread_split s)))
    (λ f. rw f (omega (arith, spread_first x (split s) (split_some s), spread_split s)))

-- what is left to walk, once n of the pieces are walked from the path o: the loop's invariant
pub record Walks (ps : List Text) (o : Output) (n : ℕ) (u : Output) : Type 0 where
  pub same : u.bytes.ghost_name ≡ o.bytes.ghost_name
  pub long : length u.bytes.now ≡ length o.bytes.now
  pub room : u.at + spread (drop n ps) ≤ length u.bytes.now
  pub left : walk_of (text_of u) (drop n ps) ≡ walk_of (text_of o) ps

module _ (ps : List Text) (o : Output) where
  pub walks_start : o.at + spread ps ≤ length o.bytes.now → Walks ps o 0 o
  walks_start h = record { same = refl; long = refl; room = h; left = refl }

  module _ (n : ℕ) (u : Output) (w : Walks ps o n u) where
    pub walks_end : n ≡ length ps → Becomes (walk_of (text_of o) ps) o u
    unfolding walk_of
    walks_end e =
        let z : drop n ps ≡ [] = drop_of_length-le ps (omega (arith, e)) in
        let room : u.at + spread (drop n ps) ≤ length u.bytes.now = w.room in
        rw (← w.left, z) (record { same = w.same; long = w.long; holds = kept u.bytes.now u.at (omega (arith, room)) })

    module _ (p : Text) (here : n < length ps) (e : p ≡ get_or ps n p) where
      left_piece : drop n ps ≡ p ∷ drop (suc n) ps
      left_piece = drop-cons ps n p here ∙ ap (λ (q : Text). q ∷ drop (suc n) ps) (sym e)

      room_piece : u.at + (length p + 1 + spread (drop (suc n) ps)) ≤ length u.bytes.now
      room_piece = rw left_piece at w.room

      pub step_room : u.at + 1 + length p ≤ length u.bytes.now
      step_room = omega (arith, room_piece)

      pub walks_on : (v : Output) → Becomes (step_of (text_of u) p) u v → Walks ps o (n + 1) v
      unfolding walk_of
      walks_on v b =
          let m : v.at ≤ u.at + 1 + length p = omega (arith, b.holds.size, step_length (text_of u) p, length-take u.at u.bytes.now) in
          record {
            same = b.same ∙ w.same;
            long = b.long ∙ w.long;
            room = rw add-one (omega (arith, room_piece, m, b.long));
            left = rw (add-one, b.holds.bytes) (ap (walk_of (text_of u)) (sym left_piece) ∙ w.left);
          }

-- the whole

norm_none : (base sub : Text) → length sub ≡ 0 → normalize_with base sub ≡ []
unfolding normalize_with
norm_none base [] h = refl
norm_none base (x ∷ s) h = absurd (omega arith)

abs : (base s : Text) → starts slash s ≡ true → normalize_with base s ≡ s
unfolding normalize_with starts
abs base [] t = refl
abs base (x ∷ s) t = rw t

rel : (base s : Text) → (length s ≡ 0 → ⊥) → starts slash s ≡ false → normalize_with base s ≡ walk_of base (split s)
unfolding normalize_with starts
rel base [] h f = absurd (h refl)
rel base (x ∷ s) h f = rw f

module _ (base sub : Text) (o : Output) (at : o.at ≡ 0) (h : length base + 1 + length sub ≤ length o.bytes.now) where
  pub norm_nil : length sub ≡ 0 → Becomes (normalize_with base sub) o o
  norm_nil e = rw (norm_none base sub e) (record { same = refl; long = refl; holds = record { size = at; bytes = ap (λ (n : ℕ). take n o.bytes.now) at } })

  module _ (k : Bool) (e : k ≡ starts slash sub) where
    pub norm_abs : k ≡ true → (u : Output) → Puts sub o u → Becomes (normalize_with base sub) o u
    norm_abs t u p = rw (abs base sub (sym e ∙ t)) (puts_first sub o u at (omega arith) p)

    module _ (some : length sub ≡ 0 → ⊥) (f : k ≡ false) (u : Output) (p : Puts base o u) where
      based : Becomes base o u
      based = puts_first base o u at (omega arith) p

      pub based_room : u.at + 1 + length sub ≤ length u.bytes.now
      based_room = omega (arith, h, based.holds.size, based.long)

      pub norm_pieces : (v : Output) → Becomes (walk_of (text_of u) (split sub)) u v → Becomes (normalize_with base sub) o v
      norm_pieces v q = rw (rel base sub some (sym e ∙ f), ← based.holds.bytes) (becomes_both base _ o u v based q)

      -- a subpath whose pieces are all plain names, joined to the base at once
      pub norm_plain : (b : Bool) → b ≡ plain_names sub → b ≡ true → (v : Output) → Becomes (push_of (text_of u) sub) u v → Becomes (normalize_with base sub) o v
      norm_plain b g t v q = norm_pieces v (rw (walk_plain (text_of u) sub (sym g ∙ t)) q)
