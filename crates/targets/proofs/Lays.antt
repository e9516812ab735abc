-- A path in an answer's layout, and a target that is filled. Assumes nothing.
use Rattle.std.proofs.Common.{◌≡◌, ℕ, ◌+◌, ◌<◌, List, [], ◌∷◌, ◌++◌, length, take, drop, Option, Some, None, refl, sym, ap, ◌∙◌, append-nil, append_assoc, length-append, add-one, arith}
use Rattle.text.specs.Bytes.{Text}
use Rattle.text.specs.Text.{star_of}
use Rattle.text.proofs.Scans.{find_within}
use Rattle.emit.specs.Emit.{Room}
use Rattle.emit.specs.Output.{Puts}
use Rattle.emit.specs.declared.Output.{Output}
use Rattle.emit.proofs.Emits.{room_first}
use Rattle.emit.proofs.Outputs.{puts_both, puts_by, puts_room}
use Rattle.tsconfig.specs.Mapping.{filled, filled_at}
use Rattle.tsconfig.specs.Laid.{size_of, laid}

-- a path

pub laid_one : (t : Text) → laid (t ∷ []) ≡ size_of (length t) ++ t
unfolding laid
laid_one t = ap (λ (x : Text). size_of (length t) ++ x) (append-nil t)

pub laid_cons : (t : Text) (ts : List Text) → laid (t ∷ ts) ≡ laid (t ∷ []) ++ laid ts
unfolding laid
laid_cons t ts = ap (λ (x : Text). size_of (length t) ++ (x ++ laid ts)) (sym (append-nil t))

pub laid_append : (ts us : List Text) → laid (ts ++ us) ≡ laid ts ++ laid us
unfolding laid
laid_append [] us = refl
laid_append (t ∷ ts) us = ap (λ (x : Text). size_of (length t) ++ x) (ap (λ (x : Text). t ++ x) (laid_append ts us) ∙ sym (append_assoc t (laid ts) (laid us)))

pub laid_one_length : (t : Text) → length (laid (t ∷ [])) ≡ 2 + length t
laid_one_length t = ap length (laid_one t) ∙ length-append (size_of (length t)) t

module _ (t : Text) (o : Output) (p : Room o.at (laid (t ∷ []))) where
  path_all : Room o.at (size_of (length t) ++ t)
  path_all = rw (laid_one t) at p

  pub path_size : Room o.at (size_of (length t))
  path_size = room_first (size_of (length t)) t o.at path_all

  module _ (u : Output) (q : Puts (size_of (length t)) o u) where
    pub path_text : Room u.at t
    path_text = puts_room (size_of (length t)) t o u q path_all

    pub path_done : (v : Output) → Puts t u v → Puts (laid (t ∷ [])) o v
    path_done v r = puts_by _ _ o v (sym (laid_one t)) (puts_both (size_of (length t)) t o u v q r)

-- a target filled

module _ (part t : Text) (f : Option ℕ) (g : f ≡ star_of t) where
  pub filled_none : f ≡ None → filled part t ≡ t
  unfolding filled filled_at
  filled_none n = rw (← g, n)

  module _ (star : ℕ) (e : f ≡ Some star) where
    pub star_within : star < length t
    star_within = find_within _ t star (rw e at g)

    module _ (head tail : Text) (h : head ≡ take star t) (l : tail ≡ drop (star + 1) t) where
      whole : filled part t ≡ head ++ (part ++ tail)
      unfolding filled filled_at
      whole = rw (← g, e, ← add-one, ← h, ← l)

      pub filled_size : length (filled part t) ≡ length head + length part + length tail
      filled_size = ap length whole ∙ omega (arith, length-append head (part ++ tail), length-append part tail)

      all : laid (filled part t ∷ []) ≡ size_of (length head + length part + length tail) ++ (head ++ (part ++ tail))
      all = laid_one (filled part t) ∙ rw (filled_size, whole)

      module _ (o : Output) (p : Room o.at (laid (filled part t ∷ []))) where
        room_all : Room o.at (size_of (length head + length part + length tail) ++ (head ++ (part ++ tail)))
        room_all = rw all at p

        pub fill_size : Room o.at (size_of (length head + length part + length tail))
        fill_size = room_first _ (head ++ (part ++ tail)) o.at room_all

        module _ (a : Output) (q : Puts (size_of (length head + length part + length tail)) o a) where
          room_head : Room a.at (head ++ (part ++ tail))
          room_head = puts_room _ (head ++ (part ++ tail)) o a q room_all

          pub fill_head : Room a.at head
          fill_head = room_first head (part ++ tail) a.at room_head

          module _ (b : Output) (y : Puts head a b) where
            room_part : Room b.at (part ++ tail)
            room_part = puts_room head (part ++ tail) a b y room_head

            pub fill_part : Room b.at part
            fill_part = room_first part tail b.at room_part

            module _ (d : Output) (z : Puts part b d) where
              pub fill_tail : Room d.at tail
              fill_tail = puts_room part tail b d z room_part

              pub fill_done : (v : Output) → Puts tail d v → Puts (laid (filled part t ∷ [])) o v
              fill_done v k = puts_by _ _ o v (sym all) (puts_both _ _ o a v q (puts_both head _ a b v y (puts_both part tail b d v z k)))
