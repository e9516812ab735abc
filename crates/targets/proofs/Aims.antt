-- The targets of a key as they are written, one after the other, and how much they are. Assumes nothing.
use Rattle.std.proofs.Common.{◌≡◌, ℕ, suc, ◌+◌, ◌*◌, ◌≤◌, List, [], ◌∷◌, ◌++◌, map, length, take, drop, Option, Some, None, IfSome, option_copied, Bor, refl, length-append, length-take, length-drop, arith}
use Rattle.text.specs.Bytes.{Text}
use Rattle.text.specs.Text.{star_of}
use Rattle.emit.specs.Emit.{Room}
use Rattle.emit.specs.declared.Output.{Output}
use Rattle.emit.proofs.Outputs.{puts_none}
use Rattle.book.specs.Sound.{cons}
use Rattle.tsconfig.specs.Build.{adjusted}
use Rattle.tsconfig.specs.Mapping.{filled, filled_at}
use Rattle.tsconfig.specs.Laid.{laid}
use Rattle.values.proofs.Lengths.{adjusted_length}
use Rattle.targets.proofs.Lays.{laid_cons}
use Rattle.targets.specs.Targets.{target_as, EachShort, Short, Fits, Lists}

-- How long a target is

filled_at_length : (f : Option ℕ) (part t : Text) → length (filled_at f part t) ≤ length part + length t + length t
unfolding filled_at
filled_at_length None part t = omega arith
filled_at_length (Some i) part t =
    omega (arith, length-append (take i t) (part ++ drop (suc i) t), length-append part (drop (suc i) t), length-take i t, length-drop (suc i) t)

pub filled_length : (part t : Text) → length (filled part t) ≤ length part + length t + length t
unfolding filled
filled_length part t = filled_at_length (star_of t) part t

module _ (dir base : Text) (part : Option Text) (h : Short dir base part) where
  pub target_length : (t : Text) → length t ≤ 512 → length (target_as dir base part t) ≤ 6000
  unfolding target_as
  target_length t l = by_part part h.part_short
    where
      by_part : (p : Option Text) → IfSome p (λ x. length x ≤ 512) → length (target_as dir base p t) ≤ 6000
      by_part (Some x) s = omega (arith, filled_length x (adjusted dir base t), adjusted_length dir base t, h.dir_short, h.base_short, s, l)
      by_part None s = omega (arith, adjusted_length dir base t, h.dir_short, h.base_short, l)

  pub laid_length : (ts : List Text) → EachShort ts → length (laid (map (target_as dir base part) ts)) ≤ 6002 * length ts
  unfolding laid
  laid_length [] a = omega arith
  laid_length (t ∷ ts) (cons g a) =
      omega (arith, laid_length ts a, target_length t g, length-append (target_as dir base part t) (laid (map (target_as dir base part) ts)))

  -- there is room for all of them
  pub targets_room : (ts : List Text) (at : ℕ) → EachShort ts → Fits ts at → Room at (laid (map (target_as dir base part) ts))
  targets_room ts at a f = record { room = omega (arith, laid_length ts a, f.few, f.near) }

-- No path
pub lists_none : (o : Output) → Lists [] o o 0
unfolding laid
lists_none o = record { counts = refl; puts = puts_none o }

-- What is written of a target, by what is read in a buffer

module _ (dir base t v : Text) (q : v ≡ adjusted dir base t) where
  pub filled_as : (part : Option (Bor Text)) {x : Bor Text} → part ≡ Some x → target_as dir base (option_copied part) t ≡ filled x.now v
  unfolding target_as
  filled_as part e = rw (e, q)

  pub bare_as : (part : Option (Bor Text)) → part ≡ None → target_as dir base (option_copied part) t ≡ v
  unfolding target_as
  bare_as part e = rw (e, q)

-- The next of the targets that are still to write

pub each_next : {ts : List Text} {t : Text} {us : List Text} → ts ≡ t ∷ us → EachShort ts → (length t ≤ 512) × EachShort us
each_next {ts} {t} {us} e a = parts (rw e at a)
  where
    parts : EachShort (t ∷ us) → (length t ≤ 512) × EachShort us
    parts (cons g h) = (g, h)

module _ (f : Text → Text) (ts : List Text) where
  pub laid_next : (t : Text) (us : List Text) → ts ≡ t ∷ us → laid (map f ts) ≡ laid (f t ∷ []) ++ laid (map f us)
  laid_next t us e = rw e (laid_cons (f t) (map f us))

  pub laid_end : ts ≡ [] → laid (map f ts) ≡ []
  unfolding laid
  laid_end e = rw e
