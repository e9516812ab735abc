-- Laws of trying what follows a star at one place of the path after another. Assumes nothing.
use mathlib.Core.Path.{◌≡◌, refl, ap, sym, subst, ◌∙◌}
use mathlib.Core.List.{[], ◌∷◌}
use mathlib.Core.Bool.{Bool, true, false, false≢true}
use Prim.Native.Nat.{ℕ, zero, suc, ◌+◌, ◌≤◌, ◌<◌}
use Rattle.std.specs.List.{AllWithin, HoldsAt}
use native.Mathlib.Omega.{arith}
use lib.ListN.{length, get_or, drop, length-drop, drop_of_length-le}
use lib.Seq.{drop-cons}
use borrow.Author.Tests.{ne_eqb}
use Rattle.text.specs.Bytes.{Text, slash, star, question}
use Rattle.text.specs.Text.{find}
use Rattle.std.specs.Prelude.{Option, Some, None, MatchOption}
use Rattle.std.specs.Option.{unwrap_or}
use Rattle.glob.specs.Glob.{glob_of, after, after_dirs, no_slash}
use Rattle.glob.specs.Verdicts.{Sound, Skips, is_settled, is_decided, inside_of, dirs_of, takes_of}
use Rattle.glob.specs.declared.Verdict.{Verdict}
use Rattle.glob.specs.declared.Verdict.TheVariants.{Yes, No, Stop, Later, Never}
use Rattle.glob.proofs.Fate.{run_settled, run_open, run_end, run_slash, run_on, dirs_decided, dirs_open, dirs_none, dirs_on, dirs_here, never_dirs, after_here, miss}
use Rattle.glob.proofs.Tokens.{glob_end, glob_byte}

-- the verdict on P at what is left of s says, by f, what holds of the whole
pub record Carries (f : Verdict → Verdict) (P : Text → Bool) (s left : Text) : Type 0 where
  pub room : length left ≤ length s
  pub whole : (v : Verdict) → Sound v P left → Sound (f v) P s

-- After a star

inside_weaker : (P : Text → Bool) (s : Text) (v : Verdict) → Sound v P s → Sound (inside_of v) P s
inside_weaker P s Yes h = h
inside_weaker P s No h = h
inside_weaker P s Stop h = h
inside_weaker P s Later h = dirs_here P s h
inside_weaker P s Never h = h

inside_inside : (v : Verdict) → inside_of (inside_of v) ≡ inside_of v
inside_inside Yes = refl
inside_inside No = refl
inside_inside Stop = refl
inside_inside Later = refl
inside_inside Never = refl

inside_settled : (v : Verdict) → is_settled v ≡ true → inside_of v ≡ v
inside_settled Yes e = refl
inside_settled No e = refl
inside_settled Stop e = refl
inside_settled Later e = absurd (false≢true e)
inside_settled Never e = refl

-- the places passed over: no text that begins with x is one that Q takes

abbrev pub NoBegin : (Text → Bool) → ℕ → Type 0
NoBegin Q x = (s : Text) → Q (x ∷ s) ≡ false

pub begin_none : (p : Text) (x : ℕ) → length p ≤ 0 → NoBegin (glob_of p) x
begin_none p x h s = rw (glob_end p 0 h)

pub begin_byte : (p : Text) (x : ℕ) → 1 ≤ length p → (get_or p 0 0 ≡ star → ⊥) → (get_or p 0 0 ≡ question → ⊥) → (x ≡ get_or p 0 0 → ⊥) → NoBegin (glob_of p) x
begin_byte p x h n m k s = rw (glob_byte p 0 h n) (miss (glob_of (drop 1 p)) s (takes_of (get_or p 0 0)) x (rw (ne_eqb _ _ m, ne_eqb _ _ k)))

module _ (Q : Text → Bool) (s : Text) where
  pub skip_start : Skips Q s 0
  skip_start = record { room = omega arith; whole = inside_weaker (after no_slash Q) s }

  pub skip_on : (j : ℕ) → Skips Q s j → j < length s → (get_or s j 0 ≡ slash → ⊥) → NoBegin Q (get_or s j 0) → Skips Q s (suc j)
  skip_on j a h g m =
      record {
        room = omega arith;
        whole =
            λ w k.
            rw (inside_inside w) at
            (a.whole (inside_of w) (rw (drop-cons s j 0 h) (run_on Q (get_or s j 0) (drop (suc j) s) (rw (ne_eqb _ _ g)) (m (drop (suc j) s)) w k)));
      }

  -- what a search finds that goes by only what is no slash and where Q cannot begin
  module _ (Passes : ℕ → Type 0) (told : (x : ℕ) → Passes x → (x ≡ slash → ⊥) × NoBegin Q x) where
    skip_run : (j : ℕ) → j ≤ length s → AllWithin Passes s 0 j → Skips Q s j
    skip_run zero m all = skip_start
    skip_run (suc j) m all =
        let t = told _ (all j 0 (omega arith) (omega arith)) in skip_on j (skip_run j (omega arith) (λ k d p q. all k d p (omega arith))) (omega arith) t.0 t.1

    pub skip_found :
        (r : Option ℕ) → MatchOption r (AllWithin Passes s 0 (length s)) (λ j. (j < length s) × HoldsAt (λ x. Unit {0}) s j × AllWithin Passes s 0 j) →
        Skips Q s (unwrap_or r (length s))
    skip_found None m = skip_run (length s) (omega arith) m
    skip_found (Some j) m = skip_run j (omega (arith, m.0)) m.2

  pub star_start : Carries inside_of (after no_slash Q) s s
  star_start = record { room = omega arith; whole = inside_weaker (after no_slash Q) s }

-- j bytes were skipped, and Q was tried on what is left, with the verdict v
module _ (Q : Text → Bool) (s front : Text) (c : Carries inside_of (after no_slash Q) s front) (j : ℕ) (b : Skips Q front j) (left : Text) (d : left ≡ drop j front) (v : Verdict) (h : Sound v Q left) where
  a : Carries inside_of (after no_slash Q) s left
  a = record {
    room = omega (arith, c.room, ap length d, length-drop j front);
    whole = λ w k. rw (inside_inside w) at (c.whole (inside_of w) (b.whole w (rw d at k)));
  }

  pub star_settled : is_settled v ≡ true → Sound v (after no_slash Q) s
  star_settled t = rw (inside_settled v t) at (a.whole v (run_settled Q left v t h))

  module _ (t : is_settled v ≡ false) where
    pub star_end : length left < 1 → Sound Never (after no_slash Q) s
    star_end n = let k : length left ≤ 0 = omega arith in let z : left ≡ [] = drop_of_length-le left k in a.whole Never (rw z (run_end Q (rw z at (run_open Q left v t h))))

    module _ (n : 1 ≤ length left) where
      split : left ≡ get_or left 0 0 ∷ drop 1 left
      split = drop-cons left 0 0 n

      pub star_slash : get_or left 0 0 ≡ slash → Sound Stop (after no_slash Q) s
      star_slash g = let z : left ≡ slash ∷ drop 1 left = split ∙ ap (λ (x : ℕ). x ∷ drop 1 left) g in a.whole Stop (subst (λ (l : Text). Sound Stop (after no_slash Q) l) (sym z) (run_slash Q (drop 1 left) (subst (λ (l : Text). Q l ≡ false) z (run_open Q left v t h))))

      pub star_on : (get_or left 0 0 ≡ slash → ⊥) → (rest : Text) → rest ≡ drop 1 left → Carries inside_of (after no_slash Q) s rest
      star_on g rest e =
          record {
            room = omega (arith, a.room, ap length e, length-drop 1 left);
            whole =
                λ w k.
                rw (inside_inside w) at
                (a.whole (inside_of w)
                (subst (λ (l : Text). Sound (inside_of w) (after no_slash Q) l) (sym split)
                (run_on Q (get_or left 0 0) (drop 1 left) (rw (ne_eqb _ _ g)) (subst (λ (l : Text). Q l ≡ false) split (run_open Q left v t h)) w (rw e at k))));
          }

-- After `**/`

dirs_weaker : (P : Text → Bool) (s : Text) (v : Verdict) → Sound v P s → Sound (dirs_of v) P s
dirs_weaker P s Yes h = h
dirs_weaker P s No h = h
dirs_weaker P s Stop h = after_here no_slash P s h
dirs_weaker P s Later h = h
dirs_weaker P s Never h = never_dirs P s h

dirs_twice : (v : Verdict) → dirs_of (dirs_of v) ≡ dirs_of v
dirs_twice Yes = refl
dirs_twice No = refl
dirs_twice Stop = refl
dirs_twice Later = refl
dirs_twice Never = refl

pub stars_start : (Q : Text → Bool) (s : Text) → Carries dirs_of (after_dirs Q) s s
stars_start Q s = record { room = omega arith; whole = dirs_weaker (after_dirs Q) s }

module _ (Q : Text → Bool) (s left : Text) (a : Carries dirs_of (after_dirs Q) s left) (v : Verdict) (h : Sound v Q left) where
  pub stars_decided : is_decided v ≡ true → Sound (dirs_of v) (after_dirs Q) s
  stars_decided t = rw (dirs_twice v) at (a.whole (dirs_of v) (dirs_decided Q left v t h))

  module _ (t : is_decided v ≡ false) where
    pub stars_none : None ≡ find slash left → Sound Later (after_dirs Q) s
    stars_none n = a.whole Later (dirs_none Q left n (dirs_open Q left v t h))

    pub stars_on : (k : ℕ) → Some k ≡ find slash left → (rest : Text) → rest ≡ drop (k + 1) left → Carries dirs_of (after_dirs Q) s rest
    stars_on k n rest e =
        record {
          room = omega (arith, a.room, ap length e, length-drop (k + 1) left);
          whole = λ w m. rw (dirs_twice w) at (a.whole (dirs_of w) (dirs_on Q left k n (dirs_open Q left v t h) w (rw e at m)));
        }
