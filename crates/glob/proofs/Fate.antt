-- How a verdict follows from that on what comes after: the laws by which the matcher gives up early. Assumes nothing.
use mathlib.Core.Path.{◌≡◌, refl, sym, ◌∙◌}
use Rattle.std.proofs.lemmas.Bool.{or_parts, or_from}
use mathlib.Core.List.{[], ◌∷◌}
use mathlib.Core.Bool.{Bool, true, false, ◌&&◌, false≢true, true≢false}
use Prim.Native.Nat.{ℕ, suc, ◌+◌, ◌-◌, ◌≤◌}
use native.Mathlib.Omega.{arith}
use lib.ListN.{drop}
use lib.Dec.{eqb}
use Rattle.text.specs.Bytes.{Text, slash}
use Rattle.text.specs.Text.{find_from}
use Rattle.text.proofs.Picks.{by_test}
use Rattle.std.specs.Prelude.{Some, None}
use Rattle.glob.specs.Glob.{eat, after, after_dirs, is_slash, no_slash, any_byte}
use Rattle.glob.specs.Verdicts.{Sound, is_settled, is_decided, inside_of, past_of, dirs_of, is_yes}
use Rattle.glob.specs.declared.Verdict.{Verdict}
use Rattle.glob.specs.declared.Verdict.TheVariants.{Yes, No, Stop, Later, Never}

-- Booleans

-- the second of two, if the first holds
and_when : (a b : Bool) → (a ≡ true → b ≡ false) → (a && b) ≡ false
and_when true b f = f refl
and_when false b f = refl

and_of : (a b : Bool) → (a && b) ≡ false → a ≡ true → b ≡ false
and_of true b h e = h
and_of false b h e = absurd (false≢true e)

module _ (ok : ℕ → Bool) (P : Text → Bool) where
  -- what fails after some bytes fails here
  pub after_here : (s : Text) → after ok P s ≡ false → P s ≡ false
  unfolding after
  after_here [] h = h
  after_here (x ∷ s) h = (or_parts _ _ h).0

  after_tail : (x : ℕ) (s : Text) → after ok P (x ∷ s) ≡ false → ok x ≡ true → after ok P s ≡ false
  unfolding after
  after_tail x s h = and_of (ok x) (after ok P s) (or_parts (P (x ∷ s)) _ h).1

  after_yes : (s : Text) → P s ≡ true → after ok P s ≡ true
  unfolding after
  after_yes [] h = h
  after_yes (x ∷ s) h = rw h

  after_cons : (x : ℕ) (s : Text) → P (x ∷ s) ≡ false → (ok x ≡ true → after ok P s ≡ false) → after ok P (x ∷ s) ≡ false
  unfolding after
  after_cons x s h k = or_from _ _ h (and_when _ _ k)

  -- one byte in front of what fails after some bytes
  after_eat : (f : ℕ → Bool) → ((y : ℕ) → ok y ≡ false → f y ≡ false) → (x : ℕ) (s : Text) → after ok P s ≡ false → after ok (eat f P) (x ∷ s) ≡ false
  unfolding after eat
  after_eat f imp x [] h = or_from (f x && P []) (ok x && false) (and_when (f x) (P []) (λ _. h)) (and_when (ok x) false (λ _. refl))
  after_eat f imp x (y ∷ s) h =
      or_from (f x && P (y ∷ s)) (ok x && after ok (eat f P) (y ∷ s)) (and_when (f x) (P (y ∷ s)) (λ _. after_here (y ∷ s) h))
      (and_when (ok x) (after ok (eat f P) (y ∷ s)) (λ _. by_test (ok y) (λ e. after_eat f imp y s (after_tail y s h e)) (λ e. rw (imp y e, e))))

-- fewer bytes may be passed over
after_fewer : (ok ok' : ℕ → Bool) (P : Text → Bool) → ((y : ℕ) → ok' y ≡ true → ok y ≡ true) → (s : Text) → after ok P s ≡ false → after ok' P s ≡ false
unfolding after
after_fewer ok ok' P imp [] h = h
after_fewer ok ok' P imp (x ∷ s) h =
    after_cons ok' P x s (after_here ok P (x ∷ s) h) (λ e. after_fewer ok ok' P imp s (after_tail ok P x s h (imp x e)))

-- and again
after_after : (ok ok' : ℕ → Bool) (P : Text → Bool) → ((y : ℕ) → ok' y ≡ true → ok y ≡ true) → (s : Text) → after ok P s ≡ false → after ok (after ok' P) s ≡ false
unfolding after
after_after ok ok' P imp [] h = h
after_after ok ok' P imp (x ∷ s) h =
    after_cons ok (after ok' P) x s (after_fewer ok ok' P imp (x ∷ s) h) (λ e. after_after ok ok' P imp s (after_tail ok P x s h e))

-- `any_byte` is never false
never_false : (f : ℕ → Bool) (y : ℕ) → any_byte y ≡ false → f y ≡ false
never_false f y e = absurd (true≢false e)

-- One byte

module _ (P : Text → Bool) (s : Text) where
  pub dirs_here : after_dirs P s ≡ false → P s ≡ false
  unfolding after_dirs
  dirs_here h = (or_parts (P s) _ h).0

  eat_no : (f : ℕ → Bool) (x : ℕ) → P s ≡ false → eat f P (x ∷ s) ≡ false
  unfolding eat
  eat_no f x h = and_when (f x) (P s) (λ _. h)

  eat_yes : (f : ℕ → Bool) (x : ℕ) → f x ≡ true → P s ≡ true → eat f P (x ∷ s) ≡ true
  unfolding eat
  eat_yes f x e h = rw (e, h)

  pub miss : (f : ℕ → Bool) (x : ℕ) → f x ≡ false → eat f P (x ∷ s) ≡ false
  unfolding eat
  miss f x e = rw e

  pub inside_sound : (f : ℕ → Bool) (x : ℕ) → ((y : ℕ) → no_slash y ≡ false → f y ≡ false) → f x ≡ true → (v : Verdict) → Sound v P s → Sound (inside_of v) (eat f P) (x ∷ s)
  inside_sound f x imp e Yes h = eat_yes f x e h
  inside_sound f x imp e No h = eat_no f x h
  inside_sound f x imp e Stop h = after_eat no_slash P f imp x s h
  inside_sound f x imp e Later h = eat_no f x (dirs_here h)
  inside_sound f x imp e Never h = after_eat any_byte P f (never_false f) x s h

  pub past_sound : (v : Verdict) → Sound v P s → Sound (past_of v) (eat is_slash P) (slash ∷ s)
  unfolding after eat after_dirs
  past_sound Yes h = h
  past_sound No h = h
  past_sound Stop h = after_here no_slash P s h
  past_sound Later h = h
  past_sound Never h = after_eat any_byte P is_slash (never_false is_slash) slash s h

-- A star

module _ (Q : Text → Bool) where
  pub run_settled : (s : Text) (v : Verdict) → is_settled v ≡ true → Sound v Q s → Sound v (after no_slash Q) s
  run_settled s Yes e h = after_yes no_slash Q s h
  run_settled s No e h = absurd (false≢true e)
  run_settled s Stop e h = after_after no_slash no_slash Q (λ y k. k) s h
  run_settled s Later e h = absurd (false≢true e)
  run_settled s Never e h = after_after any_byte no_slash Q (λ y k. refl) s h

  pub run_open : (s : Text) (v : Verdict) → is_settled v ≡ false → Sound v Q s → Q s ≡ false
  run_open s Yes e h = absurd (true≢false e)
  run_open s No e h = h
  run_open s Stop e h = absurd (true≢false e)
  run_open s Later e h = dirs_here Q s h
  run_open s Never e h = absurd (true≢false e)

  pub run_end : Q [] ≡ false → Sound Never (after no_slash Q) []
  unfolding after
  run_end h = h

  pub run_slash : (s : Text) → Q (slash ∷ s) ≡ false → Sound Stop (after no_slash Q) (slash ∷ s)
  unfolding after
  run_slash s h = rw h

  run_no : (x : ℕ) (s : Text) → Q (x ∷ s) ≡ false → after no_slash Q s ≡ false → after no_slash Q (x ∷ s) ≡ false
  run_no x s h k = after_cons no_slash Q x s h (λ _. k)

  pub run_on : (x : ℕ) (s : Text) → no_slash x ≡ true → Q (x ∷ s) ≡ false → (v : Verdict) → Sound v (after no_slash Q) s → Sound (inside_of v) (after no_slash Q) (x ∷ s)
  unfolding after
  run_on x s e h Yes k = rw (h, e, k)
  run_on x s e h No k = run_no x s h k
  run_on x s e h Stop k = after_cons no_slash (after no_slash Q) x s (run_no x s h (after_here no_slash (after no_slash Q) s k)) (λ _. k)
  run_on x s e h Later k = run_no x s h (dirs_here (after no_slash Q) s k)
  run_on x s e h Never k = after_cons any_byte (after no_slash Q) x s (run_no x s h (after_here any_byte (after no_slash Q) s k)) (λ _. k)

-- Two stars

module _ (Q : Text → Bool) where
  pub never_dirs : (s : Text) → after any_byte Q s ≡ false → after_dirs Q s ≡ false
  unfolding after_dirs after eat
  never_dirs [] h = or_from (Q []) false h refl
  never_dirs (x ∷ s) h = or_from (Q (x ∷ s)) _ (after_here any_byte Q (x ∷ s) h) (after_eat any_byte Q is_slash (never_false is_slash) x s (after_tail any_byte Q x s h refl))

  slashes : (s : Text) → after any_byte (eat is_slash Q) s ≡ false → after any_byte (eat is_slash (after_dirs Q)) s ≡ false
  unfolding after eat after_dirs
  slashes [] h = refl
  slashes (x ∷ s) h =
      let later : after any_byte (eat is_slash Q) s ≡ false = (or_parts (is_slash x && Q s) _ h).1 in
      or_from (is_slash x && after_dirs Q s) _
      (and_when (is_slash x) (after_dirs Q s) (λ e. or_from (Q s) _ (and_of (is_slash x) (Q s) (or_parts (is_slash x && Q s) _ h).0 e) later))
      (slashes s later)

  dirs_dirs : (s : Text) → after_dirs Q s ≡ false → after_dirs (after_dirs Q) s ≡ false
  unfolding after_dirs
  dirs_dirs s h = or_from (after_dirs Q s) _ h (slashes s (or_parts (Q s) _ h).1)

  pub dirs_decided : (s : Text) (v : Verdict) → is_decided v ≡ true → Sound v Q s → Sound (dirs_of v) (after_dirs Q) s
  unfolding after_dirs
  dirs_decided s Yes e h = rw h
  dirs_decided s No e h = absurd (false≢true e)
  dirs_decided s Stop e h = absurd (false≢true e)
  dirs_decided s Later e h = dirs_dirs s h
  dirs_decided s Never e h = dirs_dirs s (never_dirs s h)

  pub dirs_open : (s : Text) (v : Verdict) → is_decided v ≡ false → Sound v Q s → Q s ≡ false
  dirs_open s Yes e h = absurd (true≢false e)
  dirs_open s No e h = h
  dirs_open s Stop e h = after_here no_slash Q s h
  dirs_open s Later e h = absurd (true≢false e)
  dirs_open s Never e h = absurd (true≢false e)

  -- no slash: nothing after one
  slash_none : (s : Text) (j : ℕ) → find_from slash j s ≡ None → after any_byte (eat is_slash Q) s ≡ false
  unfolding find_from after eat
  slash_none [] j e = refl
  slash_none (x ∷ s) j e =
      by_test (eqb x slash) (λ t. let z : Some j ≡ None = rw t at e in cc) (λ f. rw f (slash_none s (suc j) (rw f at e)))

  -- the first slash: what follows it
  slash_at_lem : (s : Text) (j i : ℕ) → find_from slash j s ≡ Some i → (j ≤ i) × (after any_byte (eat is_slash Q) s ≡ after_dirs Q (drop (suc (i - j)) s))
  unfolding find_from after eat after_dirs
  slash_at_lem [] j i e = let w : ⊥ = cc in absurd w
  slash_at_lem (x ∷ s) j i e =
      by_test (eqb x slash)
      (λ t.
      let k : j ≡ i = (let z : Some j ≡ Some i = rw t at e in cc) in
      let z : i - j ≡ 0 = omega arith in
      (omega arith, rw (t, z)))
      (λ f.
      let ih = slash_at_lem s (suc j) i (rw f at e) in
      let z : i - j ≡ suc (i - suc j) = omega arith in
      (omega arith, rw (f, z) ih.1))

  pub dirs_none : (s : Text) → None ≡ find_from slash 0 s → Q s ≡ false → Sound Later (after_dirs Q) s
  unfolding after_dirs
  dirs_none s e h = dirs_dirs s (or_from (Q s) _ h (slash_none s 0 (sym e)))

dirs_past : (Q : Text → Bool) (s : Text) → Q s ≡ false → after_dirs Q s ≡ after any_byte (eat is_slash Q) s
unfolding after_dirs
dirs_past Q s h = rw h

-- What `**/` makes of a text is what it makes of the text after the first slash, where the rest fails here.
module _ (Q : Text → Bool) (s : Text) (i : ℕ) (e : Some i ≡ find_from slash 0 s) (h : Q s ≡ false) where
  slash_skip : (P : Text → Bool) → after any_byte (eat is_slash P) s ≡ after_dirs P (drop (i + 1) s)
  slash_skip P =
      let z : suc (i - 0) ≡ i + 1 = omega arith in
      rw (← z) (slash_at_lem P s 0 i (sym e)).1

  dirs_same : after_dirs Q s ≡ after_dirs Q (drop (i + 1) s)
  dirs_same = dirs_past Q s h ∙ slash_skip Q

  dirs_again : after_dirs (after_dirs Q) (drop (i + 1) s) ≡ false → after_dirs (after_dirs Q) s ≡ false
  unfolding after_dirs
  dirs_again k =
      or_from (after_dirs Q s) _ (dirs_same ∙ dirs_here (after_dirs Q) (drop (i + 1) s) k) (slash_skip (after_dirs Q) ∙ k)

  pub dirs_on : (v : Verdict) → Sound v (after_dirs Q) (drop (i + 1) s) → Sound (dirs_of v) (after_dirs Q) s
  dirs_on Yes k = dirs_same ∙ k
  dirs_on No k = dirs_same ∙ k
  dirs_on Stop k = dirs_same ∙ after_here no_slash (after_dirs Q) (drop (i + 1) s) k
  dirs_on Later k = dirs_again k
  dirs_on Never k = dirs_again (never_dirs (after_dirs Q) (drop (i + 1) s) k)

-- a right verdict says whether P holds
pub sound_yes : (P : Text → Bool) (s : Text) (v : Verdict) → Sound v P s → is_yes v ≡ P s
sound_yes P s Yes h = sym h
sound_yes P s No h = sym h
sound_yes P s Stop h = sym (after_here no_slash P s h)
sound_yes P s Later h = sym (dirs_here P s h)
sound_yes P s Never h = sym (after_here any_byte P s h)
