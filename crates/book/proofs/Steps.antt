-- The cursor's ways out, and a step as the head of what is decoded. Assumes nothing.
use mathlib.Core.Path.{◌≡◌, refl, sym, ap, ap₂, subst, ◌∙◌}
use native.Mathlib.Omega.{arith}
use Prim.Native.Nat.{ℕ, zero, suc, ◌+◌, ◌-◌, ◌≤◌, ◌<◌}
use mathlib.Core.List.{◌∷◌}
use mathlib.Core.Bool.{true, false, cond, true≢false}
use lib.ListN.{length, get_or, drop, drop_of_length-le, length-drop}
use lib.Seq.{drop-cons}
use lib.Dec.{leb, eqb, ltb}
use native.Mathlib.Nat.{add-zero}
use borrow.Author.Tests.{le-leb, lt-leb, eq-eqb, ne_eqb, eqb-false, leb-true, leb-false, ltb-true}
use Rattle.text.proofs.Picks.{by_test}
use Rattle.book.specs.Command.{begin, word, widths, width_of, operands, Decoded, ended, broken, command, decode, decode_at}
use Rattle.book.specs.Steps.{width_told, step_at}
use Rattle.text.specs.Bytes.{Text}
use Rattle.book.specs.declared.Cmd.{Cmd}
use Rattle.book.specs.declared.Stop.{Stop}
use Rattle.std.specs.Prelude.{Option, Some, None, Result, Ok, Err}
use Rattle.std.specs.Option.{ok_or}
use Rattle.book.specs.declared.Stop.TheVariants.{Broken, End}

-- what `ok_or` answers, which is handed on by `?`
module _ {A E : Type 0} (f : E) (r : Result A E) where
  pub ok_told : (o : Option A) {x : A} → r ≡ ok_or o f → r ≡ Ok x → o ≡ Some x
  ok_told None {x} a b = absurd (let z : ◌≡◌ {A = Result A E} (Err f) (Ok x) = sym a ∙ b in let q : ⊥ = cc in q)
  ok_told (Some y) {x} a b = let z : ◌≡◌ {A = Result A E} (Ok y) (Ok x) = sym a ∙ b in let q : y ≡ x = cc in ap Some q

  pub err_told : (o : Option A) {e : E} → r ≡ ok_or o f → r ≡ Err e → (o ≡ None) × (e ≡ f)
  err_told None {e} a b = let z : ◌≡◌ {A = Result A E} (Err f) (Err e) = sym a ∙ b in let q : f ≡ e = cc in (refl, sym q)
  err_told (Some y) {e} a b = absurd (let z : ◌≡◌ {A = Result A E} (Ok y) (Err e) = sym a ∙ b in let q : ⊥ = cc in q)

-- a width that is told
pub width_some : (w : ℕ) {v : ℕ} → width_told w ≡ Some v → (v ≡ w) × (v ≡ 9 → ⊥)
width_some w {v} e =
    by_test (eqb w 9)
    (λ y. let z : ◌≡◌ {A = Option ℕ} None (Some v) = rw y at e in absurd (let q : ⊥ = cc in q))
    (λ y. let z : Some w ≡ Some v = rw y at e in let q : w ≡ v = cc in (sym q, λ h. eqb-false w 9 y (q ∙ h)))

pub width_none : (w : ℕ) → width_told w ≡ None → eqb w 9 ≡ true
width_none w e =
    by_test (eqb w 9)
    (λ y. y)
    (λ y. let z : Some w ≡ None = rw y at e in absurd (let q : ⊥ = cc in q))

module _ (s : Text) (at w : ℕ) where
  pub step_end : length s ≤ at → (Err End) ≡ step_at s at
  unfolding step_at
  step_end h = simp (le-leb _ _ h)

  pub step_unknown : at < length s → w ≡ width_of (get_or s at 0) → w ≡ 9 → (Err Broken) ≡ step_at s at
  unfolding step_at
  step_unknown h e u = simp (lt-leb _ _ h, ← e, eq-eqb _ _ u)

  pub step_cut : at < length s → w ≡ width_of (get_or s at 0) → (w ≡ 9 → ⊥) → length s - at ≤ w → (Err Broken) ≡ step_at s at
  unfolding step_at
  step_cut h e u l = simp (lt-leb _ _ h, ← e, ne_eqb _ _ u, le-leb _ _ l)

  pub step_command : (c : Cmd) → at < length s → w ≡ width_of (get_or s at 0) → (w ≡ 9 → ⊥) → w < length s - at → c ≡ operands w (drop at s) → Ok (c, at + w + 1) ≡ step_at s at
  unfolding step_at
  step_command c h e u l o = simp (lt-leb _ _ h, ← e, ne_eqb _ _ u, lt-leb _ _ l, o)

-- bytes that belong to the command before are passed over
pub decode_skip : (k p at : ℕ) (s : Text) → at + k ≤ length s → decode k p (drop at s) ≡ decode 0 (p + k) (drop (at + k) s)
unfolding decode
decode_skip zero p at s h = rw (add-zero p, add-zero at) refl
decode_skip (suc k) p at s h =
    rw (drop-cons s at 0 (omega arith))
    (decode_skip k (suc p) (suc at) s (omega arith) ∙ both (suc p + k) (p + suc k) (suc at + k) (at + suc k) (omega arith) (omega arith))
  where
    both : (a b m n : ℕ) → a ≡ b → m ≡ n → decode 0 a (drop m s) ≡ decode 0 b (drop n s)
    both a b m n e f = ap₂ (λ (x y : ℕ). decode 0 x (drop y s)) e f

-- what a step is to what is decoded at place p
unfoldable pub decoded : ℕ → ℕ → Text → Result (Cmd × ℕ) Stop → Decoded
decoded p at s (Ok (c, n)) = command p c (decode 0 (p + (n - at)) (drop n s))
decoded p at s (Err Broken) = broken p
decoded p at s (Err End) = ended p

decode_head : (x : ℕ) (s : Text) (p w : ℕ) → w ≡ width_of x → eqb w 9 ≡ false → leb (length (x ∷ s)) w ≡ false → decode 0 p (x ∷ s) ≡ command p (operands w (x ∷ s)) (decode w (suc p) s)
unfolding decode decode_at
decode_head x s p w d e f = rw (← d, e, f) refl

decode_cut : (x : ℕ) (s : Text) (p : ℕ) → eqb (width_of x) 9 ≡ false → leb (length (x ∷ s)) (width_of x) ≡ true → decode 0 p (x ∷ s) ≡ broken p
unfolding decode decode_at
decode_cut x s p e f = rw (e, f) refl

module _ (s : Text) (at p : ℕ) where
  dec_end : length s ≤ at → decode 0 p (drop at s) ≡ ended p
  unfolding decode
  dec_end h = rw (drop_of_length-le s h) refl

  module _ (h : at < length s) where
    dec_unknown : eqb (width_of (get_or s at 0)) 9 ≡ true → decode 0 p (drop at s) ≡ broken p
    unfolding decode decode_at
    dec_unknown e = rw (drop-cons s at 0 h, e) refl

    length_left : length (get_or s at 0 ∷ drop (suc at) s) ≡ length s - at
    length_left = omega (arith, h, length-drop (suc at) s)

    dec_cut : eqb (width_of (get_or s at 0)) 9 ≡ false → leb (length s - at) (width_of (get_or s at 0)) ≡ true → decode 0 p (drop at s) ≡ broken p
    dec_cut e f = rw (drop-cons s at 0 h) (decode_cut (get_or s at 0) (drop (suc at) s) p e (ap (λ (l : ℕ). leb l (width_of (get_or s at 0))) length_left ∙ f))

    dec_command : (w : ℕ) → w ≡ width_of (get_or s at 0) → eqb w 9 ≡ false → leb (length s - at) w ≡ false → decode 0 p (drop at s) ≡ command p (operands w (drop at s)) (decode 0 (p + (at + w + 1 - at)) (drop (at + w + 1) s))
    dec_command w d e f =
        rw (drop-cons s at 0 h)
        (decode_head (get_or s at 0) (drop (suc at) s) p w d e (ap (λ (l : ℕ). leb l w) length_left ∙ f)
        ∙ ap (command p (operands w (get_or s at 0 ∷ drop (suc at) s)))
        (decode_skip w (suc p) (suc at) s (omega (arith, h, leb-false (length s - at) w f))
        ∙ ap₂ (λ (x y : ℕ). decode 0 x (drop y s)) left right))
      where
        left : suc p + w ≡ p + (at + w + 1 - at)
        left = omega arith

        right : suc at + w ≡ at + w + 1
        right = omega arith

  pub decode_step : decode 0 p (drop at s) ≡ decoded p at s (step_at s at)
  unfolding step_at decoded
  decode_step =
      by_test (leb (length s) at)
      (λ e. rw e (dec_end (leb-true (length s) at e)))
      (λ e.
      let h : at < length s = leb-false (length s) at e in
      by_test (eqb (width_of (get_or s at 0)) 9)
      (λ f. rw (e, f) (dec_unknown h f))
      (λ f. by_test (leb (length s - at) (width_of (get_or s at 0)))
      (λ g. rw (e, f, g) (dec_cut h f g))
      (λ g. rw (e, f, g) (dec_command h (width_of (get_or s at 0)) refl f g))))

-- what was read is one command and one place
module _ {c k : Cmd} {n m : ℕ} (e : ◌≡◌ {A = Result (Cmd × ℕ) Stop} (Ok (c, n)) (Ok (k, m))) where
  abbrev read_of : Result (Cmd × ℕ) Stop → Cmd × ℕ
  read_of (Ok p) = p
  read_of (Err w) = (c, n)

  pub one_command : c ≡ k
  one_command = ap (λ (r : Result (Cmd × ℕ) Stop). (read_of r).0) e

  pub one_place : n ≡ m
  one_place = ap (λ (r : Result (Cmd × ℕ) Stop). (read_of r).1) e

pub no_command : {X : Type 0} {c : Cmd} {n : ℕ} {w : Stop} → ◌≡◌ {A = Result (Cmd × ℕ) Stop} (Ok (c, n)) (Err w) → X
no_command e = let z : ⊥ = cc in absurd z

no_end : {X : Type 0} → ◌≡◌ {A = Result (Cmd × ℕ) Stop} (Err End) (Err Broken) → X
no_end e = let z : ⊥ = cc in absurd z

-- a command ends past its start and within the commands, and its byte is known
pub record Moved (s : Text) (at : ℕ) (c : Cmd) (n : ℕ) : Type 0 where
  pub forth : at < n
  pub within : n ≤ length s
  pub byte : c.op < 21

pub operands_op : (w : ℕ) (s : Text) → (operands w s).op ≡ get_or s 0 0
unfolding operands
operands_op w s =
    by_test (eqb w 4) (λ e. rw e refl)
    (λ e. by_test (eqb w 5) (λ f. rw (e, f) refl) (λ f. by_test (eqb w 2) (λ g. rw (e, f, g) refl) (λ g. rw (e, f, g) refl)))

width_known : (x : ℕ) → eqb (width_of x) 9 ≡ false → x < 21
unfolding width_of
width_known x e = by_test (ltb x 21) (λ f. ltb-true x 21 f) (λ f. clash f e)
  where
    clash : ltb x 21 ≡ false → eqb (cond (ltb x 21) (get_or widths x 0) 9) 9 ≡ false → x < 21
    clash f e = let z : true ≡ false = rw f at e in absurd (true≢false z)

module _ (s : Text) (at : ℕ) (c : Cmd) (n : ℕ) where
  told : (h : at < length s) (w : ℕ) → w ≡ width_of (get_or s at 0) → eqb w 9 ≡ false → w < length s - at → ◌≡◌ {A = Result (Cmd × ℕ) Stop} (Ok (c, n)) (Ok (operands w (drop at s), at + w + 1)) → Moved s at c n
  told h w d f l e =
      let q : c ≡ operands w (drop at s) = one_command e in
      let m : n ≡ at + w + 1 = one_place e in
      let x : get_or (drop at s) 0 0 ≡ get_or s at 0 = rw (drop-cons s at 0 h) refl in
      record {
        forth = omega (arith, m);
        within = omega (arith, m, l, h);
        byte = subst (λ (i : ℕ). i < 21) (sym (ap (λ (k : Cmd). k.op) q ∙ operands_op w (drop at s) ∙ x)) (width_known (get_or s at 0) (ap (λ (v : ℕ). eqb v 9) (sym d) ∙ f));
      }

  pub step_moves : Ok (c, n) ≡ step_at s at → Moved s at c n
  unfolding step_at
  step_moves i =
      by_test (leb (length s) at)
      (λ e. no_command (rw e at i))
      (λ e.
      let h : at < length s = leb-false (length s) at e in
      by_test (eqb (width_of (get_or s at 0)) 9)
      (λ f. no_command (rw (e, f) at i))
      (λ f. by_test (leb (length s - at) (width_of (get_or s at 0)))
      (λ g. no_command (rw (e, f, g) at i))
      (λ g. told h (width_of (get_or s at 0)) refl f (leb-false (length s - at) (width_of (get_or s at 0)) g) (rw (e, f, g) at i))))

pub step_ends : (s : Text) (at : ℕ) → (Err End) ≡ step_at s at → length s ≤ at
unfolding step_at
step_ends s at i =
    by_test (leb (length s) at)
    (λ e. leb-true (length s) at e)
    (λ e. by_test (eqb (width_of (get_or s at 0)) 9)
    (λ f. no_end (rw (e, f) at i))
    (λ f. by_test (leb (length s - at) (width_of (get_or s at 0)))
    (λ g. no_end (rw (e, f, g) at i))
    (λ g. no_command (sym (rw (e, f, g) at i)))))

-- the string of a BEGIN at the head of s
module _ (s : Text) (c : Cmd) (n : ℕ) where
  pub record Begun : Type 0 where
    pub start : c.start ≡ word s 1
    pub len : c.len ≡ word s 3
    pub long : 4 < length s

  begun : (w : ℕ) → w ≡ width_of (get_or s 0 0) → w < length s - 0 → ◌≡◌ {A = Result (Cmd × ℕ) Stop} (Ok (c, n)) (Ok (operands w (drop 0 s), 0 + w + 1)) → c.op ≡ begin → Begun
  unfolding width_of operands
  begun w d l e o =
      let q : c ≡ operands w s = one_command e in
      let x : get_or s 0 0 ≡ 1 = sym (ap (λ (k : Cmd). k.op) q ∙ operands_op w s) ∙ o in
      let v : w ≡ 4 = d ∙ ap width_of x in
      let z : c ≡ operands 4 s = q ∙ ap (λ (k : ℕ). operands k s) v in
      record { start = ap (λ (k : Cmd). k.start) z; len = ap (λ (k : Cmd). k.len) z; long = omega (arith, v, l) }

  pub step_begins : Ok (c, n) ≡ step_at s 0 → c.op ≡ begin → Begun
  unfolding step_at
  step_begins i o =
      by_test (leb (length s) 0)
      (λ e. no_command (rw e at i))
      (λ e. by_test (eqb (width_of (get_or s 0 0)) 9)
      (λ f. no_command (rw (e, f) at i))
      (λ f. by_test (leb (length s - 0) (width_of (get_or s 0 0)))
      (λ g. no_command (rw (e, f, g) at i))
      (λ g. begun (width_of (get_or s 0 0)) refl (leb-false (length s - 0) (width_of (get_or s 0 0)) g) (rw (e, f, g) at i) o)))
