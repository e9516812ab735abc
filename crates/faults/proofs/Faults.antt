-- The ways out of the fault of a command. Assumes nothing.
use mathlib.Core.Path.{◌≡◌, refl, sym, ◌∙◌}
use Rattle.std.proofs.lemmas.Option.{none-some}
use Rattle.std.proofs.lemmas.Bool.{and_parts}
use mathlib.Core.List.{List, []}
use mathlib.Core.Bool.{Bool, true, false, not, cond}
use Rattle.std.specs.Prelude.{Option, Some, None}
use Prim.Native.Nat.{ℕ, ◌+◌, ◌≤◌, ◌<◌}
use lib.ListN.{length}
use native.Mathlib.Omega.{arith}
use lib.Dec.{leb, eqb}
use borrow.Author.Tests.{eq-eqb, ne_eqb, eqb-true, le-leb, lt-leb, leb-true}
use Rattle.text.specs.Bytes.{Text}
use Rattle.text.proofs.Picks.{by_test}
use Rattle.book.specs.declared.Cmd.{Cmd}
use Rattle.text.specs.Text.{some_of}
use Rattle.book.specs.Command.{begin, key}
use Rattle.book.specs.Rules.{in_order, good_string, too_many, given_before, clash, fault_of, text_of}
use Rattle.book.specs.State.{meets}
use Rattle.faults.proofs.Keeps.{first_in_order, first_not_in_order, many_begin}

pub good_within : (text : Text) (c : Cmd) → good_string text c ≡ true → c.start + c.len ≤ length text
unfolding good_string
good_within text c e = leb-true (c.start + c.len) (length text) (and_parts (leb (c.start + c.len) (length text)) _ e).0

module _ (text : Text) (count : ℕ → ℕ) (last n : ℕ) (keys paths : List Text) (c : Cmd) where
  pub fault_order : (r : Bool) → r ≡ in_order count last c → r ≡ false → Some 3 ≡ fault_of text count last n keys paths c
  unfolding fault_of
  fault_order r d e = rw (← d, e) refl

  module _ (r₁ : Bool) (d₁ : r₁ ≡ in_order count last c) (e₁ : r₁ ≡ true) (r₂ : Bool) (d₂ : r₂ ≡ good_string text c) where
    pub fault_string : r₂ ≡ false → Some 4 ≡ fault_of text count last n keys paths c
    unfolding fault_of
    fault_string e = rw (← d₁, e₁, ← d₂, e) refl

    module _ (e₂ : r₂ ≡ true) (r₃ : Bool) (d₃ : r₃ ≡ too_many count last c n) where
      pub fault_many : r₃ ≡ true → Some 5 ≡ fault_of text count last n keys paths c
      unfolding fault_of
      fault_many e = rw (← d₁, e₁, ← d₂, e₂, ← d₃, e) refl

      module _ (e₃ : r₃ ≡ false) where
        rest : fault_of text count last n keys paths c ≡ cond (given_before keys paths c.op (text_of text c)) (Some 6) None
        unfolding fault_of
        rest = rw (← d₁, e₁, ← d₂, e₂, ← d₃, e₃) refl

        pub fault_path : (s : Text) → s ≡ text_of text c → c.op ≡ begin → (r : Bool) → r ≡ some_of (meets true s) paths → (b : Bool) → r ≡ b → cond b (Some 6) None ≡ fault_of text count last n keys paths c
        unfolding given_before meets
        fault_path s is o r d b e = sym (rest ∙ rw (eq-eqb _ _ o, ← is, ← e, d) refl)

        pub fault_none : (c.op ≡ begin → ⊥) → keys ≡ [] → None ≡ fault_of text count last n keys paths c
        unfolding given_before some_of
        fault_none m y = sym (rest ∙ by_test (eqb c.op key) (λ k. rw (ne_eqb _ _ m, k, y) refl) (λ k. rw (ne_eqb _ _ m, k) refl))

flip : (x b : Bool) → b ≡ not x → x ≡ not b
flip true b e = rw e refl
flip false b e = rw e refl

-- a record's first command
module _ (text : Text) (n : ℕ) (paths : List Text) (c : Cmd) where
  pub begin_other : c.op < 21 → (c.op ≡ begin → ⊥) → Some 3 ≡ fault_of text (λ k. 0) 0 n [] paths c
  begin_other h m = fault_order text (λ k. 0) 0 n [] paths c false (first_not_in_order c h m) refl

  module _ (o : c.op ≡ begin) (r : Bool) (d : r ≡ good_string text c) where
    pub begin_string : r ≡ false → Some 4 ≡ fault_of text (λ k. 0) 0 n [] paths c
    begin_string = fault_string text (λ k. 0) 0 n [] paths c true (first_in_order c o) refl r d

    module _ (e : r ≡ true) where
      pub begin_many : 64 ≤ n → Some 5 ≡ fault_of text (λ k. 0) 0 n [] paths c
      begin_many h = fault_many text (λ k. 0) 0 n [] paths c true (first_in_order c o) refl r d e (leb 64 n) (many_begin (λ k. 0) 0 c c.op refl n o) (le-leb 64 n h)

      pub begin_met : n < 64 → (t : Bool) → t ≡ not (some_of (meets true (text_of text c)) paths) → (b : Bool) → t ≡ b → cond b None (Some 6) ≡ fault_of text (λ k. 0) 0 n [] paths c
      begin_met h t y b z =
          either b ∙ fault_path text (λ k. 0) 0 n [] paths c true (first_in_order c o) refl r d e (leb 64 n) (many_begin (λ k. 0) 0 c c.op refl n o) (lt-leb 64 n h)
          (text_of text c) refl o _ refl (not b) (flip _ b (sym z ∙ y))
        where
          either : (b : Bool) → cond {A = Option ℕ} b None (Some 6) ≡ cond (not b) (Some 6) None
          either true = refl
          either false = refl

-- a command's fault, told but for the keys before it
module _ (text : Text) (count : ℕ → ℕ) (last n : ℕ) (keys paths : List Text) (c : Cmd) where
  pub fault_kept : (f : ℕ) → fault_of text count last n [] paths c ≡ Some f → fault_of text count last n keys paths c ≡ Some f
  unfolding fault_of given_before some_of
  fault_kept f e =
      by_test (in_order count last c)
      (λ a. by_test (good_string text c)
      (λ b. by_test (too_many count last c n)
      (λ d. let y : Some 5 ≡ Some f = rw (a, b, d) at e in rw (a, b, d) y)
      (λ d. by_test (eqb c.op begin)
      (λ g. let y : cond (some_of (clash (text_of text c)) paths) (Some 6) None ≡ Some f = rw (a, b, d, g) at e in rw (a, b, d, g) y)
      (λ g. by_test (eqb c.op key)
      (λ k. let y : None ≡ Some f = rw (a, b, d, g, k) at e in absurd (none-some _ y))
      (λ k. let y : None ≡ Some f = rw (a, b, d, g, k) at e in absurd (none-some _ y)))))
      (λ b. let y : Some 4 ≡ Some f = rw (a, b) at e in rw (a, b) y))
      (λ a. let y : Some 3 ≡ Some f = rw a at e in rw a y)

  -- where it has none but for the keys, it has one where it is a key given before
  pub fault_given : fault_of text count last n [] paths c ≡ None → fault_of text count last n keys paths c ≡ cond (cond (eqb c.op key) (some_of (meets false (text_of text c)) keys) false) (Some 6) None
  unfolding fault_of given_before some_of meets
  fault_given z =
      by_test (in_order count last c)
      (λ a. by_test (good_string text c)
      (λ b. by_test (too_many count last c n)
      (λ d. let y : Some 5 ≡ None = rw (a, b, d) at z in absurd (none-some _ (sym y)))
      (λ d. by_test (eqb c.op begin)
      (λ g. by_test (some_of (clash (text_of text c)) paths)
      (λ h. let y : Some 6 ≡ None = rw (a, b, d, g, h) at z in absurd (none-some _ (sym y)))
      (λ h. let o : c.op ≡ begin = eqb-true c.op begin g in rw (a, b, d, g, h, ne_eqb c.op key (λ q. absurd (omega (arith, o, q)))) refl))
      (λ g. by_test (eqb c.op key)
      (λ k. rw (a, b, d, g, k) refl)
      (λ k. rw (a, b, d, g, k) refl))))
      (λ b. let y : Some 4 ≡ None = rw (a, b) at z in absurd (none-some _ (sym y))))
      (λ a. let y : Some 3 ≡ None = rw a at z in absurd (none-some _ (sym y)))
