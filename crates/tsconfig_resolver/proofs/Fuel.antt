-- The load's own equation, with no word of how many records are left.
-- Assumes nothing.
use mathlib.Core.Path.{◌≡◌, refl, sym, ap, ap₂, ◌∙◌, fun_ext}
use mathlib.Core.List.{List, [], ◌∷◌, reverse, Memᴰ}
use mathlib.Core.Bool.{Bool, true, false, ◌||◌, not, cond}
use Rattle.std.specs.Prelude.{Some}
use Prim.Native.Nat.{ℕ, zero, suc, ◌≤◌, ◌<◌}
use native.Mathlib.Omega.{arith}
use borrow.Author.Tests.{eqb-true, eq-eqb}
use lib.Dec.{eqb}
use Rattle.tsconfig.specs.Config.{Field, Config, merge}
use Rattle.tsconfig_resolver.specs.Line.{Configs, Entry, empty, bare, missing, leads, led, parents}
use Rattle.book.specs.Answer.{Answer, refused, ◌>>=◌, unless}
use Rattle.tsconfig_resolver.specs.Load.{Loaded, State, add, unread, recall, counted, walk, put, done, refusal, fresh, free, load_by, load}
use Rattle.tsconfig_resolver.proofs.Tally.{tally_ext, tally_add}

module _ {Val : Field → Type 0} {B : Type 0} (b : Configs Val B) where
  -- One more on the chain, one less off it: the number that falls.
  pub free_cons : (chain : ℕ → Bool) (c : ℕ) → c < b.size → chain c ≡ false → free b chain ≡ suc (free b (add c chain))
  free_cons chain c lt off =
      omega (
        arith,
        tally_ext b.size (λ i. 1) {d = λ i. not (chain i)} {e = λ i. eqb i c || not (add c chain i)} (λ i. same i (eqb i c) refl),
        tally_add (λ i. 1) (λ i. not (add c chain i)) c self b.size lt,
      )
    where
      same : (i : ℕ) (a : Bool) → eqb i c ≡ a → not (chain i) ≡ a || not (a || chain i)
      same i true e = rw (eqb-true i c e, off)
      same i false e = refl

      self : not (add c chain c) ≡ false
      self = ap (λ t. not (t || chain c)) (eq-eqb c c refl)

  on_chain : (k : ℕ) (chain : ℕ → Bool) (c : ℕ) (s : State Val B) → chain c ≡ true → load_by b k chain c s ≡ refused 9 c
  unfolding load_by
  on_chain zero chain c s e = refl
  on_chain (suc k) chain c s e = rw (e, unless)

  -- the load of a record of the book: refused on its chain or by its entries, else its parents' loads under the longer chain
  pub load_law : (chain : ℕ → Bool) (c : ℕ) (s : State Val B) → c < b.size →
      load b chain c s ≡ unless (refusal b chain c) c (fresh b (load b (add c chain)) c) s
  unfolding load load_by
  load_law chain c s lt = go (chain c) refl
    where
      go : (a : Bool) → chain c ≡ a → load_by b (free b chain) chain c s ≡ unless (cond a (Some 9) (unread (b.entries c))) c (fresh b (load_by b (free b (add c chain)) (add c chain)) c) s
      go true e = on_chain (free b chain) chain c s e
      go false e = ap (λ k. load_by b k chain c s) (free_cons chain c lt e) ∙ rw (e, unless)

  walk_same :
      (one two : ℕ → State Val B → Answer (Loaded Val B)) (c : ℕ) (es : List Entry) → ((p : ℕ) → Memᴰ p (led es) → one p ≡ two p) →
      (x : Config Val B) (s : State Val B) → walk one c es x s ≡ walk two c es x s
  walk_same one two c [] h x s = refl
  walk_same one two c (empty ∷ es) h x s = refl
  walk_same one two c (bare ∷ es) h x s = refl
  walk_same one two c (missing ∷ es) h x s = refl
  walk_same one two c (leads p ∷ es) h x s =
      ap₂ ◌>>=◌ (ap (λ k. recall (s.table p) k s) (h p (Memᴰ.head refl)))
      (fun_ext λ r. walk_same one two c es (λ q m. h q (Memᴰ.tail m)) (merge x r.config) (counted r.state))

  -- The number never runs out: from the records not on the chain on, any number loads alike. So 64 does, where the book has at most 64.
  module _ (inside : (c p : ℕ) → Memᴰ p (parents b c) → p < b.size) where
    fresh_same :
        (k : ℕ) (chain : ℕ → Bool) (c : ℕ) (s : State Val B) → c < b.size → free b chain ≤ suc k →
        ((p : ℕ) (t : State Val B) → p < b.size → free b (add c chain) ≤ k → load_by b k (add c chain) p t ≡ load b (add c chain) p t) →
        (a : Bool) → chain c ≡ a →
        unless (cond a (Some 9) (unread (b.entries c))) c (fresh b (load_by b k (add c chain)) c) s
        ≡ unless (cond a (Some 9) (unread (b.entries c))) c (fresh b (load b (add c chain)) c) s
    fresh_same k chain c s lt le ih true e = refl
    fresh_same k chain c s lt le ih false e =
        ap (λ f. unless (unread (b.entries c)) c f s)
        (fun_ext λ t.
        ap (λ a. a >>= λ r. done r.config (put c r.config r.state))
        (walk_same (load_by b k (add c chain)) (load b (add c chain)) c (reverse (b.entries c))
        (λ p m. fun_ext λ u. ih p u (inside c p m) (omega (arith, free_cons chain c lt e))) (b.own c) t))

    pub enough : (k : ℕ) (chain : ℕ → Bool) (c : ℕ) (s : State Val B) → c < b.size → free b chain ≤ k → load_by b k chain c s ≡ load b chain c s
    unfolding load load_by
    enough zero chain c s lt le = let e : 0 ≡ free b chain = omega arith in ap (λ k. load_by b k chain c s) e
    enough (suc k) chain c s lt le =
        fresh_same k chain c s lt le (λ p t lt' le'. enough k (add c chain) p t lt' le') (chain c) refl ∙ sym (load_law chain c s lt)
