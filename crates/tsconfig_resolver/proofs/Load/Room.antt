-- The merges counted never outgrow the extends entries of the book: what the code's counter needs at each step.
-- Assumes nothing.
use mathlib.Core.Path.{◌≡◌, refl}
use mathlib.Core.List.{List}
use mathlib.Core.Bool.{Bool, true, false, cond, true≢false}
use Prim.Native.Nat.{ℕ, zero, suc, ◌+◌, ◌*◌, ◌≤◌, ◌<◌}
use native.Mathlib.Omega.{arith}
use lib.ListN.{length}
use Rattle.tsconfig.specs.Config.{Field}
use Rattle.tsconfig_resolver.specs.Line.{Configs, tally}
use Rattle.tsconfig_resolver.specs.Load.{State, add}
use Rattle.tsconfig_resolver.proofs.Tally.{tally_add}
use Rattle.tsconfig_resolver.proofs.Load.{has, Clear, Step, worth}

-- two tests that never pass together weigh no more than all there is
apart_le : (w : ℕ → ℕ) (d e : ℕ → Bool) (m : ℕ) → ((i : ℕ) → w i ≤ m) → ((i : ℕ) → e i ≡ true → d i ≡ false) → (n : ℕ) → tally n w d + tally n w e ≤ n * m
apart_le w d e m few apart zero = omega arith
apart_le w d e m few apart (suc n) =
    omega (arith, one (d n) (e n) (apart n), few n, apart_le w d e m few apart n)
  where
    one : (a b : Bool) → (b ≡ true → a ≡ false) → cond a (w n) 0 + cond b (w n) 0 ≤ w n
    one true true h = absurd (true≢false (h refl))
    one true false h = omega arith
    one false true h = omega arith
    one false false h = omega arith

module _ {Val : Field → Type 0} {B : Type 0} (b : Configs Val B) where
  abbrev pub chain_worth : (ℕ → Bool) → ℕ
  chain_worth chain = tally b.size (λ i. length (b.entries i)) chain

  -- the merges made so far: at most what the table is worth and what the chain can still be, k of it left
  abbrev pub Room : (ℕ → Bool) → ℕ → State Val B → Type 0
  Room chain k s = s.merges + k ≤ worth b s.table + chain_worth chain

  -- a load keeps the room
  pub room_kept : (chain : ℕ → Bool) (s t : State Val B) (new : List ℕ) (k : ℕ) → Step b chain s t new 0 → Room chain k s → Room chain k t
  room_kept chain s t new k st h = omega (arith, st.counts)

  -- a record that goes on the chain brings its own
  pub room_add : (chain : ℕ → Bool) (c : ℕ) (s : State Val B) → chain c ≡ false → c < b.size → Room chain 0 s → Room (add c chain) (length (b.entries c)) s
  room_add chain c s off lt h = omega (arith, tally_add (λ i. length (b.entries i)) chain c off b.size lt)

  -- so the counter stays small
  pub room_small :
      (m : ℕ) → ((i : ℕ) → length (b.entries i) ≤ m) → (chain : ℕ → Bool) (k : ℕ) (s : State Val B) → Clear b chain s.table → Room chain k s →
      s.merges + k ≤ b.size * m
  room_small m few chain k s clear h =
      omega (arith, apart_le (λ i. length (b.entries i)) (λ i. has (s.table i)) chain m few clear b.size)
