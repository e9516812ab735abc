-- A reference that loads is the flat config of its own line, and leaves the tables sound.
-- Assumes nothing.
use mathlib.Core.Path.{◌≡◌, refl, sym, ap, ◌∙◌}
use Rattle.std.proofs.lemmas.Bool.{or_right}
use mathlib.Core.List.{[], map, reverse, Memᴰ}
use mathlib.Core.Bool.{Bool, true, false, ◌||◌, cond, false≢true}
use Rattle.std.specs.Prelude.{Some, None}
use Prim.Native.Nat.{ℕ, suc, ◌<◌}
use native.Mathlib.Omega.{arith}
use lib.Dec.{eqb}
use Rattle.tsconfig.specs.Config.{Field, flat}
use Rattle.tsconfig_resolver.specs.Line.{Configs, lines, parents, above, flat_line}
use Rattle.book.specs.Answer.{Answer, given, unless}
use Rattle.tsconfig_resolver.specs.Load.{State, Loaded, unread, walk, free, load}
use Rattle.tsconfig_resolver.specs.References.{refer}
use Rattle.tsconfig.proofs.Flat.{flat_one}
use Rattle.tsconfig_resolver.proofs.Tally.{tally_le, tally_add}
use Rattle.tsconfig_resolver.proofs.Line.{rest_step}
use Rattle.tsconfig_resolver.proofs.Load.{has, Sound, held, lines_mem, unless_given, walk_step, load_step}

module _ {Val : Field → Type 0} {B : Type 0} (b : Configs Val B) (inside : (c p : ℕ) → Memᴰ p (parents b c) → p < b.size) where
  -- a record whose parents are in the table: its line unrolls
  unrolls : (r : ℕ) (t : State Val B) → r < b.size → Sound b t.table → ((p : ℕ) → Memᴰ p (parents b r) → has (t.table p) ≡ true) →
      (a : Bool) → has (t.table r) ≡ a → above b r ≡ lines (above b) (parents b r)
  unrolls r t lt h m true e = rest_step b (held b t.table) b.size r (tally_le b.size (λ i. has (t.table i))) (h.short r e)
  unrolls r t lt h m false e =
      rest_step b (suc (held b t.table)) b.size r
      (omega (
        arith,
        tally_le b.size (λ i. eqb i r || has (t.table i)),
        tally_add (λ i. 1) (λ i. has (t.table i)) r e b.size lt,
      )) (λ p k. h.short p (m p k))

  pub refer_flat :
      (c p : ℕ) (s : State Val B) (r : Loaded Val B) → p < b.size → Sound b s.table → refer b c p s ≡ given r →
      (r.config ≡ flat_line b p) × Sound b r.state.table
  unfolding load
  refer_flat c p s r lt h q =
      let go : State Val B → Answer (Loaded Val B) = walk (load b (λ i. false)) p (reverse (b.entries p)) (b.own p) in
      let (not-self, q₁) = unless_given (cond (eqb p c) (Some 10) None) c (unless (unread (b.entries p)) p go) s q in
      let (read, q₂) = unless_given (unread (b.entries p)) p go s q₁ in
      let (xs, st) =
      walk_step b (λ i. false) (load b (λ i. false)) (load_step b inside (free b (λ i. false)) (λ i. false)) p (reverse (b.entries p)) (inside p) []
      (b.own p) s (sym (flat_one (b.own p))) h (λ i m. absurd (false≢true m)) r q₂
      in
      let in_table : (i : ℕ) → Memᴰ i (parents b p) → has (r.state.table i) ≡ true =
      λ i k. st.domain i ∙ or_right (has (s.table i)) _ (lines_mem (above b) i (parents b p) k)
      in (
        xs ∙ ap (λ l. flat (b.own p) (map b.own l)) (sym (unrolls p r.state lt st.sound in_table (has (r.state.table p)) refl)),
        st.sound,
      )
