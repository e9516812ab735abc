use Rattle.std.proofs.Common.{◌≡◌, ℕ, get_or, arith, rules, tests}
use Rattle.std.proofs.lemmas.Iterator.{YieldsList-from_slice, IsFirst-from_position}
use Rattle.text.specs.Bytes.{slash}
use Rattle.glob.specs.Glob.{glob_of}
use Rattle.glob.proofs.Tries.{begin_none, begin_byte, skip_start, skip_found}
use Rattle.glob.proofs.skip.Goals as goal

pub returns-in-empty : goal.returns-in-empty
returns-in-empty c =
    let p = c.args.p.now in
    let s = c.args.s.now in
    let Passes = λ (x : ℕ). (x ≡ slash → ⊥) in
    let found = IsFirst-from_position _ _ _ (λ (x : ℕ). Unit {0}) Passes c.position.ensures.ran (YieldsList-from_slice s cc) (λ x q k. tt) (λ x q k. search (rules, tests)) in
    rw c.unwrap_or.ensures (skip_found (glob_of p) s Passes (λ x n. (n, begin_none p x (omega arith))) _ found)

pub returns-in-42 : goal.returns-in-42
returns-in-42 c = skip_start _ _

pub returns-in-len1-up : goal.returns-in-len1-up
returns-in-len1-up c =
    let p = c.args.p.now in
    let s = c.args.s.now in
    let Passes = λ (x : ℕ). (x ≡ slash → ⊥) × (x ≡ get_or p 0 0 → ⊥) in
    let found = IsFirst-from_position _ _ _ (λ (x : ℕ). Unit {0}) Passes c.position-in-len1-up.ensures.ran (YieldsList-from_slice s cc) (λ x q k. tt) (λ x q k. search (rules, tests)) in
    rw c.unwrap_or-in-len1-up.ensures (skip_found (glob_of p) s Passes (λ x n. (n.0, begin_byte p x c.in-len1-up.len_at_least (search (rules, tests)) (search (rules, tests)) n.1)) _ found)
