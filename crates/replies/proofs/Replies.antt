-- The ways out of the functions. Assumes nothing.
use mathlib.Core.Path.{◌≡◌, refl, sym, ap, subst, ◌∙◌}
use mathlib.Core.List.{List}
use Prim.Native.Nat.{ℕ, ◌≤◌, ◌<◌}
use native.Mathlib.Omega.{arith}
use lib.ListN.{length, take}
use borrow.Author.Tests.{lt-ltb, le-ltb}
use Rattle.text.specs.Bytes.{Text}
use Rattle.emit.specs.Emit.{Emits}
use Rattle.emit.specs.Output.{Puts}
use Rattle.emit.specs.declared.Output.{Output}
use Rattle.emit.proofs.Emits.{written_whole, emits_length, emits_holds}
use Rattle.std.specs.Prelude.{Result, Ok, Err}
use Rattle.book.specs.Answer.{refused, given}
use Rattle.book.specs.Refusals.{refusal}
use Rattle.book.specs.declared.Refusal.{Refusal}
use Rattle.replies.specs.Replies.{Outcome, Reply, fit, returned, output, numbers_of, numbers_by, AnsweredAs, Told}
use Rattle.tsconfig.specs.Laid.{laid}
use Rattle.replies.specs.declared.Given.{Given}
use Rattle.replies.specs.declared.Numbers.{Numbers}

-- A refusal

-- the output as it was
pub answered_refused : (o : Outcome) (r : Refusal) (old : Text) → o ≡ refusal r → AnsweredAs o (Err r) old old
unfolding output
answered_refused o r old e = record { numbers = sym (ap returned e); bytes = sym (ap (λ (x : Outcome). output x old) e) }

-- What is written to output of which nothing was written

pub written_first : (x old : Text) (o u : Output) → o.bytes.now ≡ old → o.at ≡ 0 → Puts x o u → Emits x old 0 u.bytes.now u.at
written_first x old o u e z p = rw (← e, ← z) p.wrote

-- What the scratch holds of a text, where it is long enough, is the text

module _ (x in-scratch scratch : Text) (k : ℕ) (made : Emits x in-scratch 0 scratch k) (h : k ≤ length scratch) where
  pub scratch_holds : take k scratch ≡ x
  scratch_holds = (emits_holds x in-scratch scratch 0 k (omega (arith, h, made.next, emits_length x in-scratch 0 scratch k made)) made).bytes

  pub scratch_copied : (t old new : Text) (n : ℕ) → t ≡ take k scratch → Emits t old 0 new n → Emits x old 0 new n
  scratch_copied t old new n e p = subst (λ (t : Text). Emits t old 0 new n) (e ∙ scratch_holds) p

-- A reply that fits, or not: counted first, then written

module _ (reply : Reply) (old : Text) (k : ℕ) (none_in none_out : Text) (counted : Emits reply.bytes none_in 0 none_out k) where
  counts : k ≡ length reply.bytes
  counts = omega (arith, counted.next)

  pub fit_short : length old < k → fit (length old) reply ≡ refused 13 k
  unfolding fit
  fit_short h = rw (lt-ltb (length old) (length reply.bytes) (omega (arith, h, counts))) (ap (refused 13) (sym counts))

  module _ (h : k ≤ length old) (new : Text) (n : ℕ) (wrote : Emits reply.bytes old 0 new n) where
    fit_given : fit (length old) reply ≡ given reply
    unfolding fit
    fit_given = rw (le-ltb (length old) (length reply.bytes) (omega (arith, h, counts))) refl

    pub answered_given : (g : Given) → g.first ≡ reply.first → g.second ≡ reply.second → g.bytes ≡ n → AnsweredAs (fit (length old) reply) (Ok g) old new
    unfolding returned output
    answered_given g a b e =
        let z : g.bytes ≡ length reply.bytes = omega (arith, e, wrote.next) in
        record {
          numbers = rw (a, b, z, fit_given) refl;
          bytes = wrote.text ∙ written_whole reply.bytes old (omega (arith, h, counts)) ∙ sym (ap (λ (x : Outcome). output x old) fit_given);
        }

-- the reply of candidates
abbrev pub listed_reply : List Text → Reply
listed_reply ts = record { first = length ts; second = 0; bytes = laid ts }

pub answered_as : (a b : Outcome) (r : Result Given Refusal) (old new : Text) → a ≡ b → AnsweredAs b r old new → AnsweredAs a r old new
answered_as a b r old new e t = record { numbers = t.numbers ∙ sym (ap returned e); bytes = t.bytes ∙ sym (ap (λ (x : Outcome). output x old) e) }

-- what C is handed
pub told_by : (o : Outcome) (r : Result Given Refusal) (old new : Text) (n : Numbers) → AnsweredAs o r old new → numbers_of n ≡ numbers_by r → Told o n old new
told_by o r old new n t e = record { numbers = e ∙ t.numbers; bytes = t.bytes }
