-- What is answered: the outcome of a question, the numbers returned and the output.
use Rattle.std.specs.Prelude.{List, [], ◌∷◌, ◌++◌, cond, ℕ, ltb, length, drop, ◌≡◌}
use Rattle.std.specs.Prelude.{Result, Ok, Err}
use Rattle.std.specs.Borrow.{MutBor}
use Rattle.text.specs.Bytes.{Text}
use Rattle.emit.specs.Output.{Puts}
use Rattle.emit.specs.declared.Output.{Output}
use Rattle.book.specs.Answer.{Answer, refused, given}
use Rattle.book.specs.Refusals.{refusal}
use Rattle.book.specs.declared.Refusal.{Refusal}
use Rattle.tsconfig.specs.Laid.{laid}
use Rattle.replies.specs.declared.Numbers.{Numbers}
use Rattle.replies.specs.declared.Given.{Given}

-- what is answered: two numbers, and the bytes written
pub record Reply : Type 0 where
  pub first : ℕ
  pub second : ℕ
  pub bytes : Text

-- what comes of a question: a refusal, or a reply
abbrev pub Outcome : Type 0
Outcome = Answer Reply

-- a reply by its parts
abbrev pub reply : ℕ → ℕ → Text → Outcome
reply a b s = given (record { first = a; second = b; bytes = s })

-- "the answer is longer than the output": 13, "the bytes needed"
unfoldable pub fit : ℕ → Reply → Outcome
fit room r = cond (ltb room (length r.bytes)) (refused 13 (length r.bytes)) (given r)

-- the paths of candidates or tries, with their count
unfoldable pub listed : ℕ → List Text → Outcome
listed room ts = fit room (record { first = length ts; second = 0; bytes = laid ts })

-- number, place, the two numbers, the bytes written
unfoldable pub returned : Outcome → List ℕ
returned (refused n p) = n ∷ p ∷ 0 ∷ 0 ∷ 0 ∷ []
returned (given r) = 0 ∷ 0 ∷ r.first ∷ r.second ∷ length r.bytes ∷ []

-- Demand 1: "lent output holds, after a call, the whole answer and then its old bytes, or on a refusal its old bytes alone"
unfoldable pub output : Outcome → Text → Text
output (refused n p) old = old
output (given r) old = r.bytes ++ drop (length r.bytes) old

-- the returned struct as 01's numbers
abbrev pub numbers_of : Numbers → List ℕ
numbers_of r = r.number ∷ r.place ∷ r.first ∷ r.second ∷ r.bytes ∷ []

-- what is given, as 01's numbers: no refusal, the two numbers, the bytes written
abbrev pub numbers_given : Given → List ℕ
numbers_given g = 0 ∷ 0 ∷ g.first ∷ g.second ∷ g.bytes ∷ []

-- the numbers of an answer, or of its refusal
abbrev pub numbers_by : Result Given Refusal → List ℕ
numbers_by (Ok g) = numbers_given g
numbers_by (Err r) = returned (refusal r)

-- an answer and the lent output, before and after, are the outcome's
pub record AnsweredAs (o : Outcome) (r : Result Given Refusal) (old new : Text) : Type 0 where
  pub numbers : numbers_by r ≡ returned o
  pub bytes : new ≡ output o old

-- the numbers returned and the lent output, before and after, are the outcome's
pub record Told (o : Outcome) (r : Numbers) (old new : Text) : Type 0 where
  pub numbers : numbers_of r ≡ returned o
  pub bytes : new ≡ output o old

-- u is the output o with the reply's bytes written behind what it has, and n is its two numbers
pub record PutsReply (r : Reply) (o u : Output) (n : ℕ × ℕ) : Type 0 where
  pub first : n.0 ≡ r.first
  pub second : n.1 ≡ r.second
  pub puts : Puts r.bytes o u

-- what a writer is called with and may leave, and the numbers that it gives: on output of which nothing is written, it writes the reply
abbrev pub Writes : (MutBor Output → ℕ × ℕ → MutBor Output → Type 0) → Reply → Type 0
Writes post r = (o u : MutBor Output) (n : ℕ × ℕ) → o.now.at ≡ 0 → post o n u → PutsReply r o.now u.now n
