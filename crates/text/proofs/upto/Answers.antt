use mathlib.Core.Path.{sym}
use Rattle.text.proofs.Parts.{upto_all}
use lib.Seq.{length-take-le}
use native.Mathlib.Omega.{arith}
use borrow.Author.Rules.{rules}
use Rattle.text.proofs.upto.Goals as goal

pub returns-then-s-k : goal.returns-then-s-k
returns-then-s-k c = search (rules, upto_all)

pub slice_bounds-result-end : goal.slice_bounds-result-end
slice_bounds-result-end c = sym (length-take-le _ _ (omega arith))
