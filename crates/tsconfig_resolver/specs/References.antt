-- The references of the asked config, in order: the self test, then the reference's own extends, its chain starting empty with each parent.
-- References of references are not loaded, and their merges are not counted.
use Rattle.std.specs.Prelude.{reverse, false, cond, ℕ, eqb}
use Rattle.std.specs.Prelude.{Some, None}
use Rattle.tsconfig.specs.Config.{Field}
use Rattle.tsconfig_resolver.specs.Line.{Configs}
use Rattle.book.specs.Answer.{Answer, unless}
use Rattle.tsconfig_resolver.specs.Load.{Loaded, State, unread, walk, load}

module _ {Val : Field → Type 0} {B : Type 0} (b : Configs Val B) where
  -- the reference r of the record c
  abbrev pub refer : ℕ → ℕ → State Val B → Answer (Loaded Val B)
  refer c r s =
      unless (cond (eqb r c) (Some 10) None) c
      (unless (unread (b.entries r)) r (walk (load b (λ i. false)) r (reverse (b.entries r)) (b.own r))) s
