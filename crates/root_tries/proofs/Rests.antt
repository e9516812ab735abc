-- A path and its rest in the root dirs of a record. Assumes nothing.
use Rattle.std.proofs.Common.{◌≡◌, ℕ, ◌+◌, List, [], ◌∷◌, Some, None, refl, arith}
use Rattle.text.specs.Bytes.{Text}
use Rattle.emit.specs.Output.{Puts}
use Rattle.emit.specs.declared.Output.{Output}
use Rattle.emit.proofs.Outputs.{puts_both}
use Rattle.path.specs.Path.{strip_prefix}
use Rattle.tsconfig.specs.Laid.{laid}
use Rattle.tsconfig.specs.Mapping.{root_above, in_roots, from_root, root_tries}
use Rattle.targets.specs.Targets.{Lists}
use Rattle.targets.proofs.Lays.{laid_cons}
use Rattle.targets.proofs.Aims.{lists_none}

module _ (p : Text) (rs : List Text) (o : Output) where
  pub tries_none : root_above p None rs ≡ None → Lists (root_tries p (Some rs)) o o 0
  unfolding root_tries from_root
  tries_none e = rw e (lists_none o)

  module _ (root : Text) (e : root_above p None rs ≡ Some root) (u : Output) (w : Puts (laid (p ∷ [])) o u) where
    pub tries_alone : strip_prefix p root ≡ None → Lists (root_tries p (Some rs)) o u 1
    unfolding root_tries from_root in_roots
    tries_alone n = rw (e, n) (record { counts = refl; puts = w })

    pub tries_on : (rest : Text) → strip_prefix p root ≡ Some rest → (v : Output) (k : ℕ) → Lists (in_roots root (Some rest) rs) u v k → Lists (root_tries p (Some rs)) o v (1 + k)
    unfolding root_tries from_root
    tries_on rest n v k z = rw (e, n) (record {
      counts = omega (arith, z.counts);
      puts = rw (laid_cons p (in_roots root (Some rest) rs)) (puts_both _ _ o u v w z.puts);
    })
