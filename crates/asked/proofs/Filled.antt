-- Whether an output is still as it was filled. Assumes nothing.
use Rattle.std.proofs.Common.{◌≡◌, ℕ, eqb, [], ◌∷◌, refl}
use Rattle.text.proofs.Scans.{eqb_sym}
use Rattle.std.specs.List.{list_all}
use Rattle.text.specs.Bytes.{Text}
use Rattle.text.specs.Text.{each_of}

pub all_kept : (b : ℕ) (s : Text) → list_all (λ (x : ℕ). eqb x b) s ≡ each_of (eqb b) s
unfolding each_of
all_kept b [] = refl
all_kept b (x ∷ s) = rw (eqb_sym x b, all_kept b s) refl
