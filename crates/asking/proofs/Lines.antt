-- Where the end of a line stands in an input. Assumes nothing.
use mathlib.Core.Path.{◌≡◌, sym, ◌∙◌}
use Prim.Native.Nat.{ℕ, ◌<◌}
use lib.ListN.{length}
use Rattle.text.specs.Bytes.{Text}
use Rattle.text.specs.Text.{find}
use Rattle.std.specs.Prelude.{Option, Some}
use Rattle.text.proofs.Scans.{find_within}

-- a byte found in a text stands in it
pub end_within : (b : ℕ) (s : Text) (f : Option ℕ) (i : ℕ) → f ≡ find b s → f ≡ Some i → i < length s
end_within b s f i e h = find_within b s i (sym h ∙ e)
