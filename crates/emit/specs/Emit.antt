-- What is written to lent output, and where, and what a buffer holds.
use Rattle.std.specs.Prelude.{◌≡◌, ℕ, ◌+◌, ◌^◌, ◌<◌, length, take}
use Rattle.std.proofs.lemmas.List.Edits.{sets}
use Rattle.text.specs.Bytes.{Text}

-- o with xs from `at` on, as far as o reaches: nothing is written past its end, and an empty o stays empty
unfoldable pub written : Text → ℕ → Text → Text
written o at xs = sets o at xs

-- a place from which xs can still be counted
pub record Room (at : ℕ) (xs : Text) : Type 0 where
  pub room : at + length xs < 2 ^ 63

-- the output is now u, which was o, with xs written at `at`; r is the place after it
pub record Emits (xs o : Text) (at : ℕ) (u : Text) (r : ℕ) : Type 0 where
  pub text : u ≡ written o at xs
  pub next : r ≡ at + length xs

-- the first r bytes of a buffer are the text; what stands behind them is left open
pub record Holds (r : ℕ) (out text : Text) : Type 0 where
  pub size : r ≡ length text
  pub bytes : take r out ≡ text
