-- What a question about a config asks for.
use Rattle.std.specs.Prelude.{ℕ, ◌≤◌, length}
use Rattle.text.specs.Bytes.{Text}

-- a specifier no longer than it may be, and room from `at` on
pub record Asks (spec : Text) (at : ℕ) : Type 0 where
  pub spec_short : length spec ≤ 512
  pub near : at ≤ 65536
