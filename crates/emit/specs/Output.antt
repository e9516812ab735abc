-- What calls leave of an output.
use Rattle.std.specs.Prelude.{◌≡◌, ℕ, length, take}
use Rattle.text.specs.Bytes.{Text}
use Rattle.emit.specs.Emit.{Emits, Holds}
use Rattle.emit.specs.declared.Output.{Output}

-- what was written, where all of it fits
abbrev pub text_of : Output → Text
text_of o = take o.at o.bytes.now

-- u is the output o with xs written behind what it has
pub record Puts (xs : Text) (o u : Output) : Type 0 where
  -- it lies where it lay
  pub same : u.bytes.ghost_name ≡ o.bytes.ghost_name
  pub wrote : Emits xs o.bytes.now o.at u.bytes.now u.at

-- u is the output o of which only the first n bytes count
pub record Cut (n : ℕ) (o u : Output) : Type 0 where
  pub same : u.bytes.ghost_name ≡ o.bytes.ghost_name
  pub bytes : u.bytes.now ≡ o.bytes.now
  pub at : u.at ≡ n

-- u is the output o in which the text is written now, which fits; what stands behind it is left open
pub record Becomes (text : Text) (o u : Output) : Type 0 where
  pub same : u.bytes.ghost_name ≡ o.bytes.ghost_name
  pub long : length u.bytes.now ≡ length o.bytes.now
  pub holds : Holds u.at u.bytes.now text
