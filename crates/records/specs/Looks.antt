-- What a look through the rows of an index tells.
use Rattle.std.specs.Prelude.{ℕ, ◌+◌, ◌≤◌, ◌<◌, ◌≡◌, List, false, length, get_or}
use Rattle.text.specs.Bytes.{Text}
use Rattle.text.specs.Text.{prefix_of}
use Rattle.book.specs.Index.{index_at, path_in}
use Rattle.book.specs.declared.IndexRow.{IndexRow}

-- the rows from i on and before r have another byte than x at k, or than y at m
pub record Unlike (text : Text) (rows : List IndexRow) (x k y m i r : ℕ) : Type 0 where
  pub onward : i ≤ r
  pub within : r ≤ length rows
  pub other : (j : ℕ) → j < r → i ≤ j → get_or text ((index_at rows j).start + k) 0 ≡ x → get_or text ((index_at rows j).start + m) 0 ≡ y → ⊥

-- the paths of the rows from i on and before r do not begin with p
pub record Passed (text : Text) (rows : List IndexRow) (p : Text) (i r : ℕ) : Type 0 where
  pub onward : i ≤ r
  pub within : r ≤ length rows
  pub other : (j : ℕ) → j < r → i ≤ j → prefix_of p (path_in text (index_at rows j)) ≡ false
