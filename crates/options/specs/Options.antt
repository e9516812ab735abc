-- The lines of the flags and of the text options, as the functions that write them have them: what their suppliers say, read from where those
-- records begin in the commands.
use Rattle.std.specs.Prelude.{ℕ, zero, suc, ◌+◌, ◌<◌, ◌≡◌, List, [], ◌++◌, Bool, Option, None, Some, cond, length, get_or, option_map}
use Rattle.text.specs.Bytes.{Text, bytes}
use Rattle.book.specs.Record.{option_of, flag_of}
use Rattle.book.specs.declared.IndexRow.{IndexRow}
use Rattle.record.specs.Read.{read}
use Rattle.tsconfig.specs.Build.{Settings}
use Rattle.tsconfig.specs.Listing.{row, decimal, if_named, flag_row, text_row, flags, texts}
use Rattle.rows.specs.Rows.{absent, begin_at}

-- what its supplier says of a flag, as a line has it
unfoldable pub flag_value : Text → ℕ → Option ℕ → Option Text
flag_value commands id None = None
flag_value commands id (Some at) = option_map (λ (v : Bool). cond v (bytes "1") (bytes "0")) (flag_of id (read commands at))

-- the line of a flag
unfoldable pub flag_at : Text → ℕ → Option ℕ → Text
flag_at commands id None = []
flag_at commands id (Some at) = if_named (flag_row id) (flag_of id (read commands at))

module _ (commands text : Text) where
  -- what its supplier says of a text option
  unfoldable pub text_value : ℕ → Option ℕ → Option Text
  text_value id None = None
  text_value id (Some at) = option_of text id (read commands at)

  -- the line of a text option
  unfoldable pub text_at : ℕ → Option ℕ → Text
  text_at id None = []
  text_at id (Some at) = if_named (text_row id) (option_of text id (read commands at))

-- the line of an option, where it has a value
unfoldable pub option_line : Text → ℕ → Option Text → Text
option_line name id value = if_named (row (name ++ decimal id)) value

-- a row of suppliers, each of which is there
pub record Reaches (rows : List IndexRow) (row : List ℕ) : Type 0 where
  pub long : length row ≡ 28
  pub within : (k : ℕ) → k < 28 → (get_or row k absent ≡ absent → ⊥) → get_or row k absent < length rows

module _ (commands : Text) (rows : List IndexRow) (row : List ℕ) where
  -- the flags from id on, k of them
  unfoldable pub flags_from : ℕ → ℕ → Text
  flags_from id zero = []
  flags_from id (suc k) = flag_at commands id (begin_at rows row (8 + id)) ++ flags_from (suc id) k

  module _ (text : Text) where
    -- the text options from id on, k of them
    unfoldable pub texts_from : ℕ → ℕ → Text
    texts_from id zero = []
    texts_from id (suc k) = text_at commands text id (begin_at rows row (19 + id)) ++ texts_from (suc id) k

    -- the flags and the text options
    unfoldable pub options_from : Text
    options_from = flags_from 0 11 ++ texts_from 0 7

-- the flags and the text options of a config
unfoldable pub options_part : Settings → Text
options_part c = flags c 0 11 ++ texts c 0 7
