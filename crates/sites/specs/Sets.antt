-- There is one proof at most that a row is of records that are there.
use Rattle.std.specs.Prelude.{ℕ, List, Bool}
use Rattle.std.specs.Coded.{Coded-set, coded_bool, coded_ℕ, le_prop}
use Rattle.tsconfig.specs.Parsed.{Parsed}
use Rattle.rows.specs.Rows.{Row}

bool_set : IsSet Bool
bool_set = Coded-set coded_bool

number_set : IsSet ℕ
number_set = Coded-set coded_ℕ

pub Row-prop : (rs : List Parsed) (row : List ℕ) → IsProp (Row rs row)
Row-prop rs row = Prim.hlevel (bool_set, number_set, le_prop)
