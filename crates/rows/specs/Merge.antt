-- Two rows merged, nearer first: `Config.merge` by suppliers.
use Rattle.std.specs.Prelude.{ℕ, zero, suc, List, cond, eqb, get_or, set}
use Rattle.rows.specs.Rows.{absent, base_place}

-- the nearer's supplier, if it has one, else the other's
unfoldable pub nearer : ℕ → ℕ → ℕ
nearer x y = cond (eqb x absent) y x

-- the supplier of the base: x, the nearer's, if that names baseUrl (by u), else y, the other's, if that does (by v), else the nearer's if it names
-- paths (by p), else the other's
unfoldable pub base_by : ℕ → ℕ → ℕ → ℕ → ℕ → ℕ
base_by u v p x y = cond (eqb u absent) (cond (eqb v absent) (cond (eqb p absent) y x) y) x

-- the first places merged, so many of them; the others are the nearer's
unfoldable pub merged_to : ℕ → List ℕ → List ℕ → List ℕ
merged_to zero a b = a
merged_to (suc k) a b = set (merged_to k a b) k (nearer (get_or a k absent) (get_or b k absent))

-- a row merged with another: each field's place, and the base's; it stays the row of its own record
unfoldable pub merged_row : List ℕ → List ℕ → List ℕ
merged_row a b =
    set (merged_to 26 a b) base_place
    (base_by (get_or a 3 absent) (get_or b 3 absent) (get_or a 4 absent) (get_or a base_place absent) (get_or b base_place absent))
