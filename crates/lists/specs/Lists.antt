-- Numbers in a list's bytes, and a tally of its entries.
use Rattle.std.specs.Prelude.{ℕ, zero, suc, ◌+◌, ◌-◌, ◌*◌, ◌^◌, min, Bool, cond, eqb, get_or}
use Rattle.text.specs.Bytes.{Text}
use Rattle.lists.specs.declared.Tally.{Tally}

-- the number of n bytes that stand at a place, low byte first; a byte that is not there is 0
abbrev pub low_first : ℕ → Text → ℕ → ℕ
low_first zero s at = 0
low_first (suc n) s at = get_or s at 0 + 256 * low_first n s (at + 1)

-- one more, as far as it fits
abbrev pub counted : ℕ → ℕ
counted n = min (n + 1) (2 ^ 64 - 1)

-- the tally after an entry
abbrev pub tallied : Tally → Bool → Tally
tallied t agrees =
    cond agrees
    (record { entries = counted t.entries; wrong = t.wrong; first = t.first })
    (record { entries = counted t.entries; wrong = counted t.wrong; first = cond (eqb t.wrong 0) (counted t.entries) t.first })
