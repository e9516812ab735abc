-- The edges of the rules of paths: one table, and its one theorem by computation.
use mathlib.Core.Path.{◌≡◌, refl}
use mathlib.Core.List.{List, [], ◌∷◌, map}
use mathlib.Core.Bool.{Bool, true, false}
use Prim.Native.String.{String}
use Rattle.text.specs.Bytes.{bytes}
use Rattle.text.specs.Text.{same_text, some_of, each_of}
use Rattle.components.specs.Components.{on_first, split, piece_of, starts}
use Rattle.path.specs.Path.{normal}
use Rattle.strings.specs.Strings.{string_rule}
use Rattle.path_rules.specs.Paths.{record_path, lead_rule, asked_path}

pub data Case : Type 0 where
  -- a text may be a record's path
  record_path_lem : String → Bool → Case
  -- .. may be an extends entry or a reference
  lead : String → Bool → Case
  -- .. may be asked about
  asked : String → Bool → Case

-- what the rule says
abbrev pub given : Case → Bool
given (record_path_lem s b) = record_path (bytes s)
given (lead s b) = lead_rule (bytes s)
given (asked s b) = asked_path (bytes s)

-- what is right
abbrev pub answer : Case → Bool
answer (record_path_lem s b) = b
answer (lead s b) = b
answer (asked s b) = b

abbrev pub table : List Case
table =
    -- "normal, not `/`, without `* ? { } [ ] ! #`"
    record_path_lem "/a/...json" true
    ∷ record_path_lem "/" false
    ∷ record_path_lem "/a/../b" false
    ∷ record_path_lem "/a/" false
    ∷ record_path_lem "/a#b" false
    ∷ record_path_lem "/[a]" false
    -- "Extends or reference starting with `/` is normal."
    ∷ lead "../a" true
    ∷ lead "" true
    ∷ lead "/a/./b" false
    -- "asked path not normal, holds `?` or `#`"
    ∷ asked "/a*[b]" true
    ∷ asked "/a?b" false
    ∷ asked "a" false
    ∷ []

pub cases : map given table ≡ map answer table
unfolding string_rule record_path lead_rule asked_path same_text some_of each_of on_first split piece_of starts normal
cases = refl
