-- A merged config as the code holds it: a row of record numbers, one for each field and one for the base, and the record's own number. A value is
-- what its supplier says.
use Rattle.std.specs.Prelude.{ℕ, ◌+◌, ◌<◌, ◌≡◌, List, true, cond, eqb, ltb, length, get_or}
use Rattle.path.specs.Path.{is_some}
use Rattle.std.specs.Prelude.{Option, Some, None}
use Rattle.book.specs.Index.{begin_of}
use Rattle.book.specs.declared.IndexRow.{IndexRow}
use Rattle.tsconfig.specs.Config.{Field, files, include, exclude, base_url, paths, root_dirs, out_dir, declaration_dir, flag, text}
use Rattle.tsconfig.specs.Parsed.{Parsed}
use Rattle.tsconfig.specs.Claims.{Site}
use Rattle.tsconfig_resolver.specs.Find.{record_at, seen}
use Rattle.tsconfig_resolver.specs.Project.{Merged, site_at}

-- stands for no record: there are at most 64
abbrev pub absent : ℕ
absent = 255

-- the place of a field in a row; ids that no command may have share a place behind the row
unfoldable pub slot : Field → ℕ
slot files = 0
slot include = 1
slot exclude = 2
slot base_url = 3
slot paths = 4
slot root_dirs = 5
slot out_dir = 6
slot declaration_dir = 7
slot (flag id) = cond (ltb id 11) (8 + id) 28
slot (text id) = cond (ltb id 7) (19 + id) 28

-- the place of the record that the base is of
abbrev pub base_place : ℕ
base_place = 26

-- the place of the row's own record
abbrev pub own_place : ℕ
own_place = 27

-- the record that supplies the field
abbrev pub supplier : List ℕ → Field → ℕ
supplier row f = get_or row (slot f) absent

-- the record that the row is of
abbrev pub number_of : List ℕ → ℕ
number_of row = get_or row own_place absent

-- the merged config that a row says: of each field and of the base what its supplier says
unfoldable pub config_of : List Parsed → List ℕ → Merged
config_of rs row = record { named = λ f. ((seen rs).own (supplier row f)).named f; base = ((seen rs).own (get_or row base_place absent)).base }

-- the config of a row, built at the path of its record
unfoldable pub site_of : List Parsed → List ℕ → Site
site_of rs row = site_at rs (number_of row) (config_of rs row)

-- a row of records that are there: each supplier names its field
pub record Row (rs : List Parsed) (row : List ℕ) : Type 0 where
  pub long : length row ≡ 28
  pub named : (f : Field) → (supplier row f ≡ absent → ⊥) → is_some ((record_at rs (supplier row f)).says f) ≡ true
  pub base : get_or row base_place absent < length rs
  pub own : number_of row < length rs

-- where the record that stands at a place of the row begins in the commands
unfoldable pub begin_at : List IndexRow → List ℕ → ℕ → Option ℕ
begin_at rows row k = cond (eqb (get_or row k absent) absent) None (Some (begin_of rows (get_or row k absent)))
