-- A path that is not put together, as a text.
use Rattle.std.specs.Prelude.{[], ◌++◌}
use Rattle.text.specs.Bytes.{Text}
use Rattle.join.specs.Join.{slash_if}
use Rattle.records.specs.declared.Joined.{Joined}

-- the whole path
abbrev pub path_of : Joined → Text
path_of p = p.front.now ++ (slash_if p.apart ++ p.tail.now)

-- the front, and the slash where it stands
abbrev pub head_of : Joined → Text
head_of p = p.front.now ++ (slash_if p.apart ++ [])
