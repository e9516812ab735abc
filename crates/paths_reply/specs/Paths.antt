-- The paths that candidates and tries answer with.
use Rattle.std.specs.Prelude.{List, Option, Some, None}
use Rattle.text.specs.Bytes.{Text}
use Rattle.tsconfig.specs.Mapping.{candidates, tries}
use Rattle.tsconfig.specs.Build.{Settings}

-- the paths that are asked for: the tries from a directory, or the candidates
abbrev pub paths_by : Option Text → Text → Settings → List Text
paths_by (Some directory) specifier c = tries c directory specifier
paths_by None specifier c = candidates c specifier
