-- The parts of a listing, as the functions that write them have them.
use Rattle.std.specs.Prelude.{List, ◌++◌}
use Rattle.text.specs.Bytes.{Text, bytes}
use Rattle.tsconfig.specs.Config.{files, include, exclude, base_url, paths, root_dirs, out_dir, declaration_dir}
use Rattle.tsconfig.specs.Build.{Settings}
use Rattle.tsconfig.specs.Listing.{row, rows, items, mapping, if_named}
use Rattle.options.specs.Options.{options_part}

-- what comes before the base
unfoldable pub lists_part : Settings → Text
lists_part c =
    if_named (items (bytes "files")) (c.named files)
    ++ (if_named (items (bytes "include")) (c.named include)
    ++ (if_named (items (bytes "exclude")) (c.named exclude) ++ if_named (row (bytes "baseUrl")) (c.named base_url)))

-- what follows the references
unfoldable pub places_part : Settings → Text
places_part c =
    if_named (items (bytes "rootDir")) (c.named root_dirs)
    ++ (if_named (row (bytes "outDir")) (c.named out_dir)
    ++ (if_named (row (bytes "declarationDir")) (c.named declaration_dir) ++ options_part c))

-- from the base on
unfoldable pub base_part : List Text → Settings → Text
base_part references c =
    row (bytes "base") c.base ++ (if_named mapping (c.named paths) ++ (rows (bytes "reference") references ++ places_part c))
