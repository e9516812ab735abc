-- The lines of a field, as the functions that write them have them: what its supplier says.
use Rattle.std.specs.Prelude.{ℕ, [], Option, Some, None, option_map}
use Rattle.text.specs.Bytes.{Text, bytes}
use Rattle.book.specs.Command.{base_url}
use Rattle.book.specs.Record.{single}
use Rattle.record.specs.Read.{read}
use Rattle.record.specs.Lists.{Record}
use Rattle.tsconfig.specs.Build.{adjusted}
use Rattle.tsconfig.specs.Listing.{row, items, mapping, if_named}
use Rattle.lines.specs.Lines.{dir_of, built_place, built_strings, built_roots, built_keys}

-- files, include, exclude: the lines of a list, none where it has no supplier
unfoldable pub list_at : Text → Text → ℕ → Option Record → Text
list_at name dir op None = []
list_at name dir op (Some r) = items name (built_strings r dir op)

-- the lines of rootDirs
unfoldable pub roots_at : Text → Option Record → Text
roots_at dir None = []
roots_at dir (Some r) = items (bytes "rootDir") (built_roots r dir (dir_of r))

-- the line of baseUrl
unfoldable pub url_at : Text → Option Record → Text
url_at dir None = []
url_at dir (Some r) = if_named (row (bytes "baseUrl")) (option_map (adjusted dir dir) (single r.text.now base_url (read r.commands.now r.at)))

-- the line of outDir or declarationDir
unfoldable pub place_at : Text → Text → ℕ → Option Record → Text
place_at name dir op None = []
place_at name dir op (Some r) = if_named (row name) (option_map (built_place dir (dir_of r)) (single r.text.now op (read r.commands.now r.at)))

-- the lines of paths
unfoldable pub mapping_at : Text → Text → Option Record → Text
mapping_at dir base None = []
mapping_at dir base (Some r) = mapping (built_keys r dir base)
