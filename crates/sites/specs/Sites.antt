-- A config of the code as the definitions have it.
use Rattle.tsconfig.specs.Build.{Settings}
use Rattle.tsconfig.specs.Claims.{Site}
use Rattle.tsconfig.specs.Parsed.{Parsed}
use Rattle.tsconfig_resolver.specs.Find.{record_at}
use Rattle.rows.specs.Rows.{number_of}
use Rattle.rows.specs.Checked.{records_in}
use Rattle.sites.specs.Configs.{site_at}
use Rattle.sites.specs.declared.Config.{Config}

-- the config, built at the path of its record
abbrev pub site_in : Config → Site
site_in c = site_at c.book.now c.row.now

-- its own record
abbrev pub record_in : Config → Parsed
record_in c = record_at (records_in c.book.now) (number_of c.row.now)

-- its fields and its base
abbrev pub settings_in : Config → Settings
settings_in c = (site_in c).config
