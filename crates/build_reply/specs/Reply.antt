-- The reply of a build.
use Rattle.std.specs.Prelude.{List, ℕ}
use Rattle.tsconfig.specs.Parsed.{Parsed}
use Rattle.tsconfig.specs.Listing.{listing}
use Rattle.tsconfig_resolver.specs.Find.{record_at}
use Rattle.tsconfig.specs.Claims.{Site}
use Rattle.replies.specs.Replies.{Reply}

-- the reply of a build
abbrev pub build_reply : List Parsed → Site → ℕ → Reply
build_reply rs s m = record { first = s.number; second = m; bytes = listing (record_at rs s.number).references s.config }
