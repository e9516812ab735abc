use Rattle.std.proofs.Common.{arith}
use Rattle.strings.proofs.Tame.{tame_bare}
use Rattle.path_rules.proofs.Ways.{record_bracket}
use Rattle.path_rules.proofs.is_record_path_of.Goals as goal

pub is_bare_path-requires : goal.is_bare_path-requires
is_bare_path-requires c = let e = tame_bare c.args.s.now in grind arith

pub returns-else-lacks_brackets : goal.returns-else-lacks_brackets
returns-else-lacks_brackets c = let e = record_bracket c.args.s.now in grind arith
