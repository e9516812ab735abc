use Rattle.std.proofs.Common.{arith}
use Rattle.path_rules.proofs.Ways.{record_bracket}
use Rattle.path_rules.proofs.is_record_path.Goals as goal

pub returns-else-lacks_brackets : goal.returns-else-lacks_brackets
returns-else-lacks_brackets c = let e = record_bracket c.args.s.now in grind arith
