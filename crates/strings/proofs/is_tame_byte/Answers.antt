use Rattle.std.proofs.Common.{◌≡◌, true, arith, bit_or}
use Rattle.std.proofs.lemmas.Bool.Decides.{nat_tests}
use Rattle.strings.specs.Scan.{within}
use Rattle.strings.proofs.Tame.{tame_rest}
use Rattle.strings.proofs.is_tame_byte.Goals as goal

pub returns-then-contains : goal.returns-then-contains
returns-then-contains c =
    let inside : within 0x22 0x7E c.args.x ≡ true = grind (arith, nat_tests) in
    let bracket : c.contains-then-contains.result ≡ within 0x7B 0x7D (bit_or c.args.x 0x20) = grind (arith, nat_tests) in
    tame_rest c.args.x inside _ bracket
