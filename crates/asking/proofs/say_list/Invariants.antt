use lib.ListN.{length}
use Rattle.asking.proofs.say_list.Given as goal

abbrev pub decreases-loop-rest : goal.decreases-loop-rest
decreases-loop-rest g l = length l.rest
