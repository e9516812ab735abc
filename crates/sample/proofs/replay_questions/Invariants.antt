use lib.ListN.{length}
use Rattle.sample.proofs.replay_questions.Given as goal

abbrev pub decreases-loop-rest : goal.decreases-loop-rest
decreases-loop-rest l = length l.rest
