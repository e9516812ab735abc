use Rattle.replies.proofs.Replies.{told_by}
use Rattle.questions_c.proofs.tsconfig_candidates.Goals as goal

pub returns : goal.returns
returns c = told_by _ _ _ _ _ c.candidates.ensures c.from.ensures
