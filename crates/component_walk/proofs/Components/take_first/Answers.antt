use Rattle.component_walk.proofs.Walk.{first_within, takes_none, takes_some}
use borrow.Author.Rules.{rules}
use Rattle.component_walk.proofs.Components.take_first.Goals as goal

pub split_at-requires : goal.split_at-requires
split_at-requires c = first_within _ _ c.trim_start-s.ensures _ c.piece_end.ensures

pub returns-then-is_empty-clause-names : goal.returns-then-is_empty-clause-names
returns-then-is_empty-clause-names c = (takes_none _ _ c.trim_start-s.ensures _ c.piece_end.ensures _ _ c.split_at.ensures.front c.split_at.ensures.back (search rules)).1

pub returns-then-is_empty-clause-takes : goal.returns-then-is_empty-clause-takes
returns-then-is_empty-clause-takes c = (takes_none _ _ c.trim_start-s.ensures _ c.piece_end.ensures _ _ c.split_at.ensures.front c.split_at.ensures.back (search rules)).0

pub returns-clause-names : goal.returns-clause-names
returns-clause-names c = (takes_some _ _ c.trim_start-s.ensures _ c.piece_end.ensures _ _ c.split_at.ensures.front c.split_at.ensures.back (search rules)).1

pub returns-clause-takes : goal.returns-clause-takes
returns-clause-takes c = (takes_some _ _ c.trim_start-s.ensures _ c.piece_end.ensures _ _ c.split_at.ensures.front c.split_at.ensures.back (search rules)).0
