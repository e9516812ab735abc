use mathlib.Core.Path.{◌∙◌}
use Rattle.faults.proofs.Arms.{own_begin, own_pattern, own_lead, own_none}
use Rattle.faults.proofs.own_rule.Goals as goal

pub returns-in-1 : goal.returns-in-1
returns-in-1 c = c.is_record_path_of.ensures ∙ own_begin _ _ c.in-1.is

pub returns-in-5 : goal.returns-in-5
returns-in-5 c = c.is_pattern_of.ensures ∙ own_pattern _ _ c.in-5.is

pub returns-in-8 : goal.returns-in-8
returns-in-8 c = c.obeys_lead.ensures ∙ own_lead _ _ c.in-8.is

pub returns-in_default : goal.returns-in_default
returns-in_default c = own_none _ _ c.in_default.in_default-own.rest.0.0.1 c.in_default.in_default-own.rest.0.1 c.in_default.in_default-own.rest.1
