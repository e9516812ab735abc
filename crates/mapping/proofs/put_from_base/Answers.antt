use Rattle.mapping.proofs.Sites.{base_unnamed, base_named, lists_empty, lists_one}
use Rattle.mapping.proofs.put_from_base.Goals as goal

pub returns-in-Some-clause-paths : goal.returns-in-Some-clause-paths
returns-in-Some-clause-paths c = lists_one _ _ _ _ (base_named c.args.built.now _ _ c.in-Some.ensures.at) c.put_read.ensures

pub returns-in-None-clause-paths : goal.returns-in-None-clause-paths
returns-in-None-clause-paths c = lists_empty _ _ (base_unnamed c.args.built.now _ c.in-None.ensures.at)
