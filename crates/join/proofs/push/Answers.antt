use Rattle.join.proofs.Buffer.{push_becomes}
use Rattle.join.proofs.push.Goals as goal

pub returns : goal.returns
returns c = push_becomes c.args.path.now c.args.name.now c.requires _ _ (rw c.text.ensures at c.wants_slash-apart.ensures) c.put_joined.ensures
