use Rattle.items.proofs.Reading.{target_less}
use Rattle.items.proofs.TargetsIterator.next.Goals as goal

pub returns-clause-goes : goal.returns-clause-goes
returns-clause-goes c =
    record { on = λ _. (tt, tt, target_less c.args.self.now.commands.now c.args.self.now.at _ c.next_target.ensures _ c.in_ok-target.was); keeps = tt; rests = λ _. tt }
