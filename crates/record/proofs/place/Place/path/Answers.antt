use Rattle.std.proofs.Common.{refl, ap, ◌∙◌, Bor}
use Rattle.text.specs.Bytes.{Text}
use Rattle.record.proofs.Short.{path_is}
use Rattle.record.proofs.place.Place.path.Goals as goal

pub returns-clause-value : goal.returns-clause-value
returns-clause-value g c =
    let r = c.args.self.now in
    ap (λ (x : Bor Text). x.now) c.unwrap_or.ensures ∙ path_is r.text.now r.commands.now r.at _ c.string.ensures.value _ refl
