use Rattle.std.proofs.Common.{◌∙◌, rules, tests}
use Rattle.std.proofs.lemmas.Iterator.Search.{any_from_yields_List}
use Rattle.text.specs.Bytes.{Text}
use Rattle.text.proofs.Scans.{some_as_std}
use Rattle.path.specs.Path.{same_path}
use Rattle.tsconfig.specs.Config.{files}
use Rattle.tsconfig.specs.Claims.{named_file}
use Rattle.rows.specs.Rows.{slot}
use Rattle.claims.proofs.Listed.{built_strings}
use Rattle.claims.proofs.Sites.{field_none, files_some}
use Rattle.claims.proofs.Claimant.is_in_files.Goals as goal

pub returns-in-Some : goal.returns-in-Some
unfolding named_file
returns-in-Some c =
    let s = c.args.self.now in
    let e = c.in-Some.ensures in
    let test = λ (f : Text). same_path f c.args.path.now in
    rw (files_some s.config.now c.in-Some.supplier e.commands e.text e.at, ← s.config.now.place)
    (any_from_yields_List test _ _ c.any.result c.any.ensures.ran (built_strings s.config.now.dir.now c.in-Some.supplier 3 c.strings.result c.strings.ensures.place c.strings.ensures.op) (λ x b q k. search (rules, tests))
    ∙ some_as_std test _)

pub returns-in-None : goal.returns-in-None
unfolding slot named_file
returns-in-None c = let s = c.args.self.now in rw (field_none s.config.now files c.in-None.ensures.at)
