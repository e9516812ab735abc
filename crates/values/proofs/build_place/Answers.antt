use Rattle.std.proofs.Common.{sym, ap, ◌∙◌}
use Rattle.text.specs.Text.{prefix_of}
use Rattle.names.specs.Names.{config_dir}
use Rattle.emit.specs.Output.{text_of}
use Rattle.values.proofs.Forms.{build_led, build_kept, build_again}
use Rattle.values.proofs.build_place.Goals.{then-has_config_dir-2, else-has_config_dir-2}
use Rattle.values.proofs.build_place.Goals as goal

pub returns-then-has_config_dir : goal.returns-then-has_config_dir
returns-then-has_config_dir c = c.in_config_dir.ensures ∙ build_led c.args.dir.now c.args.own.now c.args.s.now (sym c.has_config_dir.ensures ∙ c.if-has_config_dir.true)

pub returns : goal.returns
returns c =
    let dir = c.args.dir.now in
    let own = c.args.own.now in
    let s = c.args.s.now in
    let none = sym c.has_config_dir.ensures ∙ c.if-has_config_dir.false in
    let read = c.text.ensures ∙ c.normalize.ensures.holds.bytes in
    elim c.if-has_config_dir-2.branch [
      | then-has_config_dir-2 w ↦ c.into_text.ensures ∙ ap text_of w.path-is ∙ w.put_led.ensures.holds.bytes
          ∙ build_again dir own s none (ap (prefix_of config_dir) (sym read) ∙ sym c.has_config_dir-2.ensures ∙ w.if-has_config_dir-2.true)
      | else-has_config_dir-2 w ↦ c.into_text.ensures ∙ ap text_of w.path-is ∙ c.normalize.ensures.holds.bytes
          ∙ build_kept dir own s none (ap (prefix_of config_dir) (sym read) ∙ sym c.has_config_dir-2.ensures ∙ w.if-has_config_dir-2.false)
    ]
