use Rattle.std.proofs.Common.{◌+◌, ap, ◌∙◌, arith}
use Rattle.emit.proofs.Outputs.{left_all, left_room, left_step, left_end}
use Rattle.rows.specs.Rows.{begin_at}
use Rattle.options.specs.Options.{flag_value, text_value, texts_from, options_from}
use Rattle.options.proofs.Suppliers.{flags_turn, flags_end, texts_turn, texts_end}
use Rattle.options.proofs.put_options.Goals as goal

pub loop-id-init : goal.loop-id-init
unfolding options_from
loop-id-init c = left_all _ _

pub put_option-requires-clause-room : goal.put_option-requires-clause-room
put_option-requires-clause-room c =
    let a = c.args in
    let value = c.flag_value.ensures ∙ ap (flag_value a.commands.now c.loop-id.id) (c.begin_at-at.ensures ∙ ap (λ i. begin_at a.paths.now.rows.now a.row.now (8 + i)) c.from.ensures) in
    left_room _ _ _ _ c.loop-id.invariant _ _ (flags_turn a.commands.now a.paths.now.rows.now a.row.now c.loop-id.id c.loop-id-test.true _ value (texts_from a.commands.now a.paths.now.rows.now a.row.now a.paths.now.text.now 0 7)) c.requires.room

pub loop-id-preserved : goal.loop-id-preserved
loop-id-preserved c =
    let a = c.args in
    let value = c.flag_value.ensures ∙ ap (flag_value a.commands.now c.loop-id.id) (c.begin_at-at.ensures ∙ ap (λ i. begin_at a.paths.now.rows.now a.row.now (8 + i)) c.from.ensures) in
    left_step _ _ _ _ c.loop-id.invariant _ _ _ (flags_turn a.commands.now a.paths.now.rows.now a.row.now c.loop-id.id c.loop-id-test.true _ value (texts_from a.commands.now a.paths.now.rows.now a.row.now a.paths.now.text.now 0 7)) c.put_option.ensures

pub loop-id-2-init : goal.loop-id-2-init
loop-id-2-init c = let a = c.args in rw (flags_end a.commands.now a.paths.now.rows.now a.row.now c.loop-id.id (omega (arith, c.loop-id-test.false))) at c.loop-id.invariant

pub put_option-requires-in-loop-id-2-clause-room : goal.put_option-requires-in-loop-id-2-clause-room
put_option-requires-in-loop-id-2-clause-room c =
    let a = c.args in
    let value = c.text_value-value.ensures ∙ ap (text_value a.commands.now a.paths.now.text.now c.loop-id-2.id) (c.begin_at-at-in-loop-id-2.ensures ∙ ap (λ i. begin_at a.paths.now.rows.now a.row.now (19 + i)) c.from-in-loop-id-2.ensures) in
    left_room _ _ _ _ c.loop-id-2.invariant _ _ (texts_turn a.commands.now a.paths.now.rows.now a.row.now c.loop-id-2.id a.paths.now.text.now c.loop-id-2-test.true _ value) c.requires.room

pub loop-id-2-preserved : goal.loop-id-2-preserved
loop-id-2-preserved c =
    let a = c.args in
    let value = c.text_value-value.ensures ∙ ap (text_value a.commands.now a.paths.now.text.now c.loop-id-2.id) (c.begin_at-at-in-loop-id-2.ensures ∙ ap (λ i. begin_at a.paths.now.rows.now a.row.now (19 + i)) c.from-in-loop-id-2.ensures) in
    left_step _ _ _ _ c.loop-id-2.invariant _ _ _ (texts_turn a.commands.now a.paths.now.rows.now a.row.now c.loop-id-2.id a.paths.now.text.now c.loop-id-2-test.true _ value) c.put_option-in-loop-id-2.ensures

pub returns : goal.returns
returns c = let a = c.args in left_end _ _ _ _ c.loop-id-2.invariant (texts_end a.commands.now a.paths.now.rows.now a.row.now c.loop-id-2.id a.paths.now.text.now (omega (arith, c.loop-id-2-test.false)))
