use Rattle.std.proofs.Common.{sym, ◌∙◌}
use Rattle.std.proofs.lemmas.Bool.{eqb-true, eqb-false}
use Rattle.join.proofs.Pieces.{norm_nil, norm_abs, based_room, norm_pieces, norm_plain}
use Rattle.join.proofs.normalize.Goals as goal

pub returns-then-is_empty : goal.returns-then-is_empty
returns-then-is_empty c = norm_nil _ _ _ c.requires.empty c.requires.room (eqb-true _ _ (sym c.is_empty.ensures ∙ c.if-is_empty.true))

pub returns-then-is_absolute : goal.returns-then-is_absolute
returns-then-is_absolute c = norm_abs _ _ _ c.requires.empty c.requires.room _ c.is_absolute.ensures c.if-is_absolute.true _ c.put_text.ensures

pub push-requires : goal.push-requires
push-requires c = based_room c.args.base.now c.args.sub.now c.args.path.now c.requires.empty c.requires.room _ c.is_absolute.ensures (eqb-false _ _ (sym c.is_empty.ensures ∙ c.if-is_empty.false)) c.if-is_absolute.false _ c.put_text-2.ensures

pub returns-then-has_plain_names : goal.returns-then-has_plain_names
returns-then-has_plain_names c = norm_plain _ _ _ c.requires.empty c.requires.room _ c.is_absolute.ensures (eqb-false _ _ (sym c.is_empty.ensures ∙ c.if-is_empty.false)) c.if-is_absolute.false _ c.put_text-2.ensures _ c.has_plain_names.ensures c.if-has_plain_names.true _ c.push.ensures

pub push_pieces-requires : goal.push_pieces-requires
push_pieces-requires c = based_room c.args.base.now c.args.sub.now c.args.path.now c.requires.empty c.requires.room _ c.is_absolute.ensures (eqb-false _ _ (sym c.is_empty.ensures ∙ c.if-is_empty.false)) c.if-is_absolute.false _ c.put_text-2.ensures

pub returns : goal.returns
returns c = norm_pieces _ _ _ c.requires.empty c.requires.room _ c.is_absolute.ensures (eqb-false _ _ (sym c.is_empty.ensures ∙ c.if-is_empty.false)) c.if-is_absolute.false _ c.put_text-2.ensures _ c.push_pieces.ensures
