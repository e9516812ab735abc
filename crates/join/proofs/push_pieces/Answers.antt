use Rattle.std.proofs.Common.{eqb, arith, rules, tests}
use Rattle.std.proofs.lemmas.Iterator.Consumers.{YieldsList-turn, YieldsList-end}
use Rattle.std.proofs.lemmas.Iterator.Splits.{YieldsList-from_slice_split}
use Rattle.std.proofs.lemmas.List.{length_push}
use Rattle.text.specs.Bytes.{slash}
use Rattle.components.specs.Components.{split}
use Rattle.components.proofs.Pieces.{split_as_std}
use Rattle.join.proofs.Pieces.{spread_split, walks_start, step_room, walks_on, walks_end}
use Rattle.join.proofs.push_pieces.Goals as goal

pub loop-piece-init : goal.loop-piece-init
loop-piece-init c = walks_start (split c.args.sub.now) c.args.path.now (omega (arith, c.requires, spread_split c.args.sub.now))

pub step-requires : goal.step-requires
step-requires c =
    let sub = c.args.sub.now in
    let road = YieldsList-from_slice_split _ (λ x. eqb x slash) sub (cc) (cc) (cc) (λ x b q k. search (rules, tests)) in
    let t = rw (split_as_std sub) at (YieldsList-turn road c.loop-piece.yielded _ c.loop-piece.yielded_by _ _ c.in-Some.piece c.in-Some.is c.next.ensures.steps) in
    step_room (split sub) c.args.path.now _ c.loop-piece.path c.loop-piece.invariant c.in-Some.piece.now t.0 t.1

pub loop-piece-preserved : goal.loop-piece-preserved
loop-piece-preserved c =
    let sub = c.args.sub.now in
    let road = YieldsList-from_slice_split _ (λ x. eqb x slash) sub (cc) (cc) (cc) (λ x b q k. search (rules, tests)) in
    let t = rw (split_as_std sub) at (YieldsList-turn road c.loop-piece.yielded _ c.loop-piece.yielded_by _ _ c.in-Some.piece c.in-Some.is c.next.ensures.steps) in
    rw (length_push c.loop-piece.yielded c.in-Some.piece)
    (walks_on (split sub) c.args.path.now _ c.loop-piece.path c.loop-piece.invariant c.in-Some.piece.now t.0 t.1 c.step.new.path c.step.ensures)

pub returns : goal.returns
returns c =
    let sub = c.args.sub.now in
    let road = YieldsList-from_slice_split _ (λ x. eqb x slash) sub (cc) (cc) (cc) (λ x b q k. search (rules, tests)) in
    let t = rw (split_as_std sub) at (YieldsList-end road c.loop-piece.yielded _ c.loop-piece.yielded_by _ _ c.in-None.is c.next.ensures.steps) in
    walks_end (split sub) c.args.path.now _ c.loop-piece.path c.loop-piece.invariant t.1
