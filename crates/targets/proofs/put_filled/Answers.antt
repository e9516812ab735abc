use Rattle.std.proofs.Common.{arith}
use Rattle.targets.proofs.Lays.{filled_none, star_within, filled_size, fill_size, fill_head, fill_part, fill_tail, fill_done}
use Rattle.targets.proofs.put_filled.Goals as goal

pub put_path-requires : goal.put_path-requires
put_path-requires c = rw (← filled_none c.args.part.now c.args.t.now _ c.find_star.ensures c.in_default.is) c.requires

pub returns-in_default : goal.returns-in_default
returns-in_default c = rw (filled_none c.args.part.now c.args.t.now _ c.find_star.ensures c.in_default.is) c.put_path.ensures

pub overflow_add-star : goal.overflow_add-star
overflow_add-star c = omega (arith, star_within c.args.part.now c.args.t.now _ c.find_star.ensures _ c.in-Some.is)

pub put_size-requires : goal.put_size-requires
put_size-requires c =
    let a = c.args in
    record {
      room = fill_size a.part.now a.t.now _ c.find_star.ensures _ c.in-Some.is _ _ c.upto-head.ensures c.from-tail.ensures a.out.now c.requires.room;
      short = omega (arith, c.requires.short, filled_size a.part.now a.t.now _ c.find_star.ensures _ c.in-Some.is _ _ c.upto-head.ensures c.from-tail.ensures);
    }

pub put_text-requires : goal.put_text-requires
put_text-requires c = let a = c.args in fill_head a.part.now a.t.now _ c.find_star.ensures _ c.in-Some.is _ _ c.upto-head.ensures c.from-tail.ensures a.out.now c.requires.room _ c.put_size.ensures

pub put_text-requires-2 : goal.put_text-requires-2
put_text-requires-2 c = let a = c.args in fill_part a.part.now a.t.now _ c.find_star.ensures _ c.in-Some.is _ _ c.upto-head.ensures c.from-tail.ensures a.out.now c.requires.room _ c.put_size.ensures _ c.put_text.ensures

pub put_text-requires-3 : goal.put_text-requires-3
put_text-requires-3 c = let a = c.args in fill_tail a.part.now a.t.now _ c.find_star.ensures _ c.in-Some.is _ _ c.upto-head.ensures c.from-tail.ensures a.out.now c.requires.room _ c.put_size.ensures _ c.put_text.ensures _ c.put_text-2.ensures

pub returns : goal.returns
returns c = let a = c.args in fill_done a.part.now a.t.now _ c.find_star.ensures _ c.in-Some.is _ _ c.upto-head.ensures c.from-tail.ensures a.out.now c.requires.room _ c.put_size.ensures _ c.put_text.ensures _ c.put_text-2.ensures _ c.put_text-3.ensures
