use Rattle.text.proofs.Parts.{from_some}
use Rattle.strings.proofs.Blocks.{tame_block}
use Rattle.strings.proofs.seen_in_block.Goals as goal

pub returns : goal.returns
returns c =
    let s = c.args.s.now in
    rw (c.seen_in_both.ensures, c.seen_in_both-a.ensures, c.seen_in_both-b.ensures, c.seen_in.ensures, c.seen_in-2.ensures, c.seen_in-3.ensures, c.seen_in-4.ensures)
    (tame_block s _ _ _ (from_some s 16) (from_some s 32) (from_some s 48))
