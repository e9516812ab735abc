use Rattle.meeting.proofs.Files.{file_by}
use Rattle.meeting.proofs.is_file_path.Goals as goal

pub returns : goal.returns
returns c t = file_by c.args.s.now c.if-n-lt3.false c.if-s-n-ne-FIRST.false c.if-s-n-ne-MIDDLE.false c.if-s-n-ne-LAST.false (c.has_no_file_above.ensures t)
