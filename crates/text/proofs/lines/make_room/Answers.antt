use Rattle.text.proofs.LineLaws.{moved-roomy}
use Rattle.text.proofs.lines.make_room.Goals as goal

pub returns-then-w-gt0 : goal.returns-then-w-gt0
returns-then-w-gt0 c =
    let a = c.args in
    let e = c.copy_within.ensures in
    moved-roomy a.w a.buf.now c.copy_within.new.self c.if-w-gt0.true c.requires.0 c.requires.1 e.after e.len
