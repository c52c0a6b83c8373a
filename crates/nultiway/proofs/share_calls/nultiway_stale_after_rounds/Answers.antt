-- By the length of the lent buffer.
use mathlib.Core.Path.{refl}
use Rattle.nultiway.proofs.Calls.CallLaws.{tells}
use Rattle.nultiway.proofs.Calls.RoomLaws.{called-short, called-room}
use Rattle.nultiway.proofs.share_calls.nultiway_stale_after_rounds.Goals as goal

pub returns-then-answer-lt1 : goal.returns-then-answer-lt1
returns-then-answer-lt1 c = called-short c.if-answer-lt1.true refl

pub returns : goal.returns
returns c =
    called-room c.if-answer-lt1.false
    (tells refl c.stale_after_rounds.result c.stale_after_rounds.ensures c.put_answer.ensures.value c.put_answer.ensures.to_after)
