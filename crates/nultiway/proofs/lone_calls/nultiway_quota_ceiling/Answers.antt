-- By the length of the lent buffer.
use mathlib.Core.Path.{refl}
use Rattle.nultiway.proofs.Calls.CallLaws.{tells}
use Rattle.nultiway.proofs.Calls.RoomLaws.{called-short, called-room}
use Rattle.nultiway.proofs.lone_calls.nultiway_quota_ceiling.Goals as goal

pub returns-then-answer-lt1 : goal.returns-then-answer-lt1
returns-then-answer-lt1 c = called-short c.if-answer-lt1.true refl

pub returns : goal.returns
returns c =
    called-room c.if-answer-lt1.false
    (tells refl c.ceiling.result c.ceiling.ensures c.put_answer.ensures.value c.put_answer.ensures.to_after)
