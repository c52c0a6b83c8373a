-- By the length of the lent buffer.
use mathlib.Core.Path.{refl}
use Rattle.nultiway.proofs.Calls.CallLaws.{tells}
use Rattle.nultiway.proofs.Calls.RoomLaws.{called-short, called-room}
use Rattle.nultiway.proofs.lone_calls.nultiway_quota_new.Goals as goal

pub returns-then-answer-lt-QUOTA_WORDS : goal.returns-then-answer-lt-QUOTA_WORDS
returns-then-answer-lt-QUOTA_WORDS c = called-short c.if-answer-lt-QUOTA_WORDS.true refl

pub returns : goal.returns
returns c =
    called-room c.if-answer-lt-QUOTA_WORDS.false
    (tells refl c.new.result c.new.ensures c.put_answer.ensures.value c.put_answer.ensures.to_after)
