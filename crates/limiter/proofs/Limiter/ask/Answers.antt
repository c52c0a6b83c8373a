-- `Limiter::ask` meets its contract.
use Rattle.questions.proofs.Tests.{told-no, told-yes}
use Rattle.questions.proofs.Answers.{first-no, first-yes, first-none}
use Rattle.limiter.proofs.Limiter.ask.Goals as goal

pub returns-then-not-has_room : goal.returns-then-not-has_room
returns-then-not-has_room c = first-no 1 _ (told-no c.has_room.ensures c.if-not-has_room.true)

pub returns-then-not-is_valid : goal.returns-then-not-is_valid
returns-then-not-is_valid c =
    first-yes 1 _ (told-yes c.has_room.ensures c.if-not-has_room.false) (first-no 2 _ (told-no c.is_valid.ensures c.if-not-is_valid.true))

pub returns : goal.returns
returns c =
    first-yes 1 _ (told-yes c.has_room.ensures c.if-not-has_room.false)
    (first-yes 2 _ (told-yes c.is_valid.ensures c.if-not-is_valid.false) first-none)
