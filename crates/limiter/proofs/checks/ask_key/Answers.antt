-- `ask_key` meets its contract.
use Rattle.questions.proofs.Tests.{told-no, told-yes}
use Rattle.questions.proofs.Answers.{first-no, first-yes, first-none}
use Rattle.limiter.proofs.checks.ask_key.Goals as goal

pub returns-then-not-has_place : goal.returns-then-not-has_place
returns-then-not-has_place c = first-no 8 _ (told-no c.has_place.ensures c.if-not-has_place.true)

pub returns-then-not-has_room : goal.returns-then-not-has_room
returns-then-not-has_room c =
    first-yes 8 _ (told-yes c.has_place.ensures c.if-not-has_place.false) (first-no 9 _ (told-no c.has_room.ensures c.if-not-has_room.true))

pub returns : goal.returns
returns c =
    first-yes 8 _ (told-yes c.has_place.ensures c.if-not-has_place.false)
    (first-yes 9 _ (told-yes c.has_room.ensures c.if-not-has_room.false) first-none)
