-- By the lengths, then by the answer.
use mathlib.Core.Path.{refl}
use lib.ListN.{length}
use Rattle.questions.proofs.Tests.{told-yes}
use Rattle.nultiway.proofs.Calls.CallLaws.{tells}
use Rattle.nultiway.proofs.Calls.RoomLaws.{both_long}
use Rattle.nultiway.proofs.Calls.RoomLaws.{called-no, called-yes}
use Rattle.nultiway.proofs.hot_calls.nultiway_hot_set_hot_since.Goals as goal

pub returns-then-not-are_long : goal.returns-then-not-are_long
returns-then-not-are_long c = called-no c.are_long.ensures c.if-not-are_long.true refl

pub hot_set_of-set-requires : goal.hot_set_of-set-requires
hot_set_of-set-requires c =
    let a = c.args in
    (both_long 3 (length a.hot_set.now) 2 (length a.answer.now) (told-yes c.are_long.ensures c.if-not-are_long.false)).0

pub put_answer-requires : goal.put_answer-requires
put_answer-requires c = let a = c.args in
    let are-long = c.are_long in
    let if1 = c.if-not-are_long in
    (both_long 3 (length a.hot_set.now) 2 (length a.answer.now) (told-yes are-long.ensures if1.false)).1

pub returns : goal.returns
returns c =
    let are-long = c.are_long in
    let if1 = c.if-not-are_long in
    let hot-set-of = c.hot_set_of-set in
    let hot_since = c.hot_since in
    let put-since = c.put_answer in
    called-yes are-long.ensures if1.false
    (tells hot-set-of.ensures hot_since.result hot_since.ensures put-since.ensures.value put-since.ensures.to_after)
