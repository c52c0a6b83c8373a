-- By the lengths, then by the answer.
use mathlib.Core.Path.{refl}
use lib.ListN.{length}
use Rattle.questions.proofs.Tests.{told-yes}
use Rattle.nultiway.proofs.Calls.CallLaws.{answers}
use Rattle.nultiway.proofs.Calls.RoomLaws.{both_long}
use Rattle.nultiway.proofs.Calls.HotCallLaws.{left-put}
use Rattle.nultiway.proofs.Calls.RoomLaws.{called-no, called-yes}
use Rattle.nultiway.proofs.hot_calls.nultiway_hot_set_update.Goals as goal

pub returns-then-not-are_long : goal.returns-then-not-are_long
returns-then-not-are_long c = called-no c.are_long.ensures c.if-not-are_long.true (refl, refl, refl)

pub hot_set_of-set-requires : goal.hot_set_of-set-requires
hot_set_of-set-requires c = (let a = c.args in both_long 3 (length a.hot_set.now) 1 (length a.answer.now) (told-yes c.are_long.ensures c.if-not-are_long.false)).0

pub put_hot_set-requires : goal.put_hot_set-requires
put_hot_set-requires c = (let a = c.args in both_long 3 (length a.hot_set.now) 1 (length a.answer.now) (told-yes c.are_long.ensures c.if-not-are_long.false)).0

pub put_answer-requires : goal.put_answer-requires
put_answer-requires c = (let a = c.args in both_long 3 (length a.hot_set.now) 1 (length a.answer.now) (told-yes c.are_long.ensures c.if-not-are_long.false)).1

pub returns : goal.returns
returns c =
    let a = c.args in
    let are-long = c.are_long in
    let if1 = c.if-not-are_long in
    let hot-set-of = c.hot_set_of-set in
    let update = c.update-said in
    let hot-set-left = c.hot_set_left in
    let put-hot-set = c.put_hot_set in
    let put-updated = c.put_answer in
    called-yes are-long.ensures if1.false
    (answers hot-set-of.ensures update.result update.ensures put-updated.ensures.value
    (left-put a.hot_set.now update.result hot-set-of.ensures hot-set-left.ensures put-hot-set.ensures) put-updated.ensures.to_after)
