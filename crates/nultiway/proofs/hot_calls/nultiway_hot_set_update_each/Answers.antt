-- By the length of the lent words.
use mathlib.Core.Path.{refl}
use Rattle.nultiway.proofs.Calls.CallLaws.{tells}
use Rattle.nultiway.proofs.Calls.RoomLaws.{called-short, called-room}
use Rattle.nultiway.proofs.hot_calls.nultiway_hot_set_update_each.Goals as goal

pub returns-then-hot_set-lt-HOT_SET_WORDS : goal.returns-then-hot_set-lt-HOT_SET_WORDS
returns-then-hot_set-lt-HOT_SET_WORDS c = called-short c.if-hot_set-lt-HOT_SET_WORDS.true (refl, refl, refl)

pub hot_set_of-set-requires : goal.hot_set_of-set-requires
hot_set_of-set-requires c = c.if-hot_set-lt-HOT_SET_WORDS.false

pub put_answer-requires : goal.put_answer-requires
put_answer-requires c = let if1 = c.if-hot_set-lt-HOT_SET_WORDS in
    if1.false

pub returns : goal.returns
returns c =
    let if1 = c.if-hot_set-lt-HOT_SET_WORDS in
    let hot-set-of = c.hot_set_of-set in
    let update-each = c.update_each-said in
    let put-updated-each = c.put_answer in
    called-room if1.false
    (tells hot-set-of.ensures update-each.result update-each.ensures put-updated-each.ensures.value put-updated-each.ensures.to_after)
