-- By the lengths, then by the answer.
use mathlib.Core.Path.{refl}
use mathlib.Core.List.{[]}
use lib.ListN.{length}
use Rattle.questions.proofs.Tests.{told-no, told-yes}
use Rattle.questions.proofs.Answers.{first-no}
use Rattle.nultiway.proofs.Calls.CallLaws.{refused-call, passed-call, room-passed, one, tells}
use Rattle.nultiway.proofs.Calls.RoomLaws.{both_long}
use Rattle.nultiway.proofs.peer_calls.nultiway_peers_is_empty.Goals as goal

pub returns-then-not-are_long : goal.returns-then-not-are_long
returns-then-not-are_long c = refused-call _ 1 (first-no 1 [] (told-no c.are_long.ensures c.if-not-are_long.true)) one refl

pub peers_of-p-requires : goal.peers_of-p-requires
peers_of-p-requires c =
    let a = c.args in
    (both_long 3 (length a.peers.now) 1 (length a.answer.now) (told-yes c.are_long.ensures c.if-not-are_long.false)).0

pub put_answer-requires : goal.put_answer-requires
put_answer-requires c = let a = c.args in
    let are-long = c.are_long in
    let if1 = c.if-not-are_long in
    (both_long 3 (length a.peers.now) 1 (length a.answer.now) (told-yes are-long.ensures if1.false)).1

pub returns : goal.returns
returns c =
    let are-long = c.are_long in
    let if1 = c.if-not-are_long in
    let peers-of = c.peers_of-p in
    let is-empty = c.is_empty in
    let put-flag = c.put_answer in
    passed-call _ _ (room-passed _ (told-yes are-long.ensures if1.false))
    (tells peers-of.ensures is-empty.result is-empty.ensures put-flag.ensures.value put-flag.ensures.to_after)
