-- By the lengths, then by the answer.
use mathlib.Core.Path.{refl}
use mathlib.Core.List.{[]}
use lib.ListN.{length}
use Rattle.questions.proofs.Tests.{told-no, told-yes}
use Rattle.questions.proofs.Answers.{first-no}
use Rattle.nultiway.proofs.Calls.CallLaws.{refused-call, passed-call, room-passed, one}
use Rattle.nultiway.proofs.Calls.RoomLaws.{both_long}
use Rattle.nultiway.proofs.image_calls.nultiway_load.Goals as goal

pub returns-then-not-are_long : goal.returns-then-not-are_long
returns-then-not-are_long c = refused-call _ 1 (first-no 1 [] (told-no c.are_long.ensures c.if-not-are_long.true)) one (refl, refl, refl, refl)

pub put_loaded-requires : goal.put_loaded-requires
put_loaded-requires c =
    let a = c.args in
    let are-long = c.are_long in
    let if1 = c.if-not-are_long in
    both_long 16 (length a.limiter.now) 3 (length a.peers.now) (told-yes are-long.ensures if1.false)

pub returns : goal.returns
returns c =
    let are-long = c.are_long in
    let if1 = c.if-not-are_long in
    let load = c.load-said in
    let put-loaded = c.put_loaded in
    passed-call _ _ (room-passed _ (told-yes are-long.ensures if1.false))
    record {
      result = load.result;
      kept = load.ensures;
      put = put-loaded.ensures;
    }
