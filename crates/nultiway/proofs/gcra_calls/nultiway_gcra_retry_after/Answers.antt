-- By the words, then by the answer.
use mathlib.Core.Path.{refl}
use lib.Dec.{leb}
use lib.ListN.{length}
use Rattle.nultiway.proofs.Calls.CallLaws.{refused-call, passed-call, tells}
use Rattle.nultiway.proofs.Words.GcraWordLaws.{gcra-passed, room_fits}
use Rattle.nultiway.proofs.gcra_calls.nultiway_gcra_retry_after.Goals as goal

pub returns-then-no-ne0 : goal.returns-then-no-ne0
returns-then-no-ne0 c = refused-call _ _ c.ask_gcra-no.ensures c.if-no-ne0.true refl

pub gcra_of-meter-requires : goal.gcra_of-meter-requires
gcra_of-meter-requires c = let p = (let a = c.args in gcra-passed a.gcra.now (leb 2 (length a.answer.now)) c.ask_gcra-no.ensures c.if-no-ne0.false) in (p.long, p.gcra)

pub put_answer-requires : goal.put_answer-requires
put_answer-requires c = room_fits _ _ (let a = c.args in gcra-passed a.gcra.now (leb 2 (length a.answer.now)) c.ask_gcra-no.ensures c.if-no-ne0.false).fits

pub returns : goal.returns
returns c =
    let gcra-of = c.gcra_of-meter in
    let retry-after = c.retry_after in
    let put-retry = c.put_answer in
    passed-call _ _ (let a = c.args in gcra-passed a.gcra.now (leb 2 (length a.answer.now)) c.ask_gcra-no.ensures c.if-no-ne0.false).all
    (tells gcra-of.ensures retry-after.result retry-after.ensures put-retry.ensures.value put-retry.ensures.to_after)
