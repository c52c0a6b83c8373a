-- By the words, then by the answer.
use mathlib.Core.Path.{refl}
use lib.Dec.{leb}
use lib.ListN.{length}
use Rattle.nultiway.proofs.Calls.CallLaws.{refused-call, passed-call, tells}
use Rattle.nultiway.proofs.Words.GcraWordLaws.{gcra-passed, room_fits}
use Rattle.nultiway.proofs.gcra_calls.nultiway_gcra_has_debt.Goals as goal

pub returns-then-no-ne0 : goal.returns-then-no-ne0
returns-then-no-ne0 c = refused-call _ _ c.ask_gcra-no.ensures c.if-no-ne0.true refl

pub gcra_of-meter-requires : goal.gcra_of-meter-requires
gcra_of-meter-requires c = let p = (let a = c.args in gcra-passed a.gcra.now (leb 1 (length a.answer.now)) c.ask_gcra-no.ensures c.if-no-ne0.false) in (p.long, p.gcra)

pub put_answer-requires : goal.put_answer-requires
put_answer-requires c = room_fits _ _ (let a = c.args in gcra-passed a.gcra.now (leb 1 (length a.answer.now)) c.ask_gcra-no.ensures c.if-no-ne0.false).fits

pub returns : goal.returns
returns c =
    let gcra-of = c.gcra_of-meter in
    let has-debt = c.has_debt in
    let put-debt = c.put_answer in
    passed-call _ _ (let a = c.args in gcra-passed a.gcra.now (leb 1 (length a.answer.now)) c.ask_gcra-no.ensures c.if-no-ne0.false).all
    (tells gcra-of.ensures has-debt.result has-debt.ensures put-debt.ensures.value put-debt.ensures.to_after)
