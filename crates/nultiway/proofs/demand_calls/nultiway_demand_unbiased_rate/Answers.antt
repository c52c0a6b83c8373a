-- By the words, then by the answer.
use mathlib.Core.Path.{refl}
use lib.Dec.{leb}
use lib.ListN.{length}
use borrow.Author.Tests.{leb-true}
use Rattle.nultiway.proofs.Calls.CallLaws.{refused-call, passed-call, tells}
use Rattle.nultiway.proofs.Words.DemandWordLaws.{demand-passed}
use Rattle.nultiway.proofs.demand_calls.nultiway_demand_unbiased_rate.Goals as goal

pub returns-then-no-ne0 : goal.returns-then-no-ne0
returns-then-no-ne0 c = refused-call _ _ c.ask_demand-no.ensures c.if-no-ne0.true refl

pub demand_of-read-requires : goal.demand_of-read-requires
demand_of-read-requires c = (let a = c.args in demand-passed a.demand.now (leb 1 (length a.answer.now)) c.ask_demand-no.ensures c.if-no-ne0.false).long

pub put_answer-requires : goal.put_answer-requires
put_answer-requires c = leb-true _ _ (let a = c.args in demand-passed a.demand.now (leb 1 (length a.answer.now)) c.ask_demand-no.ensures c.if-no-ne0.false).fits

pub returns : goal.returns
returns c =
    passed-call _ _ (let a = c.args in demand-passed a.demand.now (leb 1 (length a.answer.now)) c.ask_demand-no.ensures c.if-no-ne0.false).all
    (tells c.demand_of-read.ensures c.unbiased_rate.result c.unbiased_rate.ensures c.put_answer.ensures.value c.put_answer.ensures.to_after)
