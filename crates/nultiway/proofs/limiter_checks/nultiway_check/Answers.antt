use mathlib.Core.Path.{refl}
use borrow.Author.Tests.{leb-true}
use Rattle.nultiway.proofs.Calls.CallLaws.{refused-call, passed-call, opened, answers}
use Rattle.nultiway.proofs.limiter_checks.nultiway_check.Goals as goal

pub returns-then-no-ne0 : goal.returns-then-no-ne0
returns-then-no-ne0 c = refused-call _ _ c.ask_limiter-no.ensures c.if-no-ne0.true (refl, refl, refl)

pub limiter_of-before-requires : goal.limiter_of-before-requires
limiter_of-before-requires c = (opened _ _ _ _ c.ask_limiter-no.ensures c.if-no-ne0.false).long

pub put_limiter-requires : goal.put_limiter-requires
put_limiter-requires c = (opened _ _ _ _ c.ask_limiter-no.ensures c.if-no-ne0.false).long

pub put_answer-requires : goal.put_answer-requires
put_answer-requires c = leb-true _ _ (opened _ _ _ _ c.ask_limiter-no.ensures c.if-no-ne0.false).others

pub returns : goal.returns
returns c =
    passed-call _ _ (opened _ _ _ _ c.ask_limiter-no.ensures c.if-no-ne0.false).passed
    (answers c.limiter_of-before.ensures c.check-checked.result c.check-checked.ensures
    c.put_answer.ensures.value c.put_limiter.ensures c.put_answer.ensures.to_after)
