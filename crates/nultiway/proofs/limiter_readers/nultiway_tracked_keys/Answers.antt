use mathlib.Core.Path.{refl}
use borrow.Author.Tests.{leb-true}
use Rattle.nultiway.proofs.Calls.CallLaws.{refused-call, passed-call, opened, tells}
use Rattle.nultiway.proofs.limiter_readers.nultiway_tracked_keys.Goals as goal

pub returns-then-no-ne0 : goal.returns-then-no-ne0
returns-then-no-ne0 c = refused-call _ _ c.ask_limiter-no.ensures c.if-no-ne0.true refl

pub limiter_of-limiter-requires : goal.limiter_of-limiter-requires
limiter_of-limiter-requires c = (opened _ _ _ _ c.ask_limiter-no.ensures c.if-no-ne0.false).long

pub put_answer-requires : goal.put_answer-requires
put_answer-requires c = leb-true _ _ (opened _ _ _ _ c.ask_limiter-no.ensures c.if-no-ne0.false).others

pub returns : goal.returns
returns c =
    passed-call _ _ (opened _ _ _ _ c.ask_limiter-no.ensures c.if-no-ne0.false).passed
    (tells c.limiter_of-limiter.ensures c.tracked_keys.result c.tracked_keys.ensures
    c.put_answer.ensures.value c.put_answer.ensures.to_after)
