-- `nultiway_limiter_new` meets its contract.
use mathlib.Core.Path.{refl}
use borrow.Author.Tests.{le-leb, lt-leb}
use Rattle.questions.proofs.Answers.{first-no}
use Rattle.nultiway.proofs.Calls.CallLaws.{refused-call, passed-call, room-passed, one, tells}
use Rattle.nultiway.proofs.limiter_changes.nultiway_limiter_new.Goals as goal

pub returns-then-limiter-lt-LIMITER_WORDS : goal.returns-then-limiter-lt-LIMITER_WORDS
returns-then-limiter-lt-LIMITER_WORDS c = refused-call _ 1 (first-no 1 _ (lt-leb _ _ c.if-limiter-lt-LIMITER_WORDS.true)) one refl

pub returns : goal.returns
returns c =
    passed-call _ _ (room-passed _ (le-leb _ _ c.if-limiter-lt-LIMITER_WORDS.false))
    (tells refl c.new.result c.new.ensures c.put_answer.ensures.value c.put_answer.ensures.to_after)
