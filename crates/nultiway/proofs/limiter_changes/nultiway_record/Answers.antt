use mathlib.Core.Path.{refl}
use Rattle.nultiway.proofs.Calls.CallLaws.{refused-call, passed-call, opened, changes}
use Rattle.nultiway.proofs.limiter_changes.nultiway_record.Goals as goal

pub returns-then-no-ne0 : goal.returns-then-no-ne0
returns-then-no-ne0 c = refused-call _ _ c.ask_limiter-no.ensures c.if-no-ne0.true (refl, refl)

pub limiter_of-before-requires : goal.limiter_of-before-requires
limiter_of-before-requires c = (opened _ _ _ _ c.ask_limiter-no.ensures c.if-no-ne0.false).long

pub put_limiter-requires : goal.put_limiter-requires
put_limiter-requires c = (opened _ _ _ _ c.ask_limiter-no.ensures c.if-no-ne0.false).long

pub returns : goal.returns
returns c =
    passed-call _ _ (opened _ _ _ _ c.ask_limiter-no.ensures c.if-no-ne0.false).passed
    (changes c.limiter_of-before.ensures c.record-changed.result c.record-changed.ensures
    c.change_number.ensures c.put_limiter.ensures)
