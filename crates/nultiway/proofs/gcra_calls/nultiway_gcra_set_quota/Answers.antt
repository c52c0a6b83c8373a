-- By the words, then by the answer.
use mathlib.Core.Path.{refl}
use mathlib.Core.Bool.{true}
use Rattle.nultiway.proofs.Calls.CallLaws.{refused-call, passed-call, changes}
use Rattle.nultiway.proofs.Words.GcraWordLaws.{gcra-passed}
use Rattle.nultiway.proofs.gcra_calls.nultiway_gcra_set_quota.Goals as goal

pub returns-then-no-ne0 : goal.returns-then-no-ne0
returns-then-no-ne0 c = refused-call _ _ c.ask_gcra-no.ensures c.if-no-ne0.true refl

pub gcra_of-meter-requires : goal.gcra_of-meter-requires
gcra_of-meter-requires c = let p = (let a = c.args in gcra-passed a.gcra.now true c.ask_gcra-no.ensures c.if-no-ne0.false) in (p.long, p.gcra)

pub put_gcra-requires : goal.put_gcra-requires
put_gcra-requires c = (let a = c.args in gcra-passed a.gcra.now true c.ask_gcra-no.ensures c.if-no-ne0.false).long

pub returns : goal.returns
returns c =
    let gcra-of = c.gcra_of-meter in
    let set-quota = c.set_quota-set in
    let put-gcra = c.put_gcra in
    passed-call _ _ (let a = c.args in gcra-passed a.gcra.now true c.ask_gcra-no.ensures c.if-no-ne0.false).all
    (changes gcra-of.ensures set-quota.result set-quota.ensures c.change_number.ensures put-gcra.ensures)
