use Rattle.questions.specs.declared.Refusal.TheVariants.{ShortBuffer}
use Rattle.questions.proofs.Tests.{told-no, told-yes}
use Rattle.questions.proofs.RefusalLaws.{handed}
use Rattle.hot.proofs.HotSet.EachLaws.{fit-updates, each-unfit, each-fit, each-asked, each-refused, each-done}
use Rattle.hot.proofs.hot_set.HotSet.update_each.Goals as goal

pub returns-then-not-updates_fit : goal.returns-then-not-updates_fit
returns-then-not-updates_fit c =
    let a = c.args in
    each-refused a.self a.hot.now a.keys.now a.w a.n a.demands.now a.thresholds.now a.elsewhere.now a.now a.out.now ShortBuffer
    (each-unfit a.self a.hot.now a.keys.now a.w a.n a.demands.now a.thresholds.now a.elsewhere.now a.now a.out.now (told-no c.updates_fit.ensures c.if-not-updates_fit.true))

pub ask_each-requires : goal.ask_each-requires
ask_each-requires c =
    (fit-updates _ _ _ _ _ _ (told-yes c.updates_fit.ensures c.if-not-updates_fit.false)).demands_fit

pub returns-in_err-ask_each : goal.returns-in_err-ask_each
returns-in_err-ask_each c =
    let a = c.args in
    let e = handed c.in_err-ask_each.field-0.0 c.from_residual.result c.from_residual.ensures.1 in
    rw e
    (each-refused a.self a.hot.now a.keys.now a.w a.n a.demands.now a.thresholds.now a.elsewhere.now a.now a.out.now _
    (each-fit a.self a.hot.now a.keys.now a.w a.n a.demands.now a.thresholds.now a.elsewhere.now a.now a.out.now (told-yes c.updates_fit.ensures c.if-not-updates_fit.false) _ c.in_err-ask_each.ensures))

pub update_all-requires : goal.update_all-requires
update_all-requires c =
    let a = c.args in
    each-asked a.self a.hot.now a.keys.now a.w a.n a.demands.now a.thresholds.now a.elsewhere.now a.now a.out.now
    (each-fit a.self a.hot.now a.keys.now a.w a.n a.demands.now a.thresholds.now a.elsewhere.now a.now a.out.now (told-yes c.updates_fit.ensures c.if-not-updates_fit.false) _ c.in_ok-ask_each.ensures)

pub returns : goal.returns
returns c =
    let a = c.args in
    each-done a.self a.hot.now a.keys.now a.w a.n a.demands.now a.thresholds.now a.elsewhere.now a.now a.out.now
    (each-fit a.self a.hot.now a.keys.now a.w a.n a.demands.now a.thresholds.now a.elsewhere.now a.now a.out.now (told-yes c.updates_fit.ensures c.if-not-updates_fit.false) _ c.in_ok-ask_each.ensures)
    _ _ _ c.update_all.ensures
