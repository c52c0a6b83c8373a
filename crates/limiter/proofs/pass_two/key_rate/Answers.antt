use Rattle.std.proofs.Common.{◌∙◌, sym, ap, arith}
use Rattle.demand.specs.Allocation.{is_rate}
use Rattle.gcra.proofs.Packed.Encoding.{units-accepted}
use Rattle.hot.proofs.HotSet.Words.{length-entries}
use Rattle.hot.proofs.HotSet.Table.{at-within}
use Rattle.limiter.specs.Steps.KeySteps.{units}
use Rattle.limiter.proofs.PassTwo.QuotaLaws.{limit-passes}
use Rattle.limiter.proofs.PassTwo.RateLaws.{rate-found, rate-absent}
use Rattle.limiter.proofs.pass_two.key_rate.Goals as goal

pub offset_bounds-totals-place : goal.offset_bounds-totals-place
offset_bounds-totals-place c = omega (arith, at-within c.args.h c.args.hot.now c.requires.1 _ _ (sym c.in-At.is ∙ c.find.ensures))

pub bounds-totals-place : goal.bounds-totals-place
bounds-totals-place c = omega (arith, at-within c.args.h c.args.hot.now c.requires.1 _ _ (sym c.in-At.is ∙ c.find.ensures))

pub hot_rate-requires : goal.hot_rate-requires
hot_rate-requires c = (ap is_rate c.from_bits-limit.ensures ∙ limit-passes units units-accepted c.args.r.now c.requires.0, c.requires.3)

pub returns-in-At : goal.returns-in-At
returns-in-At c =
    let a = c.args in
    rate-found units a.terms a.r.now a.h a.hot.now c.requires.1 a.totals.now a.elsewhere _ _
    c.from_bits-limit.result c.from_bits.result c.hot_rate.result
    (omega (arith, length-entries a.h a.hot.now)) (sym c.in-At.is ∙ c.find.ensures) c.from_bits-limit.ensures c.from_bits.ensures c.hot_rate.ensures

pub returns-in_default : goal.returns-in_default
returns-in_default c =
    let a = c.args in
    rate-absent units a.terms a.r.now a.h a.hot.now c.requires.1 a.totals.now a.elsewhere c.find.result
    c.from_bits-limit.result c.cold_rate.result
    c.in_default.not-At c.find.ensures c.from_bits-limit.ensures c.cold_rate.ensures
