use Rattle.std.proofs.Common.{◌∙◌, ap, arith}
use borrow.Rule.Slice.PartMut.{put_mid}
use Rattle.gcra.proofs.Packed.Encoding.{units-accepted}
use Rattle.limiter.specs.Steps.KeySteps.{units}
use Rattle.limiter.proofs.PassTwo.QuotaLaws.{burst-small, quotas-valid, next-valid, quota-stored}
use Rattle.limiter.proofs.pass_two.set_quota.Goals as goal

pub overflow_cast-r : goal.overflow_cast-r
overflow_cast-r c = omega (arith, burst-small units units-accepted c.args.r.now c.requires)

pub changed-requires : goal.changed-requires
changed-requires c =
    let a = c.args in
    quotas-valid units units-accepted a.r.now c.requires a.rate a.reading c.quota_for-quota.result c.meter_of_words-meter.result
    c.quota_for-quota.ensures c.meter_of_words-meter.ensures

pub meter_words-requires : goal.meter_words-requires
meter_words-requires c =
    let a = c.args in
    next-valid units units-accepted a.r.now c.requires a.rate a.reading c.quota_for-quota.result c.meter_of_words-meter.result
    c.quota_for-quota.ensures c.meter_of_words-meter.ensures c.changed.result c.changed.ensures

pub returns : goal.returns
returns c =
    let a = c.args in
    ap (put_mid 19 3 a.r.now) c.copy_from_slice.ensures.after
    ∙ quota-stored units units-accepted a.r.now c.requires a.rate a.reading c.quota_for-quota.result c.meter_of_words-meter.result
    c.quota_for-quota.ensures c.meter_of_words-meter.ensures c.changed.result c.changed.ensures
    c.meter_words.result c.meter_words.ensures
