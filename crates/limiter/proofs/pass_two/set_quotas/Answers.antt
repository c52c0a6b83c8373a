use Rattle.std.proofs.Common.{◌∙◌, refl, ap, false, ℕ, List, get_or}
use Rattle.hot.specs.HotSet.Set.{entries}
use Rattle.limiter.specs.State.{key_of}
use Rattle.limiter.specs.Steps.KeySteps.{units}
use Rattle.limiter.specs.Steps.PassTwoSteps.{rate_by, quota_row}
use Rattle.limiter.proofs.Walking.FoldLaws.{lent_key}
use Rattle.limiter.proofs.Walking.RowLaws.{map-none, map-here, map_next}
use Rattle.limiter.proofs.PassTwo.QuotaLaws.{rows-wide, rows-many, row_at}
use Rattle.limiter.proofs.pass_two.set_quotas.Goals as goal

pub loop-i-init : goal.loop-i-init
loop-i-init c =
    let a = c.args in
    let es = entries a.h a.hot.now in
    map-none 22 a.n _ a.keys.now (rows-wide units a.terms es a.totals.now a.reading a.n a.keys.now a.elsewhere.now c.requires.2)
    (rows-many units a.terms es a.totals.now a.reading a.n a.keys.now a.elsewhere.now c.requires.2) c.requires.0.fit

pub set_key_quota-requires : goal.set_key_quota-requires
set_key_quota-requires c =
    (lent_key _ _ _ _ _ _ c.loop-i.invariant c.requires.0 c.loop-i-test.true, c.requires.1, c.requires.3, c.requires.4)

pub loop-i-preserved : goal.loop-i-preserved
loop-i-preserved c =
    let a = c.args in
    let l = c.loop-i in
    let h = c.loop-i-test.true in
    let es = entries a.h a.hot.now in
    map_next _ _ _ _ _ _ l.invariant h _ _ refl
    (c.set_key_quota.ensures
    ∙ ap (λ (r : List ℕ). quota_row units a.reading (rate_by a.terms es a.totals.now (get_or a.elsewhere.now l.i false) (key_of units r)) r)
    (map-here _ _ _ _ _ _ l.invariant h)
    ∙ row_at units a.terms es a.totals.now a.reading a.n a.keys.now a.elsewhere.now c.requires.2 l.i h)
