use Rattle.std.proofs.Common.{◌∙◌, refl}
use Rattle.limiter.specs.Steps.KeySteps.{units}
use Rattle.limiter.specs.Steps.TickSteps.{folded_row}
use Rattle.limiter.proofs.Walking.FoldLaws.{lent_key, folded-wide, folded-many, folded-at}
use Rattle.limiter.proofs.Walking.RowLaws.{map-none, map-here, map_next}
use Rattle.limiter.proofs.ticks.fold_keys.Goals as goal

pub loop-i-init : goal.loop-i-init
loop-i-init c =
    let a = c.args in
    record {
      folded =
          map-none 22 a.n _ a.keys.now (folded-wide units a.time_constant a.denial_time_constant a.reading a.n a.keys.now)
          (folded-many units a.time_constant a.denial_time_constant a.reading a.n a.keys.now) c.requires.fit;
      demand = c.of.ensures.1;
      denials = c.of-2.ensures.1;
    }

pub fold_key-known-requires : goal.fold_key-known-requires
fold_key-known-requires c = lent_key _ _ _ _ _ _ c.loop-i.invariant.folded c.requires c.loop-i-test.true

pub loop-i-preserved : goal.loop-i-preserved
loop-i-preserved c =
    let a = c.args in
    let i = c.loop-i.i in
    let k = c.loop-i.invariant in
    let next = c.fold_key-known.ensures in
    record {
      folded =
          map_next _ _ _ _ _ _ k.folded c.loop-i-test.true _ _ refl
          (next.r_after
          ∙ (λ m. folded_row units (k.demand m) (k.denials m) a.reading (map-here _ _ _ _ _ _ k.folded c.loop-i-test.true m))
          ∙ folded-at units a.time_constant a.denial_time_constant a.reading a.n a.keys.now i c.loop-i-test.true);
      demand = next.demand_kept ∙ k.demand;
      denials = next.denials_kept ∙ k.denials;
    }
