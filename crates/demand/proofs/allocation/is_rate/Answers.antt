-- `allocation::is_rate` meets its contract.
use mathlib.Core.Path.{◌≡◌, ap, sym, ◌∙◌}
use mathlib.Core.Bool.{Bool, true, false}
use lib.Ieee.{Float, binary64, of_bits, lt}
use lib.Ieee.Scale.{finite}
use Rattle.demand.specs.Allocation.{is_rate}
use Rattle.demand.proofs.Estimating.Literals.{zero_is}
use Rattle.demand.proofs.allocation.is_rate.Goals as goal

above : (x : Float) (b : Bool) → lt (of_bits binary64 0) x ≡ true → b ≡ finite x → b ≡ is_rate x
unfolding is_rate
above x b t e = rw (sym (ap (λ (z : Float). lt z x) zero_is) ∙ t) e

not_above : (x : Float) → lt (of_bits binary64 0) x ≡ false → false ≡ is_rate x
unfolding is_rate
not_above x t = rw (sym (ap (λ (z : Float). lt z x) zero_is) ∙ t)

pub returns-then-x : goal.returns-then-x
returns-then-x c = above _ _ c.if-x.true c.is_finite.ensures

pub returns-else-x : goal.returns-else-x
returns-else-x c = c.if-x.false ∙ not_above _ c.if-x.false
