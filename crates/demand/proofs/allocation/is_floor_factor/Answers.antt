-- `allocation::is_floor_factor` meets its contract.
use mathlib.Core.Path.{◌≡◌, ap, sym, ◌∙◌}
use mathlib.Core.Bool.{true, false}
use lib.Ieee.{Float, binary64, of_bits, le}
use Rattle.demand.specs.Allocation.{is_floor_factor}
use Rattle.demand.proofs.Estimating.Literals.{zero_is, one-is}
use Rattle.demand.proofs.allocation.is_floor_factor.Goals as goal

at_least : (x : Float) → le (of_bits binary64 0) x ≡ true → le x (of_bits binary64 0x3ff0_0000_0000_0000) ≡ is_floor_factor x
unfolding is_floor_factor
at_least x t = rw (sym (ap (λ (z : Float). le z x) zero_is) ∙ t) (ap (le x) one-is)

not_least : (x : Float) → le (of_bits binary64 0) x ≡ false → false ≡ is_floor_factor x
unfolding is_floor_factor
not_least x t = rw (sym (ap (λ (z : Float). le z x) zero_is) ∙ t)

pub returns-then-x : goal.returns-then-x
returns-then-x c = at_least _ c.if-x.true

pub returns-else-x : goal.returns-else-x
returns-else-x c = c.if-x.false ∙ not_least _ c.if-x.false
