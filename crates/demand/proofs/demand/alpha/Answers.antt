-- `demand::alpha` meets its contract.
use mathlib.Core.Path.{◌≡◌, ap, sym, ◌∙◌, subst}
use mathlib.Core.Bool.{false}
use lib.Ieee.{Float, binary64, of_bits, div, round}
use Prim.Native.Nat.{ℕ, ◌-◌, ◌≤◌}
use native.Mathlib.Nat.{sub-le}
use Rattle.demand.specs.Decay.Weight.{S, weight}
use Rattle.demand.specs.Estimators.Estimator.{whole, alpha}
use Rattle.demand.proofs.Estimating.Literals.{parts_is}
use Rattle.demand.proofs.Estimating.Alpha.{weight-le, parts-over}
use Rattle.demand.proofs.demand.alpha.Goals as goal

divided : (e c d : ℕ) (x : Float) → d ≡ weight e c → x ≡ whole (S - d) → div binary64 x (of_bits binary64 0x4330_0000_0000_0000) ≡ alpha e c
unfolding alpha
divided e c d x is h =
    (λ i. div binary64 (h i) (parts_is i)) ∙ parts-over (S - d) (sub-le S d) ∙ ap (λ (n : ℕ). round binary64 false (S - n) S) is

pub overflow_sub-parts : goal.overflow_sub-parts
overflow_sub-parts c = subst (λ (d : ℕ). d ≤ S) (sym c.decay_weight-parts.ensures) (weight-le _ _)

pub returns : goal.returns
returns c = divided _ _ _ _ c.decay_weight-parts.ensures c.u64_to_f64.ensures
