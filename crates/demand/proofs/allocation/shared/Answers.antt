-- `allocation::shared` meets its contract.
use mathlib.Core.Path.{◌≡◌, ap, sym, ◌∙◌}
use mathlib.Core.Bool.{true, false}
use lib.Ieee.{Float, binary64, of_bits, add, sub, mul, div, lt}
use Rattle.demand.specs.declared.allocation.View.{View}
use Rattle.demand.specs.Estimators.Estimator.{whole}
use Rattle.demand.specs.Allocation.{shared}
use Rattle.demand.proofs.Estimating.Literals.{zero_is, one-is}
use Rattle.demand.proofs.allocation.shared.Goals as goal

by-demand : (v : View) (n : Float) → n ≡ whole v.cluster_size → lt (of_bits binary64 0) (add binary64 v.own v.others) ≡ true
    → add binary64 (div binary64 (mul binary64 v.limit v.floor_factor) n) (mul binary64 (mul binary64 v.limit (sub binary64 (of_bits binary64 0x3ff0_0000_0000_0000) v.floor_factor)) (div binary64 v.own (add binary64 v.own v.others))) ≡ shared v
unfolding shared
by-demand v n e t =
    rw (sym (ap (λ (z : Float). lt z (add binary64 v.own v.others)) zero_is) ∙ t)
    (λ i. add binary64 (div binary64 (mul binary64 v.limit v.floor_factor) (e i)) (mul binary64 (mul binary64 v.limit (sub binary64 (one-is i) v.floor_factor)) (div binary64 v.own (add binary64 v.own v.others))))

even : (v : View) (n : Float) → n ≡ whole v.cluster_size → lt (of_bits binary64 0) (add binary64 v.own v.others) ≡ false → div binary64 v.limit n ≡ shared v
unfolding shared
even v n e t = rw (sym (ap (λ (z : Float). lt z (add binary64 v.own v.others)) zero_is) ∙ t) (ap (div binary64 v.limit) e)

pub returns-then-total : goal.returns-then-total
returns-then-total c = by-demand _ _ c.u64_to_f64-n.ensures c.if-total.true

pub returns-else-total : goal.returns-else-total
returns-else-total c = even _ _ c.u64_to_f64-n.ensures c.if-total.false
