-- `demand::folded` meets its contract.
use mathlib.Core.Path.{◌≡◌, ap, ◌∙◌}
use lib.Ieee.{Float}
use Prim.Native.Nat.{ℕ}
use Rattle.demand.specs.Estimators.Estimator.{alpha, folded_by, folded}
use Rattle.demand.proofs.demand.folded.Goals as goal

by-alpha : (rate : Float) (n e c : ℕ) (a x : Float) → a ≡ alpha e c → x ≡ folded_by a rate n e → x ≡ folded rate n e c
unfolding folded
by-alpha rate n e c a x ea k = k ∙ ap (λ (v : Float). folded_by v rate n e) ea

pub returns : goal.returns
returns c = by-alpha _ _ _ _ _ _ c.alpha.ensures c.folded_by.ensures
