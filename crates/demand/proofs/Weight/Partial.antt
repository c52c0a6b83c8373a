-- The sums of the series of exp(-e / c), from one term to the next.
use mathlib.Core.Path.{◌≡◌, refl, ap, ◌∙◌}
use mathlib.Core.Bool.{Bool, false, not}
use Prim.Native.Nat.{ℕ, zero, suc, ◌+◌, ◌*◌, ◌^◌}
use native.Mathlib.Nat.{add-zero}
use Rattle.demand.specs.Decay.Exponential.{odd, plus, minus}
use Rattle.demand.proofs.Weight.Terms.{double}

pub even : (m : ℕ) → odd (m + m) ≡ false
unfolding odd
even zero = refl
even (suc m) = ap odd (double m) ∙ ap (λ (b : Bool). not (not b)) (even m)

module _ (e c m : ℕ) where
  pub plus-odd : plus e c (suc (m + m)) ≡ plus e c (m + m) * (suc (m + m) * c)
  unfolding plus odd
  plus-odd = rw (even m) (add-zero _)

  pub minus-odd : minus e c (suc (m + m)) ≡ minus e c (m + m) * (suc (m + m) * c) + e ^ suc (m + m)
  unfolding minus odd
  minus-odd = rw (even m)

  pub plus-even : plus e c (suc (suc (m + m))) ≡ plus e c (suc (m + m)) * (suc (suc (m + m)) * c) + e ^ suc (suc (m + m))
  unfolding plus odd
  plus-even = rw (even m)

  pub minus-even : minus e c (suc (suc (m + m))) ≡ minus e c (suc (m + m)) * (suc (suc (m + m)) * c)
  unfolding minus odd
  minus-even = rw (even m) (add-zero _)
