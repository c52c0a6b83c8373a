-- `decay::next_term` meets its contract: dividing by S and then by k is dividing by k * S.
use mathlib.Core.Path.{◌≡◌, ◌∙◌, ap, subst, sym}
use Prim.Native.Nat.{ℕ, ◌*◌, ◌/◌, ◌≤◌}
use native.Mathlib.Nat.{mul_comm, div-div-eq-div-mul, le_of_lt}
use Rattle.demand.specs.Decay.Weight.{S, next}
use Rattle.demand.proofs.Weight.Terms.{next_le}
use Rattle.demand.proofs.decay.next_term.Goals as goal

is-next : (k t y m : ℕ) → m ≡ t * y / S → m / k ≡ next k t y
unfolding next
is-next k t y m e = ap (λ (n : ℕ). n / k) e ∙ div-div-eq-div-mul (t * y) S k ∙ ap (λ (n : ℕ). t * y / n) (mul_comm S k)

pub returns : goal.returns
returns c =
    let s = c.before in
    let a = s.args in
    let e = is-next a.k a.t a.y _ c.scaled_product.ensures in
    (e, subst (λ (n : ℕ). n ≤ a.t) (sym e) (next_le a.k a.t a.y (le_of_lt s.requires.2) s.requires.0))
