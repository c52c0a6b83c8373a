-- `decay::power` meets its contract.
use mathlib.Core.Path.{◌≡◌, refl, sym, ap, ◌∙◌}
use Prim.Native.Nat.{ℕ, ◌+◌, ◌*◌, ◌/◌, ◌≤◌}
use native.Mathlib.Nat.{le_refl, mul-le-mul, div-le_of_le-mul}
use native.Mathlib.Numerals.{add-one}
use native.Mathlib.Omega.{arith}
use lib.Dec.{lit≤}
use Rattle.demand.specs.Decay.Weight.{S, next, term, sum, series, power}
use Rattle.demand.proofs.decay.power.Goals as goal

-- the constant E1
first-power : series S ≡ 1_656_781_714_176_974
unfolding next term sum series
first-power = refl

start : S ≡ power 0
unfolding power
start = refl

step : (p' p i : ℕ) → p ≡ power i → p' ≡ p * 1_656_781_714_176_974 / S → p' ≡ power (i + 1)
unfolding power
step p' p i e h = rw add-one (h ∙ (λ j. e j * sym first-power j / S))

scaled-le : (p' p : ℕ) → p ≤ S → p' ≡ p * 1_656_781_714_176_974 / S → p' ≤ S
scaled-le p' p h e = rw e (div-le_of_le-mul S (mul-le-mul {m₂ = S} h (lit≤ tt)))

pub loop-init : goal.loop-init
loop-init c = (le_refl S, start)

pub scaled_product-p-requires : goal.scaled_product-p-requires
scaled_product-p-requires c = (c.loop.invariant.0, lit≤ tt)

pub loop-preserved : goal.loop-preserved
loop-preserved c =
    let i = c.loop.invariant in
    (scaled-le _ _ i.0 c.scaled_product-p.ensures, step _ _ _ i.1 c.scaled_product-p.ensures)

pub returns : goal.returns
returns c =
    let i = c.loop.invariant in
    let same : c.loop.counter ≡ c.args.q = omega (arith, c.loop-test.false, c.loop.auto.counter-end) in
    (i.1 ∙ ap power same, i.0)
