-- `decay::decay_weight` meets its contract.
use mathlib.Core.Path.{◌≡◌, ◌∙◌, ap}
use Prim.Native.Nat.{ℕ, ◌*◌, ◌/◌, ◌%◌, ◌≤◌, ◌<◌}
use native.Mathlib.Nat.{mod-lt, pos_of_ne-zero}
use lib.Dec.{lit<}
use borrow.Author.Tests.{eq-eqb, ne_eqb, le-leb, lt-leb}
use Rattle.demand.specs.Decay.Weight.{S, series, power, weight}
use Rattle.demand.proofs.Weight.Division.{scaled-lt}
use Rattle.demand.proofs.decay.decay_weight.Goals as goal

-- the three ways to the result

no-constant : (e c : ℕ) → c ≡ 0 → 0 ≡ weight e c
unfolding weight
no-constant e c z = simp (eq-eqb c 0 z)

late : (e c : ℕ) → (c ≡ 0 → ⊥) → 37 ≤ e / c → 0 ≡ weight e c
unfolding weight
late e c z h = simp (ne_eqb c 0 z, le-leb 37 (e / c) h)

worked-out : (e c y p w d : ℕ) → (c ≡ 0 → ⊥) → e / c < 37 → y ≡ e % c * S / c → p ≡ series y → w ≡ power (e / c) → d ≡ p * w / S → d ≡ weight e c
unfolding weight
worked-out e c y p w d z h ey ep ew ed = simp (ne_eqb c 0 z, lt-leb 37 (e / c) h) (ed ∙ (λ i. (ep ∙ ap series ey) i * ew i / S))

small : (r c y : ℕ) → r < c → y ≡ r * S / c → y < S
small r c y h e = rw e (scaled-lt r S c h (lit< tt))

pub returns-then-time_constant-eq0 : goal.returns-then-time_constant-eq0
returns-then-time_constant-eq0 c = no-constant _ _ c.if-time_constant-eq0.true

pub returns-then-q-ge37 : goal.returns-then-q-ge37
returns-then-q-ge37 c = late _ _ c.if-time_constant-eq0.false c.if-q-ge37.true

pub ratio-y-requires : goal.ratio-y-requires
ratio-y-requires c = mod-lt _ (pos_of_ne-zero c.if-time_constant-eq0.false)

pub series-requires : goal.series-requires
series-requires c = small _ _ _ (mod-lt _ (pos_of_ne-zero c.if-time_constant-eq0.false)) c.ratio-y.ensures

pub returns : goal.returns
returns c =
    let p = c.before in
    let s = p.before in
    let r = s.before in
    worked-out _ _ _ _ _ _ r.if-time_constant-eq0.false r.if-q-ge37.false r.ratio-y.ensures s.series.ensures.0 p.power.ensures.0 c.scaled_product.ensures
