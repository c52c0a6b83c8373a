-- `decay::series` meets its contract.
use native.Mathlib.Omega.{arith}
use Rattle.demand.proofs.Weight.Terms.{start, step, settled, whole_sum}
use Rattle.demand.proofs.decay.series.Goals as goal

pub loop-j-init : goal.loop-j-init
loop-j-init c = (omega arith, omega arith, start _)

pub returns-then-term-eq0 : goal.returns-then-term-eq0
returns-then-term-eq0 c =
    let i = c.loop-j.invariant in
    (settled _ _ _ _ c.loop-j.auto.j-end i.2 c.if-term-eq0.true, i.1)

pub next_term-odd-requires : goal.next_term-odd-requires
next_term-odd-requires c = let i = c.loop-j.invariant in (omega arith, omega (arith, i.0, i.1), c.requires)

pub next_term-term-requires : goal.next_term-term-requires
next_term-term-requires c =
    let i = c.loop-j.invariant in
    (omega arith, omega (arith, i.0, i.1, c.next_term-odd.ensures.1), c.requires)

pub overflow_sub-sum : goal.overflow_sub-sum
overflow_sub-sum c = omega (arith, c.loop-j.invariant.0, c.next_term-odd.ensures.1)

pub loop-j-preserved : goal.loop-j-preserved
loop-j-preserved c =
    let i = c.loop-j.invariant in
    let odd = c.next_term-odd.ensures in
    let even = c.next_term-term.ensures in
    (omega (arith, i.0, odd.1, even.1), omega (arith, i.0, i.1, odd.1, even.1), step _ _ _ _ _ _ i.2 odd.0 even.0)

pub returns : goal.returns
returns c =
    let i = c.loop-j.invariant in
    (whole_sum _ _ _ _ c.loop-j.auto.j-end c.loop-j-test.false i.2, i.1)
