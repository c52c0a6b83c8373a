-- `gcra::debt_slots` meets its contract.
use borrow.Author.Tests.{eq-eqb, ne_eqb}
use Rattle.gcra.specs.Rate.{debt_slots}
use Rattle.gcra.proofs.debt_slots.Goals as goal

pub returns-then-tat-ne18446744073709551615 : goal.returns-then-tat-ne18446744073709551615
unfolding debt_slots
returns-then-tat-ne18446744073709551615 c =
    let s = c.args in
    rw (
      ne_eqb s.tat 18446744073709551615 c.if-tat-ne18446744073709551615.true,
      c.u64_to_f64-debt.ensures,
      c.u64_to_f64.ensures,
      c.saturating_sub.ensures,
    )

pub returns : goal.returns
unfolding debt_slots
returns c =
    let s = c.before.before.before.before.before.before.before.before.before.before in
    let d = c.before.before.before.before.before.before.before.before in
    rw (
      c.max-2.ensures,
      c.max.ensures,
      c.u64_to_f64-new_burst.ensures,
      c.u64_to_f64-old_burst.ensures,
      c.u64_to_f64.ensures,
      d.u64_to_f64-debt.ensures,
      d.saturating_sub.ensures,
      eq-eqb s.args.tat 18446744073709551615 c.if-tat-ne18446744073709551615.false,
    )
