-- Each test is one of the definition's.
use borrow.Author.Tests.{le-leb, lt-leb}
use mathlib.Core.Bool.{and-false}
use Rattle.gcra.specs.Packed.{valid_quota, max_interval}
use Rattle.questions.proofs.Tests.{told-no, told-yes}
use Rattle.gcra.proofs.Quota.is_valid.Goals as goal
use Rattle.gcra.proofs.Quota.is_valid.Goals.{then-self-lt1-via-then-self-lt1, then-self-lt1-via-else-self-lt1+then-max_interval-self}

pub returns-then-self-lt1 : goal.returns-then-self-lt1
unfolding valid_quota
returns-then-self-lt1 c =
    let q = c.args.self in
    elim c.then-self-lt1.branch [
      | then-self-lt1-via-then-self-lt1 w ↦ rw (lt-leb 1 q.interval w.if-self-lt1.true)
      | then-self-lt1-via-else-self-lt1+then-max_interval-self w ↦ rw (
        le-leb 1 q.interval w.if-self-lt1.false,
        lt-leb q.interval (max_interval c.args.units) (rw w.max_interval.ensures at w.if-max_interval-self.true),
      )
    ]

pub returns-then-burst_fits : goal.returns-then-burst_fits
unfolding valid_quota
returns-then-burst_fits c =
    let s = c.args in
    rw (
      le-leb 1 s.self.interval c.if-self-lt1.false,
      le-leb s.self.interval (max_interval s.units) (rw c.max_interval.ensures at c.if-max_interval-self.false),
      told-yes c.burst_fits.ensures c.if-burst_fits.true,
      c.rounded.ensures,
    )

pub returns-else-burst_fits : goal.returns-else-burst_fits
unfolding valid_quota
returns-else-burst_fits c = rw (c.if-burst_fits.false, told-no c.burst_fits.ensures c.if-burst_fits.false, and-false)
