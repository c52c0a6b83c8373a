-- `gcra::Quota::quotient_nanos` meets its contract: each way out is how the tests of the quotient came out.
use mathlib.Core.Bool.{true, false}
use mathlib.Core.Path.{◌≡◌}
use borrow.Author.Rules.{rules}
use Rattle.questions.proofs.Tests.{told-no, told-yes}
use Rattle.gcra.proofs.Rate.Rates.{zero_is, one-is, not_finite, from_one, above_zero, not_above}
use Rattle.gcra.proofs.Quota.quotient_nanos.Goals as goal

pub returns-then-not-is_finite : goal.returns-then-not-is_finite
returns-then-not-is_finite c = not_finite _ _ (told-no c.is_finite.ensures c.if-not-is_finite.true)

pub returns-then-quotient : goal.returns-then-quotient
returns-then-quotient c =
    rw (c.min.ensures, c.f64_to_u64.ensures)
    (from_one _ _ (told-yes c.is_finite.ensures c.if-not-is_finite.false) (rw one-is at c.if-quotient.true))

pub returns-then-quotient-2 : goal.returns-then-quotient-2
returns-then-quotient-2 c =
    above_zero _ _ (told-yes c.is_finite.ensures c.if-not-is_finite.false) (rw one-is at c.if-quotient.false) (rw zero_is at c.if-quotient-2.true)

pub returns-else-quotient-2 : goal.returns-else-quotient-2
returns-else-quotient-2 c =
    not_above _ _ (told-yes c.is_finite.ensures c.if-not-is_finite.false) (rw one-is at c.if-quotient.false) (rw zero_is at c.if-quotient-2.false)
