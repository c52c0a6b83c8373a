-- `gcra::Quota::ceiling` meets its contract: a quotient is at most the window, so the sum fits.
use native.Mathlib.Omega.{arith}
use native.Mathlib.Nat.{div-le_self}
use borrow.Author.Tests.{le-leb, lt-leb}
use Rattle.gcra.specs.Calls.{quota_ceiling}
use Rattle.gcra.specs.Packed.{ceiling}
use Rattle.questions.specs.Questions.{answer}
use Rattle.questions.proofs.Tests.{told-no, told-yes}
use Rattle.gcra.proofs.Packed.Validity.{valid-quota}
use Rattle.gcra.proofs.Quota.ceiling.Goals as goal

pub returns-then-not-is_valid : goal.returns-then-not-is_valid
unfolding quota_ceiling answer
returns-then-not-is_valid c = rw (told-no c.is_valid.ensures c.if-not-is_valid.true)

pub returns-then-window : goal.returns-then-window
unfolding quota_ceiling answer
returns-then-window c = rw (told-yes c.is_valid.ensures c.if-not-is_valid.false, lt-leb _ _ c.if-window.true)

pub nonzero_div-result : goal.nonzero_div-result
nonzero_div-result c = let v = valid-quota _ _ (told-yes c.is_valid.ensures c.if-not-is_valid.false) in v.least

pub overflow_add-result : goal.overflow_add-result
overflow_add-result c = let s = c.before.before.before.before.before in record { fits = omega (arith, div-le_self s.args.window s.args.self.interval) }

pub returns : goal.returns
unfolding quota_ceiling answer ceiling
returns c = rw (told-yes c.is_valid.ensures c.if-not-is_valid.false, le-leb _ _ c.if-window.false)
