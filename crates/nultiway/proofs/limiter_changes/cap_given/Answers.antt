-- `cap_given` meets its contract.
use Prim.Native.Nat.{ℕ}
use mathlib.Core.Path.{sym, ap}
use Rattle.nultiway.specs.LimiterCalls.{cap_given}
use Rattle.nultiway.proofs.Calls.CallLaws.{cap-set}
use Rattle.nultiway.proofs.limiter_changes.cap_given.Goals as goal

pub returns-then-has_cap-eq0 : goal.returns-then-has_cap-eq0
returns-then-has_cap-eq0 c = sym (ap (λ (n : ℕ). cap_given n c.args.cap) c.if-has_cap-eq0.true)

pub returns : goal.returns
returns c = cap-set _ _ c.if-has_cap-eq0.false
