-- `shadow_given` meets its contract.
use Prim.Native.Nat.{ℕ}
use mathlib.Core.Path.{sym, ap}
use Rattle.nultiway.specs.LimiterCalls.{limit, shadow_given}
use Rattle.nultiway.proofs.Calls.CallLaws.{shadow-set}
use Rattle.nultiway.proofs.limiter_checks.shadow_given.Goals as goal

pub returns-then-has_shadow-eq0 : goal.returns-then-has_shadow-eq0
returns-then-has_shadow-eq0 c = sym (ap (λ (n : ℕ). shadow_given n (limit c.args.rate c.args.burst)) c.if-has_shadow-eq0.true)

pub returns : goal.returns
returns c = shadow-set _ _ c.if-has_shadow-eq0.false
