-- `Demand::record_attempts` meets its contract.
use mathlib.Core.Path.{◌≡◌, refl}
use mathlib.Core.Bool.{false}
use Prim.Native.Nat.{ℕ, ◌+◌, ◌-◌, ◌^◌, ◌<◌}
use native.Mathlib.Omega.{arith}
use lib.Dec.{ltb}
use borrow.Author.Tests.{lt-ltb, le-ltb}
use Rattle.questions.proofs.Tests.{told-no, told-yes}
use Rattle.questions.proofs.Answers.{no, yes, value}
use Rattle.demand.proofs.demand.Demand.record_attempts.Goals as goal

over : (a n : ℕ) → 2 ^ 64 - 1 - a < n → ltb (a + n) (2 ^ 64) ≡ false
over a n h = le-ltb (a + n) (2 ^ 64) (omega arith)

pub returns-then-not-is_valid : goal.returns-then-not-is_valid
returns-then-not-is_valid c = no 2 _ _ (told-no c.is_valid.ensures c.if-not-is_valid.true)

pub returns-then-n-self : goal.returns-then-n-self
returns-then-n-self c = yes 2 _ _ (told-yes c.is_valid.ensures c.if-not-is_valid.false) (no 9 _ _ (over _ _ c.if-n-self.true))

pub returns : goal.returns
returns c = yes 2 _ _ (told-yes c.is_valid.ensures c.if-not-is_valid.false) (yes 9 _ _ (lt-ltb (c.args.self.attempts_since_tick + c.args.n) (2 ^ 64) (omega arith)) (value refl))
