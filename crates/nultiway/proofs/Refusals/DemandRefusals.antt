-- A call that makes or changes an estimator and answers a number other than 0 has changed no lent word.
use Prim.Native.Nat.{ℕ}
use mathlib.Core.Path.{◌≡◌}
use mathlib.Core.Bool.{true}
use mathlib.Core.List.{List}
use lib.Dec.{leb}
use lib.ListN.{length}
use Rattle.nultiway.specs.Values.{room_asked}
use Rattle.nultiway.specs.DemandCalls.{demand_asked, DemandNew, DemandStartingAt, DemandRecordAttempt, DemandRecordAttempts, DemandTick}
use Rattle.nultiway.proofs.Refusals.RefusalLaws.{tells-unmoved}

module _ (ws : List ℕ) (r : ℕ) (ws' : List ℕ) (h : r ≡ 0 → ⊥) where
  pub demand-new-unmoved : (c : ℕ) → DemandNew ws c r ws' → ws' ≡ ws
  demand-new-unmoved c x = tells-unmoved (room_asked (leb 6 (length ws))) ws ws' r x h

  pub demand-starting-at-unmoved : (c now : ℕ) → DemandStartingAt ws c now r ws' → ws' ≡ ws
  demand-starting-at-unmoved c now x = tells-unmoved (room_asked (leb 6 (length ws))) ws ws' r x h

  pub demand-record-attempt-unmoved : DemandRecordAttempt ws r ws' → ws' ≡ ws
  demand-record-attempt-unmoved x = tells-unmoved (demand_asked ws true) ws ws' r x h

  pub demand-record-attempts-unmoved : (n : ℕ) → DemandRecordAttempts ws n r ws' → ws' ≡ ws
  demand-record-attempts-unmoved n x = tells-unmoved (demand_asked ws true) ws ws' r x h

  pub demand-tick-unmoved : (now : ℕ) → DemandTick ws now r ws' → ws' ≡ ws
  demand-tick-unmoved now x = tells-unmoved (demand_asked ws true) ws ws' r x h
