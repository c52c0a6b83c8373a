-- The flags before `i` are set, and there is room for `left` more at the limit.
use Rattle.std.proofs.Common.{◌≤◌, length}
use Rattle.limiter.proofs.Walking.CutLaws.{Marking}
use Rattle.limiter.proofs.ticks.mark_staying.Given as goal

abbrev pub invariant-loop-i : goal.invariant-loop-i
invariant-loop-i l = (h : l.n ≤ length l.ranks) × Marking l.n l.ranks h l.limit l.initial.left l.initial.stays l.stays l.i l.left
