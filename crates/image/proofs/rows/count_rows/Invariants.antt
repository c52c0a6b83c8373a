-- The n records so far were passed, and the others stand from `here` on.
use Rattle.std.proofs.Common.{◌≡◌, ◌+◌, ◌-◌, ◌≤◌, length, drop}
use Rattle.image.specs.Reader.{rows_first}
use Rattle.image.specs.Kinds.{kind_number}
use Rattle.image.proofs.rows.count_rows.Given as goal

abbrev pub invariant-loop-kind : goal.invariant-loop-kind
invariant-loop-kind l =
    (l.at + l.n ≤ l.here)
    × (length (rows_first (length (drop l.at l.from)) (kind_number l.kind) (drop l.at l.from)) ≡ l.n + length (rows_first (length (drop l.at l.from) - l.n) (kind_number l.kind) (drop l.here l.from)))

abbrev pub decreases-loop-kind : goal.decreases-loop-kind
decreases-loop-kind l = length l.from - l.here
