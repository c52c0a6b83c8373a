-- The first `i` entries that are left are copied back; there are places and records for all of them.
use Rattle.std.proofs.Common.{◌≡◌, ◌≤◌, length}
use Rattle.hot_lent.proofs.CopyLaws.{stored}
use Rattle.hot_lent.proofs.update_with.Given as goal

abbrev pub invariant-loop-i : goal.invariant-loop-i
invariant-loop-i l = record {
  copied : l.entries ≡ stored l.i l.records l.initial.entries;
  places : l.updated.set.len ≤ length l.initial.entries;
  few : l.updated.set.len ≤ 64;
  records : 64 ≤ length l.records;
}
