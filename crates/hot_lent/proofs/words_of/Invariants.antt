-- The words of the first `i` entries are copied.
use Rattle.std.proofs.Common.{◌≡◌, ◌*◌, take, map, length}
use Rattle.records.specs.Records.{flat}
use Rattle.hot.specs.HotSet.Set as Set
use Rattle.hot_lent.proofs.words_of.Given as goal

abbrev pub invariant-loop-i : goal.invariant-loop-i
invariant-loop-i l = record {
  copied : take (l.i * 6) l.words ≡ flat (map Set.words (take l.i l.entries));
  long : length l.words ≡ 384;
}
