-- The bytes of the first j words are written.
use Rattle.std.proofs.Common.{◌≡◌, length, map, take}
use Rattle.records.specs.Words.{paste}
use Rattle.records.specs.Records.{flat}
use Rattle.image.specs.Image.{bytes}
use Rattle.image.proofs.words.put_words.Given as goal

abbrev pub invariant-loop-j : goal.invariant-loop-j
invariant-loop-j l = (length l.out ≡ length l.initial.out) × (l.out ≡ paste l.at (flat (map (bytes 8) (take l.j l.ws))) l.initial.out)
