-- The first j words are read.
use Rattle.std.proofs.Common.{◌≡◌, ◌++◌, map, drop}
use Rattle.records.specs.Records.{records}
use Rattle.image.specs.Reader.{number}
use Rattle.image.proofs.words.read_words.Given as goal

abbrev pub invariant-loop-j : goal.invariant-loop-j
invariant-loop-j l = l.ws ≡ map number (records 8 l.j (drop l.at l.from)) ++ drop l.j l.initial.ws
