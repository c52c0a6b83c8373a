-- The keys so far are read.
use Rattle.std.proofs.Common.{◌≡◌}
use Rattle.nultiway.specs.PeerCalls.{keys_of}
use Rattle.nultiway.proofs.report.listed_keys.Given as goal

abbrev pub invariant-loop-i : goal.invariant-loop-i
invariant-loop-i l = l.keys ≡ keys_of l.i l.words
