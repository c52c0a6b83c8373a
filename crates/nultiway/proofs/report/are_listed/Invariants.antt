-- Those so far are keys' words.
use Rattle.std.proofs.Common.{◌≡◌, drop}
use Rattle.records.specs.Records.{records}
use Rattle.questions.specs.Lists.{all}
use Rattle.nultiway.specs.PeerCalls.{is_listed}
use Rattle.nultiway.proofs.report.are_listed.Given as goal

abbrev pub invariant-loop-i : goal.invariant-loop-i
invariant-loop-i l = all is_listed (records 3 l.n l.words) ≡ all is_listed (drop l.i (records 3 l.n l.words))
