-- The digits read so far made n, and the rest goes on from there.
use Rattle.std.proofs.Common.{◌≡◌, drop}
use Rattle.text.specs.Numbers.{numeral}
use Rattle.text.proofs.numeral.Given as goal

abbrev pub invariant-loop-b : goal.invariant-loop-b
invariant-loop-b l = numeral l.base 0 l.s ≡ numeral l.base l.n (drop l.b-index l.s)
