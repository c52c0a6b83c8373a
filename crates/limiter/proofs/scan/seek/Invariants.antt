-- The keys from `from` to `j` are below the id.
use Rattle.std.proofs.Common.{◌≤◌, max}
use Rattle.limiter.proofs.Validity.MergeLaws.{Seeking}
use Rattle.limiter.proofs.scan.seek.Given as goal

abbrev pub invariant-loop-j : goal.invariant-loop-j
invariant-loop-j l = record {
  sought : Seeking l.m l.id l.from l.keys l.j;
  within : l.j ≤ max l.from l.m;
}
