use Rattle.std.proofs.Common.{◌≡◌, true, length}
use Rattle.text.specs.Input.{has_no_feed}
use Rattle.text.specs.Steps.{seen}
use Rattle.text.proofs.LineLaws.{Looking}
use Rattle.text.proofs.lines.read_line.Given as goal

abbrev pub invariant-loop : goal.invariant-loop
invariant-loop g l = Looking (seen l.initial.w l.initial.buf) l.buf l.w × (has_no_feed (seen l.w l.buf) ≡ true) × (length l.buf ≡ length l.initial.buf)
