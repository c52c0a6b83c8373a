use lib.Ieee.{binary64}
use Rattle.float.proofs.Formats.Patterns.{magnitude-bits}
use Rattle.float.proofs.is_magnitude_bits.Goals as goal

pub returns : goal.returns
returns c = magnitude-bits binary64 c.args.b
