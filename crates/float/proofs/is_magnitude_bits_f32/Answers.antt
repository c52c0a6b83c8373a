use lib.Ieee.{binary32}
use Rattle.float.proofs.Formats.Patterns.{magnitude-bits}
use Rattle.float.proofs.is_magnitude_bits_f32.Goals as goal

pub returns : goal.returns
returns c = magnitude-bits binary32 c.args.b
