-- Word for word.
use native.Mathlib.Omega.{arith}
use Rattle.nultiway.proofs.Words.ReportLaws.{listed-read}
use Rattle.nultiway.proofs.report.listed_of.Goals as goal

pub overflow_cast-demand : goal.overflow_cast-demand
overflow_cast-demand c = omega arith

pub returns : goal.returns
returns c =
    let a = c.args in
    listed-read a.words.now c.f32_from_bits.ensures
