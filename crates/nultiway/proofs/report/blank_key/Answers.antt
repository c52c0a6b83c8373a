-- Word for word.
use Rattle.nultiway.proofs.Words.ReportLaws.{blank-read}
use Rattle.nultiway.proofs.report.blank_key.Goals as goal

pub returns : goal.returns
returns c = blank-read c.f32_from_bits.ensures
