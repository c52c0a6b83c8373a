use Rattle.std.proofs.Common.{sym, arith}
use lib.Seq.{length-take-le}
use Rattle.nultiway.proofs.Words.ValueLaws.{paste-whole}
use Rattle.nultiway.proofs.values.settings_in.Goals as goal

pub returns : goal.returns
returns c = paste-whole _ _ _ c.put.ensures (sym (length-take-le 13 c.args.words.now (omega arith)))
