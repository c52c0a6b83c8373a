-- Word for word.
use native.Mathlib.Omega.{arith}
use Rattle.nultiway.proofs.Words.GcraWordLaws.{gcra-burst, gcra-read}
use Rattle.nultiway.proofs.gcra_calls.gcra_of.Goals as goal

pub overflow_cast-quota : goal.overflow_cast-quota
overflow_cast-quota c =
    let a = c.args in
    omega (arith, gcra-burst a.words.now c.requires.1)

pub returns : goal.returns
returns c =
    let a = c.args in
    gcra-read a.words.now c.time_of-tat.ensures
