-- Word for word.
use mathlib.Core.Path.{refl}
use Rattle.nultiway.specs.HotCalls.{hot_set_of}
use Rattle.nultiway.proofs.hot_answers.hot_set_of.Goals as goal

pub returns : goal.returns
unfolding hot_set_of
returns c = refl
