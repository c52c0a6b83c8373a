-- By the answer.
use mathlib.Core.Path.{ap}
use Rattle.nultiway.proofs.Calls.ImageCallLaws.{loaded-put, loaded-no}
use Rattle.questions.specs.Refusals.{answer_of}
use Rattle.nultiway.proofs.image_calls.put_loaded.Goals as goal

pub returns-in-Err : goal.returns-in-Err
returns-in-Err c = let a = c.args in rw c.number.ensures (loaded-no a.limiter.now a.peers.now (ap answer_of c.in-Err.is))

pub returns-in-Ok : goal.returns-in-Ok
returns-in-Ok c = let a = c.args in loaded-put a.limiter.now a.peers.now (ap answer_of c.in-Ok.is) c.put_limiter.ensures c.put_peers.ensures
