-- `are_many_ascending` meets its contract.
use Rattle.std.proofs.Common.{arith, lt-ltb}
use Rattle.records.specs.Typed.{in_order}
use Rattle.questions.proofs.Tests.{goes}
use Rattle.peers.proofs.peer_each.Keys.are_many_ascending.Goals as goal

pub returns-then-self-ge2 : goal.returns-then-self-ge2
unfolding in_order
returns-then-self-ge2 c = goes _ _ _ (lt-ltb 1 c.args.self.count (omega (arith, c.if-self-ge2.true))) c.is_ascending.ensures
