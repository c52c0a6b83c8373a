-- `heard_contested` meets its contract.
use Rattle.std.proofs.Common.{ap, ◌∙◌, arith}
use Rattle.std.specs.declared.option.Option.TheVariants.{Some}
use Rattle.peers.proofs.Peers.Readers.HeardLaws.{demand-fits, round-fits, contested-found, contested-missing}
use Rattle.peers.proofs.peer_heard.heard_contested.Goals as goal

pub key_heard-requires : goal.key_heard-requires
key_heard-requires c = (omega (arith, c.in_ok-r.ensures.length_is), omega (arith, demand-fits _ c.in_ok-r.ensures), round-fits _ c.in_ok-r.ensures (omega arith))

pub returns-in_err-r : goal.returns-in_err-r
returns-in_err-r c = c.from_residual.ensures ∙ contested-missing _ _ _ c.in_err-r.ensures

pub returns : goal.returns
returns c = ap Some c.key_heard.ensures ∙ contested-found _ _ _ _ c.in_ok-r.ensures
