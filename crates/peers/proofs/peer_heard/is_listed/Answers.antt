-- `is_listed` meets its contract.
use Rattle.std.proofs.Common.{◌∙◌}
use Rattle.peers.proofs.Peers.Readers.ReaderLaws.{listed-as}
use Rattle.peers.proofs.peer_heard.is_listed.Goals as goal

pub returns : goal.returns
returns c = c.is_some.ensures ∙ listed-as (λ r. r.now) c.key_in.result _ _ _ _ c.key_in.ensures
