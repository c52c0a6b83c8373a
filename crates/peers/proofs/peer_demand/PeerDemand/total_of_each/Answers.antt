-- `total_of_each` meets its contract.
use Rattle.std.proofs.Common.{refl, rules}
use Rattle.peers.specs.Peers.State.{tables, state_of}
use Rattle.peers.specs.Peers.Readers.{total}
use Rattle.questions.proofs.RefusalLaws.{handed}
use Rattle.peers.proofs.Peers.Readers.EachLaws.{each-refused, each-done, each_fits}
use Rattle.peers.proofs.peer_demand.PeerDemand.total_of_each.Goals as goal

pub returns-in_err-starts : goal.returns-in_err-starts
returns-in_err-starts c =
    each-refused total _ _ _ _ _ _ _ (c.in_err-starts.ensures.first _ _ c.ask_for_starts-asked.ensures.first) _ refl (handed _ c.from_residual.result c.from_residual.ensures.1)

pub tell_each-requires-clause-fit : goal.tell_each-requires-clause-fit
tell_each-requires-clause-fit c = (each_fits _ _ _ _ _ _ _ (c.in_ok-starts.ensures.first _ _ c.ask_for_starts-asked.ensures.first) refl).0

pub tell_each-requires-clause-room : goal.tell_each-requires-clause-room
tell_each-requires-clause-room c = (each_fits _ _ _ _ _ _ _ (c.in_ok-starts.ensures.first _ _ c.ask_for_starts-asked.ensures.first) refl).1

pub returns : goal.returns
returns c =
    let s = c.args in
    each-done total _ _ _ _ _ _ _ (c.in_ok-starts.ensures.first _ _ c.ask_for_starts-asked.ensures.first) refl _
    (c.tell_each.ensures total (state_of s.self (tables s.peers.now s.snapshot_keys.now s.contested.now)) (λ key r e. search rules))
