-- `hot_elsewhere_of_each` meets its contract.
use Rattle.std.proofs.Common.{◌∙◌, refl, rules}
use Rattle.peers.specs.Peers.State.{tables, state_of}
use Rattle.peers.specs.Peers.Readers.{hot_elsewhere}
use Rattle.questions.proofs.RefusalLaws.{handed}
use Rattle.peers.proofs.Peers.Readers.EachLaws.{each-refused, each-done, each_fits, each-valid}
use Rattle.peers.proofs.Peers.Readers.MarkLaws.{many-ascending, marked-told}
use Rattle.peers.proofs.Peers.Readers.PrimaryLaws.{hot-by-records}
use Rattle.peers.proofs.peer_demand.PeerDemand.hot_elsewhere_of_each.Goals as goal

pub returns-in_err-starts : goal.returns-in_err-starts
returns-in_err-starts c =
    each-refused hot_elsewhere _ _ _ _ _ _ _ (c.in_err-starts.ensures.first _ _ c.ask_for_starts-asked.ensures.first) _ refl (handed _ c.from_residual.result c.from_residual.ensures.1)

pub primary_of_ascending-requires : goal.primary_of_ascending-requires
primary_of_ascending-requires c =
    let ready = (c.ask_for_starts-asked.ensures.ready _ (c.in_ok-starts.ensures.state _ refl)).ready in
    let fit = each_fits _ _ _ _ _ _ _ (c.in_ok-starts.ensures.first _ _ c.ask_for_starts-asked.ensures.first) refl in (
      record { fit = fit.0; ascends = many-ascending _ _ _ _ c.are_many_ascending.ensures c.if-are_many_ascending.true; room = fit.1 },
      ready.snapshot_keys.ready,
      ready.contested.ready,
    )

pub returns-then-are_many_ascending : goal.returns-then-are_many_ascending
returns-then-are_many_ascending c =
    let ready = (c.ask_for_starts-asked.ensures.ready _ (c.in_ok-starts.ensures.state _ refl)).ready in
    let first = c.in_ok-starts.ensures.first _ _ c.ask_for_starts-asked.ensures.first in
    each-done hot_elsewhere _ _ _ _ _ _ _ first refl _
    (c.primary_of_ascending.ensures ∙ marked-told _ hot_elsewhere _ _ _ _ _ (hot-by-records _ _ ready (each-valid _ _ _ _ _ _ _ first refl)))

pub tell_each-requires-clause-fit : goal.tell_each-requires-clause-fit
tell_each-requires-clause-fit c = (each_fits _ _ _ _ _ _ _ (c.in_ok-starts.ensures.first _ _ c.ask_for_starts-asked.ensures.first) refl).0

pub tell_each-requires-clause-room : goal.tell_each-requires-clause-room
tell_each-requires-clause-room c = (each_fits _ _ _ _ _ _ _ (c.in_ok-starts.ensures.first _ _ c.ask_for_starts-asked.ensures.first) refl).1

pub returns : goal.returns
returns c =
    let s = c.args in
    each-done hot_elsewhere _ _ _ _ _ _ _ (c.in_ok-starts.ensures.first _ _ c.ask_for_starts-asked.ensures.first) refl _
    (c.tell_each.ensures hot_elsewhere (state_of s.self (tables s.peers.now s.snapshot_keys.now s.contested.now)) (λ key r e. search rules))
