-- `starts` meets its contract.
use Rattle.std.proofs.Common.{◌≡◌, ℕ, ◌^◌, ◌<◌, true, false, is_some, get_or, sym, ap, ◌∙◌, arith}
use Rattle.questions.proofs.Tests.{stop, goes}
use Rattle.peers.specs.declared.peer_demand.PeerDemand.{PeerDemand}
use Rattle.peers.specs.Peers.State.{PeerTables, tables, lengths, have_room, is_valid}
use Rattle.peers.specs.Peers.Steps.Scan.{is_scanned}
use Rattle.records.proofs.Tables.TypedLaws.{all_words}
use Rattle.peers.proofs.Peers.Validity.ValidLaws.{scanned-is-valid, room_says, peers-ready}
use Rattle.peers.proofs.peer_demand.PeerDemand.starts.Goals as goal

scanned : (p : PeerDemand) (t : PeerTables) → have_room (lengths t) ≡ true → ((i : ℕ) → get_or t.peers i 0 < 2 ^ 64) → ((i : ℕ) → get_or t.snapshot_keys i 0 < 2 ^ 64) → ((i : ℕ) → get_or t.contested i 0 < 2 ^ 64) → is_scanned p t ≡ is_valid p t
scanned p t room wp wk wc = scanned-is-valid p t room (all_words t.peers wp) (all_words t.snapshot_keys wk) (all_words t.contested wc)

pub are_peers-requires : goal.are_peers-requires
are_peers-requires c =
    let s = c.args in
    (room_says (tables s.peers.now s.snapshot_keys.now s.contested.now) c.requires.room).peers

pub returns-then-not-are_peers-clause-value : goal.returns-then-not-are_peers-clause-value
unfolding is_scanned
returns-then-not-are_peers-clause-value c =
    let s = c.args in
    stop _ _ (sym c.are_peers.ensures ∙ c.if-not-are_peers.true)
    ∙ scanned s.self (tables s.peers.now s.snapshot_keys.now s.contested.now) c.requires.room (λ i. (c.type_inv.peers i).fits) (λ i. (c.type_inv.snapshot_keys i).fits) (λ i. (c.type_inv.contested i).fits)

pub are_keys-requires-clause-peers_ready : goal.are_keys-requires-clause-peers_ready
are_keys-requires-clause-peers_ready c =
    let s = c.args in
    peers-ready s.self.peers s.peers.now (room_says (tables s.peers.now s.snapshot_keys.now s.contested.now) c.requires.room).peers (sym c.are_peers.ensures ∙ c.if-not-are_peers.false)

pub are_keys-requires-clause-le_w : goal.are_keys-requires-clause-le_w
are_keys-requires-clause-le_w c =
    let s = c.args in
    (omega arith, omega arith, omega (arith, (room_says (tables s.peers.now s.snapshot_keys.now s.contested.now) c.requires.room).snapshot_keys))

pub returns-in_err-are_keys-clause-value : goal.returns-in_err-are_keys-clause-value
unfolding is_scanned
returns-in_err-are_keys-clause-value c =
    let s = c.args in
    ap is_some c.from_residual.ensures
    ∙ goes _ _ false (sym c.are_peers.ensures ∙ c.if-not-are_peers.false) (stop _ _ (sym c.in_err-are_keys.ensures.value))
    ∙ scanned s.self (tables s.peers.now s.snapshot_keys.now s.contested.now) c.requires.room (λ i. (c.type_inv.peers i).fits) (λ i. (c.type_inv.snapshot_keys i).fits) (λ i. (c.type_inv.contested i).fits)

pub are_keys-requires-2-clause-peers_ready : goal.are_keys-requires-2-clause-peers_ready
are_keys-requires-2-clause-peers_ready c =
    let s = c.args in
    peers-ready s.self.peers s.peers.now (room_says (tables s.peers.now s.snapshot_keys.now s.contested.now) c.requires.room).peers (sym c.are_peers.ensures ∙ c.if-not-are_peers.false)

pub are_keys-requires-2-clause-le_w : goal.are_keys-requires-2-clause-le_w
are_keys-requires-2-clause-le_w c =
    let s = c.args in
    (omega arith, omega arith, omega (arith, (room_says (tables s.peers.now s.snapshot_keys.now s.contested.now) c.requires.room).contested))

pub returns-in_err-are_keys-2-clause-value : goal.returns-in_err-are_keys-2-clause-value
unfolding is_scanned
returns-in_err-are_keys-2-clause-value c =
    let s = c.args in
    ap is_some c.from_residual-in_err-are_keys-2.ensures
    ∙ goes _ _ false (sym c.are_peers.ensures ∙ c.if-not-are_peers.false) (goes _ _ false (sym c.in_ok-are_keys.ensures.value) c.in_err-are_keys-2.ensures.value)
    ∙ scanned s.self (tables s.peers.now s.snapshot_keys.now s.contested.now) c.requires.room (λ i. (c.type_inv.peers i).fits) (λ i. (c.type_inv.snapshot_keys i).fits) (λ i. (c.type_inv.contested i).fits)

pub returns-clause-value : goal.returns-clause-value
unfolding is_scanned
returns-clause-value c =
    let s = c.args in
    goes _ _ true (sym c.are_peers.ensures ∙ c.if-not-are_peers.false) (goes _ _ true (sym c.in_ok-are_keys.ensures.value) c.in_ok-are_keys-2.ensures.value)
    ∙ scanned s.self (tables s.peers.now s.snapshot_keys.now s.contested.now) c.requires.room (λ i. (c.type_inv.peers i).fits) (λ i. (c.type_inv.snapshot_keys i).fits) (λ i. (c.type_inv.contested i).fits)
