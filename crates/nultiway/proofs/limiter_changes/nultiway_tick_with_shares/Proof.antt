-- `nultiway_tick_with_shares` meets its contract.
use mathlib.Core.Path.{◌≡◌, refl, ◌∙◌}
use mathlib.Core.Bool.{Bool}
use borrow.Author.Rules.{rules}
use lib.ListN.{length}
use Rattle.questions.specs.Questions.{first_no}
use Rattle.peers.specs.Peers.State as peer-state
use Rattle.limiter.specs.State.{Lengths, tables, lengths}
use Rattle.nultiway.specs.Values.{limiter_asked, peers_room}
use Rattle.nultiway.proofs.Calls.CallLaws.{refused-call, passed-call, Open, opened, asked-with, changes}
use Rattle.nultiway.proofs.Calls.RoomLaws.{peers-lengths, peers-three}
use Rattle.nultiway.proofs.limiter_changes.nultiway_tick_with_shares.Statement.{statement}
use Rattle.nultiway.proofs.limiter_changes.nultiway_tick_with_shares.Tie as tie

abbrev start : tie.After-ask_limiter-no → tie.Start
start a = a.before.before.before.before.before.before.before.before.before.before

-- how many words the limiter's tables have, and whether the peers have room
abbrev long : tie.Start → Lengths
long s = lengths (tables s.args.keys.now s.args.hot.now s.args.shadows.now)

abbrev peer_tables : tie.Start → peer-state.PeerTables
peer_tables s = peer-state.tables s.args.peer_table.now s.args.snapshot_keys.now s.args.contested.now

abbrev room : tie.Start → Bool
room s = peers_room (length s.args.peers.now) (peer-state.lengths (peer_tables s))

asked : (k : tie.After-ask_limiter-no) → let s = start k in k.ask_limiter-no.result ≡ first_no (limiter_asked s.args.limiter.now (long s) (room s))
asked k =
    let s = start k in
    asked-with s.args.limiter.now (long s) k.ask_limiter-no.ensures
    (k.peers_have_room-room.ensures ∙ peers-lengths (length s.args.peers.now) (peer_tables s))

-- the questions of the lent words are passed
passed : (e : tie.Else-no-ne0) → let s = start e.before in Open s.args.limiter.now (long s) (room s)
passed e = opened _ _ _ _ (asked e.before) e.if-no-ne0.false

returns : tie.Need-returns-then-no-ne0
returns c = refused-call _ _ (asked c.before) c.if-no-ne0.true (refl, refl)

-- where the crate is called, and what comes before it
abbrev entered : tie.After-tick_with_shares-changed → tie.Else-no-ne0
entered k = k.before.before.before.before.before.before

abbrev called : tie.After-put_limiter-arg-1 → tie.After-tick_with_shares-changed
called a = a.before.before.before.before.before.before.before.before

limiter-of-requires : tie.Need-limiter_of-before-requires
limiter-of-requires c κs = (passed c).long

peers-of-requires : tie.Need-peers_of-demand-requires
peers-of-requires c κs = peers-three _ _ (passed c.before).others

put-limiter-requires : tie.Need-put_limiter-requires
put-limiter-requires c κs = (passed (entered (called c))).long

returns-2 : tie.Need-returns
returns-2 c =
    let k = called c.before.before.before.before in
    passed-call _ _ (passed (entered k)).passed
    (changes (λ i. (k.limiter_of-before.ensures i, k.peers_of-demand.ensures i)) k.tick_with_shares-changed.result k.tick_with_shares-changed.ensures
    c.change_number.ensures c.put_limiter.ensures)

pub nultiway_tick_with_shares_spec : {M : Type 1} → statement M
nultiway_tick_with_shares_spec =
    tie.close
    (tie.spec
    (λ c κs. search rules)
    (λ c κs. search rules)
    (λ c. search rules)
    returns
    limiter-of-requires
    peers-of-requires
    (λ c κs. search rules)
    put-limiter-requires
    (λ c κs. search rules)
    (λ c. search rules)
    (λ c. search rules)
    (λ c. search rules)
    (λ c. search rules)
    returns-2)
