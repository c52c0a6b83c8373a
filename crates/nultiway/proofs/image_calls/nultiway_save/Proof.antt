-- By the words, then by the answer.
use borrow.Author.Rules.{rules}
use borrow.Author.Tests.{leb-true}
use Prim.Native.Nat.{◌≤◌}
use mathlib.Core.Path.{◌≡◌, refl, ap, ◌∙◌}
use mathlib.Core.Bool.{Bool, ◌&&◌}
use lib.Dec.{leb}
use lib.ListN.{length}
use Rattle.questions.specs.Questions.{first_no}
use Rattle.questions.proofs.Tests.{both}
use Rattle.peers.specs.Peers.State as peer-state
use Rattle.limiter.specs.State.{Lengths, tables, lengths}
use Rattle.nultiway.specs.Values.{limiter_asked, peers_room}
use Rattle.nultiway.proofs.Calls.CallLaws.{refused-call, passed-call, Open, opened, asked-with, tells}
use Rattle.nultiway.proofs.Calls.ImageCallLaws.{both_read}
use Rattle.nultiway.proofs.Calls.RoomLaws.{peers-lengths, peers-three}
use Rattle.nultiway.proofs.image_calls.nultiway_save.Statement.{statement}
use Rattle.nultiway.proofs.image_calls.nultiway_save.Tie as tie

abbrev start : tie.After-ask_limiter-no → tie.Start
start k = k.before.before.before.before.before.before.before.before.before.before.before.before

-- how many words the limiter's tables have, and whether the answer and the peers have room
abbrev long : tie.Start → Lengths
long s = lengths (tables s.args.keys.now s.args.hot.now s.args.shadows.now)

abbrev peer_tables : tie.Start → peer-state.PeerTables
peer_tables s = peer-state.tables s.args.peer_table.now s.args.snapshot_keys.now s.args.contested.now

abbrev room : tie.Start → Bool
room s = peers_room (length s.args.peers.now) (peer-state.lengths (peer_tables s))

abbrev others : tie.Start → Bool
others s = leb 1 (length s.args.answer.now) && room s

asked : (k : tie.After-ask_limiter-no) → let s = start k in k.ask_limiter-no.result ≡ first_no (limiter_asked s.args.limiter.now (long s) (others s))
asked k =
    let s = start k in
    asked-with s.args.limiter.now (long s) k.ask_limiter-no.ensures
    (k.peers_have_room-room.ensures
    ∙ ap (λ (b : Bool). leb 1 (length s.args.answer.now) && b) (peers-lengths (length s.args.peers.now) (peer_tables s)))

-- the questions of the lent words are passed
passed : (e : tie.Else-no-ne0) → let s = start e.before in Open s.args.limiter.now (long s) (others s)
passed e = opened _ _ _ _ (asked e.before) e.if-no-ne0.false

-- and the other buffers have their words
fits : (e : tie.Else-no-ne0) → let s = start e.before in (3 ≤ length s.args.peers.now) × (1 ≤ length s.args.answer.now)
fits e =
    let s = start e.before in
    let b = both (leb 1 (length s.args.answer.now)) (room s) (passed e).others in
    (peers-three _ _ b.1, leb-true _ _ b.0)

returns : tie.Need-returns-then-no-ne0
returns c = refused-call _ _ (asked c.before) c.if-no-ne0.true (refl, refl)

limiter-of-requires : tie.Need-limiter_of-l-requires
limiter-of-requires c κs = (passed c).long

peers-of-requires : tie.Need-peers_of-p-requires
peers-of-requires c κs = (fits c.before).0

put-len-requires : tie.Need-put_answer-requires
put-len-requires c κs = (search rules, (search rules, (fits c.before.before.before.before.before.before.before).1))

returns-2 : tie.Need-returns
returns-2 c =
    let limiter-of = c.limiter_of-l in
    let peers-of = c.peers_of-p in
    let save = c.save-said in
    passed-call _ _ (passed c.before.before.before.before.before.before.before.before.before.before).passed
    (tells (both_read limiter-of.ensures peers-of.ensures) save.result save.ensures c.put_answer.ensures.0
    c.put_answer.ensures.1)

pub nultiway_save_spec : {M : Type 1} → statement M
nultiway_save_spec =
    tie.close
    (tie.spec
    (λ c κs. search rules)
    (λ c κs. search rules)
    returns
    limiter-of-requires
    peers-of-requires
    (λ c κs. search rules)
    put-len-requires
    (λ c. search rules)
    (λ c. search rules)
    returns-2)
