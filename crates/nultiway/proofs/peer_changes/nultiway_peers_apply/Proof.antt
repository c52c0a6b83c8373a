-- By the words, then by the answer.
use borrow.Author.Rules.{rules}
use Prim.Native.Nat.{◌≤◌}
use mathlib.Core.Path.{◌≡◌, refl, ◌∙◌}
use mathlib.Core.Bool.{Bool}
use native.Mathlib.Omega.{arith}
use lib.ListN.{length}
use Rattle.questions.specs.Questions.{first_no}
use Rattle.peers.specs.Peers.State.{PeerTables, tables, lengths}
use Rattle.nultiway.specs.Values.{peers_room}
use Rattle.nultiway.specs.PeerCalls.{report_asked}
use Rattle.nultiway.proofs.Calls.CallLaws.{refused-call, passed-call, changes}
use Rattle.nultiway.proofs.Words.ReportLaws.{Taken, report-passed, report-with, sent}
use Rattle.nultiway.proofs.Calls.RoomLaws.{peers-lengths, peers-three}
use Rattle.nultiway.proofs.peer_changes.nultiway_peers_apply.Statement.{statement}
use Rattle.nultiway.proofs.peer_changes.nultiway_peers_apply.Tie as tie

abbrev start : tie.After-ask_report-no → tie.Start
start k = k.before.before.before.before.before.before.before

-- whether the peers have room
abbrev peer_tables : tie.Start → PeerTables
peer_tables s = tables s.args.peer_table.now s.args.snapshot_keys.now s.args.contested.now

abbrev room : tie.Start → Bool
room s = peers_room (length s.args.peers.now) (lengths (peer_tables s))

asked : (k : tie.After-ask_report-no) → let s = start k in k.ask_report-no.result ≡ first_no (report_asked (room s) s.args.report.now s.args.count)
asked k =
    let s = start k in
    report-with (room s) s.args.report.now s.args.count k.ask_report-no.ensures
    (k.peers_have_room-room.ensures ∙ peers-lengths (length s.args.peers.now) (peer_tables s))

-- the questions of the lent words are passed
passed : (e : tie.Else-no-ne0) → let s = start e.before in Taken (room s) s.args.report.now s.args.count
passed e = let s = start e.before in report-passed (room s) s.args.report.now s.args.count (asked e.before) e.if-no-ne0.false

-- and the peers' words are there
three : (e : tie.Else-no-ne0) → 3 ≤ length (start e.before).args.peers.now
three e = peers-three _ _ (passed e).others

returns : tie.Need-returns-then-no-ne0
returns c = refused-call _ _ (asked c.before) c.if-no-ne0.true (refl, refl)

peers-of-requires : tie.Need-peers_of-p-requires
peers-of-requires c κs = three c

report-of-requires : tie.Need-report_of-sent-requires
report-of-requires c κs = omega (arith, (passed c.before.before).long)

put-peers-requires : tie.Need-put_peers-requires
put-peers-requires c κs =
    three c.before.before.before.before.before.before.before.before.before.before.before.before.before.before.before

returns-2 : tie.Need-returns
returns-2 c =
    let peers-of = c.peers_of-p in
    let new = c.new-id in
    let report-of = c.report_of-sent in
    let apply = c.apply-changed in
    let put-peers = c.put_peers in
    passed-call _ _ (passed c.before.before.before.before.before.before.before.before.before.before.before.before.before.before.before.before.before.before.before).all_passed
    (changes (sent peers-of.ensures new.ensures report-of.ensures) apply.result apply.ensures c.change_number.ensures
    put-peers.ensures)

pub nultiway_peers_apply_spec : {M : Type 1} → statement M
nultiway_peers_apply_spec =
    tie.close
    (tie.spec
    (λ c κs. search rules)
    (λ c κs. search rules)
    returns
    peers-of-requires
    (λ c κs. search rules)
    report-of-requires
    (λ c κs. search rules)
    put-peers-requires
    (λ c κs. search rules)
    (λ c. search rules)
    (λ c. search rules)
    (λ c. search rules)
    (λ c. search rules)
    returns-2)
