-- `stays_peer` meets its contract: case by case of the two flags.
use Rattle.std.proofs.Common.{ℕ, eqb, not, List, map, sym, ap, ◌∙◌, arith, ne_eqb}
use Rattle.records.specs.Records.{records}
use Rattle.peers.specs.Peers.Records.{ContestedKey, contested_of}
use Rattle.questions.proofs.ListLaws.{any-map}
use Rattle.records.proofs.Tables.TabledLaws.{in-order-says, in-order-run}
use Rattle.peers.proofs.Peers.Departures.StayLaws.{held-peer, taken-peer, bare-peer}
use Rattle.peers.proofs.peer_steps.stays_peer.Goals as goal

abbrev keys : (n : ℕ) → List ℕ → List ContestedKey
keys n xs = map contested_of (records 6 n xs)

pub returns-then-held-ne0 : goal.returns-then-held-ne0
returns-then-held-ne0 c = held-peer c.args.reading c.args.id c.args.held c.args.until c.args.taken (keys c.args.c c.args.contested.now) c.if-held-ne0.true

pub has_run-requires : goal.has_run-requires
has_run-requires c = in-order-run 6 2 c.args.c c.args.id c.args.contested.now (omega arith) (in-order-says 6 2 c.args.c c.args.contested.now c.requires)

pub returns-then-taken-ne0 : goal.returns-then-taken-ne0
returns-then-taken-ne0 c = ap not (ne_eqb c.args.taken 0 c.if-taken-ne0.true) ∙ taken-peer c.args.reading c.args.id c.args.held c.args.until c.args.taken (keys c.args.c c.args.contested.now) c.if-held-ne0.false c.if-taken-ne0.true

pub returns-else-taken-ne0 : goal.returns-else-taken-ne0
unfolding contested_of
returns-else-taken-ne0 c =
    c.has_run.ensures
    ∙ sym (any-map contested_of (λ (x : ContestedKey). eqb x.peer c.args.id) (records 6 c.args.c c.args.contested.now))
    ∙ bare-peer c.args.reading c.args.id c.args.held c.args.until c.args.taken (keys c.args.c c.args.contested.now) c.if-held-ne0.false c.if-taken-ne0.false
