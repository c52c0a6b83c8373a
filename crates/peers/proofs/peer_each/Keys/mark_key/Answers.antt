-- `mark_key` meets its contract.
use Rattle.std.proofs.Common.{sym, ◌∙◌, arith}
use Rattle.records.proofs.Words.RecordLaws.{fits-pos, fits_le}
use Rattle.peers.proofs.Peers.Readers.HeardLaws.{gap-of}
use Rattle.peers.proofs.Peers.Readers.MarkLaws.{place-marked, key-marked, key-absent}
use Rattle.peers.proofs.peer_each.Keys.mark_key.Goals as goal

pub bounds-out-i : goal.bounds-out-i
bounds-out-i c = place-marked c.args.self.width c.args.self.count c.args.key c.args.self.words.now c.args.out.now c.requires c.in-At.i (sym c.in-At.is ∙ c.find.ensures)

pub returns-in-At : goal.returns-in-At
returns-in-At c = key-marked c.args.self.width c.args.self.count c.args.key c.args.self.words.now c.args.out.now c.requires c.in-At.i (sym c.in-At.is ∙ c.find.ensures)

pub returns-in_default : goal.returns-in_default
returns-in_default c =
    let s = c.args in
    let gap = gap-of s.self.width 1 s.self.count s.key 0 s.self.words.now (omega arith) (omega arith) (fits-pos _ _ _ c.requires.fit) (fits_le _ _ _ c.requires.fit) c.find.result c.find.ensures c.in_default.not-At in
    key-absent s.self.width s.self.count s.key s.self.words.now s.out.now c.requires gap.0 (sym gap.1 ∙ c.find.ensures)
