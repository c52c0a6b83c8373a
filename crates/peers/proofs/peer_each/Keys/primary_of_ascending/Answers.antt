-- `primary_of_ascending` meets its contract.
use Rattle.std.proofs.Common.{ap, ◌∙◌, rules}
use Rattle.records.specs.Records.{records}
use Rattle.peers.specs.Peers.Steps.Each.{is_primary_in, marked, cleared}
use Rattle.peers.proofs.Peers.Readers.MarkLaws.{marked-twice}
use Rattle.peers.proofs.peer_each.Keys.primary_of_ascending.Goals as goal

pub returns : goal.returns
returns c =
    let rs = records c.args.self.width c.args.self.count c.args.self.words.now in
    let taken = is_primary_in (records 4 c.args.k c.args.snapshot_keys.now) in
    let contested = is_primary_in (records 6 c.args.c c.args.contested.now) in
    c.mark_table-2.ensures
    ∙ ap (marked contested rs) (c.mark_table.ensures ∙ ap (marked taken rs) (search rules))
    ∙ marked-twice contested taken rs (cleared c.args.self.count c.args.out.now)
