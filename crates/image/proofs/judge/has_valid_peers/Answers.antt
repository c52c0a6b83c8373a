-- `has_valid_peers` meets its contract: the tables that the records are read into pass question 1.
use Rattle.std.proofs.Common.{ℕ, eqb, ap, ◌∙◌, arith}
use lib.ListN.{replicate, length-replicate}
use Rattle.image.proofs.Loading.AskLaws.{peers-asked}
use Rattle.image.proofs.judge.has_valid_peers.Goals as goal

-- each table is long enough for as many records as may be found
pub read_table-requires : goal.read_table-requires
read_table-requires c = (omega (arith, c.requires.1.peers, length-replicate {A = ℕ} 384 0), omega (arith, c.requires.0.peers))

pub read_table-requires-2 : goal.read_table-requires-2
read_table-requires-2 c = (omega (arith, c.requires.1.snapshot-keys, length-replicate {A = ℕ} 8192 0), omega (arith, c.requires.0.snapshot-keys))

pub read_table-requires-3 : goal.read_table-requires-3
read_table-requires-3 c = (omega (arith, c.requires.1.contested, length-replicate {A = ℕ} 49152 0), omega (arith, c.requires.0.contested))

pub returns : goal.returns
returns c =
    c.passed.ensures ∙ ap (λ (n : ℕ). eqb n 0) c.ask.ensures
    ∙ peers-asked _ _ c.requires.0 c.requires.1 _
    (replicate 384 0) (replicate 8192 0) (replicate 49152 0)
    c.read_table.ensures c.read_table-2.ensures c.read_table-3.ensures
    (length-replicate {A = ℕ} 384 0) (length-replicate {A = ℕ} 8192 0) (length-replicate {A = ℕ} 49152 0)
    _ c.peers_of.ensures
