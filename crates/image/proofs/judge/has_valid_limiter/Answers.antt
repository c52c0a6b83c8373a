-- `has_valid_limiter` meets its contract: the tables that the records are read into pass question 1.
use Rattle.std.proofs.Common.{ℕ, eqb, ap, ◌∙◌, arith}
use lib.ListN.{replicate, length-replicate}
use Rattle.image.proofs.Loading.AskLaws.{limiter-asked}
use Rattle.image.proofs.judge.has_valid_limiter.Goals as goal

-- each table is long enough for as many records as may be found
pub read_table-requires : goal.read_table-requires
read_table-requires c = (omega (arith, c.requires.1.keys, length-replicate {A = ℕ} 90112 0), omega (arith, c.requires.0.keys))

pub read_table-requires-2 : goal.read_table-requires-2
read_table-requires-2 c = (omega (arith, c.requires.1.hot, length-replicate {A = ℕ} 384 0), omega (arith, c.requires.0.hot))

pub read_table-requires-3 : goal.read_table-requires-3
read_table-requires-3 c = (omega (arith, c.requires.1.shadows, length-replicate {A = ℕ} 16384 0), omega (arith, c.requires.0.shadows))

pub returns : goal.returns
returns c =
    c.passed.ensures ∙ ap (λ (n : ℕ). eqb n 0) c.ask.ensures
    ∙ limiter-asked _ _ c.requires.0 c.requires.1 c.args.limiter c.requires.2 _
    (replicate 90112 0) (replicate 384 0) (replicate 16384 0)
    c.read_table.ensures c.read_table-2.ensures c.read_table-3.ensures
    (length-replicate {A = ℕ} 90112 0) (length-replicate {A = ℕ} 384 0) (length-replicate {A = ℕ} 16384 0)
