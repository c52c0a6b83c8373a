use Rattle.std.proofs.Common.{ℕ, List}
use Rattle.hot.specs.HotSet.Set.{entries}
use Rattle.limiter.specs.State.{key_of}
use Rattle.limiter.specs.Steps.KeySteps.{units}
use Rattle.limiter.specs.Steps.TickSteps.{key_rank}
use Rattle.limiter.proofs.Walking.RowLaws.{rows-from, rows-done}
use Rattle.limiter.proofs.Walking.CutLaws.{fill_more, fill-all}
use Rattle.limiter.proofs.ticks.rank_keys.Goals as goal

-- the rank of the key in a record's words
abbrev rank : ℕ → List ℕ → ℕ → List ℕ → ℕ
rank h hot c r = key_rank c (entries h hot) (key_of units r)

pub loop-i-preserved : goal.loop-i-preserved
loop-i-preserved c =
    let l = c.loop-i in
    let a = c.args in
    fill_more c.key_rank.result _ l.invariant c.loop-i-test.true
    (rows-from 22 (rank a.h a.hot.now a.time_constant) a.n a.keys.now l.i c.loop-i-test.true c.key_rank.result c.key_rank.ensures)

pub returns : goal.returns
returns c =
    let l = c.loop-i in
    let a = c.args in
    fill-all l.invariant c.loop-i-test.false (rows-done 22 (rank a.h a.hot.now a.time_constant) a.n a.keys.now l.i l.invariant.within c.loop-i-test.false)
