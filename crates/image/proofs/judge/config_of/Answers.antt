-- `config_of` meets its contract, field by field.
use Rattle.image.specs.LoadSteps.{config_from}
use borrow.Author.Rules.{rules}
use Rattle.image.proofs.judge.config_of.Goals as goal

-- src/judge.rt:93:32
pub bounds-w-0 : goal.bounds-w-0
bounds-w-0 c = search rules

-- src/judge.rt:93:15
pub from_bits-requires : goal.from_bits-requires
from_bits-requires c = search rules

-- src/judge.rt:94:25
pub bounds-w-1 : goal.bounds-w-1
bounds-w-1 c = search rules

-- src/judge.rt:94:16
pub burst_of-requires : goal.burst_of-requires
burst_of-requires c = search rules

-- src/judge.rt:98:33
pub bounds-w-2 : goal.bounds-w-2
bounds-w-2 c = search rules

-- src/judge.rt:98:16
pub from_bits-requires-2 : goal.from_bits-requires-2
from_bits-requires-2 c = search rules

-- src/judge.rt:99:40
pub bounds-w-3 : goal.bounds-w-3
bounds-w-3 c = search rules

-- src/judge.rt:99:23
pub from_bits-requires-3 : goal.from_bits-requires-3
from_bits-requires-3 c = search rules

-- src/judge.rt:100:19
pub bounds-w-4 : goal.bounds-w-4
bounds-w-4 c = search rules

-- src/judge.rt:101:23
pub bounds-w-5 : goal.bounds-w-5
bounds-w-5 c = search rules

-- src/judge.rt:102:27
pub bounds-w-6 : goal.bounds-w-6
bounds-w-6 c = search rules

-- src/judge.rt:103:31
pub bounds-w-7 : goal.bounds-w-7
bounds-w-7 c = search rules

-- src/judge.rt:104:21
pub bounds-w-8 : goal.bounds-w-8
bounds-w-8 c = search rules

-- src/judge.rt:89:1
pub returns : goal.returns
unfolding config_from
returns c = cc
