-- Each table is read by itself.
use Rattle.std.proofs.Common.{arith}
use Rattle.image.proofs.store.store.Goals as goal

pub read_table-requires-5 : goal.read_table-requires-5
read_table-requires-5 c = (c.requires.1.snapshot-keys, omega (arith, c.requires.0.snapshot-keys))

pub read_table-requires-6 : goal.read_table-requires-6
read_table-requires-6 c = (c.requires.1.contested, omega (arith, c.requires.0.contested))
