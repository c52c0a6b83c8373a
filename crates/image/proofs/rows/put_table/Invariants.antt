-- The bytes of the first i records are written.
use Rattle.std.proofs.Common.{◌≡◌, length, map}
use Rattle.records.specs.Words.{paste}
use Rattle.records.specs.Records.{records, flat}
use Rattle.image.specs.Image.{record_bytes}
use Rattle.image.specs.Kinds.{kind_number}
use Rattle.image.proofs.rows.put_table.Given as goal

abbrev pub invariant-loop-i : goal.invariant-loop-i
invariant-loop-i l =
    (length l.out ≡ length l.initial.out) × (l.out ≡ paste l.at (flat (map (record_bytes (kind_number l.kind)) (records l.w l.i l.table))) l.initial.out)
