-- The words of the first i records are stored.
use Rattle.std.proofs.Common.{◌≡◌, length, map, drop}
use Rattle.records.specs.Words.{paste}
use Rattle.records.specs.Records.{records, flat}
use Rattle.image.specs.Reader.{record_size, first_words}
use Rattle.image.specs.Kinds.{kind_number}
use Rattle.image.proofs.rows.read_table.Given as goal

abbrev pub invariant-loop-i : goal.invariant-loop-i
invariant-loop-i l =
    (length l.to ≡ length l.initial.to) × (l.to ≡ paste 0 (flat (map (first_words (kind_number l.fn.kind)) (records (record_size (kind_number l.fn.kind)) l.i (drop l.at l.from)))) l.initial.to)
