-- The records that are counted end within the bytes.
use Rattle.std.proofs.Common.{arith}
use Rattle.image.specs.Kinds.{kind_number}
use Rattle.image.proofs.Loading.ScanLaws.{scan-within, scanned}
use Rattle.image.proofs.scan.scan_kind.Goals as goal

pub overflow_mul-result : goal.overflow_mul-result
overflow_mul-result c =
    omega (arith, scan-within (kind_number c.args.kind) c.args.at c.args.from.now c.requires c.count_rows-n.result c.size.result c.count_rows-n.ensures c.size.ensures)

pub overflow_add-result : goal.overflow_add-result
overflow_add-result c =
    omega (arith, scan-within (kind_number c.args.kind) c.args.at c.args.from.now c.requires c.count_rows-n.result c.size.result c.count_rows-n.ensures c.size.ensures)

pub returns : goal.returns
returns c = scanned (kind_number c.args.kind) c.args.at c.args.from.now c.requires c.count_rows-n.result c.size.result c.count_rows-n.ensures c.size.ensures
