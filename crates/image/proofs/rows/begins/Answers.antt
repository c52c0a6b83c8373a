-- By the record that stands there.
use Rattle.std.proofs.Common.{sym, ◌∙◌}
use Rattle.image.proofs.Loading.KindLaws.{none-begins, found-begins, same-kind}
use Rattle.image.proofs.rows.begins.Goals as goal

pub returns-in-None : goal.returns-in-None
returns-in-None c = none-begins c.args.at c.args.from.now c.args.kind (sym c.in-None.is ∙ c.record_at.ensures)

pub returns-in-Some : goal.returns-in-Some
returns-in-Some c =
    c.eq.ensures ∙ same-kind c.in-Some.record.kind c.args.kind
    ∙ found-begins c.args.at c.args.from.now c.args.kind c.in-Some.record (sym c.in-Some.is ∙ c.record_at.ensures)
