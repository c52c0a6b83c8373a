-- By the kind of the byte, and then by the bytes.
use Rattle.std.proofs.Common.{sym, ◌∙◌, arith}
use Rattle.image.proofs.Loading.KindLaws.{no-record-of, short-record, whole-record}
use Rattle.image.proofs.rows.record_of.Goals as goal

pub returns-in_err-kind : goal.returns-in_err-kind
returns-in_err-kind c =
    c.from_residual.ensures ∙ no-record-of c.args.byte c.args.at c.args.len (sym c.in_err-kind.was ∙ c.of_byte.ensures)

pub returns-then-len-at : goal.returns-then-len-at
returns-then-len-at c =
    short-record c.args.byte c.args.at c.args.len _ (sym c.in_ok-kind.was ∙ c.of_byte.ensures) c.size-size.result c.size-size.ensures
    (omega (arith, c.if-len-at.true, c.requires))

pub returns : goal.returns
returns c =
    whole-record c.args.byte c.args.at c.args.len _ (sym c.in_ok-kind.was ∙ c.of_byte.ensures) c.size-size.result c.size-size.ensures
    (omega (arith, c.if-len-at.false, c.requires))
