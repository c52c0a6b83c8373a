-- Byte by byte.
use Rattle.std.proofs.Common.{◌∙◌, arith}
use Rattle.image.proofs.Loading.KindLaws.{none-short, none_first, none-second, by_kind}
use Rattle.image.proofs.rows.record_at.Goals as goal
use Rattle.image.proofs.rows.record_at.Goals.{then-from-lt-HEAD-via-then-from-lt-HEAD, then-from-lt-HEAD-via-else-from-lt-HEAD+then-from-at}
use Rattle.image.proofs.rows.record_at.Goals.{then-from-at-ne82-via-then-from-at-ne82, then-from-at-ne82-via-else-from-at-ne82+then-from-at-ne71}

pub returns-then-from-lt-HEAD : goal.returns-then-from-lt-HEAD
returns-then-from-lt-HEAD c =
    none-short c.args.at c.args.from.now
    (elim c.then-from-lt-HEAD.branch [
      | then-from-lt-HEAD-via-then-from-lt-HEAD w ↦ omega (arith, w.if-from-lt-HEAD)
      | then-from-lt-HEAD-via-else-from-lt-HEAD+then-from-at w ↦ omega (arith, w.if-from-lt-HEAD, w.if-from-at)
    ])

pub returns-then-from-at-ne82 : goal.returns-then-from-at-ne82
returns-then-from-at-ne82 c =
    elim c.then-from-at-ne82.branch [
      | then-from-at-ne82-via-then-from-at-ne82 w ↦ none_first c.args.at c.args.from.now w.if-from-at-ne82.true
      | then-from-at-ne82-via-else-from-at-ne82+then-from-at-ne71 w ↦ none-second c.args.at c.args.from.now w.if-from-at-ne82.false w.if-from-at-ne71.true
    ]

pub returns : goal.returns
returns c =
    c.record_of.ensures ∙ by_kind c.args.at c.args.from.now c.if-from-at-ne82.false c.if-from-at-ne71.false
