use Rattle.std.proofs.Common.{◌*◌, ap, ◌∙◌}
use Rattle.hot_lent.proofs.CopyLaws.{lent-long}
use Rattle.hot_lent.proofs.word_count.Goals as goal

pub returns : goal.returns
returns c = ap (λ n. 6 * n) c.min.ensures ∙ lent-long c.args.entries.now
