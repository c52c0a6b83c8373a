use Rattle.std.proofs.Common.{sym, ◌∙◌}
use Rattle.hot.proofs.HotSet.Words.{is-entry-at}
use Rattle.hot.proofs.hot_set.is_entry.Goals as goal

pub returns : goal.returns
returns c = c.are_words.ensures ∙ sym (is-entry-at c.args.at c.args.hot.now)
