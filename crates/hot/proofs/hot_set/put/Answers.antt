use Rattle.std.proofs.Common.{◌∙◌}
use Rattle.hot.proofs.HotSet.Table.{put-at, put-gap, never-unfit}
use Rattle.hot.proofs.hot_set.put.Goals as goal

pub returns-in-At : goal.returns-in-At
returns-in-At c =
    c.overwrite.ensures.t_after ∙ put-at c.args.n c.args.hot.now c.requires.entries_ready c.args.entry _ c.words-words.ensures _ c.in-At.ensures

pub returns-in-Gap : goal.returns-in-Gap
returns-in-Gap c =
    c.insert.ensures.t_after ∙ put-gap c.args.n c.args.hot.now c.requires.entries_ready c.args.entry _ c.words-words.ensures _ c.requires.hot_in_bounds c.in-Gap.ensures

pub returns-in-Unfit : goal.returns-in-Unfit
returns-in-Unfit c = never-unfit c.args.n c.args.hot.now c.requires.entries_ready c.args.entry.key c.in-Unfit.ensures
