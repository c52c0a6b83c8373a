use borrow.Author.Rules.{rules}
use Rattle.limiter.specs.State.{units_for}
use Rattle.limiter.proofs.States.RecordValidLaws.{word_of}
use Rattle.limiter.proofs.PassOne.PassLaws.{passing-lent, passes}
use Rattle.limiter.proofs.pass_one.pass_one.Goals as goal

pub fold_keys-requires : goal.fold_keys-requires
unfolding units_for
fold_keys-requires c = c.requires.keys_lent

pub update_hot-entries-requires-clause-lent_keys : goal.update_hot-entries-requires-clause-lent_keys
unfolding units_for
update_hot-entries-requires-clause-lent_keys c =
    let a = c.args in (
      passing-lent c.parameters_of-par.result a.limiter a.keys.now a.hot.now a.elsewhere.now a.reading a.cluster_size
          c.requires (word_of c.ranges.reading.fits) _ c.fold_keys.ensures,
      c.requires.hot_lent,
      c.requires.few,
    )

pub drop_idle-left-requires-clause-lent_keys : goal.drop_idle-left-requires-clause-lent_keys
unfolding units_for
drop_idle-left-requires-clause-lent_keys c =
    let a = c.args in (
      passing-lent c.parameters_of-par.result a.limiter a.keys.now a.hot.now a.elsewhere.now a.reading a.cluster_size
          c.requires (word_of c.ranges.reading.fits) _ c.fold_keys.ensures,
      c.requires.few,
      search rules,
    )

pub returns : goal.returns
unfolding units_for
returns c =
    let a = c.args in
    passes c.parameters_of-par.result a.limiter a.keys.now a.hot.now a.elsewhere.now a.reading
    a.cluster_size c.requires (word_of c.ranges.reading.fits) _ c.fold_keys.ensures _ c.parameters_of-par.ensures
    (record { keys = c.drop_idle-left.result; hot = c.update_hot-entries.result }) _ _ _ _ _ c.update_hot-entries.ensures c.drop_idle-left.ensures
