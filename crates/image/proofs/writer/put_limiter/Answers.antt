-- Four tables, one after the other; the settings are a table of one record.
use Rattle.limiter.specs.State as limiter-state
use Rattle.image.proofs.Saving.SaveLaws.{limiter-pasted}
use Rattle.image.proofs.writer.put_limiter.Goals as goal

pub returns-clause-out_after : goal.returns-clause-out_after
returns-clause-out_after c =
    let a = c.args in
    let t = limiter-state.tables a.keys.now a.hot.now a.shadows.now in
    limiter-pasted a.limiter t c.requires.0 c.put_table-keys_at.result c.put_table-hot_at.result c.put_table-shadows_at.result c.settings_words-settings.result a.out.now
    c.put_table-keys_at.new.out c.put_table-hot_at.new.out c.put_table-shadows_at.new.out c.put_table.new.out
    c.settings_words-settings.ensures c.requires.1 c.put_table-keys_at.ensures.value c.put_table-hot_at.ensures.value c.put_table-shadows_at.ensures.value
    c.put_table-keys_at.ensures.out_after c.put_table-hot_at.ensures.out_after c.put_table-shadows_at.ensures.out_after c.put_table.ensures.out_after
