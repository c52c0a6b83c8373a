-- `limiter_of` meets its contract.
use Rattle.nultiway.proofs.Words.ValueLaws.{limiter-read}
use Rattle.nultiway.proofs.values.limiter_of.Goals as goal

pub returns : goal.returns
returns c =
    limiter-read c.args.words.now _ _ _ _ c.settings_in-w.ensures c.config_of-config.ensures c.cap_of-cap.ensures
    c.time_of-last_tick.ensures
