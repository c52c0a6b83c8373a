-- `limiter_words` meets its contract, word for word.
use Rattle.nultiway.proofs.Words.ValueLaws.{limiter-written}
use Rattle.nultiway.proofs.values.limiter_words.Goals as goal

pub returns : goal.returns
returns c =
    limiter-written c.args.limiter c.config_words-w.ensures c.cap_words-c.ensures c.time_words-t.ensures
