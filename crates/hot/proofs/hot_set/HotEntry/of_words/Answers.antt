use Rattle.records.proofs.Words.FieldLaws.{flag_is}
use Rattle.hot.proofs.HotSet.Words.{entry_at}
use Rattle.hot.proofs.hot_set.HotEntry.of_words.Goals as goal

pub returns : goal.returns
returns c = rw (entry_at, flag_is, c.time_of.ensures, c.from_bits.ensures)
