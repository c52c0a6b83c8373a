-- The parts of its record, one after the other.
use Rattle.limiter.proofs.Checking.KeyRecordLaws.{key-at}
use Rattle.limiter.proofs.key_record.KeyState.of_words.Goals as goal

pub returns : goal.returns
returns c =
    rw (key-at, c.from_bits.ensures, c.of_words.ensures, c.of_words-2.ensures, c.of_words-3.ensures, c.of_words-4.ensures, c.meter_of_words.ensures)
