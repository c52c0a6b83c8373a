-- The words of its parts, one after the other.
use Rattle.limiter.specs.State.{key_words}
use Rattle.limiter.proofs.key_record.KeyState.words.Goals as goal

pub returns : goal.returns
unfolding key_words
returns c =
    rw (c.to_bits.ensures, c.to_bits-2.ensures, c.to_bits-3.ensures, c.to_bits-4.ensures, c.to_bits-5.ensures, c.meter_words-meter.ensures)
