-- By the length of the lent words.
use mathlib.Core.Path.{refl}
use Rattle.nultiway.proofs.Calls.RoomLaws.{called-short, called-room}
use Rattle.nultiway.proofs.gcra_calls.nultiway_gcra_new.Goals as goal

pub returns-then-gcra-lt-GCRA_WORDS : goal.returns-then-gcra-lt-GCRA_WORDS
returns-then-gcra-lt-GCRA_WORDS c = called-short c.if-gcra-lt-GCRA_WORDS.true refl

pub returns : goal.returns
returns c =
    let if1 = c.if-gcra-lt-GCRA_WORDS in
    let new = c.new in
    called-room if1.false
    record {
      result = new.result;
      kept = new.ensures;
      number = c.put_answer.ensures.value;
      answer = c.put_answer.ensures.to_after;
    }
