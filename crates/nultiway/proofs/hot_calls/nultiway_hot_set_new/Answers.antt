-- By the length of the lent words.
use mathlib.Core.Path.{refl}
use Rattle.nultiway.proofs.Calls.RoomLaws.{called-short, called-room}
use Rattle.nultiway.proofs.hot_calls.nultiway_hot_set_new.Goals as goal

pub returns-then-hot_set-lt-HOT_SET_WORDS : goal.returns-then-hot_set-lt-HOT_SET_WORDS
returns-then-hot_set-lt-HOT_SET_WORDS c = called-short c.if-hot_set-lt-HOT_SET_WORDS.true refl

pub returns : goal.returns
returns c =
    let if1 = c.if-hot_set-lt-HOT_SET_WORDS in
    let new = c.new in
    let put-new-hot-set = c.put_answer in
    called-room if1.false
    record {
      result = new.result;
      kept = new.ensures;
      number = put-new-hot-set.ensures.value;
      answer = put-new-hot-set.ensures.to_after;
    }
