-- By the length of the lent words.
use mathlib.Core.Path.{refl, ap}
use Rattle.questions.specs.Questions.{given}
use Rattle.nultiway.proofs.Calls.RoomLaws.{called-short, called-room}
use Rattle.nultiway.proofs.demand_calls.nultiway_demand_new.Goals as goal

pub returns : goal.returns
returns c =
    called-room c.if-demand-lt-DEMAND_WORDS.false
    record {
      result = c.new.result;
      kept = ap given c.new.ensures;
      number = refl;
      answer = c.put_demand.ensures;
    }

pub returns-then-demand-lt-DEMAND_WORDS : goal.returns-then-demand-lt-DEMAND_WORDS
returns-then-demand-lt-DEMAND_WORDS c = called-short c.if-demand-lt-DEMAND_WORDS.true refl
