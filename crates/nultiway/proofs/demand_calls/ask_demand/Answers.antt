-- Question by question.
use Rattle.questions.proofs.Tests.{told-no, told-yes}
use mathlib.Core.Path.{refl}
use Rattle.nultiway.proofs.Words.DemandWordLaws.{asked-short, asked-small, asked-other, asked-none}
use Rattle.nultiway.proofs.demand_calls.ask_demand.Goals as goal

pub returns-then-words-lt-DEMAND_WORDS : goal.returns-then-words-lt-DEMAND_WORDS
returns-then-words-lt-DEMAND_WORDS c = asked-short c.args.words.now c.args.room c.if-words-lt-DEMAND_WORDS.true

pub returns-then-not-room : goal.returns-then-not-room
returns-then-not-room c =
    let a = c.args in
    asked-small a.words.now a.room (told-no refl c.if-not-room.true)

pub returns-then-not-is_demand : goal.returns-then-not-is_demand
returns-then-not-is_demand c =
    let a = c.args in
    let if1 = c.if-words-lt-DEMAND_WORDS in
    asked-other a.words.now a.room if1.false (told-yes refl c.if-not-room.false)
    (told-no c.is_demand.ensures c.if-not-is_demand.true)

pub returns : goal.returns
returns c =
    let a = c.args in
    let if1 = c.if-words-lt-DEMAND_WORDS in
    asked-none a.words.now a.room if1.false (told-yes refl c.if-not-room.false)
    (told-yes c.is_demand.ensures c.if-not-is_demand.false)
