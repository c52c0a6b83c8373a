-- Question by question.
use Rattle.questions.proofs.Tests.{told-no, told-yes}
use mathlib.Core.Path.{refl}
use Rattle.nultiway.proofs.Words.GcraWordLaws.{asked-short, asked-small, asked-other, asked-none}
use Rattle.nultiway.proofs.gcra_calls.ask_gcra.Goals as goal

pub returns-then-words-lt-GCRA_WORDS : goal.returns-then-words-lt-GCRA_WORDS
returns-then-words-lt-GCRA_WORDS c = asked-short c.args.words.now c.args.room c.if-words-lt-GCRA_WORDS.true

pub returns-then-not-room : goal.returns-then-not-room
returns-then-not-room c =
    let a = c.args in
    asked-small a.words.now a.room (told-no refl c.if-not-room.true)

pub returns-then-not-is_gcra : goal.returns-then-not-is_gcra
returns-then-not-is_gcra c =
    let a = c.args in
    let if1 = c.if-words-lt-GCRA_WORDS in
    asked-other a.words.now a.room if1.false (told-yes refl c.if-not-room.false)
    (told-no c.is_gcra.ensures c.if-not-is_gcra.true)

pub returns : goal.returns
returns c =
    let a = c.args in
    let if1 = c.if-words-lt-GCRA_WORDS in
    asked-none a.words.now a.room if1.false (told-yes refl c.if-not-room.false)
    (told-yes c.is_gcra.ensures c.if-not-is_gcra.false)
