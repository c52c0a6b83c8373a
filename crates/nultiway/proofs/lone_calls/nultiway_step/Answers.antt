-- By the length of the lent buffer.
use Prim.Native.Nat.{ℕ}
use mathlib.Core.Path.{refl, ap, ◌∙◌}
use mathlib.Core.List.{List}
use Rattle.records.specs.Words.{paste}
use Rattle.questions.specs.Questions.{given}
use Rattle.nultiway.proofs.Calls.RoomLaws.{called-short, called-room}
use Rattle.nultiway.proofs.Words.GcraWordLaws.{step_words}
use Rattle.nultiway.proofs.lone_calls.nultiway_step.Goals as goal

pub returns-then-answer-lt-STEP_WORDS : goal.returns-then-answer-lt-STEP_WORDS
returns-then-answer-lt-STEP_WORDS c = called-short c.if-answer-lt-STEP_WORDS.true refl

pub returns : goal.returns
returns c =
    let a = c.args in
    let if1 = c.if-answer-lt-STEP_WORDS in
    let step = c.step-stepped in
    let decision-words = c.decision_words-d in
    called-room if1.false
    record {
      result = step.result;
      kept = ap given step.ensures;
      number = refl;
      answer = c.put.ensures ∙ ap (λ (ws : List ℕ). paste 0 ws a.answer.now)
          (step_words step.result decision-words.ensures);
    }
