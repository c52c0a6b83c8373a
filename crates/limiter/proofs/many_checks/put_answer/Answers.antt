-- The answer's words go in at their place.
use Rattle.std.proofs.Common.{◌∙◌}
use Rattle.questions.specs.Refusals.{answer_of}
use Rattle.limiter.proofs.Checking.EachLaws.{answer-pasted}
use Rattle.limiter.proofs.many_checks.put_answer.Goals as goal

pub returns : goal.returns
returns c = answer-pasted (answer_of c.args.answer) _ c.args.out.now c.args.at (c.copy_from_slice.ensures.after ∙ c.answer_words.ensures)
