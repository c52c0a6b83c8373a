-- Question 14 of the word passes, so it is unpacked.
use Rattle.std.proofs.Common.{◌∙◌, refl, true, [], ◌∷◌}
use Rattle.gcra.specs.Packed.{unpacks, unpack}
use Rattle.questions.specs.Questions.{◌asks◌, passes}
use Rattle.gcra.specs.Calls.{quota_unpack}
use Rattle.questions.proofs.Tests.{and_intro}
use Rattle.limiter.proofs.Checking.KeyRecordLaws.{given-or}
use Rattle.limiter.specs.Steps.KeySteps.{units}
use Rattle.limiter.proofs.key_record.unpacked.Goals as goal

pub returns : goal.returns
unfolding quota_unpack passes
returns c =
    let w = c.args.packed in
    c.unwrap_or.ensures ∙ given-or ((14 asks unpacks w) ∷ []) (unpack units w) _ c.unpack.result (and_intro (unpacks w) true c.requires refl) c.unpack.ensures
