-- Question 2 of the quota passes, so it is packed.
use Rattle.std.proofs.Common.{◌∙◌, refl, true}
use Rattle.gcra.specs.Packed.{valid_quota, pack}
use Rattle.questions.specs.Questions.{passes}
use Rattle.gcra.specs.Calls.{ask_quota, quota_pack}
use Rattle.questions.proofs.Tests.{and_intro}
use Rattle.limiter.proofs.Checking.KeyRecordLaws.{given-or}
use Rattle.limiter.specs.Steps.KeySteps.{units}
use Rattle.limiter.proofs.key_record.packed.Goals as goal

pub returns : goal.returns
unfolding quota_pack passes
returns c =
    let q = c.args.quota in
    c.unwrap_or.ensures ∙ given-or (ask_quota q) (pack units q) _ c.pack.result (and_intro (valid_quota units q) true c.requires refl) c.pack.ensures
