-- The key's estimators are valid.
use Rattle.limiter.specs.Readers.{rates_of}
use Rattle.limiter.specs.Steps.KeySteps.{units, key_record}
use Rattle.limiter.proofs.States.RecordValidLaws.{key-says}
use Rattle.limiter.proofs.readers.rates_of.Goals as goal

pub unbiased_rate-requires : goal.unbiased_rate-requires
unbiased_rate-requires c = (key-says units (key_record c.args.state) c.requires).requests.finite

pub unbiased_rate-requires-2 : goal.unbiased_rate-requires-2
unbiased_rate-requires-2 c = (key-says units (key_record c.args.state) c.requires).denials.finite

pub unbiased_rate-requires-3 : goal.unbiased_rate-requires-3
unbiased_rate-requires-3 c = (key-says units (key_record c.args.state) c.requires).shadow_denials.finite

pub returns : goal.returns
unfolding rates_of
returns c =
    (λ i. record {
      requests_per_sec = c.unbiased_rate.ensures i;
      denied_per_sec = c.unbiased_rate-2.ensures i;
      shadow_denied_per_sec = c.unbiased_rate-3.ensures i;
    })
