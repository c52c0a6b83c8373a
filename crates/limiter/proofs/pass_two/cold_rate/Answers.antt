use Rattle.std.proofs.Common.{◌∙◌, ap, Float}
use Rattle.std.specs.Float.{binary64}
use Rattle.std.specs.Float.Ieee.{mul}
use Rattle.float.specs.Order.{minimum_number}
use Rattle.limiter.proofs.PassTwo.RateLaws.{cold_is, least-is}
use Rattle.limiter.proofs.pass_two.cold_rate.Goals as goal
use Rattle.limiter.proofs.pass_two.cold_rate.Goals.{then-elsewhere, else-elsewhere}

pub returns : goal.returns
returns c =
    elim c.if-elsewhere.branch [
      | then-elsewhere w ↦
          least-is _ _ _ c.u64_to_f64-size.result c.min.result c.u64_to_f64-size.ensures w.if-elsewhere.true c.if-elsewhere.rate
          (w.rate-is ∙ w.min-rate.ensures) c.min.ensures
      | else-elsewhere w ↦ cold_is _ _ _ c.u64_to_f64-size.result c.min.result c.u64_to_f64-size.ensures w.if-elsewhere.false
          (c.min.ensures ∙ ap (λ (x : Float). minimum_number x (mul binary64 c.args.limit c.args.terms.cap)) w.rate-is)
    ]
