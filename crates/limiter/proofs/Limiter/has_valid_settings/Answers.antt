-- Each test is one of the settings'.
use Rattle.std.proofs.Common.{◌∙◌, ◌≡◌, ◌&&◌, arith}
use Rattle.std.proofs.lemmas.Bool.Decides.{nat_tests}
use Rattle.demand.specs.Allocation.{is_floor_factor}
use Rattle.limiter.specs.State.{valid_limit, is_alpha, are_sizes, valid_cap}
use Rattle.limiter.proofs.Validity.SettingsLaws.{Widths, settings-are, cap-words, tick-words}
use Rattle.limiter.proofs.Limiter.has_valid_settings.Goals as goal

pub returns-then-has_sizes : goal.returns-then-has_sizes
returns-then-has_sizes c =
    let l = c.args.self in
    let k = l.config in
    let config = c.well_formed.0.1.1.0.1.1 in
    let w : Widths l = record {
      rate = config.0.1.1.0.1;
      burst = config.0.1.1.1.0.1;
      alpha = config.1.0.1;
      floor = config.1.1.0.1;
      cooldown = config.1.1.1.0.1;
      hot = config.1.1.1.1.0.1;
      most = config.1.1.1.1.1.0.1;
      constant = config.1.1.1.1.1.1.0.1;
      size = config.1.1.1.1.1.1.1.0.1;
      cap = cap-words l.cap _ c.well_formed.0.1.1.1.0;
      tick = tick-words l.last_tick _ c.well_formed.0.1.1.1.1.0;
    } in
    let e : c.is_cap.result ≡ (valid_limit k.limit && (is_alpha k.alpha && (is_floor_factor k.floor_factor && (are_sizes k && valid_cap l.cap)))) = grind (arith, nat_tests) in
    e ∙ settings-are l w

pub returns-else-has_sizes : goal.returns-else-has_sizes
returns-else-has_sizes c =
    let l = c.args.self in
    let k = l.config in
    let config = c.well_formed.0.1.1.0.1.1 in
    let w : Widths l = record {
      rate = config.0.1.1.0.1;
      burst = config.0.1.1.1.0.1;
      alpha = config.1.0.1;
      floor = config.1.1.0.1;
      cooldown = config.1.1.1.0.1;
      hot = config.1.1.1.1.0.1;
      most = config.1.1.1.1.1.0.1;
      constant = config.1.1.1.1.1.1.0.1;
      size = config.1.1.1.1.1.1.1.0.1;
      cap = cap-words l.cap _ c.well_formed.0.1.1.1.0;
      tick = tick-words l.last_tick _ c.well_formed.0.1.1.1.1.0;
    } in
    let e : c.if-has_factors.value ≡ (valid_limit k.limit && (is_alpha k.alpha && (is_floor_factor k.floor_factor && (are_sizes k && valid_cap l.cap)))) = grind (arith, nat_tests) in
    e ∙ settings-are l w
