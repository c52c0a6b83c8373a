-- A key's demand (004), with 01's decay weight. Every operation on floats is rounded once.
use Rattle.std.specs.Prelude.{ℕ, ◌+◌, ◌-◌, Bool, false, cond, eqb, pos, Float}
use Rattle.std.specs.Float.{binary64}
use Rattle.std.specs.Float.Ieee.{round, of_int, add, sub, mul, div, eq}
use Rattle.float.specs.Magnitude.{magnitude}
use Rattle.demand.specs.Decay.Weight.{S, weight}
use Rattle.demand.specs.declared.demand.Demand.{Demand}
use Rattle.std.specs.declared.option.Option.{Option}
use Rattle.std.specs.declared.option.Option.TheVariants.{None, Some}
use Rattle.demand.specs.declared.demand.Times.{Times}

-- a whole number as an f64
abbrev pub whole : ℕ → Float
whole n = of_int binary64 (pos n)

-- 'Alpha is (S − D) ÷ S'
unfoldable pub alpha : (e c : ℕ) → Float
alpha e c = round binary64 false (S - weight e c) S

-- 004, `tick`: alpha × the attempts per second of the elapsed nanoseconds + (1 − alpha) × the rate so far
unfoldable pub folded_by : (a rate : Float) (attempts e : ℕ) → Float
folded_by a rate attempts e =
    let seconds = div binary64 (whole e) (whole 1_000_000_000) in
    let instantaneous = div binary64 (whole attempts) seconds in
    add binary64 (mul binary64 a instantaneous) (mul binary64 (sub binary64 (whole 1) a) rate)

unfoldable pub folded : (rate : Float) (attempts e c : ℕ) → Float
unfolding alpha folded_by
folded rate attempts e c = folded_by (alpha e c) rate attempts e

-- 004, `new` and `starting_at`
abbrev pub new : ℕ → Demand
new c = record { current_rate = whole 0; attempts_since_tick = 0; times = None; time_constant = c }

abbrev pub starting_at : (c now : ℕ) → Demand
starting_at c now = record { current_rate = whole 0; attempts_since_tick = 0; times = Some (record { last_tick = now; since = now }); time_constant = c }

-- 01, 'The saved image': estimator rates 'are finite with a clear sign bit'
abbrev pub valid : Demand → Bool
valid d = magnitude d.current_rate

-- 004, `record_attempts`
abbrev pub recorded : Demand → ℕ → Demand
recorded d n = record {
  current_rate = d.current_rate;
  attempts_since_tick = d.attempts_since_tick + n;
  times = d.times;
  time_constant = d.time_constant;
}

-- 004, `tick`: the first sets the times alone; one with no time elapsed changes nothing
unfoldable pub ticked_from : Option Times → Demand → ℕ → Demand
unfolding folded
ticked_from None d now = record {
  current_rate = d.current_rate;
  attempts_since_tick = d.attempts_since_tick;
  times = Some (record { last_tick = now; since = now });
  time_constant = d.time_constant;
}
ticked_from (Some t) d now =
    cond (eqb (now - t.last_tick) 0) d
    (record {
      current_rate = folded d.current_rate d.attempts_since_tick (now - t.last_tick) d.time_constant;
      attempts_since_tick = 0;
      times = Some (record { last_tick = now; since = t.since });
      time_constant = d.time_constant;
    })

abbrev pub ticked : Demand → ℕ → Demand
ticked d now = ticked_from d.times d now

-- 004, `unbiased_rate`; 01: 'An unbiased rate divides by (S − D) ÷ S; if that is 0, it is 0'
unfoldable pub unbiased_by : (a rate : Float) (measured : ℕ) → Float
unbiased_by a rate measured = cond (eqb measured 0) (whole 0) (cond (eq a (whole 0)) (whole 0) (div binary64 rate a))

unfoldable pub unbiased_from : Option Times → Demand → Float
unfolding alpha unbiased_by
unbiased_from None d = whole 0
unbiased_from (Some t) d = unbiased_by (alpha (t.last_tick - t.since) d.time_constant) d.current_rate (t.last_tick - t.since)

abbrev pub unbiased : Demand → Float
unbiased d = unbiased_from d.times d
