-- Rates as f64, and what a debt becomes under another quota (01, 'The meter (001)'; gcra.rs, `per_second` and `carry_tat`). Definitions only.
use Rattle.std.specs.Prelude.{ℕ, ◌+◌, ◌-◌, ◌^◌, min, Bool, cond, ◌&&◌, eqb, pos, Float}
use Rattle.std.specs.Float.{binary64}
use Rattle.std.specs.Float.Ieee.{div, mul, le, lt, of_int, to_unsigned}
use Rattle.std.specs.Float.Ieee.Scale.{finite}
use Rattle.float.specs.Integral.{ceil, round_away}
use Rattle.float.specs.Order.{maximum_number}
use Rattle.gcra.specs.declared.Units.{Units}
use Rattle.gcra.specs.declared.Quota.{Quota}
use Rattle.gcra.specs.declared.Gcra.{Gcra}
use Rattle.gcra.specs.Packed.{max_interval, with_interval}
use Rattle.std.specs.declared.option.Option.{Option}
use Rattle.std.specs.declared.option.Option.TheVariants.{None, Some}

-- a whole number as an f64
abbrev pub float : ℕ → Float
float n = of_int binary64 (pos n)

-- the interval, from the quotient 1e9 / rate rounded up: one that is not finite, or not above 0, gives the longest
unfoldable pub quotient_nanos : Units → Float → ℕ
quotient_nanos u q =
    cond (finite q && le (float 1) q) (min (to_unsigned 64 q) (max_interval u))
    (cond (finite q && lt (float 0) q) 1 (max_interval u))

-- any rate, each operation rounded once
unfoldable pub per_second : Units → Float → ℕ → Quota
per_second u rate burst = with_interval u (quotient_nanos u (ceil (div binary64 (float 1000000000) rate))) burst

unfoldable pub rate_per_sec : Quota → Float
rate_per_sec q = div binary64 (float 1000000000) (float q.interval)

-- the slots that a debt is worth
abbrev pub slots : ℕ → Quota → Float
slots debt old = div binary64 (float debt) (float old.interval)

-- a saturated TAT is no measure: the debt is then at least the old burst and the new
unfoldable pub debt_slots : ℕ → Quota → Quota → ℕ → Float
debt_slots tat old new now =
    cond (eqb tat (2 ^ 64 - 1))
    (maximum_number (maximum_number (slots (tat - now) old) (float old.burst)) (float new.burst))
    (slots (tat - now) old)

-- that many slots of a quota in nanoseconds, a half away from zero
unfoldable pub slot_nanos : Float → Quota → ℕ
slot_nanos n new = to_unsigned 64 (round_away (mul binary64 n (float new.interval)))

-- the TAT that carries the debt over in slots, held at 2^64 - 1
unfoldable pub carry_tat : ℕ → Quota → Quota → ℕ → ℕ
carry_tat tat old new now = min (now + slot_nanos (debt_slots tat old new now) new) (2 ^ 64 - 1)

abbrev pub carried : Option ℕ → Quota → Quota → ℕ → Option ℕ
carried None old new now = None
carried (Some tat) old new now = Some (carry_tat tat old new now)

abbrev pub same_quota : Quota → Quota → Bool
same_quota p q = eqb p.interval q.interval && eqb p.burst q.burst

-- a change of quota; the same quota changes nothing
unfoldable pub set_quota : Gcra → Quota → ℕ → Gcra
set_quota g q now = cond (same_quota q g.quota) g (record { quota = q; tat = carried g.tat g.quota q now })
