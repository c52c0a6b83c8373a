-- Intervals in 40 bits of a unit, and quotas in a word (01, 'The meter (001)'), for any table of three unit widths. Definitions only.
use Rattle.std.specs.Prelude.{ℕ, ◌+◌, ◌-◌, ◌*◌, ◌/◌, ◌%◌, ◌^◌, ◌≤◌, ◌<◌, min, max, ◌≡◌, Bool, cond, ◌&&◌, leb, ltb, eqb}
use Rattle.gcra.specs.declared.Units.{Units}
use Rattle.gcra.specs.declared.Encoded.{Encoded}
use Rattle.gcra.specs.declared.Pace.{Pace}
use Rattle.gcra.specs.declared.Quota.{Quota}

-- a table of three widths in nanoseconds that is accepted: the first is 1, they rise strictly, and the last is at most 1,000,000
unfoldable pub accepted : Units → Bool
accepted u = eqb u.first 1 && (ltb u.first u.second && (ltb u.second u.third && leb u.third 1000000))

-- what `accepted` says, as facts: proofs/Encoding.antt has it both ways
pub record Accepted (u : Units) : Type 0 where
  pub one : u.first ≡ 1
  pub rises : u.first < u.second
  pub rises_on : u.second < u.third
  pub small : u.third ≤ 1000000

-- 01's: nanoseconds, microseconds, milliseconds
abbrev pub unit_nanos : Units
unit_nanos = record { first = 1; second = 1000; third = 1000000 }

-- a packed word has 40 bits of value, 2 of unit code and 22 of burst, top down
abbrev pub interval_bits : ℕ
interval_bits = 40

abbrev pub unit_bits : ℕ
unit_bits = 2

abbrev pub burst_bits : ℕ
burst_bits = 22

-- `MAX_BURST`
abbrev pub max_burst : ℕ
max_burst = 2 ^ burst_bits - 1

-- n / d, rounded up
abbrev pub round_up : (n d : ℕ) → ℕ
round_up n d = (n + (d - 1)) / d

-- the width of a unit code, as `decode` reads it: the unused code 3 as the third
abbrev pub width : Units → ℕ → ℕ
width u code = cond (eqb code 0) u.first (cond (eqb code 1) u.second u.third)

abbrev pub holds : Units → ℕ → ℕ → Bool
holds u n code = ltb (round_up n (width u code)) (2 ^ interval_bits)

-- n rounded up to a unit
abbrev pub encode_in : Units → ℕ → ℕ → Encoded
encode_in u n code = record { value = round_up n (width u code); unit = code }

-- an interval takes the first unit whose rounded-up value is below 2^40
unfoldable pub encode : Units → ℕ → Encoded
encode u n = cond (holds u n 0) (encode_in u n 0) (cond (holds u n 1) (encode_in u n 1) (encode_in u n 2))

-- what an interval comes back as
unfoldable pub rounded : Units → ℕ → ℕ
rounded u n = (encode u n).value * width u (encode u n).unit

-- the longest interval: `MAX_INTERVAL`
abbrev pub max_interval : Units → ℕ
max_interval u = (2 ^ interval_bits - 1) * u.third

-- a quota of any interval, held between 1 and the longest (gcra.rs, `with_interval`)
unfoldable pub with_interval : Units → ℕ → ℕ → Quota
with_interval u n burst = record { interval = rounded u (min (max n 1) (max_interval u)); burst = burst }

-- question 4
abbrev pub valid_burst : ℕ → Bool
valid_burst b = leb 1 b && leb b max_burst

-- question 2 of a lone quota: its interval is 1 to the longest, and what it comes back as
unfoldable pub valid_quota : Units → Quota → Bool
valid_quota u q =
    (leb 1 q.interval && leb q.interval (max_interval u))
    && (valid_burst q.burst && eqb (rounded u q.interval) q.interval)

unfoldable pub pack : Units → Quota → ℕ
pack u q = (encode u q.interval).value * 2 ^ (unit_bits + burst_bits) + (encode u q.interval).unit * 2 ^ burst_bits + q.burst

-- the three fields of a word
abbrev pub value_of : ℕ → ℕ
value_of w = w / 2 ^ (unit_bits + burst_bits)

abbrev pub unit_of : ℕ → ℕ
unit_of w = w / 2 ^ burst_bits % 2 ^ unit_bits

abbrev pub burst_of : ℕ → ℕ
burst_of w = w % 2 ^ burst_bits

-- question 14
abbrev pub unpacks : ℕ → Bool
unpacks w = ltb (unit_of w) 3 && ltb 0 (burst_of w)

unfoldable pub unpack : Units → ℕ → Quota
unpack u w = with_interval u (value_of w * width u (unit_of w)) (burst_of w)

-- a word that `pack` gives: it unpacks, and comes back
unfoldable pub valid_word : Units → ℕ → Bool
valid_word u w = unpacks w && eqb (pack u (unpack u w)) w

-- T * (burst - 1), at most `MAX_TAU`; a burst of 0 counts as no slots
unfoldable pub tau : (interval burst : ℕ) → ℕ
tau interval burst = min (interval * (burst - 1)) (2 ^ 63 - 1)

-- the pace, T and tau, of every word, as `step` reads it
unfoldable pub decode : Units → ℕ → Pace
decode u w =
    record {
      t = value_of w * width u (unit_of w);
      tau = tau (value_of w * width u (unit_of w)) (burst_of w);
    }

-- the quoted ceiling of readings from s to s + window
unfoldable pub ceiling : Quota → ℕ → ℕ
ceiling q window = q.burst + window / q.interval
