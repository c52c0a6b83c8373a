-- The meter (01, 'The meter (001)'). Definitions only.
use Rattle.std.specs.Prelude.{ℕ, ◌+◌, ◌-◌, ◌^◌, min, max, Bool, true, false, cond, ltb}
use Rattle.gcra.specs.declared.Quota.{Quota}
use Rattle.gcra.specs.declared.Gcra.{Gcra}
use Rattle.gcra.specs.declared.Decision.{Decision}
use Rattle.gcra.specs.declared.Decision.TheVariants.{Allow, Deny}
use Rattle.gcra.specs.declared.Checked.{Checked}
use Rattle.gcra.specs.declared.Pace.{Pace}
use Rattle.gcra.specs.declared.Stepped.{Stepped}
use Rattle.gcra.specs.Packed.{tau, decode}
use Rattle.gcra.specs.declared.Units.{Units}
use Rattle.std.specs.declared.option.Option.{Option}
use Rattle.std.specs.declared.option.Option.TheVariants.{None, Some}
use Rattle.std.specs.Option.{unwrap_or}
use Rattle.std.specs.declared.result.Result.TheVariants.{Ok}

abbrev pub is_allow : Decision → Bool
is_allow Allow = true
is_allow (Deny retry-at) = false

-- the retry time: TAT - tau, never below 0
abbrev pub earliest : Pace → ℕ → ℕ
earliest p tat = tat - p.tau

-- a reading below the retry time is denied with it
unfoldable pub decide : Pace → ℕ → ℕ → Decision
decide p tat now = cond (ltb now (earliest p tat)) (Deny (earliest p tat)) Allow

-- TAT after an allowed check: max(TAT, reading) + T, held at 2^64 - 1
abbrev pub moved : Pace → ℕ → ℕ → ℕ
moved p tat now = min (max tat now + p.t) (2 ^ 64 - 1)

-- a check at any pace, with the TAT that it leaves
unfoldable pub attempt : Pace → ℕ → ℕ → Stepped
attempt p tat now =
    record { decision = decide p tat now; tat = cond (is_allow (decide p tat now)) (moved p tat now) tat }

-- one attempt on a TAT, 0 for none, and a packed word
abbrev pub step : Units → ℕ → ℕ → ℕ → Stepped
step u tat w now = attempt (decode u w) tat now

-- a TAT as `step` takes it: 0 for none
abbrev pub tat_word : Option ℕ → ℕ
tat_word None = 0
tat_word (Some tat) = tat

-- the pace of a quota: T and tau
abbrev pub pace_of : Quota → Pace
pace_of q = record { t = q.interval; tau = tau q.interval q.burst }

-- a missing TAT counts as the reading
abbrev pub tat_at : Option ℕ → ℕ → ℕ
tat_at t now = unwrap_or t now

unfoldable pub decision : Gcra → ℕ → Decision
decision g now = decide (pace_of g.quota) (tat_at g.tat now) now

-- the Gcra after a check: as it was after a denied one
unfoldable pub check : Gcra → ℕ → Gcra
check g now =
    cond (is_allow (decision g now))
    (record { quota = g.quota; tat = Some (moved (pace_of g.quota) (tat_at g.tat now) now) })
    g

-- a check as `step` answers it: the decision and the TAT that it leaves, 0 for none
abbrev pub outcome : Gcra → ℕ → Stepped
outcome g now = record { decision = decision g now; tat = tat_word (check g now).tat }

-- a check as the code answers it
unfoldable pub checked : Gcra → ℕ → Checked
checked g now = record { answer = Ok (decision g now); gcra = check g now }

-- whether a TAT is ahead of the reading
unfoldable pub has_debt : Gcra → ℕ → Bool
has_debt g now = ltb now (tat_at g.tat now)

-- how long until a check would be allowed; none where it would be now
abbrev pub retry_from : Decision → ℕ → Option ℕ
retry_from Allow now = None
retry_from (Deny retry-at) now = Some (retry-at - now)

unfoldable pub retry_after : Gcra → ℕ → Option ℕ
retry_after g now = retry_from (decision g now) now
