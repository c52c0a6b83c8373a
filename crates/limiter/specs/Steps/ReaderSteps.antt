-- What the private functions of the readers, and of `set_cap`, cite. Definitions only.
use Rattle.std.specs.Prelude.{Float}
use Rattle.limiter.specs.declared.Limiter.{Limiter}
use Rattle.limiter.specs.State.{KeyRecord}
use Rattle.limiter.specs.Steps.KeySteps.{key_record}
use Rattle.std.specs.declared.option.Option.{Option}
use Rattle.std.specs.declared.option.Option.TheVariants.{None, Some}
use Rattle.limiter.specs.declared.key_record.KeyState.{KeyState}

-- the limiter with another cap
abbrev pub with_cap : Limiter → Option Float → Limiter
with_cap l cap = record { config = l.config; cap = cap; last_tick = l.last_tick; keys = l.keys; hot = l.hot; shadows = l.shadows }

-- the key that was found, if there is one
abbrev pub key_found : Option KeyState → Option KeyRecord
key_found None = None
key_found (Some k) = Some (key_record k)
