-- Arguments are of their types: what the types of the functions say of what a state keeps as it is given, a word or a float. Definitions only.
use Rattle.std.specs.Prelude.{◌^◌, Bool, true, ◌&&◌, ltb}
use Rattle.peers.specs.declared.peer_demand.DemandReport.{DemandReport}
use Rattle.questions.specs.Lists.{all}
use Rattle.records.specs.Typed.{is_word}
use Rattle.peers.specs.Peers.Calls.{fits_widths}
use Rattle.limiter.specs.declared.Config.{Config}
use Rattle.limiter.specs.State.{is_f64, cap_fits}
use Rattle.run.specs.Run.{Change, What, Move}

-- an epoch has 32 bits, a round 16, a key 64, and a demand is an f32
abbrev pub typed_report : DemandReport → Bool
typed_report x = ltb x.epoch (2 ^ 32) && (ltb x.round (2 ^ 16) && all fits_widths x.keys)

-- of a call that changes
unfoldable pub typed : Change → Bool
typed (Change.check key now n) = is_word key && is_word now
typed (Change.check-in key x now n) = is_word key && (is_word now && is_f64 x.rate)
typed (Change.check-traced key x y now n) = is_word key && (is_word now && is_f64 x.rate)
typed (Change.check-each list count n out) = all is_word list
typed (Change.tally key y x now n) = is_word key && (is_word now && is_f64 x.rate)
typed (Change.set-cap x) = cap_fits x
typed (Change.tick now n) = is_word now
typed (Change.tick-with-shares now n) = is_word now
typed (Change.report sender x now) = is_word sender && (is_word now && typed_report x)
typed (Change.forget peer) = true
typed (Change.leave peer now hold) = true
typed (Change.expire now max_age) = true

-- a call that reads keeps nothing
abbrev pub typed_what : What → Bool
typed_what (What.changes x) = typed x
typed_what (What.reads x) = true

abbrev pub typed_move : Move → Bool
typed_move (Move.call c) = typed_what c.what
typed_move (Move.resume w) = true

-- of the settings
abbrev pub typed_config : Config → Bool
typed_config c =
    is_f64 c.limit.rate
    && ((is_f64 c.alpha && is_f64 c.floor_factor) && (is_word c.cooldown && is_word c.demand_time_constant))
