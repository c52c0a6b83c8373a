-- The bound is reached: 4 checks in a stretch, burst 2, two spells shorter than their intervals, one change of quota. And the premises can be met.
-- `Witness` has the run.
use Prim.Native.Nat.{ℕ}
use mathlib.Core.Path.{◌≡◌, refl}
use mathlib.Core.List.{List, [], ◌∷◌, map}
use native.Mathlib.Omega.{arith}
use lib.Ieee.{binary64, span, climb, size as ieee-size, odd, units as ieee-units, round as ieee-round, neg, sum as ieee-sum, add, sub, mul, div, lt}
use lib.Ieee.{eq, le, ne, of_int, to_unsigned, whole, in_unsigned, fits, is_nan, of_fields, of_bits, to_bits}
use Rattle.gcra.specs.declared.Decision.TheVariants.{Allow, Deny}
use Rattle.limiter.specs.declared.Limit.{Limit}
use Rattle.limiter.specs.declared.Config.{Config}
use Rattle.run.specs.Seen.{Seen, allowed_in, bound, Premises}
use Rattle.run.specs.Run.{Change, What, Lent, Reply, Move, Shown}
use Rattle.run.specs.Trace.{new_states, asked, made, trace}
use Rattle.float.specs.Integral.{ceil, round_away}
use Rattle.float.specs.Order.{below, minimum_number, maximum_number, total_less}
use Rattle.records.specs.Records.{before, same, leads, ascending}
use Rattle.questions.specs.Questions.{given, answer, passes}
use Rattle.gcra.specs.Packed.{encode, rounded, with_interval, valid_quota, pack, unpack, tau, decode}
use Rattle.gcra.specs.Meter.{decide, attempt, decision, check as meter-check, has_debt}
use Rattle.gcra.specs.Rate.{quotient_nanos, per_second, debt_slots, slot_nanos, carry_tat, set_quota}
use Rattle.demand.specs.Decay.Weight.{next, weight}
use Rattle.demand.specs.Estimators.Estimator.{alpha, folded as estimator-folded, ticked_from, unbiased_from}
use Rattle.demand.specs.Allocation.{is_rate, is_floor_factor, is_cluster_size, shared}
use Rattle.hot.specs.HotSet.Set.{words as hotset-words, entry as hotset-entry, entries, valid_size, valid as hotset-valid, get as hotset-get, put, valid_entry, valid_entries, remove, weaker, admit, promote_from, promote, below_threshold, update_with}
use Rattle.records.specs.Fields.{is_time}
use Rattle.questions.specs.Lists.{only, all, any, those, replaced}
use Rattle.limiter.specs.State.{is_tracked, settings_words, key_words, is_alpha, are_sizes, valid_limit, valid_settings, valid_key, valid_keys, valid_hot, valid_shadows, valid as state-valid, within, units_for, parameters_for}
use Rattle.limiter.specs.Checks.{new_key_factor, cold_quota, entry as checks-entry, check_in, record_tally, has_place, counters_fit}
use Rattle.limiter.specs.Ticks.{folded as ticks-folded, unbiased_rate, pass_one, rate_of, victims, capped, tick_with}
use Rattle.run.proofs.Standing.Replied.{replied_to}
use Rattle.run.proofs.Standing.Shows.{shown_by}

-- T is 576,460,752,304,000,000 at first, and 576,460,752,305,000,000 from the tick on
abbrev pub slow : Limit
slow = record { rate = of_bits binary64 0x3e1dcd64ffffdf3b; burst = 2 }

abbrev pub slower : Limit
slower = record { rate = of_bits binary64 0x3e1dcd64ffffa664; burst = 2 }

abbrev pub settings : Config
settings =
    record {
      limit = slow;
      alpha = of_bits binary64 0x3ff0000000000000;
      floor_factor = of_bits binary64 0;
      cooldown = 0;
      hot_set_size = 1;
      max_tracked_keys = 1;
      demand_time_constant = 0;
      table_size = 1;
    }

abbrev pub enough : Lent
enough = record { limiter = record { keys = 22; hot = 6; shadows = 4 }; peers = record { peers = 384; snapshot_keys = 8192; contested = 49152 } }

abbrev calls : Change → Move
calls x = Move.call (record { lent = enough; what = What.changes x })

abbrev pub tally-nothing : Change
tally-nothing = Change.tally 1 (record { attempts = 0; denials = 0; shadow_denials = 0 }) slower 576460752303999999 1

abbrev pub changes : List Change
changes =
    Change.check 1 0 1
    ∷ Change.check 1 0 1
    ∷ Change.check 1 0 1
    ∷ tally-nothing
    ∷ Change.tick 576460752303999999 1
    ∷ Change.check-in 1 slower 1152921504608999998 1
    ∷ Change.check-in 1 slower 1152921504608999998 1
    ∷ []

unfoldable pub moves : List Move
moves = map calls changes

-- what a run of them that showed xs shows of the key
abbrev pub seen-of-key : List Shown → List Seen
seen-of-key xs = trace 1 (new_states settings) moves xs

-- the answers alone, without the images
abbrev pub replies_in : List Shown → List Reply
replies_in [] = []
replies_in (Shown.answered r image ∷ xs) = r ∷ replies_in xs
replies_in (Shown.resumed image ∷ xs) = replies_in xs

-- two checks are allowed, the third is denied until T; after the tick two more are
abbrev pub replies : List Reply
replies =
    Reply.decided (given Allow)
    ∷ Reply.decided (given Allow)
    ∷ Reply.decided (given (Deny 576460752304000000))
    ∷ Reply.done (given tt)
    ∷ Reply.done (given tt)
    ∷ Reply.decided (given Allow)
    ∷ Reply.decided (given Allow)
    ∷ []

abbrev pub bound_of : List Seen → ℕ
bound_of [] = 0
bound_of (x ∷ xs) = bound x xs

-- they are so answered and allow 4, the bound is 4, and the premises are met
pub record Reached (xs : List Shown) : Type 0 where
  pub answers : replies_in xs ≡ replies
  pub four : allowed_in (seen-of-key xs) ≡ 4
  pub at_most_four : bound_of (seen-of-key xs) ≡ 4
  pub premises : Premises (seen-of-key xs)

-- by what the definitions show
pub reached : Reached (shown_by (new_states settings) moves)
unfolding moves shown_by replied_to span climb ieee-size odd ieee-units ieee-round neg ieee-sum add sub mul div lt eq
    le ne of_int to_unsigned whole in_unsigned fits is_nan of_fields of_bits to_bits ceil round_away below minimum_number maximum_number total_less before same
    leads ascending answer passes encode rounded with_interval valid_quota pack unpack tau decode decide attempt decision meter-check has_debt
    quotient_nanos per_second debt_slots slot_nanos carry_tat set_quota next weight alpha estimator-folded ticked_from unbiased_from is_rate is_floor_factor
    is_cluster_size shared hotset-words hotset-entry entries valid_size hotset-valid hotset-get put remove weaker admit promote_from promote
    below_threshold update_with is_time only all any those replaced is_tracked settings_words key_words is_alpha are_sizes valid_limit valid_settings valid_key
    valid_entry valid_entries valid_keys valid_hot valid_shadows state-valid within new_key_factor cold_quota checks-entry check_in record_tally has_place
    counters_fit ticks-folded unbiased_rate pass_one rate_of victims capped tick_with parameters_for units_for asked made trace
reached = record { answers = refl; four = refl; at_most_four = refl; premises = omega arith }
