-- 01's marked points hold: the whole table is computed.
use mathlib.Core.Path.{◌≡◌, refl}
use mathlib.Core.Bool.{true}
use lib.Ieee.{of_int, of_bits, to_unsigned, to_bits, add, sub, mul, div, round, lt, le}
use Rattle.float.specs.Integral.{round_away}
use Rattle.questions.specs.Questions.{answer}
use Rattle.gcra.specs.Packed.{encode, rounded, with_interval, valid_quota, pack, ceiling}
use Rattle.gcra.specs.Rate.{carry_tat, debt_slots, slot_nanos}
use Rattle.gcra.specs.Calls.{quota_new, quota_pack, quota_ceiling}
use Rattle.questions.specs.Lists.{only, those, replaced}
use Rattle.demand.specs.Decay.Weight.{next, term, sum, series, power, weight}
use Rattle.demand.specs.Allocation.{is_rate, is_floor_factor, is_cluster_size, shared}
use Rattle.hot.specs.HotSet.Set.{update_with, promote, promote_from, get, admit, evict, weakest, weakest_of, put, remove}
use Rattle.peers.specs.Peers.Changes.{newer}
use Rattle.points.specs.Points.{table, agree}

pub marked-points : agree table ≡ true
unfolding agree table of_int of_bits to_unsigned to_bits add sub mul div round lt le round_away answer encode rounded with_interval valid_quota pack ceiling carry_tat debt_slots slot_nanos quota_new quota_pack quota_ceiling next term sum series power weight is_rate is_floor_factor is_cluster_size shared update_with promote promote_from get admit evict weakest weakest_of put remove only those replaced newer
marked-points = refl
