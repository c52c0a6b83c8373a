-- Laws: a limiter and tables that pass questions 1 and 2 are what pass one takes.
use mathlib.Core.Path.{◌≡◌, ◌∙◌}
use mathlib.Core.Bool.{Bool, true}
use mathlib.Core.List.{List}
use Prim.Native.Nat.{◌≤◌}
use native.Mathlib.Omega.{arith}
use borrow.Author.Tests.{le-leb}
use lib.Dec.{leb}
use lib.ListN.{length, length-map}
use Rattle.records.specs.Records.{records}
use Rattle.records.proofs.Words.RecordLaws.{length-records}
use Rattle.questions.proofs.Tests.{both, and_intro}
use Rattle.hot.specs.HotSet.Set.{entry, entries, valid_size}
use Rattle.limiter.specs.declared.Limiter.{Limiter}
use Rattle.limiter.specs.State.{LimiterTables, lengths, have_room, state_of, are_exact, is_valid, units_in}
use Rattle.limiter.specs.Steps.PassOneSteps.{LentHot, Passable}
use Rattle.limiter.proofs.States.StateValidLaws.{sizes-say, ValidState, valid-says}
use Rattle.limiter.proofs.States.WrittenLaws.{room_says}
use Rattle.limiter.proofs.Checking.ReadyLaws.{few_keys, lent-keys, lent-hot}

module _ (l : Limiter) (t : LimiterTables) (room : have_room l.config (lengths t) ≡ true) (e : is_valid (units_in l) l t ≡ true) where
  now-valid : ValidState (units_in l) (state_of (units_in l) l t)
  unfolding is_valid
  now-valid = valid-says (units_in l) (state_of (units_in l) l t) (both (are_exact (units_in l) l t) _ e).1

  hot-ready : LentHot l t.hot
  unfolding state_of entries valid_size
  hot-ready =
      let v = now-valid in
      let z = sizes-say l.config v.settings.config.sizes in
      let many = length-map (records 6 l.hot t.hot) entry ∙ length-records 6 l.hot t.hot in
      record {
        size =
            and_intro (leb 1 l.config.hot_set_size) _ (le-leb 1 l.config.hot_set_size z.some_hot)
            (le-leb l.config.hot_set_size 64 z.most_hot);
        fit = (room_says l.config (lengths t) room).for_hot;
        few = omega (arith, many, v.hot_few);
        held = lent-hot l t room e;
      }

  pub pass-ready : (elsewhere : List Bool) → l.keys ≤ length elsewhere → Passable l t.keys t.hot elsewhere
  pass-ready elsewhere h = record { few = (few_keys l t room e).0; keys_lent = lent-keys l t room e; hot_lent = hot-ready; flags_fit = h }
