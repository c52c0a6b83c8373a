-- Laws: what the walks of a tick require holds of a value and tables that pass questions 1 and 2.
use mathlib.Core.Path.{◌≡◌, refl, sym, ap, ◌∙◌}
use mathlib.Core.Bool.{true}
use mathlib.Core.List.{List, [], ◌∷◌, map}
use Prim.Native.Nat.{ℕ, ◌*◌, ◌≤◌}
use native.Mathlib.Omega.{arith}
use lib.ListN.{length, length-map}
use Rattle.records.specs.Records.{records, ascending, same}
use Rattle.records.proofs.Order.OrderLaws.{same-eq}
use Rattle.records.proofs.Words.RecordLaws.{length-records}
use Rattle.questions.proofs.Tests.{both, and_intro}
use Rattle.hot.specs.HotSet.Set as hot-set
use Rattle.questions.specs.Lists.{all}
use Rattle.records.specs.Typed.{exact}
use Rattle.hot.specs.HotSet.Steps.{EntriesReady}
use Rattle.limiter.specs.declared.Limiter.{Limiter}
use Rattle.limiter.specs.State.{LimiterTables, LimiterState, lengths, have_room, key_words, key_of, shadow_of, state_of, are_exact, is_valid, units_in}
use Rattle.limiter.specs.Steps.TickSteps.{LentKeys}
use Rattle.limiter.proofs.States.KeyListLaws.{rising-ascends}
use Rattle.limiter.proofs.States.StateValidLaws.{key_of_key, sizes-say, ValidState, valid-says, few-shadows}
use Rattle.limiter.proofs.States.WrittenLaws.{room_says}
use Rattle.limiter.proofs.Walking.CapLaws.{first-word}

-- records whose words are exactly those of what they stand for
exact-list : {A : Type 0} (words : A → List ℕ) (of : List ℕ → A) (rs : List (List ℕ)) → exact words of rs ≡ true → rs ≡ map words (map of rs)
unfolding all
exact-list words of [] e = refl
exact-list words of (r ∷ rs) e =
    let b = both (same (words (of r)) r) _ e in
    (λ i. sym (same-eq (words (of r)) r b.0) i ∷ exact-list words of rs b.1 i)

module _ (l : Limiter) (t : LimiterTables) (room : have_room l.config (lengths t) ≡ true) (e : is_valid (units_in l) l t ≡ true) where
  parts : (are_exact (units_in l) l t ≡ true) × ValidState (units_in l) (state_of (units_in l) l t)
  unfolding is_valid
  parts = let b = both (are_exact (units_in l) l t) _ e in (b.0, valid-says (units_in l) (state_of (units_in l) l t) b.1)

  abbrev state : LimiterState
  state = state_of (units_in l) l t

  exacts : (exact (key_words (units_in l)) (key_of (units_in l)) (records 22 l.keys t.keys) ≡ true) × (exact hot-set.words hot-set.entry (records 6 l.hot t.hot) ≡ true)
  unfolding are_exact
  exacts =
      let b = both (exact (key_words (units_in l)) (key_of (units_in l)) (records 22 l.keys t.keys)) _ parts.0 in
      (b.0, (both (exact hot-set.words hot-set.entry (records 6 l.hot t.hot)) _ b.1).0)

  -- how many there are of each
  key_count : length state.keys ≡ l.keys
  unfolding state_of
  key_count = length-map (records 22 l.keys t.keys) (key_of (units_in l)) ∙ length-records 22 l.keys t.keys

  hot_count : length state.hot ≡ l.hot
  unfolding state_of hot-set.entries
  hot_count = length-map (records 6 l.hot t.hot) hot-set.entry ∙ length-records 6 l.hot t.hot

  shadow-count : length state.shadows ≡ l.shadows
  unfolding state_of
  shadow-count = length-map (records 4 l.shadows t.shadows) (shadow_of (units_in l)) ∙ length-records 4 l.shadows t.shadows

  pub few_keys : (l.keys ≤ 4096) × (l.shadows ≤ 4096)
  unfolding state_of
  few_keys =
      let v = parts.1 in
      let z = sizes-say l.config v.settings.config.sizes in
      (omega (arith, v.few, z, key_count), omega (arith, v.few, z, key_count, few-shadows (units_in l) state v, shadow-count))

  rooms : (l.keys * 22 ≤ length t.keys) × (l.hot * 6 ≤ length t.hot) × (l.shadows * 4 ≤ length t.shadows)
  unfolding state_of
  rooms =
      let v = parts.1 in
      let z = sizes-say l.config v.settings.config.sizes in
      let r = room_says l.config (lengths t) room in (
        omega (arith, v.few, z, key_count, r.for_keys),
        omega (arith, v.hot_few, z, hot_count, r.for_hot),
        omega (arith, v.few, z, key_count, few-shadows (units_in l) state v, shadow-count, r.for_shadows),
      )

  pub lent-keys : LentKeys (units_in l) l.keys t.keys
  unfolding state_of
  lent-keys =
      let x = exact-list (key_words (units_in l)) (key_of (units_in l)) (records 22 l.keys t.keys) exacts.0 in
      record {
        fit = rooms.0;
        exact = x;
        valids = parts.1.keys;
        ascends = ap (ascending 1) x ∙ rising-ascends key_of_key (key_words (units_in l)) (first-word (units_in l)) state.keys parts.1.keys_rise;
      }

  pub lent-hot : EntriesReady l.hot t.hot
  unfolding state_of hot-set.entries hot-set.valid_entries
  lent-hot = record {
    fit = rooms.1;
    exact = sym (exact-list hot-set.words hot-set.entry (records 6 l.hot t.hot) exacts.1);
    good = and_intro (all hot-set.valid_entry state.hot) _ parts.1.hot parts.1.hot_rise;
  }

  pub lent-shadows : l.shadows * 4 ≤ length t.shadows
  lent-shadows = rooms.2
