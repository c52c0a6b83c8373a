-- Laws: from the key table to the limiter's whole state. What questions 1 and 2 say of the tables, and what a change of the keys and shadows leaves.
use Prim.Native.Nat.{ℕ, ◌*◌, ◌≤◌}
use mathlib.Core.Path.{◌≡◌, refl, sym, ap, ◌∙◌}
use mathlib.Core.Bool.{Bool, true, false, cond}
use mathlib.Core.List.{List, [], ◌∷◌, ◌++◌, map}
use native.Mathlib.Omega.{arith}
use lib.Dec.{leb, lit<}
use lib.ListN.{length, length-map}
use Rattle.records.specs.Records.{records, table, ascending}
use Rattle.questions.proofs.Tests.{both}
use Rattle.records.proofs.Words.RecordLaws.{length-records}
use Rattle.gcra.specs.Packed.{valid_burst}
use Rattle.questions.specs.Questions.{Question, Answer, refused, answer, passes, first_no}
use Rattle.questions.proofs.Answers.{answer-no, kept-no, first_more, Numbered, passed_none}
use Rattle.hot.specs.HotSet.Set as hot-set
use Rattle.questions.specs.Lists.{all}
use Rattle.records.specs.Typed.{exact}
use Rattle.demand.specs.Allocation.{is_rate}
use Rattle.records.proofs.Tables.TabledLaws.{table_same}
use Rattle.records.proofs.Tables.TypedLaws.{words-of-exact}
use Rattle.limiter.specs.declared.Limit.{Limit}
use Rattle.limiter.specs.declared.Limiter.{Limiter}
use Rattle.limiter.specs.declared.Tally.{Tally}
use Rattle.limiter.specs.Answered.{Checked, Changed}
use Rattle.limiter.specs.State.{KeyRecord, ShadowRecord, LimiterState, LimiterTables, tables, lengths, have_room, key_words, key_of, shadow_words, shadow_of, put_key, state_of, are_exact, is_valid, valid, valid_settings, valid_keys, valid_hot, valid_shadows, valid_key, valid_shadow, value_of, written, units_in}
use Rattle.limiter.specs.Checks.{holding, has_place, key_questions, own_limit, entry, checked_key, tallied_key, key_decision, check_in, record_tally, limit_questions, cluster_questions}
use Rattle.limiter.specs.Calls as Calls
use Rattle.limiter.specs.Calls.{here, state_questions}
use Rattle.limiter.specs.Steps.CheckSteps as steps
use Rattle.limiter.specs.Steps.CheckSteps.{keys_only, Ready, ChecksKey, RecordsKey}
use Rattle.limiter.specs.Steps.TraceSteps.{ShadowsReady}
use Rattle.limiter.proofs.States.RecordValidLaws.{limit-burst}
use Rattle.limiter.proofs.States.StateValidLaws.{sizes-say, ValidState, valid-says, few-shadows}
use Rattle.limiter.proofs.States.WrittenLaws.{room_says}
use Rattle.std.specs.declared.option.Option.TheVariants.{None}
use Rattle.questions.specs.Refusals.{answer_of}

-- ---- questions 1 and 2
module _ (l : Limiter) (t : LimiterTables) (room : have_room l.config (lengths t) ≡ true) (ok : is_valid (units_in l) l t ≡ true) where
  exactly : are_exact (units_in l) l t ≡ true
  unfolding is_valid
  exactly = (both (are_exact (units_in l) l t) (valid (units_in l) (state_of (units_in l) l t)) ok).0

  pub state-valid : valid (units_in l) (here l t) ≡ true
  unfolding is_valid
  state-valid = (both (are_exact (units_in l) l t) (valid (units_in l) (state_of (units_in l) l t)) ok).1

  pub facts : ValidState (units_in l) (here l t)
  facts = valid-says (units_in l) (here l t) state-valid

  -- the counts are those of the state
  pub keys-counted : length (here l t).keys ≡ l.keys
  unfolding state_of
  keys-counted = length-map (records 22 l.keys t.keys) (key_of (units_in l)) ∙ length-records 22 l.keys t.keys

  pub hot-counted : length (here l t).hot ≡ l.hot
  unfolding state_of hot-set.entries
  hot-counted = length-map (records 6 l.hot t.hot) hot-set.entry ∙ length-records 6 l.hot t.hot

  pub shadows-counted : length (here l t).shadows ≡ l.shadows
  unfolding state_of
  shadows-counted = length-map (records 4 l.shadows t.shadows) (shadow_of (units_in l)) ∙ length-records 4 l.shadows t.shadows

  -- each table's words are those of its records
  keys_exact : exact (key_words (units_in l)) (key_of (units_in l)) (records 22 l.keys t.keys) ≡ true
  unfolding are_exact
  keys_exact = (both (exact (key_words (units_in l)) (key_of (units_in l)) (records 22 l.keys t.keys)) _ exactly).0

  hot-exact : exact hot-set.words hot-set.entry (records 6 l.hot t.hot) ≡ true
  unfolding are_exact
  hot-exact =
      (both (exact hot-set.words hot-set.entry (records 6 l.hot t.hot)) _
      (both (exact (key_words (units_in l)) (key_of (units_in l)) (records 22 l.keys t.keys)) _ exactly).1).0

  pub shadows-exact : exact (shadow_words (units_in l)) (shadow_of (units_in l)) (records 4 l.shadows t.shadows) ≡ true
  unfolding are_exact
  shadows-exact =
      (both (exact hot-set.words hot-set.entry (records 6 l.hot t.hot))
      (exact (shadow_words (units_in l)) (shadow_of (units_in l)) (records 4 l.shadows t.shadows))
      (both (exact (key_words (units_in l)) (key_of (units_in l)) (records 22 l.keys t.keys)) _ exactly).1).1

  -- there is room for the shadows
  pub shadows_fit : l.shadows * 4 ≤ length t.shadows
  unfolding state_of
  shadows_fit =
      let v = facts in
      let z = sizes-say l.config v.settings.config.sizes in
      omega (arith, few-shadows (units_in l) (here l t) v, shadows-counted, v.few, z.most_held, (room_says l.config (lengths t) room).for_shadows)

  -- the key table is ready for a call
  pub ready : Ready l t.keys
  unfolding state_of valid valid_keys
  ready =
      let s = here l t in
      let v = facts in
      let z = sizes-say l.config v.settings.config.sizes in
      let k = (both (valid_keys (units_in l) l.config s.keys) _ (both (valid_settings s.settings) _ state-valid).1).0 in
      let kk = both (all (valid_key (units_in l)) s.keys) _ (both (leb (length s.keys) l.config.table_size) _ k).1 in
      record {
        few = omega (arith, v.few, keys-counted);
        room = omega (arith, z.most_held, (room_says l.config (lengths t) room).for_keys);
        exactly = keys_exact;
        good = v.keys;
        order = sym (ap (ascending 1) (words-of-exact (key_words (units_in l)) (key_of (units_in l)) (records 22 l.keys t.keys) keys_exact)) ∙ kk.1;
      }

  -- the shadow table too
  pub shadows-ready : ShadowsReady (units_in l) l.shadows t.shadows
  unfolding state_of valid valid_shadows
  shadows-ready =
      let s = here l t in
      let x = (both (valid_settings s.settings) _ state-valid).1 in
      let y = (both (valid_hot l.config s.keys s.hot) (valid_shadows (units_in l) l.config s.keys s.shadows)
      (both (valid_keys (units_in l) l.config s.keys) _ x).1).1 in
      let z = both (all (valid_shadow (units_in l)) s.shadows) _ (both (leb (length s.shadows) l.config.table_size) _ y).1 in
      record {
        fit = shadows_fit;
        exactly = shadows-exact;
        good = z.0;
        order =
            sym (ap (ascending 1) (words-of-exact (shadow_words (units_in l)) (shadow_of (units_in l)) (records 4 l.shadows t.shadows) shadows-exact))
            ∙ (both (ascending 1 (map (shadow_words (units_in l)) s.shadows)) _ z.1).0;
      }

  -- the settings' limit has a valid burst
  pub own-burst : valid_burst (own_limit (here l t)).burst ≡ true
  own-burst = limit-burst (own_limit (here l t)) facts.settings.config.limit

  -- ---- what a change of the keys and shadows leaves

  -- to write the hot entries changes nothing
  hot-still : table (map hot-set.words (here l t).hot) t.hot ≡ t.hot
  unfolding state_of hot-set.entries
  hot-still =
      let v = facts in
      let z = sizes-say l.config v.settings.config.sizes in
      ap (λ (rs : List (List ℕ)). table rs t.hot) (words-of-exact hot-set.words hot-set.entry (records 6 l.hot t.hot) hot-exact)
      ∙ table_same 6 l.hot t.hot (omega (arith, v.hot_few, hot-counted, z.most_hot, (room_says l.config (lengths t) room).for_hot))

  -- to write the shadows changes nothing
  pub shadows-still : table (map (shadow_words (units_in l)) (here l t).shadows) t.shadows ≡ t.shadows
  unfolding state_of
  shadows-still =
      ap (λ (rs : List (List ℕ)). table rs t.shadows)
      (words-of-exact (shadow_words (units_in l)) (shadow_of (units_in l)) (records 4 l.shadows t.shadows) shadows-exact)
      ∙ table_same 4 l.shadows t.shadows shadows_fit

  -- the value
  pub value_after : (ks : List KeyRecord) (ss : List ShadowRecord)
      → value_of (holding (here l t) ks ss)
      ≡ record { config = l.config; cap = l.cap; last_tick = l.last_tick; keys = length ks; hot = l.hot; shadows = length ss }
  unfolding state_of
  value_after ks ss =
      (λ i. record {
        config = l.config;
        cap = l.cap;
        last_tick = l.last_tick;
        keys = length ks;
        hot = hot-counted i;
        shadows = length ss;
      })

  -- the tables
  pub written_after : (ks : List KeyRecord) (ss : List ShadowRecord)
      → written (units_in l) (holding (here l t) ks ss) t ≡ tables (table (map (key_words (units_in l)) ks) t.keys) t.hot
      (table (map (shadow_words (units_in l)) ss) t.shadows)
  written_after ks ss = (λ i. tables (table (map (key_words (units_in l)) ks) t.keys) (hot-still i) (table (map (shadow_words (units_in l)) ss) t.shadows))

-- ---- questions that were passed before

-- they may be left out
pub answer-after : {A : Type 0} (qs rs : List Question) (a : A) → passes qs ≡ true → answer (qs ++ rs) a ≡ answer rs a
unfolding answer passes
answer-after [] rs a e = refl
answer-after (q ∷ qs) rs a e = let b = both q.passed _ e in rw b.0 (answer-after qs rs a b.1)

-- of a change likewise
pub passes-after : (qs rs : List Question) → passes qs ≡ true → passes (qs ++ rs) ≡ passes rs
unfolding passes
passes-after [] rs e = refl
passes-after (q ∷ qs) rs e = let b = both q.passed _ e in rw b.0 (passes-after qs rs b.1)

-- a change of the key table alone
changed-keys : (t : LimiterTables) (b : Bool) (w : List ℕ)
    → tables (cond b w t.keys) t.hot t.shadows ≡ cond b (tables w t.hot t.shadows) t
changed-keys t true w = refl
changed-keys t false w = refl

module _ {A : Type 0} (said : Answer A) (value : A) (after : KeyRecord) (l l' : Limiter) (t : LimiterTables) (ys : List ℕ)
    (asked : List Question) where
  -- the limiter with a key put among the others
  abbrev left : LimiterState
  left = holding (here l t) (put_key after (here l t).keys) (here l t).shadows

  -- a call on the key table is one on the limiter
  pub lifted : have_room l.config (lengths t) ≡ true → is_valid (units_in l) l t ≡ true → passes asked ≡ true
      → steps.Acts said value after l t.keys l' ys
      → Calls.Acts said (asked ++ key_questions (here l t) after) value left l t l' (tables ys t.hot t.shadows)
  unfolding state_of has_place
  lifted room ok e h =
      let qs = key_questions (keys_only l t.keys) after in
      record {
        answered = h.says ∙ sym (answer-after asked qs value e);
        limiter =
            h.limiter
            ∙ (λ i. cond (sym (passes-after asked qs e) i)
            (sym (value_after l t room ok (put_key after (here l t).keys) (here l t).shadows
            ∙ ap (λ (n : ℕ). record {
              config = l.config;
              cap = l.cap;
              last_tick = l.last_tick;
              keys = length
                  (put_key after (here l t).keys);
              hot = l.hot;
              shadows = n;
            }) (shadows-counted l t room ok)) i) l);
        words =
            ap (λ (zs : List ℕ). tables zs t.hot t.shadows) h.words
            ∙ changed-keys t (passes qs) (table (map (key_words (units_in l)) (put_key after (here l t).keys)) t.keys)
            ∙ (λ i. cond (sym (passes-after asked qs e) i)
            (sym (written_after l t room ok (put_key after (here l t).keys) (here l t).shadows
            ∙ ap (λ (zs : List ℕ). tables (table (map (key_words (units_in l)) (put_key after (here l t).keys)) t.keys) t.hot zs)
            (shadows-still l t room ok)) i) t);
      }

-- a 'no' before it
pub refused-before : {A : Type 0} (value : A) (l : Limiter) (t : LimiterTables) (asked rs : List Question) (s : LimiterState) (m : ℕ)
    → m ≡ first_no asked → (m ≡ 0 → ⊥) → Calls.Acts (refused m) (asked ++ rs) value s l t l t
refused-before value l t asked rs s m e z =
    let f = first_more asked rs m e z in
    record { answered = answer-no value (asked ++ rs) m f z; limiter = kept-no _ l (asked ++ rs) m f z; words = kept-no _ t (asked ++ rs) m f z }

-- what it says that questions 1 and 2 and others were passed
pub record Passed (l : Limiter) (t : LimiterTables) (rs : List Question) : Type 0 where
  pub room : have_room l.config (lengths t) ≡ true
  pub ok : is_valid (units_in l) l t ≡ true
  pub rest : passes rs ≡ true
  pub all : passes (state_questions l t ++ rs) ≡ true

pub passed : (l : Limiter) (t : LimiterTables) (rs : List Question) (m : ℕ) → Numbered rs → m ≡ first_no (state_questions l t ++ rs) → m ≡ 0
    → Passed l t rs
unfolding passes
passed l t rs m w e z =
    let q = passed_none (state_questions l t ++ rs) m (lit< tt, (lit< tt, w)) e z in
    let a = both (have_room l.config (lengths t)) _ q in
    let b = both (is_valid (units_in l) l t) _ a.1 in
    record { room = a.0; ok = b.0; rest = b.1; all = q }

-- ---- each call on the key table

module _ (l : Limiter) (t : LimiterTables) (rs : List Question) (p : Passed l t rs) (key : ℕ) (limit : Limit) (now n : ℕ) (ys : List ℕ) where
  -- `check_in`, and `check` at the settings' limit
  pub checks-lifted : (r : Checked) → ChecksKey l t.keys key limit now n r ys
      → Calls.Acts (answer_of r.answer)
      ((state_questions l t ++ rs) ++ key_questions (here l t) (checked_key now None (entry (units_in l) (here l t) key limit now n)))
      (key_decision (units_in l) (here l t) key limit now n) (check_in (units_in l) (here l t) key limit now n) l t r.limiter (tables ys t.hot t.shadows)
  unfolding check_in entry state_of
  checks-lifted r h =
      lifted (answer_of r.answer) (key_decision (units_in l) (here l t) key limit now n) (checked_key now None (entry (units_in l) (here l t) key limit now n)) l
      r.limiter t ys (state_questions l t ++ rs) p.room p.ok p.all h

  -- `record`
  pub records-lifted : (y : Tally) (r : Changed) → RecordsKey l t.keys key y limit now n r ys
      → Calls.Acts (answer_of r.answer)
      ((state_questions l t ++ rs) ++ key_questions (here l t) (tallied_key y (entry (units_in l) (here l t) key limit now n))) tt
      (record_tally (units_in l) (here l t) key y limit now n) l t r.limiter (tables ys t.hot t.shadows)
  unfolding record_tally entry state_of
  records-lifted y r h =
      lifted (answer_of r.answer) tt (tallied_key y (entry (units_in l) (here l t) key limit now n)) l r.limiter t ys (state_questions l t ++ rs)
      p.room
      p.ok p.all h

-- question 4 among 3, 4 and 7
pub burst-passed : (limit : Limit) (n : ℕ) → passes (limit_questions limit ++ cluster_questions n) ≡ true → valid_burst limit.burst ≡ true
unfolding passes
burst-passed limit n e = (both (valid_burst limit.burst) _ (both (is_rate limit.rate) _ e).1).0

-- ---- a call at a limit of its own: `check_in`, `record`

-- the questions past 2 that come before those of the key
abbrev pub limit_asked : Limit → (n : ℕ) → List Question
limit_asked limit n = limit_questions limit ++ cluster_questions n

module _ (l : Limiter) (t : LimiterTables) (limit : Limit) (n : ℕ) where
  pub limit-passed : (m : ℕ) → m ≡ first_no (state_questions l t ++ limit_asked limit n) → m ≡ 0 → Passed l t (limit_asked limit n)
  limit-passed m e z = passed l t (limit_asked limit n) m (lit< tt, (lit< tt, (lit< tt, tt))) e z

  -- past them the key table is ready, and the limit's burst valid
  pub limit-ready : Passed l t (limit_asked limit n) → Ready l t.keys × (valid_burst limit.burst ≡ true)
  limit-ready p = (ready l t p.room p.ok, burst-passed limit n p.rest)
