-- Laws: a traced check, from its two tables to the limiter's whole state.
use Prim.Native.Nat.{ℕ}
use mathlib.Core.Path.{◌≡◌, refl, sym, ◌∙◌, subst}
use mathlib.Core.Bool.{Bool, true, false, cond, ◌&&◌}
use mathlib.Core.List.{List, ◌++◌, map}
use native.Mathlib.Omega.{arith}
use lib.Dec.{lit<}
use Rattle.records.specs.Records.{table}
use Rattle.questions.proofs.Tests.{both}
use Rattle.gcra.specs.declared.Gcra.{Gcra}
use Rattle.gcra.specs.Packed.{valid_burst}
use Rattle.gcra.specs.Meter.{decision}
use Rattle.questions.specs.Questions.{Question, passes, first_no}
use Rattle.demand.specs.Allocation.{is_rate}
use Rattle.limiter.specs.declared.Limit.{Limit}
use Rattle.limiter.specs.declared.Limiter.{Limiter}
use Rattle.limiter.specs.Answered.{TracedCheck}
use Rattle.limiter.specs.State.{KeyRecord, LimiterState, LimiterTables, tables, lengths, have_room, key_words, shadow_words, put_key, state_of, is_valid, units_in, settings_of}
use Rattle.limiter.specs.Checks.{holding, entry, checked_key, key_decision, traced_meter, decision_by, shadow_decision, shadows_with, check_traced, has_place, both_limit_questions, cluster_questions, key_questions}
use Rattle.limiter.specs.Calls as Calls
use Rattle.limiter.specs.Calls.{here, state_questions, ChecksTraced}
use Rattle.limiter.specs.Steps.CheckSteps.{keys_only}
use Rattle.limiter.specs.Steps.TraceSteps.{TracesAs, meter_for, Traces, Roomy}
use Rattle.limiter.proofs.Calls.CheckValidLaws.{Given, traced-valid}
use Rattle.limiter.proofs.States.StateValidLaws.{sizes-say, valid-says, few-shadows, units-of-accepted}
use Rattle.limiter.proofs.States.WrittenLaws.{room_says}
use Rattle.limiter.proofs.Checking.LiftLaws.{state-valid, value_after, written_after, answer-after, passes-after, refused-before, Passed, passed}
use Rattle.std.specs.declared.option.Option.{Option}
use Rattle.std.specs.declared.option.Option.TheVariants.{None, Some}
use Rattle.std.specs.declared.result.Result.TheVariants.{Err}
use Rattle.limiter.specs.declared.Traced.{Traced}
use Rattle.questions.specs.Refusals.{answer_of, number}
use Rattle.questions.proofs.RefusalLaws.{number-nonzero}
use Rattle.questions.specs.declared.Refusal.{Refusal}

-- a change of the key table and the shadow table
changed-both : (t : LimiterTables) (b : Bool) (xs zs : List ℕ)
    → tables (cond b xs t.keys) t.hot (cond b zs t.shadows) ≡ cond b (tables xs t.hot zs) t
changed-both t true xs zs = refl
changed-both t false xs zs = refl

module _ (l : Limiter) (t : LimiterTables) (key now : ℕ) where
  -- a key k and the meter m of its shadow, if it has one: the key and the shadows after the call
  module _ (k : KeyRecord) (m : Option Gcra) where
    abbrev after : KeyRecord
    after = checked_key now (decision_by now m) k

    abbrev left : LimiterState
    left = holding (here l t) (put_key after (here l t).keys) (shadows_with key now m (here l t).shadows)

    abbrev decisions : Traced
    decisions = record { decision = decision k.gcra now; shadow = decision_by now m }

    -- a call on the two tables is one on the limiter
    lifted :
        (r : TracedCheck) (xs zs : List ℕ) (asked : List Question) → have_room l.config (lengths t) ≡ true → is_valid (units_in l) l t ≡ true
        → passes asked ≡ true
        → TracesAs l t.keys t.shadows key now k m r xs zs
        → Calls.Acts (answer_of r.answer) (asked ++ key_questions (here l t) after) decisions left l t r.limiter (tables xs t.hot zs)
    unfolding state_of has_place
    lifted r xs zs asked room ok e h =
        let qs = key_questions (keys_only l t.keys) after in
        let ks = left.keys in
        let ss = left.shadows in
        record {
          answered = h.says ∙ sym (answer-after asked qs decisions e);
          limiter = h.limiter ∙ (λ i. cond (sym (passes-after asked qs e) i) (sym (value_after l t room ok ks ss) i) l);
          words =
              (λ i. tables (h.keys i) t.hot (h.shadows i))
              ∙ changed-both t (passes qs) (table (map (key_words (units_in l)) ks) t.keys) (table (map (shadow_words (units_in l)) ss) t.shadows)
              ∙ (λ i. cond (sym (passes-after asked qs e) i) (sym (written_after l t room ok ks ss) i) t);
        }

  -- `check_in_traced`
  module _ (rs : List Question) (p : Passed l t rs) (limit : Limit) (n : ℕ) (r : TracedCheck) (xs zs : List ℕ) where
    pub traces-lifted :
        (shadow : Option Limit) → Traces l t.keys t.shadows key limit shadow now n r xs zs
        → let s = here l t in
        Calls.Acts (answer_of r.answer)
        ((state_questions l t ++ rs) ++ key_questions s (checked_key now (shadow_decision (units_in l) s key limit shadow now n) (entry (units_in l) s key limit now n)))
        (record { decision = key_decision (units_in l) s key limit now n; shadow = shadow_decision (units_in l) s key limit shadow now n })
        (check_traced (units_in l) s key limit shadow now n) l t r.limiter (tables xs t.hot zs)
    unfolding state_of entry traced_meter check_traced
    traces-lifted None h =
        lifted (entry (units_in l) (here l t) key limit now n) None r xs zs (state_questions l t ++ rs) p.room p.ok p.all h
    traces-lifted (Some shadow) h =
        let k = entry (units_in l) (here l t) key limit now n in
        lifted k (meter_for l t.shadows key limit (Some shadow) now k) r xs zs (state_questions l t ++ rs) p.room p.ok p.all h

  -- where the questions pass, the shadows after the call are no more than the keys, so that there is room
  pub traced-room :
      (limit shadow : Limit) (n : ℕ) → Passed l t (both_limit_questions limit (Some shadow) ++ cluster_questions n) → Given key limit now
      → Roomy l t.keys t.shadows key limit shadow now n
  unfolding state_of entry has_place traced_meter check_traced
  traced-room limit shadow n p w q =
      let s = here l t in
      let rs = both_limit_questions limit (Some shadow) ++ cluster_questions n in
      let qs = key_questions s (checked_key now (shadow_decision (units_in l) s key limit (Some shadow) now n) (entry (units_in l) s key limit now n)) in
      let x = check_traced (units_in l) s key limit (Some shadow) now n in
      let v = valid-says (units_in l) x
      (traced-valid (units_in l) (units-of-accepted (settings_of l)) s (state-valid l t p.room p.ok) key limit now n w (Some shadow) (passes-after rs qs p.rest ∙ q)) in
      let z = sizes-say l.config v.settings.config.sizes in
      omega (arith, few-shadows (units_in l) x v, v.few, z.most_held, (room_says l.config (lengths t) p.room).for_shadows)

-- question 4 among 3 and 4 of both limits, and 7
pub bursts-passed :
    (limit shadow : Limit) (n : ℕ) → passes (both_limit_questions limit (Some shadow) ++ cluster_questions n) ≡ true
    → (valid_burst limit.burst ≡ true) × (valid_burst shadow.burst ≡ true)
unfolding passes
bursts-passed limit shadow n e =
    both (valid_burst limit.burst) (valid_burst shadow.burst)
    (both (valid_burst limit.burst && valid_burst shadow.burst) _ (both (is_rate limit.rate && is_rate shadow.rate) _ e).1).0

-- ---- the call, with a shadow limit or without
module _ (l : Limiter) (t : LimiterTables) (key : ℕ) (limit : Limit) (now n : ℕ) where
  -- the questions before those of the key
  abbrev asks : Option Limit → List Question
  asks shadow = both_limit_questions limit shadow ++ cluster_questions n

  -- a 'no' among them
  pub traced-refused :
      (shadow : Option Limit) (x : Refusal) → number x ≡ first_no (state_questions l t ++ asks shadow)
      → ChecksTraced l t key limit shadow now n (record { answer = Err x; limiter = l }) t
  traced-refused None x e = refused-before _ l t (state_questions l t ++ asks None) _ _ (number x) e (number-nonzero x)
  traced-refused (Some y) x e = refused-before _ l t (state_questions l t ++ asks (Some y)) _ _ (number x) e (number-nonzero x)

  -- none
  pub traced-passed : (shadow : Option Limit) (m : ℕ) → m ≡ first_no (state_questions l t ++ asks shadow) → m ≡ 0 → Passed l t (asks shadow)
  traced-passed None m e z = passed l t (asks None) m (lit< tt, (lit< tt, (lit< tt, tt))) e z
  traced-passed (Some y) m e z = passed l t (asks (Some y)) m (lit< tt, (lit< tt, (lit< tt, tt))) e z

  pub traced-done :
      (shadow given : Option Limit) → shadow ≡ given → Passed l t (asks shadow) → (r : TracedCheck) (xs zs : List ℕ)
      → Traces l t.keys t.shadows key limit given now n r xs zs → ChecksTraced l t key limit shadow now n r (tables xs t.hot zs)
  traced-done shadow given e p r xs zs h =
      subst (λ (y : Option Limit). ChecksTraced l t key limit y now n r (tables xs t.hot zs)) (sym e)
      (by given (subst (λ (y : Option Limit). Passed l t (asks y)) e p) h)
    where
      by : (y : Option Limit) → Passed l t (asks y) → Traces l t.keys t.shadows key limit y now n r xs zs
          → ChecksTraced l t key limit y now n r (tables xs t.hot zs)
      by None q k = traces-lifted l t key now (asks None) q limit n r xs zs None k
      by (Some y) q k = traces-lifted l t key now (asks (Some y)) q limit n r xs zs (Some y) k
