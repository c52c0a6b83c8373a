-- Laws: what pass one and what comes after it leave in the tables is the state after the tick.
use mathlib.Core.Path.{◌≡◌, refl, sym, ap, ◌∙◌}
use mathlib.Core.Bool.{Bool, true}
use mathlib.Core.List.{List, map}
use Prim.Native.Nat.{ℕ, ◌+◌, ◌-◌, ◌*◌, ◌≤◌}
use native.Mathlib.Omega.{arith}
use lib.Ieee.{Float}
use lib.ListN.{length, take, drop, length-take, length-map}
use lib.Seq.{drop-drop}
use Rattle.records.specs.Records.{records, table}
use Rattle.records.proofs.Words.RecordLaws.{length-records}
use Rattle.questions.proofs.Tests.{contradiction, both}
use Rattle.questions.specs.Questions.{Question, passes, first_no}
use Rattle.questions.proofs.Answers.{answer-passed, answer-no, changed-passed, kept-no, not-passed}
use Rattle.hot.specs.declared.hot_set.HotEntry.{HotEntry}
use Rattle.demand.specs.Allocation.{is_cluster_size}
use Rattle.hot.specs.HotSet.Set as hot-set
use Rattle.hot.specs.HotSet.Set.{entries, is_hot}
use Rattle.questions.specs.Lists.{only}
use Rattle.hot.proofs.HotSet.Table.{table_same}
use Rattle.questions.proofs.OnlyLaws.{length-only, map-only}
use Rattle.questions.proofs.ListLaws.{map-map}
use Rattle.records.proofs.Tables.TypedLaws.{words-of-exact, written-again, past-written, length-written}
use Rattle.limiter.specs.declared.Limiter.{Limiter}
use Rattle.limiter.specs.declared.Parameters.{Parameters}
use Rattle.limiter.specs.declared.pass_one.Passed.{Passed}
use Rattle.limiter.specs.State.{KeyRecord, ShadowRecord, LimiterState, LimiterTables, tables, is_f64, is_tracked, key_words, shadow_words, shadow_of, settings_of, lengths, sizes, have_room, state_of, is_valid, value_of, units_in, key_of}
use Rattle.limiter.specs.Ticks.{Others, Settled, is_elsewhere, pass_one, pass_two, keys_after, tick_with}
use Rattle.limiter.specs.Calls.{Holds, Ticking}
use Rattle.limiter.specs.Steps.TickSteps.{key_records, stays_under, shadow_key}
use Rattle.limiter.specs.Steps.PassOneSteps.{Holding}
use Rattle.limiter.specs.Steps.PassTwoSteps.{terms_of, share_by, total_at, requoted, Finishing, keys_left, shadows_left, Finished, Ticked}
use Rattle.limiter.proofs.States.StateValidLaws.{sizes-say, ValidState, few-shadows}
use Rattle.limiter.proofs.States.WrittenLaws.{key-long, shadow-long}
use Rattle.limiter.proofs.Walking.CapLaws.{capped_is, only-exact}
use Rattle.limiter.proofs.Checking.ReadyLaws.{few_keys, lent-shadows}
use Rattle.limiter.proofs.Checking.LiftLaws.{facts, keys-counted, shadows-counted, shadows-exact}
use Rattle.limiter.proofs.PassTwo.QuotaLaws.{requoted-many}
use Rattle.limiter.proofs.PassTwo.RateLaws.{requoted-is}
use Rattle.std.specs.declared.option.Option.TheVariants.{Some}
use Rattle.std.specs.declared.result.Result.TheVariants.{Ok, Err}
use Rattle.questions.specs.Refusals.{number}
use Rattle.questions.proofs.RefusalLaws.{number-nonzero}
use Rattle.questions.specs.declared.Refusal.{Refusal}

-- past more words than those past which two lists agree, they agree
drop_more : (a b : ℕ) (xs ys : List ℕ) → a ≤ b → drop a xs ≡ drop a ys → drop b xs ≡ drop b ys
drop_more a b xs ys h e =
    let z : b ≡ a + (b - a) = omega arith in
    ap (λ (m : ℕ). drop m xs) z ∙ sym (drop-drop (b - a) a xs) ∙ ap (drop (b - a)) e ∙ drop-drop (b - a) a ys ∙ ap (λ (m : ℕ). drop m ys) (sym z)

module _ (l : Limiter) (t : LimiterTables) (room : have_room l.config (lengths t) ≡ true) (ok : is_valid (units_in l) l t ≡ true) where
  abbrev start : LimiterState
  start = state_of (units_in l) l t

  state-facts : ValidState (units_in l) start
  state-facts = facts l t room ok

  -- ---- after pass one
  module _ (par : Parameters) (o : Others) (now n : ℕ) (q : Passed) (keys₁ hot₁ : List ℕ) (flags : List Bool)
      (h : Holding l (pass_one par (settings_of l) o now n (key_records (units_in l) l.keys t.keys) (entries l.hot t.hot))
      (is_elsewhere par (settings_of l) o now n) t.keys t.hot q keys₁ hot₁ flags) where
    abbrev p : Settled
    p = pass_one par (settings_of l) o now n (key_records (units_in l) l.keys t.keys) (entries l.hot t.hot)

    -- there are few keys and hot entries
    pub few : (q.keys ≤ 4096) × (q.hot ≤ 64)
    unfolding state_of
    few =
        let z = sizes-say l.config state-facts.settings.config.sizes in
        (omega (arith, h.keys_few, few_keys l t room ok), omega (arith, h.hot_few, z.most_hot))

    -- each key has its flag
    flags_fit : q.keys ≤ length flags
    flags_fit =
        omega (arith, ap length h.flags, length-take q.keys flags, length-map p.keys (is_elsewhere par (settings_of l) o now n), h.key_count)

    pub finishing :
        (totals : List Float) → 64 ≤ length totals → is_cluster_size n ≡ true → Finishing l keys₁ q.keys hot₁ q.hot t.shadows flags totals n
    unfolding state_of
    finishing totals g c =
        record {
          keys_lent = h.keys_lent;
          keys_few = few.0;
          hot_lent = h.hot_lent;
          shadows_fit = lent-shadows l t room ok;
          shadows_few = (few_keys l t room ok).1;
          flags_fit = flags_fit;
          totals_fit = omega (arith, few);
          floor = (both (is_f64 l.config.floor_factor) _ state-facts.settings.config.floor).1;
          nodes = c;
        }

    -- ---- after the tick
    module _ (even : Bool) (ts : List Float)
        (same : (k : KeyRecord) → is_hot k.key p.hot ≡ true
        → o.share k ≡ share_by (terms_of l even n) k.limit.rate k.demand.rate (total_at k.key p.hot ts))
        (r : Limiter) (keys₃ shadows₃ : List ℕ)
        (f : Finished l keys₁ (entries q.hot hot₁) q.hot t.shadows
        (requoted (units_in l) (terms_of l even n) (entries q.hot hot₁) ts now flags (key_records (units_in l) q.keys keys₁)) now r keys₃ shadows₃) where
      abbrev after : LimiterState
      after = tick_with par (units_in l) o now n start

      abbrev set : List KeyRecord
      set = requoted (units_in l) (terms_of l even n) (entries q.hot hot₁) ts now flags (key_records (units_in l) q.keys keys₁)

      abbrev left : List KeyRecord
      left = keys_left l (entries q.hot hot₁) set

      set_is : set ≡ pass_two par (settings_of l) o now n (units_in l) p.hot p.keys
      set_is =
          (λ i. requoted (units_in l) (terms_of l even n) (h.hot_are i) ts now flags (h.keys_are i))
          ∙ requoted-is par l even o now n p.hot ts same flags p.keys (ap (λ (m : ℕ). take m flags) (sym h.key_count) ∙ h.flags)

      left_is : left ≡ keys_after par (settings_of l) o now n (units_in l) p
      left_is =
          (λ i. keys_left l (h.hot_are i) (set_is i))
          ∙ sym (capped_is par (settings_of l) o now n p.hot (pass_two par (settings_of l) o now n (units_in l) p.hot p.keys))

      -- the shadows that are left
      abbrev tracked : ShadowRecord → Bool
      tracked x = is_tracked left x.key

      abbrev shadows : List ShadowRecord
      shadows = map (shadow_of (units_in l)) (records 4 l.shadows t.shadows)

      shadow-rows : shadows_left l left t.shadows ≡ map (shadow_words (units_in l)) (only tracked shadows)
      shadow-rows =
          let rs : List (List ℕ) = records 4 l.shadows t.shadows in
          let test : List ℕ → Bool = λ (x : List ℕ). is_tracked left (shadow_key (units_in l) x) in
          only-exact (λ (x : List ℕ). shadow_words (units_in l) (shadow_of (units_in l) x)) test rs
          (sym (words-of-exact (shadow_words (units_in l)) (shadow_of (units_in l)) rs (shadows-exact l t room ok))
          ∙ map-map (shadow_words (units_in l)) (shadow_of (units_in l)) rs)
          ∙ sym (map-map (shadow_words (units_in l)) (shadow_of (units_in l)) (only test rs))
          ∙ ap (map (shadow_words (units_in l))) (map-only (shadow_of (units_in l)) tracked rs)

      shadow-count : length (shadows_left l left t.shadows) ≡ length (only tracked shadows)
      shadow-count = ap length shadow-rows ∙ length-map (only tracked shadows) (shadow_words (units_in l))

      shadows-are : only tracked shadows ≡ after.shadows
      unfolding tick_with state_of
      shadows-are = ap (λ (zs : List KeyRecord). only (λ (x : ShadowRecord). is_tracked zs x.key) shadows) left_is

      -- the value
      ticked-value : r ≡ value_of after
      unfolding tick_with state_of
      ticked-value =
          f.value
          ∙ (λ i. record {
            config = l.config;
            cap = l.cap;
            last_tick = Some now;
            keys = length (left_is i);
            hot = h.hot_count i;
            shadows = (shadow-count ∙ ap length shadows-are) i;
          })

      -- ---- the tables
      few-left : (length set ≡ q.keys) × (length left ≤ q.keys)
      few-left =
          let m : length set ≡ q.keys =
          requoted-many (units_in l) (terms_of l even n) (entries q.hot hot₁) ts now flags (key_records (units_in l) q.keys keys₁)
          (omega (arith, flags_fit, length-map (records 22 q.keys keys₁) (key_of (units_in l)), length-records 22 q.keys keys₁))
          ∙ length-map (records 22 q.keys keys₁) (key_of (units_in l))
          ∙ length-records 22 q.keys keys₁ in (
            m,
            omega (
              arith,
              m,
              length-only (stays_under l.config.demand_time_constant l.config.max_tracked_keys (entries q.hot hot₁)
                  set) set,
            ),
          )

      abbrev keys₂ : List ℕ
      keys₂ = table (map (key_words (units_in l)) set) keys₁

      keys₂-long : length keys₂ ≡ length t.keys
      keys₂-long = length-written (key_words (units_in l)) 22 (key-long (units_in l)) set keys₁ (omega (arith, few-left, h.keys_lent.fit)) ∙ h.keys_long

      keys_long : length keys₃ ≡ length t.keys
      keys_long =
          ap length f.keys-left
          ∙ length-written (key_words (units_in l)) 22 (key-long (units_in l)) left keys₂
          (omega (arith, few-left, h.keys_lent.fit, h.keys_long, keys₂-long))
          ∙ keys₂-long

      -- to write them again changes nothing
      keys-front : keys₃ ≡ table (map (key_words (units_in l)) after.keys) keys₃
      unfolding tick_with state_of
      keys-front =
          f.keys-left
          ∙ written-again (key_words (units_in l)) 22 (key-long (units_in l)) left keys₂
          ∙ (λ i. table (map (key_words (units_in l)) (left_is i)) (sym f.keys-left i))

      hot-front : hot₁ ≡ table (map hot-set.words after.hot) hot₁
      unfolding tick_with state_of
      hot-front = sym (table_same q.hot hot₁ h.hot_lent) ∙ ap (λ (es : List HotEntry). table (map hot-set.words es) hot₁) h.hot_are

      shadow-words : shadows₃ ≡ table (map (shadow_words (units_in l)) (only tracked shadows)) t.shadows
      shadow-words = f.shadows-left ∙ ap (λ (rs : List (List ℕ)). table rs t.shadows) shadow-rows

      shadows-front : shadows₃ ≡ table (map (shadow_words (units_in l)) after.shadows) shadows₃
      shadows-front =
          shadow-words
          ∙ written-again (shadow_words (units_in l)) 4 (shadow-long (units_in l)) (only tracked shadows) t.shadows
          ∙ (λ i. table (map (shadow_words (units_in l)) (shadows-are i)) (sym shadow-words i))

      few-shadows-left : length (only tracked shadows) ≤ l.shadows
      few-shadows-left =
          omega (
            arith,
            length-only tracked shadows,
            length-map (records 4 l.shadows t.shadows) (shadow_of (units_in l)),
            length-records 4
                l.shadows t.shadows,
          )

      ticked-tables : Holds after t (tables keys₃ hot₁ shadows₃)
      unfolding tick_with state_of
      ticked-tables =
          let v = state-facts in
          let z = sizes-say l.config v.settings.config.sizes in
          record {
            front = (λ i. tables (keys-front i) (hot-front i) (shadows-front i));
            long =
                (λ i. record {
                  keys = keys_long i;
                  hot = h.hot_long i;
                  shadows =
                      (ap length shadow-words
                      ∙ length-written (shadow_words (units_in l)) 4 (shadow-long (units_in l)) (only tracked shadows) t.shadows
                      (omega (arith, few-shadows-left, lent-shadows l t room ok))) i;
                });
            keys =
                ap (drop (sizes l.config).keys) f.keys-left
                ∙ past-written (key_words (units_in l)) 22 (key-long (units_in l)) left keys₂ (sizes l.config).keys
                (omega (arith, few-left, h.keys_few, v.few, keys-counted l t room ok, z))
                ∙ past-written (key_words (units_in l)) 22 (key-long (units_in l)) set keys₁ (sizes l.config).keys
                (omega (arith, few-left, h.keys_few, v.few, keys-counted l t room ok, z))
                ∙ drop_more (l.keys * 22) (sizes l.config).keys keys₁ t.keys (omega (arith, v.few, keys-counted l t room ok, z))
                h.keys_past;
            hot = h.hot_past;
            shadows =
                ap (drop (sizes l.config).shadows) shadow-words
                ∙ past-written (shadow_words (units_in l)) 4 (shadow-long (units_in l)) (only tracked shadows) t.shadows (sizes l.config).shadows
                (omega (arith, few-shadows-left, few-shadows (units_in l) start v, shadows-counted l t room ok, v.few, z));
          }

      pub ticked : Ticked after t r (tables keys₃ hot₁ shadows₃)
      ticked = record { value = ticked-value; held = ticked-tables }

-- ---- the promise

-- every question is answered 'yes'
pub ticking-done :
    (qs : List Question) (after : LimiterState) (l : Limiter) (t : LimiterTables) (r : Limiter) (t' : LimiterTables) → passes qs ≡ true
    → Ticked after t r t'
    → Ticking qs after l t (record { answer = (Ok tt); limiter = r }) t'
ticking-done qs after l t r t' e h =
    record {
      answered = answer-passed tt qs e;
      limiter = h.value ∙ changed-passed (value_of after) l qs e;
      held = λ x. h.held;
      unmoved = λ x. contradiction (sym e ∙ x);
    }

-- a 'no' changes nothing
pub ticking-no :
    (qs : List Question) (after : LimiterState) (l : Limiter) (t : LimiterTables) (x : Refusal) → number x ≡ first_no qs
    → Ticking qs after l t (record { answer = Err x; limiter = l }) t
ticking-no qs after l t x e =
    let m = number x in
    let z = number-nonzero x in
    record {
      answered = answer-no tt qs m e z;
      limiter = kept-no (value_of after) l qs m e z;
      held = λ x. contradiction (sym x ∙ not-passed qs m e z);
      unmoved = λ x. refl;
    }
