-- Laws: what a check and a record of one key do, from their parts.
use Prim.Native.Nat.{ℕ, zero, suc, ◌+◌}
use mathlib.Core.Path.{◌≡◌, refl, sym, ap, ◌∙◌, subst}
use mathlib.Core.Bool.{Bool, true, false, cond, ◌&&◌, ◌||◌}
use mathlib.Core.List.{List, [], ◌∷◌, map}
use native.Mathlib.Omega.{arith}
use lib.Dec.{ltb, lit<}
use lib.Ieee.{Float, inf, binary64, of_bits}
use lib.ListN.{length}
use Rattle.records.specs.Records.{table}
use Rattle.questions.proofs.Tests.{both}
use Rattle.gcra.specs.declared.Quota.{Quota}
use Rattle.gcra.specs.declared.Gcra.{Gcra}
use Rattle.gcra.specs.declared.Decision.{Decision}
use Rattle.gcra.specs.Packed.{valid_burst, valid_quota, with_interval}
use Rattle.gcra.specs.Meter.{is_allow, moved, pace_of, tat_at, decision, check}
use Rattle.gcra.specs.Rate.{per_second}
use Rattle.gcra.specs.declared.Units.{Units}
use Rattle.questions.specs.Questions.{Question, ◌asks◌, Answer, refused, answer, passes, first_no}
use Rattle.questions.proofs.Answers.{answer-no, answer-passed, changed-passed, kept-no, passed_none}
use Rattle.records.specs.Typed.{is_word}
use Rattle.limiter.specs.declared.Limit.{Limit}
use Rattle.limiter.specs.declared.Limiter.{Limiter}
use Rattle.limiter.specs.declared.Tally.{Tally}
use Rattle.limiter.specs.declared.checks.KeyEntry.{KeyEntry}
use Rattle.limiter.specs.Answered.{Changed}
use Rattle.limiter.specs.State.{KeyRecord, put_key, key_words, units_in}
use Rattle.std.specs.Option.{unwrap_or}
use Rattle.demand.specs.Allocation.{is_rate}
use Rattle.limiter.specs.Checks.{cap_or_none, both_limit_questions, entry, raised, checked_key, tallied_key, denied, counters_fit, has_place, key_questions}
use Rattle.limiter.specs.Steps.KeySteps.{key_record}
use Rattle.limiter.specs.Steps.CheckSteps.{keys_in, keys_only, counting, Ready, Placed, Enters, place_questions, Puts, Raises, answered, Acts}
use Rattle.limiter.proofs.Checking.KeyTableLaws.{counted-keys, tracked-is, entered}
use Rattle.std.specs.declared.option.Option.{Option}
use Rattle.std.specs.declared.option.Option.TheVariants.{None, Some}
use Rattle.questions.specs.declared.Refusal.{Refusal}
use Rattle.questions.specs.Refusals as results
use Rattle.questions.specs.Refusals.{number, answer_of}
use Rattle.questions.proofs.RefusalLaws.{number-nonzero}
use Rattle.std.specs.declared.result.Result.{Result}
use Rattle.std.specs.declared.result.Result.TheVariants.{Ok, Err}
use Rattle.std.specs.Result.{is_ok, result_and}

-- ---- numbers

-- the bits of +∞
pub inf-is : of_bits binary64 0x7ff0_0000_0000_0000 ≡ inf false
unfolding of_bits
inf-is = refl

-- no cap is above every part
pub cap-or-none : (k : Option Float) (x : Float) → x ≡ of_bits binary64 0x7ff0_0000_0000_0000 → unwrap_or k x ≡ cap_or_none k
cap-or-none None x e = e ∙ inf-is
cap-or-none (Some y) x e = refl

-- the interval is the same at any burst
pub any-burst : (u : Units) (rate : Float) (burst : ℕ) (q : Quota) → q ≡ per_second u rate 1
    → record { interval = q.interval; burst = burst } ≡ per_second u rate burst
unfolding per_second with_interval
any-burst u rate burst q e = ap (λ (x : Quota). record { interval = x.interval; burst = burst }) e

-- ---- counters
module _ (attempts denials shadow_denials : ℕ) (g : Gcra) (k : KeyRecord) where
  abbrev after : KeyRecord
  after = raised attempts denials shadow_denials g k

  pub record Fitting : Type 0 where
    pub fit_demand : is_word (k.demand.attempts + attempts) ≡ true
    pub fit_requests : is_word (k.requests.attempts + attempts) ≡ true
    pub fit_denials : is_word (k.denials.attempts + denials) ≡ true
    pub fit_shadow : is_word (k.shadow_denials.attempts + shadow_denials) ≡ true

  -- question 9 as facts
  pub fitting : counters_fit after ≡ true → Fitting
  unfolding counters_fit
  fitting e =
      let b = both (is_word (k.demand.attempts + attempts) && is_word (k.requests.attempts + attempts))
      (is_word (k.denials.attempts + denials) && is_word (k.shadow_denials.attempts + shadow_denials)) e in
      let c = both (is_word (k.demand.attempts + attempts)) (is_word (k.requests.attempts + attempts)) b.0 in
      let d = both (is_word (k.denials.attempts + denials)) (is_word (k.shadow_denials.attempts + shadow_denials)) b.1 in
      record { fit_demand = c.0; fit_requests = c.1; fit_denials = d.0; fit_shadow = d.1 }

-- ---- the limits of a call

-- the questions of both, where the limit stands for a shadow's that is not there
pub limits-are : (x : Limit) (k : Option Limit) (y : Limit) → y ≡ unwrap_or k x
    → (3 asks (is_rate x.rate && is_rate y.rate)) ∷ (4 asks (valid_burst x.burst && valid_burst y.burst)) ∷ [] ≡ both_limit_questions x k
limits-are x None y e =
    ap (λ (z : Limit). (3 asks (is_rate x.rate && is_rate z.rate)) ∷ (4 asks (valid_burst x.burst && valid_burst z.burst)) ∷ []) e
    ∙ (λ i. (3 asks twice (is_rate x.rate) i) ∷ (4 asks twice (valid_burst x.burst) i) ∷ [])
  where
    twice : (b : Bool) → (b && b) ≡ b
    twice true = refl
    twice false = refl
limits-are x (Some z) y e = ap (λ (w : Limit). (3 asks (is_rate x.rate && is_rate w.rate)) ∷ (4 asks (valid_burst x.burst && valid_burst w.burst)) ∷ []) e

-- ---- the meter

-- a check leaves the quota
pub check-quota : (g : Gcra) (now : ℕ) → (check g now).quota ≡ g.quota
unfolding check
check-quota g now = by (is_allow (decision g now)) (Some (moved (pace_of g.quota) (tat_at g.tat now) now))
  where
    by : (b : Bool) (t : Option ℕ) → (cond b (record { quota = g.quota; tat = t }) g).quota ≡ g.quota
    by true t = refl
    by false t = refl

-- ---- questions 8 and 9, and what the call leaves
module _ (l : Limiter) (xs : List ℕ) (r : Ready l xs) where
  -- in terms of the entry's flag and state
  pub questions-are : (e : KeyEntry) → Placed l xs e.state.key e.place → (attempts denials shadow_denials : ℕ) (g : Gcra)
      → place_questions l e attempts denials shadow_denials ≡ key_questions (keys_only l xs)
      (raised attempts denials shadow_denials g (key_record e.state))
  unfolding has_place counters_fit
  questions-are e p attempts denials shadow_denials g =
      ap (λ (b : Bool). (8 asks b) ∷ (9 asks counters_fit (raised attempts denials shadow_denials g (key_record e.state))) ∷ [])
      (λ i. tracked-is l xs r e.state.key e.place p i || ltb (sym (counted-keys l xs r) i) l.config.table_size)

module _ (l : Limiter) (xs : List ℕ) (after : KeyRecord) where
  abbrev asked : List Question
  asked = key_questions (keys_only l xs) after

  pub raises-no : (x : Refusal) → number x ≡ first_no asked → Raises after l xs (record { answer = Err x; limiter = l }) xs
  raises-no x e =
      let h = number-nonzero x in
      record { first = e; limiter = kept-no _ l asked (number x) e h; words = kept-no _ xs asked (number x) e h }

  pub raises-done : 0 ≡ first_no asked → (l' : Limiter) (ys : List ℕ) → Puts l xs after l' ys
      → Raises after l xs (record { answer = Ok tt; limiter = l' }) ys
  raises-done e l' ys p =
      let q = passed_none asked 0 (lit< tt, (lit< tt, tt)) e refl in
      record {
        first = e;
        limiter = p.value ∙ changed-passed (counting l (length (put_key after (keys_in l xs)))) l asked q;
        words = p.words ∙ changed-passed (table (map (key_words (units_in l)) (put_key after (keys_in l xs))) xs) xs asked q;
      }

  -- with an answer by the number
  pub raises-acts : {A : Type 0} (said : Answer A) (value : A) (x : Changed) (l' : Limiter) (ys : List ℕ) → said ≡ answered (results.asked x.answer) value
      → l' ≡ x.limiter → Raises after l xs x ys → Acts said value after l xs l' ys
  raises-acts said value x l' ys e f h = record { says = e ∙ by (results.asked x.answer) h.first; limiter = f ∙ h.limiter; words = h.words }
    where
      by : (m : ℕ) → m ≡ first_no asked → answered m value ≡ answer asked value
      by zero g = answer-passed value asked (passed_none asked 0 (lit< tt, (lit< tt, tt)) g refl)
      by (suc m) g = answer-no value asked (suc m) g (λ z. omega (arith, z))

-- an answer where the number is not 0
answered-no : {A : Type 0} (m : ℕ) (value : A) → (m ≡ 0 → ⊥) → refused m ≡ answered m value
answered-no zero value h = absurd (h refl)
answered-no (suc m) value h = refl

-- the result of the questions as the answer of a call with no value
pub result-answered : (r : Result Unit Refusal) → answer_of r ≡ answered (results.asked r) tt
result-answered (Ok tt) = refl
result-answered (Err x) = answered-no (number x) tt (number-nonzero x)

-- and with one
pub mapped-answered : {A : Type 0} (r : Result Unit Refusal) (s : Result A Refusal) (value : A)
    → s ≡ result_and r (Ok value) → answer_of s ≡ answered (results.asked r) value
mapped-answered (Ok tt) s value e = ap answer_of e
mapped-answered (Err x) s value e = ap answer_of e ∙ answered-no (number x) value (number-nonzero x)

-- what questions 8 and 9 say of an entry where they pass
pub place-passed : (l : Limiter) (e : KeyEntry) (attempts denials shadow_denials m : ℕ)
    → m ≡ first_no (place_questions l e attempts denials shadow_denials) → m ≡ 0
    → ((is_ok e.place || ltb l.keys l.config.table_size) ≡ true) ×
    (counters_fit (raised attempts denials shadow_denials e.state.gcra (key_record e.state)) ≡ true)
unfolding passes
place-passed l e attempts denials shadow_denials m f z =
    let q = passed_none (place_questions l e attempts denials shadow_denials) m (lit< tt, (lit< tt, tt)) f z in
    let b = both (is_ok e.place || ltb l.keys l.config.table_size) _ q in
    (b.0, (both (counters_fit (raised attempts denials shadow_denials e.state.gcra (key_record e.state))) true b.1).0)

-- ---- the calls
module _ (l : Limiter) (xs : List ℕ) (r : Ready l xs) (key : ℕ) (limit : Limit) (now n : ℕ) (b : valid_burst limit.burst ≡ true) (e : KeyEntry)
    (h : Enters l xs key limit now n e) where
  -- the entry's quota is valid
  pub entry-quota : valid_quota (units_in l) e.state.gcra.quota ≡ true
  entry-quota = ap (λ (k : KeyRecord). valid_quota (units_in l) k.gcra.quota) h.state ∙ (entered l xs r key limit now n b).quota

  -- its place is its key's
  pub entry-placed : Placed l xs e.state.key e.place
  entry-placed =
      subst (λ (j : ℕ). Placed l xs j e.place)
      (sym (ap (λ (k : KeyRecord). k.key) h.state ∙ (entered l xs r key limit now n b).same_key)) h.place

  -- a check of it
  pub check-acts : (d : Decision) (g : Gcra) (m : ℕ) (x : Changed) (said : Answer Decision) (l' : Limiter) (ys : List ℕ)
      → d ≡ decision e.state.gcra now → g ≡ check e.state.gcra now → m ≡ denied d → said ≡ answered (results.asked x.answer) d → l' ≡ x.limiter
      → Raises (raised 1 m 0 g (key_record e.state)) l xs x ys
      → Acts said (decision (entry (units_in l) (keys_only l xs) key limit now n).gcra now)
      (checked_key now None (entry (units_in l) (keys_only l xs) key limit now n)) l xs l' ys
  check-acts d g m x said l' ys ed eg em es el er =
      let k = key_record e.state in
      subst (λ (y : KeyRecord). Acts said (decision y.gcra now) (checked_key now None y) l xs l' ys) h.state
      (raises-acts l xs (checked_key now None k) said (decision k.gcra now) x l' ys (es ∙ ap (answered (results.asked x.answer)) ed) el
      (subst (λ (y : KeyRecord). Raises y l xs x ys) (λ i. raised 1 ((em ∙ ap denied ed) i) 0 (eg i) k) er))

  -- a record of it
  pub record-acts : (y : Tally) (x : Changed) (said : Answer Unit) (l' : Limiter) (ys : List ℕ) → said ≡ answered (results.asked x.answer) tt → l' ≡ x.limiter
      → Raises (tallied_key y (key_record e.state)) l xs x ys → Acts said tt (tallied_key y (entry (units_in l) (keys_only l xs) key limit now n)) l xs l' ys
  record-acts y x said l' ys es el er =
      subst (λ (k : KeyRecord). Acts said tt (tallied_key y k) l xs l' ys) h.state
      (raises-acts l xs (tallied_key y (key_record e.state)) said tt x l' ys es el er)
