-- Laws: what a traced check does, from its parts.
use Prim.Native.Nat.{ℕ, ◌*◌, ◌≤◌}
use mathlib.Core.Path.{◌≡◌, sym, ap, ◌∙◌, subst}
use mathlib.Core.Bool.{Bool, true, false, cond}
use mathlib.Core.List.{List, [], ◌∷◌, map}
use native.Mathlib.Omega.{arith}
use lib.Dec.{lit<}
use lib.ListN.{length}
use Rattle.records.specs.Records.{table}
use Rattle.questions.proofs.Tests.{split}
use Rattle.gcra.specs.declared.Quota.{Quota}
use Rattle.gcra.specs.declared.Gcra.{Gcra}
use Rattle.gcra.specs.declared.Decision.{Decision}
use Rattle.gcra.specs.Meter.{decision, check}
use Rattle.questions.specs.Questions.{Question, refused, given, answer, passes, changed}
use Rattle.questions.proofs.Answers.{answer-passed, changed-passed}
use Rattle.limiter.specs.declared.Limit.{Limit}
use Rattle.limiter.specs.declared.Limiter.{Limiter}
use Rattle.limiter.specs.declared.checks.KeyEntry.{KeyEntry}
use Rattle.limiter.specs.Answered.{Changed}
use Rattle.limiter.specs.declared.traces.Tried.{Tried}
use Rattle.limiter.specs.State.{KeyRecord, key_words, shadow_words, units_in}
use Rattle.limiter.specs.Checks.{raised, checked_key, denied, decision_by, shadow_quota}
use Rattle.limiter.specs.Steps.KeySteps.{key_record}
use Rattle.limiter.specs.Steps.CheckSteps.{counting, Enters, Raises}
use Rattle.limiter.specs.Steps.TraceSteps.{with_shadow, HoldsShadows, tried_meter, Tries, counting_shadows, traced_asks, traced_keys, traced_shadows, TracesAs, meter_for, Traces, Roomy}
use Rattle.std.specs.declared.option.Option.{Option}
use Rattle.std.specs.declared.option.Option.TheVariants.{Some}
use Rattle.std.specs.declared.result.Result.TheVariants.{Ok, Err}
use Rattle.limiter.specs.declared.Traced.{Traced}
use Rattle.questions.specs.Refusals.{number}
use Rattle.questions.proofs.RefusalLaws.{refused-answer, asked-passed}
use Rattle.questions.specs.declared.Refusal.{Refusal}

-- a 'no' is one whatever the value
pub refused-any : {A B : Type 0} (qs : List Question) (n : ℕ) (a : A) (b : B) → refused n ≡ answer qs a
    → (refused n ≡ answer qs b) × (passes qs ≡ false)
unfolding answer passes
refused-any [] n a b e = let z : ◌≡◌ {A = ℕ} 0 1 = cc in absurd (omega arith)
refused-any (q ∷ qs) n a b e = split q.passed
    (λ p. let r = refused-any qs n a b (rw p at e) in (rw p r.0, rw p r.1))
    (λ p. let w : refused n ≡ refused q.number = rw p at e in let k : n ≡ q.number = cc in (rw p (ap refused k), rw p))

-- ---- from the parts of a call
module _ (l : Limiter) (xs zs : List ℕ) (key now : ℕ) (k : KeyRecord) (m : Option Gcra) where
  abbrev asks : List Question
  asks = traced_asks l xs zs key now k m

  abbrev keyed : Limiter
  keyed = counting l (length (traced_keys l xs zs key now k m))

  abbrev whole : Limiter
  whole = counting_shadows keyed (length (traced_shadows l xs zs key now k m))

  abbrev words : List ℕ
  words = table (map (key_words (units_in l)) (traced_keys l xs zs key now k m)) xs

  pub traces-no : {A : Type 0} (a : A) (n : Refusal) (l' : Limiter) (ys : List ℕ) → refused (number n) ≡ answer asks a → l' ≡ changed asks l keyed
      → ys ≡ changed asks xs words → TracesAs l xs zs key now k m (record { answer = Err n; limiter = l' }) ys zs
  traces-no a n l' ys e el ey =
      let v : Traced = record { decision = decision k.gcra now; shadow = decision_by now m } in
      let r = refused-any asks (number n) a v e in
      record {
        says = r.0;
        limiter = el ∙ ap (λ (b : Bool). cond b keyed l) r.1 ∙ sym (ap (λ (b : Bool). cond b whole l) r.1);
        keys = ey;
        shadows = sym (ap (λ (b : Bool). cond b (table (map (shadow_words (units_in l)) (traced_shadows l xs zs key now k m)) zs) zs) r.1);
      }

  pub traces-yes : passes asks ≡ true → (d : Decision) (sd : Option Decision) (l' l'' : Limiter) (c : ℕ) (ys zs' : List ℕ) → d ≡ decision k.gcra now
      → sd ≡ decision_by now m → l' ≡ changed asks l keyed → ys ≡ changed asks xs words
      → HoldsShadows (units_in l) (traced_shadows l xs zs key now k m) zs c zs' → l'' ≡ counting_shadows l' c
      → TracesAs l xs zs key now k m (record { answer = Ok (record { decision = d; shadow = sd }); limiter = l'' }) ys zs'
  traces-yes p d sd l' l'' c ys zs' ed es el ey h e =
      let v : Traced = record { decision = decision k.gcra now; shadow = decision_by now m } in
      record {
        says = ap given (λ i. record { decision = ed i; shadow = es i }) ∙ answer-passed v asks p;
        limiter = e ∙ (λ i. counting_shadows ((el ∙ ap (λ (b : Bool). cond b keyed l) p) i) (h.count i)) ∙ changed-passed whole l asks p;
        keys = ey;
        shadows = h.words ∙ changed-passed (table (map (shadow_words (units_in l)) (traced_shadows l xs zs key now k m)) zs) zs asks p;
      }

-- ---- with a shadow limit
module _ (l : Limiter) (xs zs : List ℕ) (key : ℕ) (limit shadow : Limit) (now n : ℕ) (e : KeyEntry) (h : Enters l xs key limit now n e) (d : Decision)
    (g : Gcra) (w : Quota) (t : Tried) (m₁ m₂ : ℕ) (x : Changed) (ys : List ℕ) (ed : d ≡ decision e.state.gcra now)
    (eg : g ≡ check e.state.gcra now) (ew : w ≡ shadow_quota (units_in l) e.state.gcra.quota limit shadow) (tr : Tries (units_in l) l.shadows zs key w now t)
    (e₁ : m₁ ≡ denied d) (e₂ : m₂ ≡ denied t.decision) (er : Raises (raised 1 m₁ m₂ g (key_record e.state)) l xs x ys) where
  abbrev k : KeyRecord
  k = key_record e.state

  abbrev meter : Gcra
  meter = tried_meter (units_in l) l.shadows zs key (shadow_quota (units_in l) k.gcra.quota limit shadow) now

  tries : Tries (units_in l) l.shadows zs key (shadow_quota (units_in l) k.gcra.quota limit shadow) now t
  tries = subst (λ (q : Quota). Tries (units_in l) l.shadows zs key q now t) ew tr

  raises : Raises (checked_key now (Some (decision meter now)) k) l xs x ys
  raises = subst (λ (y : KeyRecord). Raises y l xs x ys) (λ i. raised 1 ((e₁ ∙ ap denied ed) i) ((e₂ ∙ ap denied tries.would) i) (eg i) k) er

  all_passed : x.answer ≡ Ok tt → passes (traced_asks l xs zs key now k (Some meter)) ≡ true
  all_passed z = asked-passed (traced_asks l xs zs key now k (Some meter)) raises.first (lit< tt, (lit< tt, tt)) tt z

  pub with-no : (r : Refusal) → x.answer ≡ Err r
      → Traces l xs zs key limit (Some shadow) now n (record { answer = Err r; limiter = x.limiter }) ys zs
  with-no r z =
      subst (λ (y : KeyRecord). TracesAs l xs zs key now y (meter_for l zs key limit (Some shadow) now y)
      (record { answer = Err r; limiter = x.limiter }) ys zs) h.state
      (traces-no l xs zs key now k (Some meter) d r x.limiter ys
      (refused-answer (traced_asks l xs zs key now k (Some meter)) raises.first r d z) raises.limiter raises.words)

  pub with-room : Roomy l xs zs key limit shadow now n → x.answer ≡ Ok tt → length (with_shadow (units_in l) l.shadows zs key t.after.gcra) * 4 ≤ length zs
  with-room r z =
      subst (λ (y : Gcra). length (with_shadow (units_in l) l.shadows zs key y) * 4 ≤ length zs) (sym tries.left)
      (subst (λ (y : KeyRecord). passes (traced_asks l xs zs key now y (meter_for l zs key limit (Some shadow) now y)) ≡ true
      → length (traced_shadows l xs zs key now y (meter_for l zs key limit (Some shadow) now y)) * 4 ≤ length zs) (sym h.state) r (all_passed z))

  pub with-yes : x.answer ≡ Ok tt → (l'' : Limiter) (c : ℕ) (zs' : List ℕ) → HoldsShadows (units_in l) (with_shadow (units_in l) l.shadows zs key t.after.gcra) zs c zs'
      → l'' ≡ counting_shadows x.limiter c
      → Traces l xs zs key limit (Some shadow) now n
      (record { answer = Ok (record { decision = d; shadow = Some t.decision }); limiter = l'' }) ys zs'
  with-yes z l'' c zs' q el =
      subst (λ (y : KeyRecord). TracesAs l xs zs key now y (meter_for l zs key limit (Some shadow) now y)
      (record { answer = Ok (record { decision = d; shadow = Some t.decision }); limiter = l'' }) ys zs') h.state
      (traces-yes l xs zs key now k (Some meter) (all_passed z) d (Some t.decision) x.limiter l'' c ys zs' ed
      (ap Some tries.would) raises.limiter raises.words
      (subst (λ (y : Gcra). HoldsShadows (units_in l) (with_shadow (units_in l) l.shadows zs key y) zs c zs') tries.left q) el)
