-- Laws: an estimator in lent words.
use Prim.Native.Nat.{ℕ, zero, suc, ◌≤◌, ◌<◌}
use mathlib.Core.Path.{◌≡◌, refl, sym, ap, ◌∙◌}
use mathlib.Core.Bool.{Bool, true, false, ◌&&◌, and-false}
use mathlib.Core.List.{List, [], ◌∷◌, ◌++◌}
use native.Mathlib.Omega.{arith}
use borrow.Author.Tests.{leb-true, eqb-true, le-leb, lt-leb}
use lib.Dec.{leb}
use lib.Ieee.{Float}
use lib.ListN.{length, drop, get_or}
use Rattle.records.specs.Words.{paste}
use Rattle.questions.specs.Questions.{passes, first_no}
use Rattle.questions.proofs.Tests.{both, and_intro}
use Rattle.questions.proofs.Answers.{first-no, first-yes, first-none, passed_none}
use Rattle.demand.specs.declared.demand.Demand.{Demand}
use Rattle.demand.specs.Estimators.Estimator.{valid}
use Rattle.hot.proofs.HotSet.Words.{bits_back}
use Rattle.records.specs.Fields.{is_time}
use Rattle.limiter.specs.State.{float_word, float_of, is_f64}
use Rattle.image.proofs.Reading.StateWordLaws.{float_of_word}
use Rattle.nultiway.specs.DemandCalls.{times_words, times_of, demand_words, demand_of, is_demand, demand_asked}
use Rattle.nultiway.proofs.Words.ValueLaws.{paste-front, paste-same}
use Rattle.std.specs.declared.option.Option.{Option}
use Rattle.std.specs.declared.option.Option.TheVariants.{None, Some}
use Rattle.demand.specs.declared.demand.Times.{Times}

-- ---- questions 1 and 2

module _ (ws : List ℕ) (room : Bool) where
  pub asked-short : length ws < 6 → 1 ≡ first_no (demand_asked ws room)
  asked-short h = first-no 1 _ (rw (lt-leb 6 (length ws) h))

  pub asked-small : room ≡ false → 1 ≡ first_no (demand_asked ws room)
  asked-small e = first-no 1 _ (rw e (and-false (leb 6 (length ws))))

  pub asked-other : 6 ≤ length ws → room ≡ true → is_demand ws ≡ false → 2 ≡ first_no (demand_asked ws room)
  asked-other h e n = first-yes 1 _ (and_intro _ _ (le-leb 6 (length ws) h) e) (first-no 2 [] n)

  pub asked-none : 6 ≤ length ws → room ≡ true → is_demand ws ≡ true → 0 ≡ first_no (demand_asked ws room)
  asked-none h e y = first-yes 1 _ (and_intro _ _ (le-leb 6 (length ws) h) e) (first-yes 2 [] y first-none)

-- what holds where both are passed
pub record Passed (ws : List ℕ) (room : Bool) : Type 0 where
  pub all : passes (demand_asked ws room) ≡ true
  pub long : 6 ≤ length ws
  pub fits : room ≡ true
  pub demand : is_demand ws ≡ true

pub demand-all : (ws : List ℕ) (room : Bool) → passes (demand_asked ws room) ≡ true → Passed ws room
unfolding passes
demand-all ws room p =
    let a = both (leb 6 (length ws) && room) _ p in
    let b = both (leb 6 (length ws)) room a.0 in
    record { all = p; long = leb-true 6 (length ws) b.0; fits = b.1; demand = (both (is_demand ws) true a.1).0 }

pub demand-passed : (ws : List ℕ) (room : Bool) {n : ℕ} → n ≡ first_no (demand_asked ws room) → n ≡ 0 → Passed ws room
demand-passed ws room {n} e z = demand-all ws room (passed_none (demand_asked ws room) n (omega arith, omega arith) e z)

-- ---- reading and writing

pub times-set : (flag last since : ℕ) → (flag ≡ 0 → ⊥) → Some (record { last_tick = last; since = since }) ≡ times_of flag last since
times-set zero last since h = absurd (h refl)
times-set (suc flag) last since h = refl

pub demand-read :
    (ws : List ℕ) {x : Float} {t : Option Times}
    → x ≡ float_of (get_or ws 0 0)
    → t ≡ times_of (get_or ws 2 0) (get_or ws 3 0) (get_or ws 4 0)
    → ◌≡◌ {A = Demand}
    (record { current_rate = x; attempts_since_tick = get_or ws 1 0; times = t; time_constant = get_or ws 5 0 })
    (demand_of ws)
demand-read ws e f = λ i.
    record { current_rate = e i; attempts_since_tick = get_or ws 1 0; times = f i; time_constant = get_or ws 5 0 }

pub words-with :
    (d : Demand) {w : ℕ} {t : Option Times}
    → w ≡ float_word d.current_rate
    → d.times ≡ t
    → (w ∷ d.attempts_since_tick ∷ (times_words t ++ (d.time_constant ∷ []))) ≡ demand_words d
words-with d e f = λ i. e i ∷ d.attempts_since_tick ∷ (times_words (sym f i) ++ (d.time_constant ∷ []))

-- ---- the round trip

by-times :
    (x : Float) (n : ℕ) (t : Option Times) (c : ℕ) (rest : List ℕ)
    → is_f64 x ≡ true
    → let d : Demand = record { current_rate = x; attempts_since_tick = n; times = t; time_constant = c } in
    demand_of (demand_words d ++ rest) ≡ d
by-times x n None c rest e = rw (float_of_word x e)
by-times x n (Some t) c rest e = rw (float_of_word x e)

-- an estimator is read back from its words, whatever comes after them
pub demand-back : (d : Demand) (rest : List ℕ) → is_f64 d.current_rate ≡ true → demand_of (demand_words d ++ rest) ≡ d
demand-back d rest e = by-times d.current_rate d.attempts_since_tick d.times d.time_constant rest e

-- so the words at the front of a buffer are read as the estimator that was written there
pub demand-put : (d : Demand) (ws : List ℕ) → is_f64 d.current_rate ≡ true → demand_of (paste 0 (demand_words d) ws) ≡ d
demand-put d ws e = ap demand_of (paste-front (demand_words d) ws) ∙ demand-back d (drop (length (demand_words d)) ws) e

-- two with the same words are equal
pub demand-same :
    (d e : Demand)
    → is_f64 d.current_rate ≡ true
    → is_f64 e.current_rate ≡ true
    → demand_words d ≡ demand_words e
    → d ≡ e
demand-same d e f g h = sym (demand-back d [] f) ∙ ap (λ (ws : List ℕ). demand_of (ws ++ [])) h ∙ demand-back e [] g

are-times : (t : Option Times) (x n c : ℕ) (rest : List ℕ) → is_demand ((x ∷ n ∷ (times_words t ++ (c ∷ []))) ++ rest) ≡ true
unfolding is_time
are-times None x n c rest = refl
are-times (Some t) x n c rest = refl

-- words that were written are an estimator's
pub demand-is : (d : Demand) (ws : List ℕ) → is_demand (paste 0 (demand_words d) ws) ≡ true
demand-is d ws =
    ap is_demand (paste-front (demand_words d) ws)
    ∙ are-times d.times (float_word d.current_rate) d.attempts_since_tick d.time_constant (drop (length (demand_words d)) ws)

times-back :
    (flag last since : ℕ)
    → (is_time flag last && is_time flag since) ≡ true
    → times_words (times_of flag last since) ≡ (flag ∷ last ∷ since ∷ [])
unfolding is_time
times-back zero last since e =
    let p = both _ _ e in
    λ i. 0 ∷ sym (eqb-true last 0 p.0) i ∷ sym (eqb-true since 0 p.1) i ∷ []
times-back (suc flag) last since e = ap (λ (f : ℕ). f ∷ last ∷ since ∷ []) (sym (eqb-true (suc flag) 1 (both _ _ e).0))

-- words that are an estimator's are written back as they were, where the bits of the rate are
pub demand-kept :
    (ws : List ℕ)
    → 6 ≤ length ws
    → is_demand ws ≡ true
    → float_word (float_of (get_or ws 0 0)) ≡ get_or ws 0 0
    → paste 0 (demand_words (demand_of ws)) ws ≡ ws
demand-kept [] h e b = absurd (omega arith)
demand-kept (x ∷ []) h e b = absurd (omega arith)
demand-kept (x ∷ n ∷ []) h e b = absurd (omega arith)
demand-kept (x ∷ n ∷ flag ∷ []) h e b = absurd (omega arith)
demand-kept (x ∷ n ∷ flag ∷ last ∷ []) h e b = absurd (omega arith)
demand-kept (x ∷ n ∷ flag ∷ last ∷ since ∷ []) h e b = absurd (omega arith)
demand-kept (x ∷ n ∷ flag ∷ last ∷ since ∷ c ∷ rest) h e b =
    paste-same 6 _ _ (λ i. b i ∷ n ∷ (times-back flag last since e i ++ (c ∷ []))) h

-- as they are of every rate that could stand in a valid image
pub valid-kept :
    (ws : List ℕ)
    → 6 ≤ length ws
    → is_demand ws ≡ true
    → valid (demand_of ws) ≡ true
    → paste 0 (demand_words (demand_of ws)) ws ≡ ws
valid-kept ws h e v = demand-kept ws h e (bits_back (get_or ws 0 0) v)
