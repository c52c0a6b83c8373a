-- Laws: a Gcra in lent words.
use Prim.Native.Nat.{ℕ, zero, suc, ◌^◌, ◌≤◌, ◌<◌}
use mathlib.Core.Path.{◌≡◌, refl, sym, ap, ◌∙◌}
use mathlib.Core.Bool.{Bool, true, false, ◌&&◌, and-false}
use mathlib.Core.List.{List, [], ◌∷◌, ◌++◌}
use native.Mathlib.Omega.{arith}
use borrow.Author.Tests.{leb-true, ltb-true, eqb-true, le-leb, lt-leb, lt-ltb, le-ltb}
use lib.Dec.{leb, ltb}
use lib.ListN.{length, get_or}
use Rattle.records.specs.Words.{paste}
use Rattle.gcra.specs.declared.Gcra.{Gcra}
use Rattle.gcra.specs.declared.Decision.{Decision}
use Rattle.gcra.specs.declared.Decision.TheVariants.{Allow, Deny}
use Rattle.gcra.specs.declared.Stepped.{Stepped}
use Rattle.questions.specs.Questions.{passes, first_no}
use Rattle.questions.proofs.Tests.{both, and_intro}
use Rattle.questions.proofs.Answers.{first-no, first-yes, first-none, passed_none}
use Rattle.records.specs.Fields.{time_flag, time_word, time_words, time_of, is_time}
use Rattle.nultiway.specs.Calls.{decision_words}
use Rattle.nultiway.specs.LoneCalls.{gcra_words, gcra_of, is_gcra, gcra_asked, stepped_words}
use Rattle.std.specs.declared.option.Option.{Option}
use Rattle.std.specs.declared.option.Option.TheVariants.{None, Some}

-- ---- whether words are a Gcra's, as the code tests it

pub is-gcra-yes : {burst : ℕ} (flag time : ℕ) {r : Bool} → burst < 2 ^ 32 → r ≡ is_time flag time → r ≡ (ltb burst (2 ^ 32) && is_time flag time)
is-gcra-yes {burst} flag time h e = rw (lt-ltb burst (2 ^ 32) h) e

pub is-gcra-no : {burst : ℕ} (flag time : ℕ) → 2 ^ 32 ≤ burst → false ≡ (ltb burst (2 ^ 32) && is_time flag time)
is-gcra-no {burst} flag time h = rw (le-ltb burst (2 ^ 32) h)

-- ---- questions 1 and 2

module _ (ws : List ℕ) (room : Bool) where
  pub asked-short : length ws < 4 → 1 ≡ first_no (gcra_asked ws room)
  asked-short h = first-no 1 _ (rw (lt-leb 4 (length ws) h))

  pub asked-small : room ≡ false → 1 ≡ first_no (gcra_asked ws room)
  asked-small e = first-no 1 _ (rw e (and-false (leb 4 (length ws))))

  pub asked-other : 4 ≤ length ws → room ≡ true → is_gcra ws ≡ false → 2 ≡ first_no (gcra_asked ws room)
  asked-other h e n = first-yes 1 _ (and_intro _ _ (le-leb 4 (length ws) h) e) (first-no 2 [] n)

  pub asked-none : 4 ≤ length ws → room ≡ true → is_gcra ws ≡ true → 0 ≡ first_no (gcra_asked ws room)
  asked-none h e y = first-yes 1 _ (and_intro _ _ (le-leb 4 (length ws) h) e) (first-yes 2 [] y first-none)

-- what holds where both are passed
pub record Passed (ws : List ℕ) (room : Bool) : Type 0 where
  pub all : passes (gcra_asked ws room) ≡ true
  pub long : 4 ≤ length ws
  pub fits : room ≡ true
  pub gcra : is_gcra ws ≡ true

pub gcra-all : (ws : List ℕ) (room : Bool) → passes (gcra_asked ws room) ≡ true → Passed ws room
unfolding passes
gcra-all ws room p =
    let a = both (leb 4 (length ws) && room) _ p in
    let b = both (leb 4 (length ws)) room a.0 in
    record { all = p; long = leb-true 4 (length ws) b.0; fits = b.1; gcra = (both (is_gcra ws) true a.1).0 }

pub gcra-passed : (ws : List ℕ) (room : Bool) {n : ℕ} → n ≡ first_no (gcra_asked ws room) → n ≡ 0 → Passed ws room
gcra-passed ws room {n} e z = gcra-all ws room (passed_none (gcra_asked ws room) n (omega arith, omega arith) e z)

-- the room for an answer
pub room_fits : (size n : ℕ) → leb size n ≡ true → size ≤ n
room_fits = leb-true

-- ---- reading and writing

pub tat-set : (flag time : ℕ) → (flag ≡ 0 → ⊥) → Some time ≡ (time_of flag time)
tat-set zero time h = absurd (h refl)
tat-set (suc flag) time h = refl

pub gcra-burst : (ws : List ℕ) → is_gcra ws ≡ true → get_or ws 1 0 < 2 ^ 32
gcra-burst ws e = ltb-true (get_or ws 1 0) (2 ^ 32) (both (ltb (get_or ws 1 0) (2 ^ 32)) _ e).0

pub gcra-read :
    (ws : List ℕ) {t : Option ℕ}
    → t ≡ (time_of (get_or ws 2 0) (get_or ws 3 0))
    → ◌≡◌ {A = Gcra} (record { quota = record { interval = get_or ws 0 0; burst = get_or ws 1 0 }; tat = t }) (gcra_of ws)
gcra-read ws e = ap (λ (t : Option ℕ). record { quota = record { interval = get_or ws 0 0; burst = get_or ws 1 0 }; tat = t }) e

pub words-with : (g : Gcra) {t : Option ℕ} → g.tat ≡ t → (g.quota.interval ∷ g.quota.burst ∷ time_words t) ≡ gcra_words g
words-with g e = sym (ap (λ (t : Option ℕ). g.quota.interval ∷ g.quota.burst ∷ time_words t) e)

-- ---- a step's words

two_words : (d : Decision) (t : ℕ) → (get_or (decision_words d) 0 0 ∷ get_or (decision_words d) 1 0 ∷ t ∷ []) ≡ decision_words d ++ (t ∷ [])
two_words Allow t = refl
two_words (Deny retry-at) t = refl

pub step_words : (s : Stepped) {ws : List ℕ} → ws ≡ decision_words s.decision → (get_or ws 0 0 ∷ get_or ws 1 0 ∷ s.tat ∷ []) ≡ stepped_words s
step_words s e = ap (λ (ws : List ℕ). get_or ws 0 0 ∷ get_or ws 1 0 ∷ s.tat ∷ []) e ∙ two_words s.decision s.tat

-- ---- the round trip

tat-back : (t : Option ℕ) → (time_of (time_flag t) (time_word t)) ≡ t
tat-back None = refl
tat-back (Some time) = refl

time-back : (flag time : ℕ) → is_time flag time ≡ true → time_words (time_of flag time) ≡ (flag ∷ time ∷ [])
unfolding is_time
time-back zero time e = ap (λ (t : ℕ). 0 ∷ t ∷ []) (sym (eqb-true time 0 e))
time-back (suc flag) time e = ap (λ (f : ℕ). f ∷ time ∷ []) (sym (eqb-true (suc flag) 1 e))

-- what was written is read back
pub gcra-back : (g : Gcra) (rest : List ℕ) → gcra_of (gcra_words g ++ rest) ≡ g
gcra-back g rest = ap (λ (t : Option ℕ). record { quota = g.quota; tat = t }) (tat-back g.tat)

-- words that are a Gcra are written back as they were
pub gcra-kept : (ws : List ℕ) → 4 ≤ length ws → is_gcra ws ≡ true → paste 0 (gcra_words (gcra_of ws)) ws ≡ ws
unfolding paste
gcra-kept [] h e = absurd (omega arith)
gcra-kept (a ∷ []) h e = absurd (omega arith)
gcra-kept (a ∷ b ∷ []) h e = absurd (omega arith)
gcra-kept (a ∷ b ∷ flag ∷ []) h e = absurd (omega arith)
gcra-kept (a ∷ b ∷ flag ∷ time ∷ rest) h e =
    ap (λ (ws : List ℕ). a ∷ b ∷ ws ++ rest) (time-back flag time (both (ltb b (2 ^ 32)) _ e).1)

-- two with the same words are equal
pub gcra-same : (g h : Gcra) → gcra_words g ≡ gcra_words h → g ≡ h
gcra-same g h e = sym (gcra-back g []) ∙ ap (λ (ws : List ℕ). gcra_of (ws ++ [])) e ∙ gcra-back h []
