-- Between ticks a key's checks are answered as its own meter decides, so a denied one is allowed at its retry time.
use Prim.Native.Nat.{ℕ}
use mathlib.Core.Path.{◌≡◌, refl, sym, ap, ◌∙◌, subst}
use mathlib.Core.Bool.{Bool, true, false, cond, not, false≢true}
use mathlib.Core.List.{List, [], ◌∷◌, ◌++◌, map, append_assoc}
use borrow.Author.Tests.{eqb-true}
use lib.Dec.{eqb}
use lib.ListN.{get_or, drop}
use Rattle.records.specs.Records.{records, flat, table}
use Rattle.std.proofs.lemmas.Bool.{not-true}
use Rattle.questions.proofs.Tests.{split, both}
use Rattle.gcra.specs.declared.Quota.{Quota}
use Rattle.gcra.specs.declared.Gcra.{Gcra}
use Rattle.gcra.specs.declared.Decision.{Decision}
use Rattle.gcra.specs.declared.Decision.TheVariants.{Allow, Deny}
use Rattle.questions.specs.Questions.{Question, ◌asks◌, Answer, answer, passes, changed}
use Rattle.gcra.specs.Meter.{is_allow, decision, check}
use Rattle.gcra.proofs.Meter.Checks.{check-deny}
use Rattle.gcra.proofs.Meter.Retry.{at-retry}
use Rattle.gcra.specs.declared.Units.{Units}
use Rattle.questions.specs.Lists.{all}
use Rattle.limiter.specs.declared.Config.{Config}
use Rattle.limiter.specs.declared.Limit.{Limit}
use Rattle.limiter.specs.declared.Tally.{Tally}
use Rattle.limiter.specs.State.{KeyRecord, LimiterState, key_with, put_key, units_of}
use Rattle.limiter.specs.Checks.{new_key, found_or, entry, checked_key, tallied_key, key_decision, shadow_decision, check_in, check_traced, record_tally, own_limit, has_place, counters_fit, check_key_questions, check_one, after_one, check_each}
use Rattle.limiter.specs.Readers.{of_key}
use Rattle.limiter.specs.Calls.{answer_words}
use Rattle.image.specs.Image.{State}
use Rattle.run.specs.Run.{Memory, Lent, Change, What, Resume, Move, Shown, GoesOn, Resumes}
use Rattle.run.specs.Trace.{new_states, asked, made, after, state_after, meters, meter_in}
use Rattle.run.specs.Between.{Decided, decided_at, decision_first, if_own, decided_each, decided_in, decided, tickless_what, tickless, by_meter, OwnRecord, is_denied, RetryTime, Between, Sentences}
use Rattle.run.proofs.Count.Turns.{fresh}
use Rattle.limiter.proofs.States.KeyLaws.{put-own, put_other}
use Rattle.limiter.proofs.Calls.BetweenTickLaws.{entry_key}
use Rattle.limiter.proofs.LimiterTheorems.{one-settings}
use Rattle.run.proofs.Count.TraceTurns.{taken, done-passed}
use Rattle.run.proofs.Standing.Stands.{Stands}
use Rattle.run.proofs.Standing.Replied.{replied_to, replied}
use Rattle.run.proofs.Standing.Began.{started-stands}
use Rattle.run.proofs.Standing.Shows.{next, shown_by, goes_on, run-shows}
use Rattle.run.proofs.Standing.ResumedSame.{resumes-stand}
use Rattle.std.specs.declared.option.Option.{Option}
use Rattle.std.specs.declared.option.Option.TheVariants.{None, Some}
use Rattle.limiter.specs.declared.Traced.{Traced}

-- ---- a meter followed through checks

-- from the meter m, checks decided by it alone, to the meter m'; a key may be made, with a meter without a TAT
data Follows : Option Gcra → List Decided → Option Gcra → Type 0 where
  nothing : {m : Option Gcra} → Follows m [] m
  made_new : {q : Quota} {ds : List Decided} {m : Option Gcra} → Follows (Some (fresh q)) ds m → Follows None ds m
  checks : {g : Gcra} {t : ℕ} {ds : List Decided} {m : Option Gcra} → Follows (Some (check g t)) ds m
      → Follows (Some g) (record { at = t; decision = decision g t } ∷ ds) m

-- one after the other
follows_then : {m m' m'' : Option Gcra} {xs ys : List Decided} → Follows m xs m' → Follows m' ys m'' → Follows m (xs ++ ys) m''
follows_then nothing y = y
follows_then (made_new x) y = made_new (follows_then x y)
follows_then (checks x) y = checks (follows_then x y)

-- a tracked key's are its meter's decisions
by-meter : {g : Gcra} {ds : List Decided} {m : Option Gcra} → Follows (Some g) ds m → ds ≡ by_meter g ds
unfolding by_meter
by-meter nothing = refl
by-meter (checks {g} {t} x) = ap (λ (l : List Decided). record { at = t; decision = decision g t } ∷ l) (by-meter x)

-- ---- a call by its questions

module _ (key : ℕ) where
  -- a call that is refused, or else follows
  follows-or-no : {A : Type 0} (m : A → Option Gcra) (qs : List Question) (ds : List Decided) {s s' : A}
      → (passes qs ≡ true → Follows (m s) ds (m s'))
      → Follows (m s) (cond (passes qs) ds []) (m (changed qs s s'))
  follows-or-no m qs ds f = split (passes qs) (λ p. rw p (f p)) (λ p. rw p nothing)

  -- two tests in either order
  swap : (a b : Bool) (ds : List Decided) → cond a (cond b ds []) [] ≡ cond b (cond a ds []) []
  swap true b ds = refl
  swap false true ds = refl
  swap false false ds = refl

  -- one check
  one-call : {A : Type 0} (m : A → Option Gcra) (qs : List Question) (k now : ℕ) (a : Answer Decision) (d : Decision) {s s' : A} → a ≡ answer qs d
      → (passes qs ≡ true → Follows (m s) (if_own key k (record { at = now; decision = d } ∷ [])) (m s'))
      → Follows (m s) (if_own key k (decided_at now a)) (m (changed qs s s'))
  one-call m qs k now a d {s} {s'} e f =
      subst (λ (ds : List Decided). Follows (m s) ds (m (changed qs s s')))
      (sym
      (ap (λ (z : Answer Decision). if_own key k (decided_at now z)) e ∙ ap (if_own key k) (taken (decided_at now) [] qs d (λ i. refl))
      ∙ swap (eqb k key) (passes qs) (record { at = now; decision = d } ∷ [])))
      (follows-or-no m qs (if_own key k (record { at = now; decision = d } ∷ [])) f)

  -- ---- a key that is found or made, and put back

  abbrev meter : KeyRecord → Gcra
  meter k = k.gcra

  found-or-new : (new : KeyRecord) {q : Quota} (x : Limit) (o : Option KeyRecord) {ds : List Decided} {m : Option Gcra} → new.gcra ≡ fresh q
      → Follows (Some (found_or new x o).gcra) ds m → Follows (of_key meter o) ds m
  found-or-new new {q} x None {ds} {m} e f = made_new {q = q} (subst (λ (g : Gcra). Follows (Some g) ds m) e f)
  found-or-new new x (Some y) e f = f

  enters : (s : LimiterState) (k : ℕ) (x : Limit) (now n : ℕ) (r : KeyRecord) (ds : List Decided) → r.key ≡ k
      → Follows (Some (entry (units_of s.settings) s k x now n).gcra) ds (Some r.gcra)
      → Follows (meter_in key s) (if_own key k ds) (of_key meter (key_with key (put_key r s.keys)))
  unfolding entry
  enters s k x now n r ds e f =
      split (eqb k key)
      (λ h.
      let z = eqb-true k key h in
      let f' = subst (λ (j : ℕ). Follows (Some (found_or (new_key (units_of s.settings) s.settings j x now n) x (key_with j s.keys)).gcra) ds
      (Some r.gcra)) z f in
      rw (h, put-own key r s.keys (e ∙ z)) (found-or-new (new_key (units_of s.settings) s.settings key x now n) x (key_with key s.keys) refl f'))
      (λ h. rw (h, put_other key r s.keys (ap (λ (j : ℕ). eqb j key) e ∙ h)) nothing)

  -- no check of a key leaves nothing to see of it
  none-own : (k : ℕ) → if_own key k [] ≡ []
  none-own k = split (eqb k key) (λ e. rw e) (λ e. rw e)

  -- ---- each call

  check-follows : (s : LimiterState) (k : ℕ) (x : Limit) (now n : ℕ)
      → Follows (meter_in key s) (if_own key k (record { at = now; decision = key_decision (units_of s.settings) s k x now n } ∷ []))
      (meter_in key (check_in (units_of s.settings) s k x now n))
  unfolding check_in
  check-follows s k x now n = enters s k x now n (checked_key now None (entry (units_of s.settings) s k x now n)) _ (entry_key (units_of s.settings) s k x now n) (checks nothing)

  -- the words of one of many answers say it. A 'no' is 8 or 9.
  words-say : (a b : Bool) (d : Decision) (ws : List ℕ) → let qs = (8 asks a) ∷ (9 asks b) ∷ [] in let out = answer_words (answer qs d) ++ ws in
      (decision_first out ≡ answer qs d) × (drop 3 out ≡ ws)
  unfolding answer
  words-say true true Allow ws = (refl, refl)
  words-say true true (Deny t) ws = (refl, refl)
  words-say true false d ws = (refl, refl)
  words-say false b d ws = (refl, refl)

  -- many
  each-follows : (n : ℕ) (rs : List (List ℕ)) (s : LimiterState) (out : List ℕ)
      → Follows (meter_in key s) (decided_each key rs (flat (map answer_words (check_each (units_of s.settings) n rs s).answers) ++ out))
      (meter_in key (check_each (units_of s.settings) n rs s).left)
  unfolding decided_each check_each flat
  each-follows n [] s out = nothing
  each-follows n (r ∷ rs) s out =
      let k = get_or r 0 0 in
      let now = get_or r 1 0 in
      let s' = after_one (units_of s.settings) n s k now in
      let more = flat (map answer_words (check_each (units_of s.settings) n rs s').answers) in
      let x = checked_key now None (entry (units_of s.settings) s k (own_limit s) now n) in
      let w = words-say (has_place s x.key) (counters_fit x) (key_decision (units_of s.settings) s k (own_limit s) now n) (more ++ out) in
      rw (append_assoc (answer_words (check_one (units_of s.settings) n s k now)) more out, w.1)
      (follows_then
      (one-call (meter_in key) (check_key_questions (units_of s.settings) s k now n) k now _ (key_decision (units_of s.settings) s k (own_limit s) now n) w.0
      (λ p. check-follows s k (own_limit s) now n))
      (subst (λ (u : Units). Follows (meter_in key s') (decided_each key rs (flat (map answer_words (check_each u n rs s').answers) ++ out)) (meter_in key (check_each u n rs s').left))
      (ap units_of (one-settings (units_of s.settings) n s k now)) (each-follows n rs s' out)))

  abbrev meter_of : State → Option Gcra
  meter_of s = meter_in key s.limiter

  -- the meter's answer of two
  meters-answer : (qs : List Question) (d : Traced) → meters (answer qs d) ≡ answer qs d.decision
  unfolding answer
  meters-answer [] d = refl
  meters-answer (q ∷ qs) d = split q.passed (λ e. rw e (meters-answer qs d)) (λ e. rw e)

  -- a call that shows no check
  or-still : (qs : List Question) (s s' : State) → Follows (meter_of s) [] (meter_of s') → Follows (meter_of s) [] (meter_of (changed qs s s'))
  or-still qs s s' f = split (passes qs) (λ p. rw p f) (λ p. rw p nothing)

  traced-follows : (s : LimiterState) (k : ℕ) (x : Limit) (y : Option Limit) (now n : ℕ)
      → Follows (meter_in key s) (if_own key k (record { at = now; decision = key_decision (units_of s.settings) s k x now n } ∷ []))
      (meter_in key (check_traced (units_of s.settings) s k x y now n))
  unfolding check_traced
  traced-follows s k x y now n =
      enters s k x now n (checked_key now (shadow_decision (units_of s.settings) s k x y now n) (entry (units_of s.settings) s k x now n)) _ (entry_key (units_of s.settings) s k x now n) (checks nothing)

  tally-follows : (s : LimiterState) (k : ℕ) (y : Tally) (x : Limit) (now n : ℕ)
      → Follows (meter_in key s) [] (meter_in key (record_tally (units_of s.settings) s k y x now n))
  unfolding record_tally
  tally-follows s k y x now n =
      subst (λ (ds : List Decided). Follows (meter_in key s) ds (meter_in key (record_tally (units_of s.settings) s k y x now n))) (none-own k)
      (enters s k x now n (tallied_key y (entry (units_of s.settings) s k x now n)) [] (entry_key (units_of s.settings) s k x now n) nothing)

  many-follows : (n : Lent) (list : List ℕ) (count m : ℕ) (out : List ℕ) (s : State)
      → let x = Change.check-each list count m out in
      Follows (meter_of s) (decided_in key (What.changes x) (replied_to n x s))
      (meter_of (after n (What.changes x) s))
  unfolding asked made replied_to table
  many-follows n list count m out s =
      rw (done-passed (asked n (Change.check-each list count m out) s))
      (split (passes (asked n (Change.check-each list count m out) s)) (λ p. rw p (each-follows m (records 2 count list) s.limiter _))
      (λ p. rw p nothing))

  call-follows : (n : Lent) (x : Change) (s : State) → tickless_what (What.changes x) ≡ true
      → Follows (meter_of s) (decided_in key (What.changes x) (replied_to n x s)) (meter_of (after n (What.changes x) s))
  unfolding asked made replied_to
  call-follows n (Change.check k now m) s w =
      one-call meter_of (asked n (Change.check k now m) s) k now _ _ refl (λ p. check-follows s.limiter k (own_limit s.limiter) now m)
  call-follows n (Change.check-in k z now m) s w =
      one-call meter_of (asked n (Change.check-in k z now m) s) k now _ _ refl (λ p. check-follows s.limiter k z now m)
  call-follows n (Change.check-traced k z y now m) s w =
      one-call meter_of (asked n (Change.check-traced k z y now m) s) k now _ _
      (meters-answer (asked n (Change.check-traced k z y now m) s)
      (record { decision = key_decision (units_of s.limiter.settings) s.limiter k z now m; shadow = shadow_decision (units_of s.limiter.settings) s.limiter k z y now m }))
      (λ p. traced-follows s.limiter k z y now m)
  call-follows n (Change.check-each list count m out) s w = many-follows n list count m out s
  call-follows n (Change.tally k y z now m) s w = or-still (asked n (Change.tally k y z now m) s) s _ (tally-follows s.limiter k y z now m)
  call-follows n (Change.set-cap z) s w = or-still (asked n (Change.set-cap z) s) s (made (Change.set-cap z) s) nothing
  call-follows n (Change.tick now m) s w = absurd (false≢true w)
  call-follows n (Change.tick-with-shares now m) s w = absurd (false≢true w)
  call-follows n (Change.report sender z now) s w = or-still (asked n (Change.report sender z now) s) s (made (Change.report sender z now) s) nothing
  call-follows n (Change.forget peer) s w = or-still (asked n (Change.forget peer) s) s (made (Change.forget peer) s) nothing
  call-follows n (Change.leave peer now hold) s w = or-still (asked n (Change.leave peer now hold) s) s (made (Change.leave peer now hold) s) nothing
  call-follows n (Change.expire now max_age) s w = or-still (asked n (Change.expire now max_age) s) s (made (Change.expire now max_age) s) nothing

  -- a call of either kind
  what-follows : (n : Lent) (x : What) (s : State) → tickless_what x ≡ true
      → Follows (meter_of s) (decided_in key x (replied n x s)) (meter_of (after n x s))
  what-follows n (What.changes x) s w = call-follows n x s w
  what-follows n (What.reads x) s w = nothing

  -- ---- a list of calls
  run-follows : (s : State) (ms : List Move) → all tickless ms ≡ true
      → Follows (meter_of s) (decided key ms (shown_by s ms)) (meter_of (state_after s ms))
  unfolding shown_by state_after decided all
  run-follows s [] w = nothing
  run-follows s (Move.call c ∷ ms) w =
      let b = both (tickless_what c.what) (all tickless ms) w in
      follows_then (what-follows c.lent c.what s b.0) (run-follows (next c s) ms b.1)
  run-follows s (Move.resume x ∷ ms) w = run-follows s ms (both true (all tickless ms) w).1

-- ---- the retry time

-- the first of some: there is a meter that decides it
first : {m m' : Option Gcra} {d : Decided} {ds : List Decided} → Follows m (d ∷ ds) m'
    → (g : Gcra) × (d.decision ≡ decision g d.at) × Follows (Some (check g d.at)) ds m'
first (made_new f) = first f
first (checks {g} f) = (g, refl, f)

-- the checks after some
later : {m m' : Option Gcra} (us ds : List Decided) → Follows m (us ++ ds) m' → (n : Option Gcra) × Follows n ds m'
later {m} [] ds f = (m, f)
later {m = m} (u ∷ us) ds f = later {m = Some (check (first f).0 u.at)} us ds (first f).2

-- denied checks leave the meter
denied-stay : {g : Gcra} {m : Option Gcra} (vs ds : List Decided) → all is_denied vs ≡ true → Follows (Some g) (vs ++ ds) m → Follows (Some g) ds m
unfolding all
denied-stay [] ds w f = f
denied-stay {g} {m} (v ∷ vs) ds w (checks {t = t} f) =
    let b = both (not (is_allow (decision g t))) (all is_denied vs) w in
    denied-stay vs ds b.1 (subst (λ (k : Gcra). Follows (Some k) (vs ++ ds) m) (check-deny g t (not-true (is_allow (decision g t)) b.0)) f)

-- a meter that is asked
asked_by : {g : Gcra} {m : Option Gcra} {d : Decided} {ds : List Decided} → Follows (Some g) (d ∷ ds) m → d.decision ≡ decision g d.at
asked_by (checks f) = refl

-- it allows at its retry time
allowed-at-retry : (g : Gcra) (now r : ℕ) → decision g now ≡ Deny r → decision g r ≡ Allow
allowed-at-retry g now r h = is-allow (decision g r) (at-retry g.quota g.tat now r h)
  where
    is-allow : (d : Decision) → is_allow d ≡ true → d ≡ Allow
    is-allow Allow e = refl
    is-allow (Deny t) e = absurd (false≢true e)

-- so does the key, with denied checks alone between
retry :
    {m m' : Option Gcra} (ds us : List Decided) (d : Decided) (vs : List Decided) (e : Decided) (ws : List Decided) → Follows m ds m'
    → ds ≡ us ++ (d ∷ (vs ++ (e ∷ ws))) → d.decision ≡ Deny e.at → all is_denied vs ≡ true → e.decision ≡ Allow
retry {m} {m'} ds us d vs e ws f same denied between =
    let x = later us (d ∷ (vs ++ (e ∷ ws))) (subst (λ (l : List Decided). Follows m l m') same f) in
    let y = first x.1 in
    let g = y.0 in
    let h : decision g d.at ≡ Deny e.at = sym y.1 ∙ denied in
    let z = subst (λ (k : Gcra). Follows (Some k) (vs ++ (e ∷ ws)) m') (check-deny g d.at (ap is_allow h)) y.2 in
    asked_by (denied-stay vs (e ∷ ws) between z) ∙ allowed-at-retry g d.at e.at h

-- ---- the two sentences

-- of what the definitions show
own-record : (s : State) (ms : List Move) → all tickless ms ≡ true → OwnRecord s ms (shown_by s ms)
own-record s ms w key k e =
    by-meter (subst (λ (m : Option Gcra). Follows m (decided key ms (shown_by s ms)) (meter_of key (state_after s ms)))
    (ap (of_key (λ (x : KeyRecord). x.gcra)) e) (run-follows key s ms w))

retry-time : (s : State) (ms : List Move) → all tickless ms ≡ true → RetryTime ms (shown_by s ms)
retry-time s ms w key us d vs e ws = retry (decided key ms (shown_by s ms)) us d vs e ws (run-follows key s ms w)

-- and so of what the program shows, in any run whose resumptions keep the state
module _ (At : Memory → Resume → Memory → Type 0) (keeps : (h h' : Memory) (s : State) (w : Resume) → Stands h s → At h w h' → Stands h' s) where
  between : {c : Config} {h : Memory} → Stands h (new_states c) → Between At c h
  between {c} st before ms w₁ w₂ quiet xs ys a b u v =
      let s = state_after (new_states c) before in
      let e = (run-shows At keeps ms w₂ (run-shows At keeps before w₁ st u).1 v).0 in
      subst (λ (l : List Shown). OwnRecord s ms l × RetryTime ms l) (sym e) (own-record s ms quiet, retry-time s ms quiet)

-- 'Between ticks a tracked key's decision depends on its own record and the reading alone'; 'A denied key checked at its retry time, with no tick and
-- no other allowed check of it between, is allowed unless the call is refused'
pub sentences : Sentences
sentences c h w started =
    let st = started-stands w started in
    record { unbroken = between GoesOn goes_on st; resumed = between Resumes resumes-stand st }
