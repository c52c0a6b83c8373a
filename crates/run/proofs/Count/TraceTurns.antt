-- What the definitions show of a key is a list of turns, so the count's law holds of it.
-- No state need be known to be valid: question 2 asks that of every call on the limiter.
use Prim.Native.Nat.{ℕ}
use mathlib.Core.Path.{◌≡◌, refl, ap, subst}
use mathlib.Core.Bool.{Bool, true, false, cond, ◌&&◌}
use mathlib.Core.List.{List, [], ◌∷◌, ◌++◌, map, append_assoc}
use lib.Dec.{eqb}
use lib.ListN.{length, get_or, drop}
use Rattle.records.specs.Records.{records, flat, table, fits}
use Rattle.questions.proofs.Tests.{split, both}
use Rattle.gcra.specs.declared.Gcra.{Gcra}
use Rattle.gcra.specs.declared.Decision.{Decision}
use Rattle.gcra.specs.declared.Decision.TheVariants.{Allow, Deny}
use Rattle.questions.specs.Questions.{Question, ◌asks◌, Answer, refused, given, answer, passes, changed}
use Rattle.gcra.specs.Packed.{valid_burst}
use Rattle.gcra.specs.Meter.{is_allow}
use Rattle.gcra.specs.declared.Units.{Units}
use Rattle.peers.specs.Peers.State as peer-state
use Rattle.demand.specs.Allocation.{is_rate}
use Rattle.limiter.specs.declared.Config.{Config}
use Rattle.limiter.specs.declared.Limit.{Limit}
use Rattle.limiter.specs.declared.Tally.{Tally}
use Rattle.limiter.specs.State.{LimiterState, have_room, valid, units_of, units_for, Settings}
use Rattle.limiter.specs.Checks.{entry, checked_key, tallied_key, key_decision, shadow_decision, check_in, check_traced, record_tally, own_limit, limit_questions, both_limit_questions, has_place, counters_fit, check_key_questions, check_one, after_one, check_each}
use Rattle.limiter.specs.Ticks.{no_others, peers_others, tick_with}
use Rattle.limiter.specs.Calls.{answer_words, each_questions}
use Rattle.image.specs.Image.{State}
use Rattle.image.specs.Image as image
use Rattle.run.specs.Seen.{Seen, KeepsToTheBound, Onward, Kept, largest_burst, Small}
use Rattle.run.specs.Run.{Change, What, Lent, Move, Shown}
use Rattle.run.specs.Trace.{new_states, on_limiter, on_both, asked, made, allows, meters, was_done, allowed_first, meter_in, if_key, seen_each, seen_in, trace, units_in}
use Rattle.run.specs.Trace as trace
use Rattle.run.specs.Demand3.{Counted}
use Rattle.run.proofs.Count.Turns.{unchecked, checked, Turns, after, turns_then, never_lowered}
use Rattle.run.proofs.Count.Law.{keeps-to-the-bound}
use Rattle.limiter.proofs.States.KeyLaws.{found_nowhere}
use Rattle.limiter.proofs.Calls.BetweenTickLaws.{entry_key}
use Rattle.limiter.proofs.States.StateValidLaws.{units-of-accepted}
use Rattle.limiter.proofs.LimiterTheorems.{one-settings, each-settings}
use Rattle.run.proofs.Count.CallTurns.{Acts, unmoved, own-burst, entered, tick-turns}
use Rattle.run.proofs.Count.Spared.{Spares, Spared}
use Rattle.run.proofs.Standing.Replied.{replied_to, replied}
use Rattle.run.proofs.Standing.Shows.{next, shown_by}
use Rattle.std.specs.declared.option.Option.{Option}
use Rattle.std.specs.declared.option.Option.TheVariants.{None, Some}
use Rattle.limiter.specs.declared.Traced.{Traced}

-- ---- lists of what is seen

-- turns at the units u from the meter m to m'; and the key is kept where the cap spares it
pub record Shows (u : Units) (S : Type 0) (m : Option Gcra) (xs : List Seen) (m' : Option Gcra) : Type 0 where
  pub turns : Turns u m xs
  pub ends : after m xs ≡ m'
  pub kept : S → Kept m xs

-- Nothing is seen of a call that leaves the key.
nothing : {u : Units} {S : Type 0} {m m' : Option Gcra} → m ≡ m' → Shows u S m [] m'
nothing e = record { turns = tt; ends = e; kept = λ s. tt }

-- One turn is seen of a call.
once : {u : Units} {S : Type 0} {t a : ℕ} {m m' : Option Gcra} → Acts u S t m a m' → Shows u S m (record { at = t; allowed = a; meter = m' } ∷ []) m'
once x = record { turns = (x.turn, tt); ends = refl; kept = λ s. (x.kept s, tt) }

-- Turns after a turn.
then : {u : Units} {S : Type 0} {t a : ℕ} {m m' m'' : Option Gcra} {xs : List Seen} → Acts u S t m a m' → Shows u S m' xs m''
    → Shows u S m (record { at = t; allowed = a; meter = m' } ∷ xs) m''
then x y = record { turns = (x.turn, y.turns); ends = y.ends; kept = λ s. (x.kept s, y.kept s) }

-- Kept by calls, and by those after them.
kept_then : (m : Option Gcra) (xs ys : List Seen) → Kept m xs → Kept (after m xs) ys → Kept m (xs ++ ys)
kept_then m [] ys first later = later
kept_then m (x ∷ xs) ys first later = (first.0, kept_then x.meter xs ys first.1 later)

-- ---- a call by its questions

-- What is taken from an answer, where a 'no' gives z.
pub taken : {A B : Type 0} (f : Answer A → B) (z : B) (qs : List Question) (a : A) → ((n : ℕ) → f (refused n) ≡ z)
    → f (answer qs a) ≡ cond (passes qs) (f (given a)) z
unfolding answer passes
taken f z [] a refuses = refl
taken f z (q ∷ qs) a refuses = split q.passed (λ e. rw e (taken f z qs a refuses)) (λ e. rw e (refuses q.number))

-- A call on the limiter is asked whether its state is valid.
on-limiter : (n : Lent) (s : State) (qs : List Question) → passes (on_limiter n s ++ qs) ≡ true
    → (valid (units_in s) s.limiter ≡ true) × (passes qs ≡ true)
unfolding passes
on-limiter n s qs e = both (valid (units_in s) s.limiter) _ (both (have_room s.limiter.settings.config n.limiter) _ e).1

-- A limit that is given is asked for its burst.
given-burst : (x : Limit) (qs : List Question) → passes (limit_questions x ++ qs) ≡ true → valid_burst x.burst ≡ true
unfolding passes
given-burst x qs e = (both (valid_burst x.burst) _ (both (is_rate x.rate) _ e).1).0

-- So is one that is given with a shadow's.
traced-burst : (x : Limit) (y : Option Limit) (qs : List Question) → passes (both_limit_questions x y ++ qs) ≡ true → valid_burst x.burst ≡ true
unfolding passes
traced-burst x None qs e = given-burst x qs e
traced-burst x (Some y) qs e =
    (both (valid_burst x.burst) _ (both (valid_burst x.burst && valid_burst y.burst) _
    (both (is_rate x.rate && is_rate y.rate) _ e).1).0).0

-- A call on both is asked so too.
on_both_lem : (n : Lent) (s : State) (qs : List Question) → passes (on_both n s ++ qs) ≡ true → valid (units_in s) s.limiter ≡ true
unfolding passes image.valid
on_both_lem n s qs e =
    (both (valid (units_in s) s.limiter) _
    (both (image.valid s) _ (both (have_room s.limiter.settings.config n.limiter && peer-state.have_room n.peers) _ e).1).0).0

-- The words of one of many answers: whether its check is allowed, and the words after them. A 'no' is 8 or 9.
first-words :
    (a b : Bool) (d : Decision) (ws : List ℕ) → let qs = (8 asks a) ∷ (9 asks b) ∷ [] in let out = answer_words (answer qs d) ++ ws in
    (allowed_first out ≡ cond (passes qs) (cond (is_allow d) 1 0) 0) × (drop 3 out ≡ ws)
unfolding answer passes
first-words true true Allow ws = (refl, refl)
first-words true true (Deny t) ws = (refl, refl)
first-words true false d ws = (refl, refl)
first-words false b d ws = (refl, refl)

-- A call is done where no question is answered 'no'.
pub done-passed : (qs : List Question) → was_done (answer qs tt) ≡ passes qs
unfolding answer passes
done-passed [] = refl
done-passed (q ∷ qs) = split q.passed (λ e. rw e (done-passed qs)) (λ e. rw e)

-- A premise may be asked for instead of what it gives.
under : {u : Units} {S T : Type 0} {t a : ℕ} {m m' : Option Gcra} → (T → S) → Acts u S t m a m' → Acts u T t m a m'
under f x = record { turn = x.turn; kept = λ t. x.kept (f t) }

-- No call changes the settings but for the cap and the last tick.
made-config : (x : Change) (s : State) → (made x s).limiter.settings.config ≡ s.limiter.settings.config
unfolding made check_in check_traced record_tally tick_with
made-config (Change.check k now m) s = refl
made-config (Change.check-in k l now m) s = refl
made-config (Change.check-traced k l y now m) s = refl
made-config (Change.check-each list count m out) s = ap (λ (z : Settings). z.config) (each-settings (units_in s) m (records 2 count list) s.limiter)
made-config (Change.tally k y l now m) s = refl
made-config (Change.set-cap z) s = refl
made-config (Change.tick now m) s = refl
made-config (Change.tick-with-shares now m) s = refl
made-config (Change.report sender z now) s = refl
made-config (Change.forget peer) s = refl
made-config (Change.leave peer now hold) s = refl
made-config (Change.expire now max_age) s = refl

-- Whatever its questions.
pub config-stays : (n : Lent) (w : What) (s : State) → (trace.after n w s).limiter.settings.config ≡ s.limiter.settings.config
config-stays n (What.changes x) s = split (passes (asked n x s)) (λ p. rw p (made-config x s)) (λ p. rw p)
config-stays n (What.reads x) s = refl

-- So the units stay.
units-stay : (n : Lent) (w : What) (s : State) → units_in (trace.after n w s) ≡ units_in s
units-stay n w s = ap units_for (config-stays n w s)

module _ (key : ℕ) where
  abbrev meter_of : State → Option Gcra
  meter_of s = meter_in key s.limiter

  -- Of no check, none is of the key.
  no-check : (k : ℕ) → if_key key k 0 ≡ 0
  no-check k = split (eqb k key) (λ e. rw e) (λ e. rw e)

  -- A check of k that is refused, or else acts, is a turn.
  check-or-no : {u : Units} {A : Type 0} {S : Type 0} (m : A → Option Gcra) (qs : List Question) {s s' : A} {now : ℕ} (k d : ℕ) {r : ℕ} → r ≡ cond (passes qs) d 0
      → (passes qs ≡ true → Acts u S now (m s) (if_key key k d) (m s')) → Acts u S now (m s) (if_key key k r) (m (changed qs s s'))
  check-or-no m qs {s} k d e acts = rw e (split (passes qs) (λ p. rw p (acts p)) (λ p. rw (p, no-check k) (unmoved (m s))))

  -- So is another call.
  act-or-no : {u : Units} {S : Type 0} (qs : List Question) (s s' : State) {now : ℕ} → (passes qs ≡ true → Acts u S now (meter_of s) 0 (meter_of s'))
      → Acts u S now (meter_of s) 0 (meter_of (changed qs s s'))
  act-or-no qs s s' acts = split (passes qs) (λ p. rw p (acts p)) (λ p. rw p (unmoved (meter_of s)))

  -- A call that changes no key leaves each as it is.
  same-or-no : (qs : List Question) (s s' : State) → meter_of s ≡ meter_of s' → meter_of s ≡ meter_of (changed qs s s')
  same-or-no qs s s' e = split (passes qs) (λ p. rw p e) (λ p. rw p)

  -- ---- each call

  -- A check under a valid burst.
  check-turns : {S : Type 0} (s : LimiterState) (k : ℕ) (x : Limit) (now n : ℕ) → valid_burst x.burst ≡ true
      → Acts (units_of s.settings) S now (meter_in key s) (if_key key k (cond (is_allow (key_decision (units_of s.settings) s k x now n)) 1 0)) (meter_in key (check_in (units_of s.settings) s k x now n))
  unfolding check_in
  check-turns s k x now n b = entered key s k x now n b (checked_key now None (entry (units_of s.settings) s k x now n)) (entry_key (units_of s.settings) s k x now n) checked

  -- A traced one: the shadow has its own meter.
  traced-turns : {S : Type 0} (s : LimiterState) (k : ℕ) (x : Limit) (y : Option Limit) (now n : ℕ) → valid_burst x.burst ≡ true
      → Acts (units_of s.settings) S now (meter_in key s) (if_key key k (cond (is_allow (key_decision (units_of s.settings) s k x now n)) 1 0)) (meter_in key (check_traced (units_of s.settings) s k x y now n))
  unfolding check_traced
  traced-turns s k x y now n b =
      entered key s k x now n b (checked_key now (shadow_decision (units_of s.settings) s k x y now n) (entry (units_of s.settings) s k x now n)) (entry_key (units_of s.settings) s k x now n) checked

  -- A tally asks no meter.
  tally-turns : {S : Type 0} (s : LimiterState) (k : ℕ) (y : Tally) (x : Limit) (now n : ℕ) → valid_burst x.burst ≡ true
      → Acts (units_of s.settings) S now (meter_in key s) 0 (meter_in key (record_tally (units_of s.settings) s k y x now n))
  unfolding record_tally
  tally-turns {S} s k y x now n b =
      rw (no-check k) at (entered {S = S} key s k x now n b (tallied_key y (entry (units_of s.settings) s k x now n)) (entry_key (units_of s.settings) s k x now n) unchecked)

  -- A check leaves the settings, so the next of many is under a valid burst too.
  own-stays : (n : ℕ) (s : LimiterState) (k now : ℕ) → valid_burst (own_limit s).burst ≡ true
      → valid_burst (own_limit (after_one (units_of s.settings) n s k now)).burst ≡ true
  unfolding check_in
  own-stays n s k now b = split (passes (check_key_questions (units_of s.settings) s k now n)) (λ e. rw e b) (λ e. rw e b)

  -- Many checks, each answered in three words, are turns.
  each-turns : {S : Type 0} (n : ℕ) (rs : List (List ℕ)) (s : LimiterState) (out : List ℕ) → valid_burst (own_limit s).burst ≡ true
      → Shows (units_of s.settings) S (meter_in key s) (seen_each key n rs (flat (map answer_words (check_each (units_of s.settings) n rs s).answers) ++ out) s)
      (meter_in key (check_each (units_of s.settings) n rs s).left)
  unfolding seen_each check_each flat
  each-turns n [] s out b = nothing refl
  each-turns {S} n (r ∷ rs) s out b =
      let k = get_or r 0 0 in
      let now = get_or r 1 0 in
      let s' = after_one (units_of s.settings) n s k now in
      let more = flat (map answer_words (check_each (units_of s.settings) n rs s').answers) in
      let x = checked_key now None (entry (units_of s.settings) s k (own_limit s) now n) in
      let w = first-words (has_place s x.key) (counters_fit x) (key_decision (units_of s.settings) s k (own_limit s) now n) (more ++ out) in
      rw (append_assoc (answer_words (check_one (units_of s.settings) n s k now)) more out, w.1)
      (then (check-or-no (meter_in key) (check_key_questions (units_of s.settings) s k now n) k _ w.0 (λ p. check-turns s k (own_limit s) now n b))
      (subst (λ (u : Units). Shows u S (meter_in key s') (seen_each key n rs (flat (map answer_words (check_each u n rs s').answers) ++ out) s') (meter_in key (check_each u n rs s').left))
      (ap units_of (one-settings (units_of s.settings) n s k now)) (each-turns {S = S} n rs s' out (own-stays n s k now b))))

  -- So are those of a call, and nothing is seen of a call that is refused.
  many-turns : {S : Type 0} (n : Lent) (s : State) (list : List ℕ) (count m : ℕ) (out : List ℕ)
      → let x = Change.check-each list count m out in
      Shows (units_in s) S (meter_of s) (seen_in key n (What.changes x) (replied_to n x s) s)
      (meter_of (trace.after n (What.changes x) s))
  unfolding asked made replied_to table passes
  many-turns n s list count m out =
      rw (done-passed (asked n (Change.check-each list count m out) s))
      (split (passes (asked n (Change.check-each list count m out) s))
      (λ p.
      let v = (on-limiter n s (each_questions count m out) (both (fits (length list) 2 count) _ p).1).0 in
      rw p (each-turns m (records 2 count list) s.limiter _ (own-burst s.limiter v)))
      (λ p. rw p (nothing refl)))

  -- What is seen of any call, refused or not, is turns.
  call-turns : (n : Lent) (x : Change) (s : State)
      → Shows (units_in s) (Spares key n (What.changes x) s) (meter_of s) (seen_in key n (What.changes x) (replied_to n x s) s)
      (meter_of (trace.after n (What.changes x) s))
  unfolding asked made replied_to
  call-turns n (Change.check k now m) s =
      let qs = asked n (Change.check k now m) s in
      once (check-or-no meter_of qs k _ (taken allows 0 qs _ (λ i. refl))
      (λ p. check-turns s.limiter k (own_limit s.limiter) now m (own-burst s.limiter (on-limiter n s _ p).0)))
  call-turns n (Change.check-in k l now m) s =
      let qs = asked n (Change.check-in k l now m) s in
      once (check-or-no meter_of qs k _ (taken allows 0 qs _ (λ i. refl))
      (λ p. check-turns s.limiter k l now m (given-burst l _ (on-limiter n s _ p).1)))
  call-turns n (Change.check-traced k l y now m) s =
      let qs = asked n (Change.check-traced k l y now m) s in
      let f : Answer Traced → ℕ = λ z. allows (meters z) in
      once (check-or-no meter_of qs k _ (taken f 0 qs _ (λ i. refl))
      (λ p. traced-turns s.limiter k l y now m (traced-burst l y _ (on-limiter n s _ p).1)))
  call-turns n (Change.check-each list count m out) s = many-turns n s list count m out
  call-turns n (Change.tally k y l now m) s =
      let x = Change.tally k y l now m in
      once (act-or-no (asked n x s) s (made x s) (λ p. tally-turns s.limiter k y l now m (given-burst l _ (on-limiter n s _ p).1)))
  call-turns n (Change.set-cap z) s = nothing (same-or-no (asked n (Change.set-cap z) s) s (made (Change.set-cap z) s) refl)
  call-turns n (Change.tick now m) s =
      let x = Change.tick now m in
      once (act-or-no (asked n x s) s (made x s) (λ p. under (λ f. f p) (tick-turns key (no_others m) now m s.limiter (on-limiter n s _ p).0)))
  call-turns n (Change.tick-with-shares now m) s =
      let x = Change.tick-with-shares now m in
      once (act-or-no (asked n x s) s (made x s)
      (λ p. under (λ f. f p) (tick-turns key (peers_others s.limiter.settings s.peers m) now m s.limiter (on_both_lem n s _ p))))
  call-turns n (Change.report sender z now) s =
      let x = Change.report sender z now in once (act-or-no (asked n x s) s (made x s) (λ p. unmoved (meter_of s)))
  call-turns n (Change.forget peer) s = nothing (same-or-no (asked n (Change.forget peer) s) s (made (Change.forget peer) s) refl)
  call-turns n (Change.leave peer now hold) s =
      let x = Change.leave peer now hold in once (act-or-no (asked n x s) s (made x s) (λ p. unmoved (meter_of s)))
  call-turns n (Change.expire now max_age) s =
      let x = Change.expire now max_age in once (act-or-no (asked n x s) s (made x s) (λ p. unmoved (meter_of s)))

  -- A call that reads shows nothing.
  what-turns : (n : Lent) (w : What) (s : State)
      → Shows (units_in s) (Spares key n w s) (meter_of s) (seen_in key n w (replied n w s) s) (meter_of (trace.after n w s))
  what-turns n (What.changes x) s = call-turns n x s
  what-turns n (What.reads x) s = nothing refl

  -- ---- a run

  -- Its trace is turns; and the key is kept where the cap spares it.
  trace-turns : (s : State) (ms : List Move)
      → Turns (units_in s) (meter_of s) (trace key s ms (shown_by s ms)) × (Spared key s ms → Kept (meter_of s) (trace key s ms (shown_by s ms)))
  unfolding trace shown_by
  trace-turns s [] = (tt, λ k. tt)
  trace-turns s (Move.call c ∷ ms) =
      let now = what-turns c.lent c.what s in
      let later = trace-turns (next c s) ms in
      let shown = seen_in key c.lent c.what (replied c.lent c.what s) s in (
        turns_then (units_in s) (meter_of s) shown _ now.turns
            (rw now.ends
            (subst (λ (u : Units). Turns u (meter_of (next c s)) (trace key (next c s) ms (shown_by (next c s) ms))) (units-stay c.lent c.what s)
            later.0)),
        λ k. kept_then (meter_of s) shown _ (now.kept k.0) (rw now.ends (later.1 k.1)),
      )
  trace-turns s (Move.resume w ∷ ms) = trace-turns s ms

-- ---- the theorems, of a new limiter and its peers

module _ (c : Config) (ms : List Move) where
  -- what the definitions show
  abbrev shown : List Shown
  shown = shown_by (new_states c) ms

  -- No key is tracked at first.
  from-none : (key : ℕ)
      → Turns (units_in (new_states c)) None (trace key (new_states c) ms shown) × (Spared key (new_states c) ms → Kept None (trace key (new_states c) ms shown))
  from-none key = rw (found_nowhere key) at (trace-turns key (new_states c) ms)

  -- Under the count's premises every key keeps to the bound; and no TAT is lowered at the same quota.
  pub counted : Counted c ms shown
  counted =
      record {
        bound = λ key p. keeps-to-the-bound (units_in (new_states c)) (units-of-accepted (new_states c).limiter.settings) (trace key (new_states c) ms shown) (from-none key).0 p;
        never_lowered = λ key. never_lowered (units_in (new_states c)) None (trace key (new_states c) ms shown) (from-none key).0 tt;
      }

  -- Of the premises `Kept` is a matter of the tracked-key cap alone: a key that pass one drops has no debt, and no other call drops a key.
  pub kept-if-spared : (key : ℕ) → Spared key (new_states c) ms → Kept None (trace key (new_states c) ms shown)
  kept-if-spared key = (from-none key).1

  -- So the bound is kept under the premises as demand 3 has them: 'the key is never removed by the tracked-key cap'.
  pub counted-if-spared :
      (key : ℕ) → let all = trace key (new_states c) ms shown in
      Spared key (new_states c) ms → Onward 0 all → Small (largest_burst all) all → KeepsToTheBound all
  counted-if-spared key s onward small = counted.bound key (record { onward = onward; kept = kept-if-spared key s; small = small })
