-- What a run shows of one key. 'Tracked, TAT, quota and drop are what demand 2's definitions give for the settings and calls so far, not what the
-- program stored': the calls are run on the definitions' state, and only the answers are the program's. Definitions only.
use Rattle.std.specs.Prelude.{ℕ, Bool, true, false, cond, ◌&&◌, List, [], ◌∷◌, ◌++◌, eqb, length, get_or, drop}
use Rattle.records.specs.Records.{records, fits}
use Rattle.gcra.specs.declared.Units.{Units}
use Rattle.gcra.specs.declared.Gcra.{Gcra}
use Rattle.gcra.specs.declared.Decision.{Decision}
use Rattle.questions.specs.Questions.{Question, ◌asks◌, Answer, refused, given, changed}
use Rattle.gcra.specs.Meter.{is_allow}
use Rattle.peers.specs.Peers.State as peer-state
use Rattle.peers.specs.Peers.Changes as peer-changes
use Rattle.peers.specs.Peers.Calls as peer-calls
use Rattle.limiter.specs.declared.Config.{Config}
use Rattle.limiter.specs.declared.Parameters.{Parameters}
use Rattle.limiter.specs.State as limiter-state
use Rattle.limiter.specs.State.{KeyRecord, LimiterState, parameters_of, units_of, key_with}
use Rattle.limiter.specs.Checks as checks
use Rattle.limiter.specs.Ticks as ticks
use Rattle.limiter.specs.Readers.{of_key}
use Rattle.limiter.specs.Calls.{new_state, each_questions}
use Rattle.image.specs.Image.{State, valid}
use Rattle.run.specs.Seen.{Seen}
use Rattle.run.specs.Run.{Change, What, Lent, Reply, Move, Shown}
use Rattle.std.specs.declared.option.Option.{Option}
use Rattle.limiter.specs.declared.Traced.{Traced}

-- ---- the calls on the definitions' state

-- the state of a new limiter and its peers
abbrev pub new_states : Config → State
new_states c = record { limiter = new_state c; peers = record { peers = []; snapshot_keys = []; contested = [] } }

abbrev pub limiter_only : State → LimiterState → State
limiter_only s x = record { limiter = x; peers = s.peers }

abbrev pub peers_only : State → peer-state.PeersState → State
peers_only s x = record { limiter = s.limiter; peers = x }

-- the parameters and the units of the limiter's settings
abbrev pub parameters_in : State → Parameters
parameters_in s = parameters_of s.limiter.settings

abbrev pub units_in : State → Units
units_in s = units_of s.limiter.settings

-- questions 1 and 2 of a call on the limiter, on the peers, on both
abbrev pub on_limiter : Lent → State → List Question
on_limiter n s =
    (1 asks limiter-state.have_room s.limiter.settings.config n.limiter) ∷ (2 asks limiter-state.valid (units_in s) s.limiter) ∷ []

abbrev pub on_peers : Lent → State → List Question
on_peers n s = (1 asks peer-state.have_room n.peers) ∷ (2 asks peer-state.valid s.peers) ∷ []

abbrev pub on_both : Lent → State → List Question
on_both n s = (1 asks (limiter-state.have_room s.limiter.settings.config n.limiter && peer-state.have_room n.peers)) ∷ (2 asks valid s) ∷ []

-- the questions of each call
unfoldable pub asked : Lent → Change → State → List Question
asked n (Change.check key now m) s = on_limiter n s ++ checks.check_questions (units_in s) s.limiter key now m
asked n (Change.check-in key x now m) s = on_limiter n s ++ checks.check_in_questions (units_in s) s.limiter key x now m
asked n (Change.check-traced key x y now m) s = on_limiter n s ++ checks.traced_questions (units_in s) s.limiter key x y now m
asked n (Change.check-each list count m out) s = (1 asks fits (length list) 2 count) ∷ (on_limiter n s ++ each_questions count m out)
asked n (Change.tally key y x now m) s = on_limiter n s ++ checks.record_questions (units_in s) s.limiter key y x now m
asked n (Change.set-cap x) s = on_limiter n s
asked n (Change.tick now m) s = on_limiter n s ++ checks.cluster_questions m
asked n (Change.tick-with-shares now m) s = on_both n s ++ checks.cluster_questions m
asked n (Change.report sender x now) s = on_peers n s ++ peer-calls.report_questions_of s.peers sender x
asked n (Change.forget peer) s = on_peers n s
asked n (Change.leave peer now hold) s = on_peers n s
asked n (Change.expire now max_age) s = on_peers n s

-- what each call makes of the state where no question is answered 'no'
unfoldable pub made : Change → State → State
made (Change.check key now m) s = limiter_only s (checks.check_in (units_in s) s.limiter key (checks.own_limit s.limiter) now m)
made (Change.check-in key x now m) s = limiter_only s (checks.check_in (units_in s) s.limiter key x now m)
made (Change.check-traced key x y now m) s = limiter_only s (checks.check_traced (units_in s) s.limiter key x y now m)
made (Change.check-each list count m out) s = limiter_only s (checks.check_each (units_in s) m (records 2 count list) s.limiter).left
made (Change.tally key y x now m) s = limiter_only s (checks.record_tally (units_in s) s.limiter key y x now m)
made (Change.set-cap x) s = limiter_only s (checks.set_cap x s.limiter)
made (Change.tick now m) s = limiter_only s (ticks.tick (parameters_in s) (units_in s) now m s.limiter)
made (Change.tick-with-shares now m) s = limiter_only s (ticks.tick_with_shares (parameters_in s) (units_in s) s.peers now m s.limiter)
made (Change.report sender x now) s = peers_only s (peer-changes.apply peer-changes.implausible_jump sender x now s.peers)
made (Change.forget peer) s = peers_only s (peer-changes.forget peer s.peers)
made (Change.leave peer now hold) s = peers_only s (peer-changes.leave peer now hold s.peers)
made (Change.expire now max_age) s = peers_only s (peer-changes.expire now max_age s.peers)

abbrev pub after : Lent → What → State → State
after n (What.changes x) s = changed (asked n x s) s (made x s)
after n (What.reads x) s = s

-- the state that a list of them leaves
unfoldable pub state_after : State → List Move → State
state_after s [] = s
state_after s (Move.call c ∷ ms) = state_after (after c.lent c.what s) ms
state_after s (Move.resume w ∷ ms) = state_after s ms

-- ---- what a call shows of a key

-- a check of a key at a reading, checks of many, another call with a reading, a call without one
pub data Sort : Type 0 where
  one_check : (key now : ℕ) → Sort
  many_checks : (list : List (List ℕ)) (n : ℕ) → Sort
  timed : (now : ℕ) → Sort
  timeless : Sort

abbrev pub sort : Change → Sort
sort (Change.check key now m) = Sort.one_check key now
sort (Change.check-in key x now m) = Sort.one_check key now
sort (Change.check-traced key x y now m) = Sort.one_check key now
sort (Change.check-each list count m out) = Sort.many_checks (records 2 count list) m
sort (Change.tally key y x now m) = Sort.timed now
sort (Change.set-cap x) = Sort.timeless
sort (Change.tick now m) = Sort.timed now
sort (Change.tick-with-shares now m) = Sort.timed now
sort (Change.report sender x now) = Sort.timed now
sort (Change.forget peer) = Sort.timeless
sort (Change.leave peer now hold) = Sort.timed now
sort (Change.expire now max_age) = Sort.timed now

-- 'An allowed check is one that the meter's answer allows, not the shadow's'
abbrev pub allows : Answer Decision → ℕ
allows (refused n) = 0
allows (given d) = cond (is_allow d) 1 0

abbrev pub meters : Answer Traced → Answer Decision
meters (refused n) = refused n
meters (given d) = given d.decision

abbrev pub allowed_by : Reply → ℕ
allowed_by (Reply.decided r) = allows r
allowed_by (Reply.traced r) = allows (meters r)
allowed_by (Reply.decided-each r out) = 0
allowed_by (Reply.done r) = 0
allowed_by (Reply.tells r) = 0

-- the answers of many that the call wrote; the first of them is of an allowed check where it is no 'no' and not denied
abbrev pub output_of : Reply → List ℕ
output_of (Reply.decided r) = []
output_of (Reply.traced r) = []
output_of (Reply.decided-each r out) = out
output_of (Reply.done r) = []
output_of (Reply.tells r) = []

-- whether a call on many was done, by its answer
abbrev pub was_done : Answer Unit → Bool
was_done (refused n) = false
was_done (given x) = true

abbrev pub is_done : Reply → Bool
is_done (Reply.decided r) = false
is_done (Reply.traced r) = false
is_done (Reply.decided-each r out) = was_done r
is_done (Reply.done r) = was_done r
is_done (Reply.tells r) = false

abbrev pub allowed_first : List ℕ → ℕ
allowed_first out = cond (eqb (get_or out 0 0) 0 && eqb (get_or out 1 0) 0) 1 0

module _ (key : ℕ) where
  abbrev pub meter_in : LimiterState → Option Gcra
  meter_in s = of_key (λ (k : KeyRecord). k.gcra) (key_with key s.keys)

  abbrev pub if_key : ℕ → ℕ → ℕ
  if_key k n = cond (eqb k key) n 0

  abbrev pub seen : (at allowed : ℕ) → LimiterState → Seen
  seen at n s = record { at = at; allowed = n; meter = meter_in s }

  -- each of many checks is seen as a check alone
  unfoldable pub seen_each : ℕ → List (List ℕ) → List ℕ → LimiterState → List Seen
  seen_each n [] out s = []
  seen_each n (r ∷ rs) out s =
      let s' = checks.after_one (units_of s.settings) n s (get_or r 0 0) (get_or r 1 0) in
      seen (get_or r 1 0) (if_key (get_or r 0 0) (allowed_first out)) s' ∷ seen_each n rs (drop 3 out) s'

  -- a call that is answered so and leaves s' of s. One without a reading shows nothing: it leaves every key as it is. Nor does a refused call on many
  abbrev pub seen_of : Sort → Reply → LimiterState → LimiterState → List Seen
  seen_of (Sort.one_check k now) r s s' = seen now (if_key k (allowed_by r)) s' ∷ []
  seen_of (Sort.many_checks list n) r s s' = cond (is_done r) (seen_each n list (output_of r) s) []
  seen_of (Sort.timed now) r s s' = seen now 0 s' ∷ []
  seen_of Sort.timeless r s s' = []

  abbrev pub seen_in : Lent → What → Reply → State → List Seen
  seen_in n (What.changes x) r s = seen_of (sort x) r s.limiter (after n (What.changes x) s).limiter
  seen_in n (What.reads x) r s = []

  -- the whole list, from a state, with what the run showed
  unfoldable pub trace : State → List Move → List Shown → List Seen
  trace s [] xs = []
  trace s (m ∷ ms) [] = []
  trace s (Move.call c ∷ ms) (Shown.answered r i ∷ xs) = seen_in c.lent c.what r s ++ trace (after c.lent c.what s) ms xs
  trace s (Move.call c ∷ ms) (Shown.resumed i ∷ xs) = []
  trace s (Move.resume w ∷ ms) (x ∷ xs) = trace s ms xs
