-- Two sentences of 01, over lists of calls without a tick: what a key's checks are answered depends on its own record and the readings alone, and the
-- retry time. Definitions only.
use Rattle.std.specs.Prelude.{ℕ, ◌≡◌, Bool, true, false, cond, not, List, [], ◌∷◌, ◌++◌, eqb, get_or, drop}
use Rattle.gcra.specs.declared.Gcra.{Gcra}
use Rattle.gcra.specs.declared.Decision.{Decision}
use Rattle.gcra.specs.declared.Decision.TheVariants.{Allow, Deny}
use Rattle.questions.specs.Questions.{Answer, refused, given}
use Rattle.gcra.specs.Meter as meter
use Rattle.gcra.specs.Meter.{is_allow}
use Rattle.questions.specs.Lists.{all}
use Rattle.limiter.specs.declared.Config.{Config}
use Rattle.limiter.specs.State.{KeyRecord, key_with}
use Rattle.image.specs.Image.{State}
use Rattle.run.specs.Run.{Change, What, Reply, Memory, Resume, Move, Shown, Runs, GoesOn, Resumes, Started}
use Rattle.run.specs.Typed.{typed_config, typed_move}
use Rattle.run.specs.Trace.{Sort, sort, meters, is_done, output_of, new_states, state_after}
use Rattle.std.specs.declared.option.Option.TheVariants.{Some}

-- a check that is not refused: its reading, and what the program answered
pub record Decided : Type 0 where
  pub at : ℕ
  pub decision : Decision

abbrev pub decided_at : ℕ → Answer Decision → List Decided
decided_at at (refused n) = []
decided_at at (given d) = record { at = at; decision = d } ∷ []

abbrev pub decision_in : Reply → Answer Decision
decision_in (Reply.decided r) = r
decision_in (Reply.traced r) = meters r
decision_in (Reply.decided-each r out) = refused 0
decision_in (Reply.done r) = refused 0
decision_in (Reply.tells r) = refused 0

-- the first answer of many, in its three words
abbrev pub decision_first : List ℕ → Answer Decision
decision_first out = cond (eqb (get_or out 0 0) 0) (given (cond (eqb (get_or out 1 0) 0) Allow (Deny (get_or out 2 0)))) (refused (get_or out 0 0))

-- what a run shows of the checks of a key
module _ (key : ℕ) where
  abbrev pub if_own : ℕ → List Decided → List Decided
  if_own k ds = cond (eqb k key) ds []

  unfoldable pub decided_each : List (List ℕ) → List ℕ → List Decided
  decided_each [] out = []
  decided_each (r ∷ rs) out = if_own (get_or r 0 0) (decided_at (get_or r 1 0) (decision_first out)) ++ decided_each rs (drop 3 out)

  abbrev pub decided_of : Sort → Reply → List Decided
  decided_of (Sort.one_check k now) r = if_own k (decided_at now (decision_in r))
  decided_of (Sort.many_checks list n) r = cond (is_done r) (decided_each list (output_of r)) []
  decided_of (Sort.timed now) r = []
  decided_of Sort.timeless r = []

  abbrev pub decided_in : What → Reply → List Decided
  decided_in (What.changes x) r = decided_of (sort x) r
  decided_in (What.reads x) r = []

  unfoldable pub decided : List Move → List Shown → List Decided
  decided [] xs = []
  decided (m ∷ ms) [] = []
  decided (Move.call c ∷ ms) (Shown.answered r i ∷ xs) = decided_in c.what r ++ decided ms xs
  decided (Move.call c ∷ ms) (Shown.resumed i ∷ xs) = []
  decided (Move.resume w ∷ ms) (x ∷ xs) = decided ms xs

-- ---- 'Between ticks a tracked key's decision depends on its own record and the reading alone'

abbrev pub is_tick : Change → Bool
is_tick (Change.check key now n) = false
is_tick (Change.check-in key x now n) = false
is_tick (Change.check-traced key x y now n) = false
is_tick (Change.check-each list count n out) = false
is_tick (Change.tally key y x now n) = false
is_tick (Change.set-cap x) = false
is_tick (Change.tick now n) = true
is_tick (Change.tick-with-shares now n) = true
is_tick (Change.report sender x now) = false
is_tick (Change.forget peer) = false
is_tick (Change.leave peer now hold) = false
is_tick (Change.expire now max_age) = false

abbrev pub tickless_what : What → Bool
tickless_what (What.changes x) = not (is_tick x)
tickless_what (What.reads x) = true

abbrev pub tickless : Move → Bool
tickless (Move.call c) = tickless_what c.what
tickless (Move.resume w) = true

-- what a meter alone decides at those readings, one after the other
unfoldable pub by_meter : Gcra → List Decided → List Decided
by_meter g [] = []
by_meter g (d ∷ ds) = record { at = d.at; decision = meter.decision g d.at } ∷ by_meter (meter.check g d.at) ds

-- of a list of calls from a state in which the key is tracked: its checks are answered as its record's meter decides, whatever the other calls, keys,
-- limits, cluster sizes and settings are
abbrev pub OwnRecord : State → List Move → List Shown → Type 0
OwnRecord s ms xs =
    (key : ℕ) (k : KeyRecord) → key_with key s.limiter.keys ≡ Some k → decided key ms xs ≡ by_meter k.gcra (decided key ms xs)

-- ---- 'A denied key checked at its retry time, with no tick and no other allowed check of it between, is allowed unless the call is refused'

abbrev pub is_denied : Decided → Bool
is_denied d = not (is_allow d.decision)

abbrev pub RetryTime : List Move → List Shown → Type 0
RetryTime ms xs =
    (key : ℕ) (before : List Decided) (denied : Decided) (between : List Decided) (again : Decided) (after : List Decided)
    → decided key ms xs ≡ before ++ (denied ∷ (between ++ (again ∷ after)))
    → denied.decision ≡ Deny again.at → all is_denied between ≡ true → again.decision ≡ Allow

-- ---- the two, of any part of a run that has no tick

abbrev pub Between : (Memory → Resume → Memory → Type 0) → Config → Memory → Type 0
Between At c h =
    (before ms : List Move) → all typed_move before ≡ true → all typed_move ms ≡ true → all tickless ms ≡ true
    → (xs ys : List Shown) (a b : Memory) → Runs At h before xs a → Runs At a ms ys b
    → OwnRecord (state_after (new_states c) before) ms ys × RetryTime ms ys

pub record BetweenTicks (c : Config) (h : Memory) : Type 0 where
  pub unbroken : Between GoesOn c h
  pub resumed : Between Resumes c h

-- of a new limiter and its peers
abbrev pub Sentences : Type 0
Sentences = (c : Config) (h : Memory) → typed_config c ≡ true → Started c h → BetweenTicks c h
