-- Demand 3, as one statement. Definitions only.
--
-- 'For every list of calls on a new limiter and its peers (checks, ticks, reports and the others 01 names, refused ones included), whatever the
-- settings and clock readings: a resumed run, saved and loaded at any place in the list, ends included, has from there on the answers, outputs and
-- images of the unbroken run, byte for byte. In both, for every key and every stretch, the checks allowed number at most the burst in force at the
-- last of them, plus each spell's length divided by its interval, rounded down, plus two for each change of quota.'
--
-- Its words: 'list of calls' is `List Move` (`Change`, `Query`), 'new' `Started`, 'unbroken' and 'resumed' `Unbroken` and `Resumed`, 'answers,
-- outputs and images' `Shown`, all in Run. 'Stretch', 'spell', 'interval', 'burst in force' and 'change of quota' are in Seen, and what a run shows
-- of a key, `trace`, in Trace.
use Rattle.std.specs.Prelude.{ℕ, ◌≤◌, ◌≡◌, true, ◌&&◌, List, length, take}
use Rattle.questions.specs.Lists.{all}
use Rattle.peers.specs.Peers.State as peer-state
use Rattle.peers.specs.Peers.State.{PeerTables}
use Rattle.limiter.specs.declared.Config.{Config}
use Rattle.limiter.specs.State.{LimiterTables, lengths, have_room}
use Rattle.image.specs.declared.Loaded.{Loaded}
use Rattle.image.specs.Calls.{Loads}
use Rattle.run.specs.Seen.{KeepsToTheBound, Premises, NeverLowered}
use Rattle.run.specs.Run.{Memory, Call, Reply, Step, Resume, Move, Shown, lend, lent_by, image_of, SavesAt, Resumes, Unbroken, Resumed, Started}
use Rattle.run.specs.Typed.{typed_config, typed_what, typed_move}
use Rattle.run.specs.Trace.{new_states, trace}
use Rattle.std.specs.declared.option.Option.TheVariants.{None}
use Rattle.std.specs.declared.result.Result.{Result}
use Rattle.std.specs.declared.result.Result.TheVariants.{Ok}
use Rattle.questions.specs.declared.Refusal.{Refusal}

-- ---- 'The resumed run's save and load get no "no" where there is room (1, 16)'

-- as many words as are lent; 1 of the save; 16; 1 of the load
pub record Room (h : Memory) (w : Resume) : Type 0 where
  pub enough : lent_by (lend w.lent h) ≡ w.lent
  pub lent : (have_room h.limiter.config w.lent.limiter && peer-state.have_room w.lent.peers) ≡ true
  pub output : length (image_of h) ≤ length w.out
  pub tables : (have_room h.limiter.config (lengths w.tables) && peer-state.have_room (peer-state.lengths w.peer_tables)) ≡ true

-- each answer that keeps the promise is no 'no'
pub record Served (h : Memory) (w : Resume) : Type 0 where
  pub saved : (r : Result ℕ Refusal) (out : List ℕ) → SavesAt h w r out → (size : ℕ) × (r ≡ Ok size)
  pub loaded :
      (size : ℕ) (out : List ℕ) → SavesAt h w (Ok size) out
      → (r : Result Loaded Refusal) (t : LimiterTables) (pt : PeerTables) → Loads (take size out) w.tables w.peer_tables r t pt
      → (x : Loaded) × (r ≡ Ok x)
  -- and a save and a load that keep their promises exist
  pub resumed : (h' : Memory) × Resumes h w h'

-- ---- 'Each call gets the limiter's state, the peers' state and the tables, whichever it takes, as the calls before it left them'

-- whatever the program holds, a call that is lent no more words than it holds has an answer, so that no run ends early
abbrev pub CanCall : Memory → Type 0
CanCall h = (c : Call) → typed_what c.what ≡ true → lent_by (lend c.lent h) ≡ c.lent → (r : Reply) × (h' : Memory) × Step h c r h'

-- ---- the statement

-- 'for every key and every stretch, the checks allowed number at most ..', of a run of the calls ms that showed xs
pub record Counted (c : Config) (ms : List Move) (xs : List Shown) : Type 0 where
  -- under the count's premises (01, 'The meter (001)')
  pub bound : (key : ℕ) → Premises (trace key (new_states c) ms xs) → KeepsToTheBound (trace key (new_states c) ms xs)
  -- 'a tick that by rounding lowers a TAT ahead of its reading, the quota the same, counts as one too': there is none
  pub never_lowered : (key : ℕ) → NeverLowered None (trace key (new_states c) ms xs)

-- of what the program holds at the start, h, and a list of calls with places of resumption, ms
pub record Claim (c : Config) (h : Memory) (ms : List Move) : Type 0 where
  -- 'a resumed run .. has from there on the answers, outputs and images of the unbroken run, byte for byte'
  pub resumes : {xs ys : List Shown} {a b : Memory} → Unbroken h ms xs a → Resumed h ms ys b → ys ≡ xs
  -- 'The resumed run's save and load get no "no" where there is room', wherever in the list
  pub served : {ys : List Shown} {b : Memory} → Resumed h ms ys b → (w : Resume) → Room b w → Served b w
  -- each run can go on with any call
  pub goes_on : {xs : List Shown} {a : Memory} → Unbroken h ms xs a → CanCall a
  pub goes_on_resumed : {ys : List Shown} {b : Memory} → Resumed h ms ys b → CanCall b
  -- 'In both, for every key and every stretch ..'
  pub counted : {xs : List Shown} {a : Memory} → Unbroken h ms xs a → Counted c ms xs
  pub counted_resumed : {ys : List Shown} {b : Memory} → Resumed h ms ys b → Counted c ms ys

-- 'For every list of calls on a new limiter and its peers .., whatever the settings and clock readings', with arguments of their types
abbrev pub Demand3 : Type 0
Demand3 = (c : Config) (h : Memory) → typed_config c ≡ true → Started c h → (ms : List Move) → all typed_move ms ≡ true → Claim c h ms
