-- Demand 3 of the library, as one statement: `run`'s, of the functions under C names and of words. Definitions only.
--
-- For every list of library calls on the words that nultiway_limiter_new and nultiway_peers_new wrote, refused ones included: a run that is saved by
-- nultiway_save and loaded by nultiway_load at any places has the numbers, the words of `answer`, the outputs and the images of the unbroken run, byte
-- for byte, where both lend each call the same lengths, lists, answers and outputs. Its saves and loads answer 0 where there is room, no run ends
-- early, and there are words to start with. In both runs, for every key and every stretch, the checks allowed keep to the bound, under its premises:
-- those whose number and first word of `answer` are 0, and of a nultiway_check_each whose number is 0 those whose first two words of three are 0.
use Rattle.std.specs.Prelude.{ℕ, ◌≤◌, ◌≡◌, Bool, true, List, length}
use Rattle.questions.specs.Lists.{all}
use Rattle.questions.specs.Questions.{passes}
use Rattle.peers.specs.Peers.Calls as peers
use Rattle.limiter.specs.declared.Config.{Config}
use Rattle.limiter.specs.Calls as limiter
use Rattle.run.specs.Run as run
use Rattle.run.specs.Typed.{typed_config, typed_what}
use Rattle.run.specs.Demand3 as values
use Rattle.nultiway.specs.Values.{limiter_width, peers_width}
use Rattle.nultiway.specs.LimiterCalls as limiter-calls
use Rattle.nultiway.specs.PeerCalls as peer-calls
use Rattle.library_run.specs.Calls.{Buffers, values_of, with_limiter, with_peers, Call, Said}
use Rattle.library_run.specs.Runs.{Step, Resume, Move, Shown, lend, lent_by, SavesAt, LoadsAt, Resumes, Unbroken, Resumed, Started}
use Rattle.library_run.specs.Trace.{what_of, moves_in, shown_in}

-- arguments of their types
abbrev pub typed_call : Call → Bool
typed_call c = typed_what (what_of c.report c.what)

abbrev pub typed_move : Move → Bool
typed_move (Move.call c) = typed_call c
typed_move (Move.resume w) = true

-- ---- there are words to start with

-- the settings and the lent buffers pass the questions of the two `new`
pub record Fit (c : Config) (into : Buffers) : Type 0 where
  pub limiter_into : limiter_width ≤ length into.limiter
  pub peers_into : peers_width ≤ length into.peers
  pub limiter : passes (limiter.new_questions c into.tables) ≡ true
  pub peers : passes (peers.new_questions into.peer_tables) ≡ true

-- then both answer 0, and there are words that they write
pub record Starts (c : Config) (into : Buffers) : Type 0 where
  pub limiter : (r : ℕ) (ws : List ℕ) → limiter-calls.New into.limiter into.tables c r ws → r ≡ 0
  pub peers : (r : ℕ) (ps : List ℕ) → peer-calls.New into.peers into.peer_tables r ps → r ≡ 0
  pub started : (ws : List ℕ) × (ps : List ℕ) × Started c into (with_peers (with_limiter into ws into.tables) ps into.peer_tables)

-- ---- saves and loads answer 0 where there is room

-- what `run` asks of a save and a load, of the values
abbrev pub resume_of : Resume → run.Resume
resume_of w = record { lent = w.lent.tables; out = w.out; tables = w.into.tables; peer_tables = w.into.peer_tables }

-- as many words as are lent, those of both values and one for the save's answer; those that the load writes; `run`'s room for tables and output
pub record Room (b : Buffers) (w : Resume) : Type 0 where
  pub enough : lent_by (lend w.lent b) ≡ w.lent
  pub limiter : limiter_width ≤ w.lent.limiter
  pub peers : peers_width ≤ w.lent.peers
  pub answer : 1 ≤ length w.answer
  pub limiter_into : limiter_width ≤ length w.into.limiter
  pub peers_into : peers_width ≤ length w.into.peers
  pub values : values.Room (values_of b) (resume_of w)

pub record Served (b : Buffers) (w : Resume) : Type 0 where
  pub saved : (r : ℕ) (out' answer' : List ℕ) → SavesAt b w r out' answer' → r ≡ 0
  pub loaded : (out' answer' : List ℕ) → SavesAt b w 0 out' answer' → (r : ℕ) (b' : Buffers) → LoadsAt w out' answer' r b' → r ≡ 0
  -- and a save and a load that keep their promises exist
  pub resumed : (b' : Buffers) × Resumes b w b'

-- ---- no run ends early: a call with arguments of their types that is lent no more words than there are has an outcome

abbrev pub CanCall : Buffers → Type 0
CanCall b = (c : Call) → typed_call c ≡ true → lent_by (lend c.lent b) ≡ c.lent → (s : Said) × (b' : Buffers) × Step b c s b'

-- ---- the statement

-- the checks allowed, as the caller reads them, keep to the bound
abbrev pub Counted : Config → List Move → List Shown → Type 0
Counted c ms xs = values.Counted c (moves_in ms) (shown_in ms xs)

-- of what is kept at the start, b, and a list of calls with places of resumption, ms
pub record Claim (c : Config) (b : Buffers) (ms : List Move) : Type 0 where
  -- a run that is saved and loaded shows what the unbroken one does
  pub resumes : {xs ys : List Shown} {u v : Buffers} → Unbroken b ms xs u → Resumed b ms ys v → ys ≡ xs
  -- and can be, wherever in the list
  pub served : {ys : List Shown} {v : Buffers} → Resumed b ms ys v → (w : Resume) → Room v w → Served v w
  -- each run can go on with any call
  pub goes_on : {xs : List Shown} {u : Buffers} → Unbroken b ms xs u → CanCall u
  pub goes_on_resumed : {ys : List Shown} {v : Buffers} → Resumed b ms ys v → CanCall v
  -- in both, for every key and every stretch
  pub counted : {xs : List Shown} {u : Buffers} → Unbroken b ms xs u → Counted c ms xs
  pub counted_resumed : {ys : List Shown} {v : Buffers} → Resumed b ms ys v → Counted c ms ys

pub record LibraryDemand3 : Type 0 where
  pub starts : (c : Config) (into : Buffers) → Fit c into → Starts c into
  pub claims :
      (c : Config) (into b : Buffers) → typed_config c ≡ true → Started c into b → (ms : List Move) → all typed_move ms ≡ true → Claim c b ms
