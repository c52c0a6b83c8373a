-- The promises of `save` and `load`. Definitions only.
use Rattle.std.specs.Prelude.{ℕ, ◌≡◌, Bool, true, cond, ◌&&◌, List, [], ◌∷◌, ◌++◌, leb, length, drop}
use Rattle.questions.specs.Questions.{Question, ◌asks◌, answer, changed}
use Rattle.peers.specs.declared.peer_demand.PeerDemand.{PeerDemand}
use Rattle.peers.specs.Peers.State as peer-state
use Rattle.peers.specs.Peers.State.{PeerTables}
use Rattle.limiter.specs.declared.Limiter.{Limiter}
use Rattle.limiter.specs.State as limiter-state
use Rattle.limiter.specs.State.{LimiterTables, units_of, settings_of, lengths, sizes_for, within}
use Rattle.limiter.specs.Calls.{both_questions}
use Rattle.image.specs.declared.Loaded.{Loaded}
use Rattle.image.specs.Image.{State, image}
use Rattle.image.specs.Reader.{word_at, begins, is_image, state_read}
use Rattle.std.specs.declared.result.Result.{Result}
use Rattle.questions.specs.declared.Refusal.{Refusal}
use Rattle.questions.specs.Refusals.{answer_of}

-- the state that is lent
abbrev pub here : Limiter → LimiterTables → PeerDemand → PeerTables → State
here l t p pt = record { limiter = limiter-state.state_of (units_of (settings_of l)) l t; peers = peer-state.state_of p pt }

-- ---- `save`: how many bytes, and the output, which is as it was past them

-- does the output fit?
abbrev pub save_questions : Limiter → LimiterTables → PeerDemand → PeerTables → List ℕ → List Question
save_questions l t p pt out = both_questions l t p pt ++ ((16 asks leb (length (image (here l t p pt))) (length out)) ∷ [])

pub record Saves (l : Limiter) (t : LimiterTables) (p : PeerDemand) (pt : PeerTables) (out : List ℕ) (r : Result ℕ Refusal) (out' : List ℕ) : Type 0 where
  pub answered : answer_of r ≡ answer (save_questions l t p pt out) (length (image (here l t p pt)))
  pub output :
      out' ≡ changed (save_questions l t p pt out) out (image (here l t p pt) ++ drop (length (image (here l t p pt))) out)

-- ---- `load`

-- question 1: 'A load reads the sizes from its image's kind 1 and passes where it can't'
unfoldable pub have_room : List ℕ → LimiterTables → PeerTables → Bool
have_room bs t pt = cond (begins 1 bs) (within (sizes_for (word_at bs 8) (word_at bs 5)) (lengths t) && peer-state.have_room (peer-state.lengths pt)) true

-- 'An image's faults are all 13'
abbrev pub load_questions : List ℕ → LimiterTables → PeerTables → List Question
load_questions bs t pt = (1 asks have_room bs t pt) ∷ (13 asks is_image bs) ∷ []

-- what a load makes of a state: the peers' value is a new one with the counts of the state
abbrev pub values_of : State → Loaded
values_of s = record { limiter = limiter-state.value_of s.limiter; peers = peer-state.with_counts peer-state.new_peers s.peers }

-- the answer; and the tables with the records of the state that is read, each as it was past them
pub record Loads (bs : List ℕ) (t : LimiterTables) (pt : PeerTables) (r : Result Loaded Refusal) (t' : LimiterTables) (pt' : PeerTables) : Type 0 where
  pub answered : answer_of r ≡ answer (load_questions bs t pt) (values_of (state_read bs))
  pub words : t' ≡ changed (load_questions bs t pt) t (limiter-state.written (units_of (state_read bs).limiter.settings) (state_read bs).limiter t)
  pub peer_words : pt' ≡ changed (load_questions bs t pt) pt (peer-state.written (state_read bs).peers pt)
