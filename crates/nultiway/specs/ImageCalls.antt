-- The promise of each function of the library on the saved image. Definitions only.
use Rattle.std.specs.Prelude.{ℕ, ◌≡◌, ◌&&◌, List, leb, length}
use Rattle.peers.specs.Peers.State as peer-state
use Rattle.peers.specs.Peers.State.{PeerTables}
use Rattle.questions.specs.Questions.{Answer}
use Rattle.limiter.specs.State.{LimiterTables, lengths}
use Rattle.image.specs.declared.Loaded.{Loaded}
use Rattle.image.specs.Calls as image
use Rattle.nultiway.specs.Values.{limiter_width, limiter_words, limiter_of, limiter_asked, peers_width, peers_words, peers_of, peers_room, room_asked}
use Rattle.nultiway.specs.Calls.{Called, Tells, number_of, answer_put, one_word}
use Rattle.std.specs.declared.result.Result.{Result}
use Rattle.questions.specs.declared.Refusal.{Refusal}
use Rattle.questions.specs.Refusals.{answer_of}

-- `nultiway_save`: how many bytes
abbrev pub Save : (ws : List ℕ) → LimiterTables → (ps : List ℕ) → PeerTables → (out answer : List ℕ) (r : ℕ) (out' answer' : List ℕ) → Type 0
Save ws t ps pt out answer r out' answer' =
    Called (limiter_asked ws (lengths t) (leb 1 (length answer) && peers_room (length ps) (peer-state.lengths pt))) r
    ((out' ≡ out) × (answer' ≡ answer))
    (Tells (λ (h : Loaded) (x : Result ℕ Refusal). image.Saves h.limiter t h.peers pt out x out')
    (record { limiter = limiter_of ws; peers = peers_of ps }) answer_of one_word answer r answer')

-- the words of the limiter and of the peers that a load makes
abbrev pub loaded_limiter : Loaded → List ℕ
loaded_limiter x = limiter_words x.limiter

abbrev pub loaded_peers : Loaded → List ℕ
loaded_peers x = peers_words x.peers

-- the number, and the words of both values: as they were where the answer is 'no'
pub record PutLoaded (a : Answer Loaded) (ws ps : List ℕ) (r : ℕ) (ws' ps' : List ℕ) : Type 0 where
  pub number : r ≡ number_of a
  pub limiter : ws' ≡ answer_put loaded_limiter a ws
  pub peers : ps' ≡ answer_put loaded_peers a ps

-- the result of the crate's `load` keeps its promise, and gives these
pub record Loading (bs ws : List ℕ) (t : LimiterTables) (ps : List ℕ) (pt : PeerTables) (r : ℕ) (ws' : List ℕ)
    (t' : LimiterTables) (ps' : List ℕ) (pt' : PeerTables) : Type 0 where
  pub result : Result Loaded Refusal
  pub kept : image.Loads bs t pt result t' pt'
  pub put : PutLoaded (answer_of result) ws ps r ws' ps'

-- `nultiway_load`; 'new and load skip' question 2
abbrev pub Load :
    (bs ws : List ℕ)
    → LimiterTables
    → (ps : List ℕ)
    → PeerTables
    → (r : ℕ) (ws' : List ℕ)
    → LimiterTables
    → (ps' : List ℕ)
    → PeerTables
    → Type 0
Load bs ws t ps pt r ws' t' ps' pt' =
    Called (room_asked (leb limiter_width (length ws) && leb peers_width (length ps))) r ((ws' ≡ ws) × (t' ≡ t) × (ps' ≡ ps) × (pt' ≡ pt))
    (Loading bs ws t ps pt r ws' t' ps' pt')
