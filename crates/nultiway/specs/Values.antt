-- Values in lent words: how each is written, how it is read back, and which words are a value. Definitions only.
use Rattle.std.specs.Prelude.{ℕ, Bool, ◌&&◌, List, [], ◌∷◌, ◌++◌, leb, length, take, get_or}
use Rattle.records.specs.Records.{same}
use Rattle.questions.specs.Questions.{Question, ◌asks◌}
use Rattle.peers.specs.declared.peer_demand.PeerDemand.{PeerDemand}
use Rattle.records.specs.Fields.{time_of}
use Rattle.limiter.specs.declared.Limiter.{Limiter}
use Rattle.peers.specs.Peers.State as peer-state
use Rattle.peers.specs.Peers.State.{PeerLengths}
use Rattle.limiter.specs.State.{Lengths, have_room, settings_words, settings_of}
use Rattle.image.specs.Reader as reader
use Rattle.image.specs.LoadSteps.{config_from}

-- ---- the limiter

-- the words of a limiter
abbrev pub limiter_width : ℕ
limiter_width = 16

-- the thirteen words of the image's kind 1, then how many key, hot and shadow records are in use
unfoldable pub limiter_words : Limiter → List ℕ
limiter_words l = settings_words (settings_of l) ++ (l.keys ∷ l.hot ∷ l.shadows ∷ [])

-- the limiter that words stand for; a burst of 2^32 or more is read as 0
unfoldable pub limiter_of : List ℕ → Limiter
limiter_of ws =
    record {
      config = config_from (take 13 ws);
      cap = (reader.cap_from (get_or (take 13 ws) 9 0) (get_or (take 13 ws) 10 0));
      last_tick = (time_of (get_or (take 13 ws) 11 0) (get_or (take 13 ws) 12 0));
      keys = get_or ws 13 0;
      hot = get_or ws 14 0;
      shadows = get_or ws 15 0;
    }

-- the words are those of the limiter that they stand for: reading and writing back would not change them
unfoldable pub is_limiter : List ℕ → Bool
is_limiter ws = same (limiter_words (limiter_of ws)) (take limiter_width ws)

-- question 1 of the limiter's words, of its tables by the sizes in those words, whatever else they hold, and of whether the call's other buffers have
-- room; question 2 of the words
abbrev pub limiter_asked : List ℕ → Lengths → Bool → List Question
limiter_asked ws n room = (1 asks (leb limiter_width (length ws) && (have_room (limiter_of ws).config n && room))) ∷ (2 asks is_limiter ws) ∷ []

-- ---- the peers: how many peers, snapshot keys and contested keys are in use; any three words are a value

-- the words of the peers
abbrev pub peers_width : ℕ
peers_width = 3

unfoldable pub peers_words : PeerDemand → List ℕ
peers_words p = p.peers ∷ p.snapshot_keys ∷ p.contested ∷ []

unfoldable pub peers_of : List ℕ → PeerDemand
peers_of ws = record { peers = get_or ws 0 0; snapshot_keys = get_or ws 1 0; contested = get_or ws 2 0 }

-- the peers have their words, and their tables, whose sizes are fixed, theirs
abbrev pub peers_room : (words : ℕ) → PeerLengths → Bool
peers_room words n = leb peers_width words && peer-state.have_room n

-- question 1 alone, where any words are a value
abbrev pub room_asked : Bool → List Question
room_asked room = (1 asks room) ∷ []
