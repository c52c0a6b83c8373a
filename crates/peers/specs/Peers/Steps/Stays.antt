-- What the steps of a change do to a table: what private functions promise. Definitions only.
use Rattle.std.specs.Prelude.{◌≡◌, ℕ, Bool, true, not, ◌&&◌, ◌||◌, List, nat_eq}
use Rattle.records.specs.Records.{find_in}
use Rattle.peers.specs.declared.peer_demand.PeerDemand.{PeerDemand}
use Rattle.peers.specs.declared.peer_demand.PeersChanged.{PeersChanged}
use Rattle.questions.specs.Lists.{any, present}
use Rattle.peers.specs.Peers.Records.{Snapshot, PeerRecord, ContestedKey}
use Rattle.peers.specs.Peers.State.{PeerTables, is_held, is_known, lengths, have_room, is_valid}
use Rattle.peers.specs.Peers.Changes.{hold_ended, not_ended, is_fresh, is_fresh_snapshot, is_exempt}
use Rattle.records.specs.declared.Found.{Found}
use Rattle.records.specs.declared.Found.TheVariants.{At, Gap, Unfit}
use Rattle.std.specs.declared.option.Option.TheVariants.{None, Some}
use Rattle.std.specs.declared.option.Option.{Option}
use Rattle.std.specs.declared.result.Result.TheVariants.{Ok, Err}
use Rattle.questions.specs.declared.Refusal.{Refusal}

-- where a search found
abbrev pub place_in : Found → Option ℕ
place_in (At i) = Some i
place_in (Gap i) = None
place_in Unfit = None

-- the place of the peer `id` among the n peers, if it is there
unfoldable pub place_of : (n id : ℕ) → List ℕ → Option ℕ
place_of n id xs = place_in (find_in 12 1 n id 0 xs)

-- a contested key stays: its peer's hold has not ended, and the peer is held or the key was heard lately
unfoldable pub stays_contested : (at max_age : ℕ) → List PeerRecord → ℕ → ℕ → Bool
stays_contested at max_age ps id heard_at =
    is_known (not_ended at ps) id && (is_exempt is_held (not_ended at ps) id || is_fresh at max_age heard_at)

-- a peer that is not held has no snapshot, or one that is too old
unfoldable pub is_stale : (at max_age : ℕ) → Option ℕ → Option Snapshot → Bool
is_stale at max_age held taken = not (present held || is_fresh_snapshot at max_age taken)

-- a peer stays: its hold has not ended, and it is held, has a snapshot, or has one of the contested keys cs
unfoldable pub stays_peer : ℕ → List ContestedKey → ℕ → Option ℕ → Bool → Bool
stays_peer at cs id held taken =
    not (hold_ended at held) && (present held || (taken || any (λ (c : ContestedKey). nat_eq c.peer id) cs))

-- what questions 1 and 2 ask
pub record Valid (p : PeerDemand) (t : PeerTables) : Type 0 where
  pub room : have_room (lengths t) ≡ true
  pub state : is_valid p t ≡ true

-- a 'no' with the peers as they were, and the peers after a change
abbrev pub refused_with : Refusal → PeerDemand → PeersChanged
refused_with e p = record { answer = Err e; peers = p }

abbrev pub done_with : PeerDemand → PeersChanged
done_with p = record { answer = (Ok tt); peers = p }
