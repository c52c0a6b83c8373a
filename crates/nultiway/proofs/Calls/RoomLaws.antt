-- Laws: a call by the length of the one lent buffer, by a test of the lengths, by two of them, and by those of the peers.
use Prim.Native.Nat.{ℕ, ◌≤◌, ◌<◌}
use mathlib.Core.Path.{◌≡◌, refl}
use mathlib.Core.Bool.{Bool, true, false, ◌&&◌}
use mathlib.Core.List.{[]}
use borrow.Author.Tests.{leb-true, le-leb, lt-leb}
use lib.Dec.{leb}
use lib.ListN.{length}
use Rattle.peers.specs.Peers.State.{PeerTables, PeerLengths, lengths, have_room}
use Rattle.questions.proofs.Answers.{first-no}
use Rattle.questions.proofs.Tests.{both, told-no, told-yes}
use Rattle.nultiway.specs.Values.{peers_room, room_asked}
use Rattle.nultiway.specs.Calls.{Called}
use Rattle.nultiway.proofs.Calls.CallLaws.{refused-call, passed-call, room-passed, one}

pub called-short : {size n : ℕ} {Unmoved Answered : Type 0} → n < size → Unmoved → Called (room_asked (leb size n)) 1 Unmoved Answered
called-short {size} {n} h u = refused-call (room_asked (leb size n)) 1 (first-no 1 [] (lt-leb size n h)) one u

pub called-room : {size n r : ℕ} {Unmoved Answered : Type 0} → size ≤ n → Answered → Called (room_asked (leb size n)) r Unmoved Answered
called-room {size} {n} {r} h a = passed-call (room_asked (leb size n)) r (room-passed (leb size n) (le-leb size n h)) a

-- ---- by a test that the code worked out

module _ {told room : Bool} {Unmoved Answered : Type 0} (e : told ≡ room) where
  pub called-no : told ≡ false → Unmoved → Called (room_asked room) 1 Unmoved Answered
  called-no h u = refused-call (room_asked room) 1 (first-no 1 [] (told-no e h)) one u

  pub called-yes : {r : ℕ} → told ≡ true → Answered → Called (room_asked room) r Unmoved Answered
  called-yes {r} h a = passed-call (room_asked room) r (room-passed room (told-yes e h)) a

-- ---- two lengths

pub long-yes : (least first : ℕ) (r : Bool) → least ≤ first → r ≡ (leb least first && r)
long-yes least first r h = rw (le-leb least first h)

pub long-no : (least first : ℕ) (r : Bool) → first < least → false ≡ (leb least first && r)
long-no least first r h = rw (lt-leb least first h)

pub both_long : (a b m n : ℕ) → (leb a b && leb m n) ≡ true → (a ≤ b) × (m ≤ n)
both_long a b m n e = let p = both (leb a b) (leb m n) e in (leb-true a b p.0, leb-true m n p.1)

-- ---- the peers

-- their tables by their lengths
pub peers-lengths :
    (words : ℕ) (t : PeerTables)
    → peers_room words (record { peers = length t.peers; snapshot_keys = length t.snapshot_keys; contested = length t.contested })
    ≡ peers_room words (lengths t)
unfolding lengths
peers-lengths words t = refl

-- their words are there
pub peers-three : (words : ℕ) (n : PeerLengths) → peers_room words n ≡ true → 3 ≤ words
peers-three words n e = leb-true 3 words (both (leb 3 words) (have_room n) e).0
