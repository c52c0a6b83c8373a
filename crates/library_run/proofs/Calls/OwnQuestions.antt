-- The questions that the library asks of what it is lent before it calls the crate's function, and what they say where they are passed.
use Prim.Native.Nat.{ℕ, ◌≤◌}
use mathlib.Core.Path.{◌≡◌, refl, subst}
use mathlib.Core.Bool.{Bool, true, ◌&&◌}
use mathlib.Core.List.{List, []}
use borrow.Author.Tests.{leb-true}
use lib.Dec.{leb}
use lib.ListN.{length}
use Rattle.records.specs.Records.{fits}
use Rattle.questions.specs.Questions.{Question, passes, first_no}
use Rattle.questions.proofs.Tests.{split, both}
use Rattle.limiter.specs.declared.Config.{Config}
use Rattle.limiter.specs.State.{Lengths, have_room}
use Rattle.run.specs.Run.{Change, Query, What}
use Rattle.nultiway.specs.Values.{limiter_of, is_limiter, limiter_asked, peers_room, room_asked}
use Rattle.nultiway.specs.PeerCalls.{report_asked}
use Rattle.nultiway.proofs.Calls.CallLaws.{was-open, room-told}
use Rattle.nultiway.proofs.Calls.RoomLaws.{peers-three}
use Rattle.nultiway.proofs.Words.ReportLaws.{report-all}
use Rattle.library_run.specs.Calls.{Buffers, Lent, Output}
use Rattle.library_run.specs.Runs.{lent_by}

-- ---- what a call needs

-- A limiter, a limiter with its peers, or the peers, with whether its other buffers have room; the peers and a report of so many keys.
pub data Needs : Type 0 where
  limiter with_peers peers_and : (others : Bool) → Needs
  peers : Needs
  reports : (count : ℕ) → Needs

-- and the output that it is lent
pub record Takes : Type 0 where
  pub needs : Needs
  pub output : Output

abbrev takes : Needs → Output → Takes
takes k out = record { needs = k; output = out }

-- `a` is the buffer for the answer
module _ (a : List ℕ) where
  abbrev answers : ℕ → Bool
  answers size = leb size (length a)

  abbrev pub change_takes : Change → Takes
  change_takes (Change.check key now n) = takes (Needs.limiter (answers 2)) Output.nothing
  change_takes (Change.check-in key x now n) = takes (Needs.limiter (answers 2)) Output.nothing
  change_takes (Change.check-traced key x y now n) = takes (Needs.limiter (answers 5)) Output.nothing
  change_takes (Change.check-each list count n out) = takes (Needs.limiter (fits (length list) 2 count)) (Output.words out)
  change_takes (Change.tally key y x now n) = takes (Needs.limiter true) Output.nothing
  change_takes (Change.set-cap x) = takes (Needs.limiter true) Output.nothing
  change_takes (Change.tick now n) = takes (Needs.limiter true) Output.nothing
  change_takes (Change.tick-with-shares now n) = takes (Needs.with_peers true) Output.nothing
  change_takes (Change.report sender x now) = takes (Needs.reports x.count) Output.nothing
  change_takes (Change.forget peer) = takes Needs.peers Output.nothing
  change_takes (Change.leave peer now hold) = takes Needs.peers Output.nothing
  change_takes (Change.expire now max_age) = takes Needs.peers Output.nothing

  abbrev pub query_takes : Query → Takes
  query_takes (Query.key_rates key) = takes (Needs.limiter (answers 4)) Output.nothing
  query_takes (Query.quota key) = takes (Needs.limiter (answers 3)) Output.nothing
  query_takes (Query.limit key) = takes (Needs.limiter (answers 3)) Output.nothing
  query_takes (Query.hot_since key) = takes (Needs.limiter (answers 2)) Output.nothing
  query_takes (Query.is-hot key) = takes (Needs.limiter (answers 1)) Output.nothing
  query_takes (Query.is-tracked key) = takes (Needs.limiter (answers 1)) Output.nothing
  query_takes (Query.new_key_quota x n) = takes (Needs.limiter (answers 2)) Output.nothing
  query_takes (Query.new-key-factor n) = takes (Needs.limiter (answers 1)) Output.nothing
  query_takes Query.config = takes (Needs.limiter (answers 9)) Output.nothing
  query_takes Query.tracked_keys = takes (Needs.limiter (answers 1)) Output.nothing
  query_takes Query.hot_keys = takes (Needs.limiter (answers 1)) Output.nothing
  query_takes (Query.hot-demand out) = takes (Needs.limiter (answers 1)) (Output.words out)
  query_takes (Query.most-denied k out) = takes (Needs.limiter (answers 1)) (Output.words out)
  query_takes (Query.most_shadow_denied k out) = takes (Needs.limiter (answers 1)) (Output.words out)
  query_takes (Query.get peer key) = takes (Needs.peers_and (answers 5)) Output.nothing
  query_takes (Query.total key) = takes (Needs.peers_and (answers 1)) Output.nothing
  query_takes (Query.hot-elsewhere key) = takes (Needs.peers_and (answers 1)) Output.nothing
  query_takes (Query.totals w n keys out) = takes Needs.peers (Output.floats out)
  query_takes (Query.hot_elsewheres w n keys out) = takes Needs.peers (Output.flags out)
  query_takes Query.peer-keys = takes (Needs.peers_and (answers 1)) Output.nothing
  query_takes Query.no-peer-keys = takes (Needs.peers_and (answers 1)) Output.nothing
  query_takes Query.ask-limiter = takes (Needs.limiter true) Output.nothing
  query_takes Query.ask-peers = takes Needs.peers Output.nothing
  query_takes (Query.save out) = takes (Needs.with_peers (answers 1)) (Output.words out)

  abbrev pub what_takes : What → Takes
  what_takes (What.changes x) = change_takes x
  what_takes (What.reads x) = query_takes x

-- ---- its questions

-- of the limiter's words and of how many words of each buffer are lent; `w` is a report's words
abbrev pub own_asked : (ws : List ℕ) → Lent → (w : List ℕ) → Needs → List Question
own_asked ws n w (Needs.limiter others) = limiter_asked ws n.tables.limiter others
own_asked ws n w (Needs.with_peers others) = limiter_asked ws n.tables.limiter (others && peers_room n.peers n.tables.peers)
own_asked ws n w (Needs.peers_and others) = room_asked (leb 3 n.peers && others)
own_asked ws n w Needs.peers = room_asked (leb 3 n.peers)
own_asked ws n w (Needs.reports count) = report_asked (peers_room n.peers n.tables.peers) w count

abbrev pub own : Buffers → List ℕ → Needs → List Question
own b = own_asked b.limiter (lent_by b)

-- the same of a limiter with the settings g, whose words pass question 2
abbrev pub own_of : Config → Lent → (w : List ℕ) → Needs → List Question
own_of g n w (Needs.limiter others) = room_asked (leb 16 n.limiter && (have_room g n.tables.limiter && others))
own_of g n w (Needs.with_peers others) =
    room_asked (leb 16 n.limiter && (have_room g n.tables.limiter && (others && peers_room n.peers n.tables.peers)))
own_of g n w (Needs.peers_and others) = own_asked [] n w (Needs.peers_and others)
own_of g n w Needs.peers = own_asked [] n w Needs.peers
own_of g n w (Needs.reports count) = own_asked [] n w (Needs.reports count)

pub record SameAsked (qs rs : List Question) : Type 0 where
  pub passed : passes qs ≡ passes rs
  pub number : first_no qs ≡ first_no rs

-- words that are those of a limiter with the settings g, if they are long enough to be a limiter's
abbrev pub Holds : List ℕ → Config → Type 0
Holds ws g = 16 ≤ length ws → (is_limiter ws ≡ true) × ((limiter_of ws).config ≡ g)

limiter-asked :
    (ws : List ℕ) (g : Config) (m : Lengths) (others : Bool) → Holds ws g
    → SameAsked (limiter_asked ws m others) (room_asked (leb 16 (length ws) && (have_room g m && others)))
unfolding passes first_no
limiter-asked ws g m others holds =
    split (leb 16 (length ws))
    (λ e.
    let v = holds (leb-true 16 (length ws) e) in
    subst (λ (x : Config). SameAsked (limiter_asked ws m others) (room_asked (leb 16 (length ws) && (have_room x m && others)))) v.1
    (split (leb 16 (length ws) && (have_room (limiter_of ws).config m && others))
    (λ p. record { passed = rw (p, v.0); number = rw (p, v.0) })
    (λ p. record { passed = rw p; number = rw p })))
    (λ e. record { passed = rw e; number = rw e })

pub own_same :
    (ws : List ℕ) (g : Config) (n : Lent) (w : List ℕ) (k : Needs) → length ws ≡ n.limiter → Holds ws g
    → SameAsked (own_asked ws n w k) (own_of g n w k)
own_same ws g n w (Needs.limiter others) e h =
    subst (λ (l : ℕ). SameAsked (limiter_asked ws n.tables.limiter others) (room_asked (leb 16 l && (have_room g n.tables.limiter && others)))) e
    (limiter-asked ws g n.tables.limiter others h)
own_same ws g n w (Needs.with_peers others) e h =
    let room : Bool = others && peers_room n.peers n.tables.peers in
    subst (λ (l : ℕ). SameAsked (limiter_asked ws n.tables.limiter room) (room_asked (leb 16 l && (have_room g n.tables.limiter && room)))) e
    (limiter-asked ws g n.tables.limiter room h)
own_same ws g n w (Needs.peers_and others) e h = record { passed = refl; number = refl }
own_same ws g n w Needs.peers e h = record { passed = refl; number = refl }
own_same ws g n w (Needs.reports count) e h = record { passed = refl; number = refl }

-- ---- the values that a call looks at, whose words are there where the questions are passed

pub data Part : Type 0 where
  limiter with_peers peers : Part

abbrev pub part : Needs → Part
part (Needs.limiter others) = Part.limiter
part (Needs.with_peers others) = Part.with_peers
part (Needs.peers_and others) = Part.peers
part Needs.peers = Part.peers
part (Needs.reports count) = Part.peers

abbrev pub Long : Part → Buffers → Type 0
Long Part.limiter b = 16 ≤ length b.limiter
Long Part.with_peers b = (16 ≤ length b.limiter) × (3 ≤ length b.peers)
Long Part.peers b = 3 ≤ length b.peers

pub own-long : (b : Buffers) (w : List ℕ) (k : Needs) → passes (own b w k) ≡ true → Long (part k) b
own-long b w (Needs.limiter others) e = (was-open b.limiter (lent_by b).tables.limiter others e).long
own-long b w (Needs.with_peers others) e =
    let n = lent_by b in
    let o = was-open b.limiter n.tables.limiter (others && peers_room n.peers n.tables.peers) e in
    (o.long, peers-three n.peers n.tables.peers (both others (peers_room n.peers n.tables.peers) o.others).1)
own-long b w (Needs.peers_and others) e =
    leb-true 3 (length b.peers) (both (leb 3 (length b.peers)) others (room-told (leb 3 (length b.peers) && others) e)).0
own-long b w Needs.peers e = leb-true 3 (length b.peers) (room-told (leb 3 (length b.peers)) e)
own-long b w (Needs.reports count) e =
    let n = lent_by b in
    let room = peers_room n.peers n.tables.peers in
    peers-three n.peers n.tables.peers (report-all room w count e).others
