-- What the program holds stands for a state of the definitions: the state is valid, it is what the value and the tables read as, and their words are
-- exact. Words that are lent and come back keep it.
use Prim.Native.Nat.{ℕ, ◌*◌, ◌≤◌}
use native.Mathlib.Omega.{arith}
use mathlib.Core.Path.{◌≡◌, sym, ap, ◌∙◌}
use mathlib.Core.Bool.{true, ◌&&◌}
use mathlib.Core.List.{List, ◌++◌, map}
use borrow.Author.Tests.{leb-true}
use lib.Dec.{leb}
use lib.ListN.{length, take, drop, take-append-drop, length-take, length-map}
use lib.Seq.{take-append-le, length_front}
use Rattle.records.specs.Records.{records}
use Rattle.records.proofs.Words.RecordLaws.{length-records}
use Rattle.questions.proofs.Tests.{both}
use Rattle.peers.specs.declared.peer_demand.PeerDemand.{PeerDemand}
use Rattle.hot.specs.HotSet.Set as hot-set
use Rattle.peers.specs.Peers.Records.{peer_words, snapshot_key_words, contested_words, peer_of, snapshot_key_of, contested_of}
use Rattle.peers.specs.Peers.State as peer-state
use Rattle.peers.specs.Peers.State.{PeersState, PeerTables, PeerLengths}
use Rattle.records.specs.Typed.{exact}
use Rattle.peers.proofs.Peers.Reports.KeptLaws as peers-kept
use Rattle.records.proofs.Changes.RunLaws.{records-take}
use Rattle.limiter.specs.declared.Limiter.{Limiter}
use Rattle.limiter.specs.State as limiter-state
use Rattle.limiter.specs.State.{LimiterState, LimiterTables, Lengths, lengths, have_room, key_words, key_of, shadow_words, shadow_of, units_of, units_in}
use Rattle.limiter.proofs.States.StateValidLaws.{sizes-say, valid-says, few-shadows}
use Rattle.limiter.proofs.States.WrittenLaws.{room_says}
use Rattle.image.specs.Image.{State}
use Rattle.run.specs.Run.{Memory, put_back}

-- ---- words that are lent

-- records that fit are those of longer words
front-records : (w m : ℕ) (xs ys : List ℕ) → m * w ≤ length xs → records w m (xs ++ ys) ≡ records w m xs
front-records w m xs ys h = sym (records-take w m (xs ++ ys)) ∙ ap (records w m) (take-append-le (m * w) xs ys h) ∙ records-take w m xs

-- and of the words that are lent
lent-records : (w m n : ℕ) (xs : List ℕ) → m * w ≤ length (take n xs) → records w m (take n xs) ≡ records w m xs
lent-records w m n xs h = sym (front-records w m (take n xs) (drop n xs) h) ∙ ap (records w m) (take-append-drop n xs)

-- words that come back as they were lent
pub back-same : (n : ℕ) (xs : List ℕ) → length (take n xs) ≡ n → put_back (take n xs) xs ≡ xs
back-same n xs e = ap (λ (k : ℕ). take n xs ++ drop k xs) e ∙ take-append-drop n xs

-- and words that come back as many as were lent leave the table as long as it was
pub back_long : (n : ℕ) (part whole : List ℕ) → length part ≡ length (take n whole) → length (put_back part whole) ≡ length whole
back_long n part whole e = length_front whole part (length part) (omega (arith, e, length-take n whole, length-take (length part) whole))

-- ---- the limiter

pub record LimiterStands (l : Limiter) (t : LimiterTables) (x : LimiterState) : Type 0 where
  pub valid : limiter-state.valid (units_of x.settings) x ≡ true
  pub reads : limiter-state.state_of (units_in l) l t ≡ x
  pub exact : limiter-state.are_exact (units_in l) l t ≡ true

-- the first words of its tables
abbrev pub lent_tables : Lengths → LimiterTables → LimiterTables
lent_tables n t = record { keys = take n.keys t.keys; hot = take n.hot t.hot; shadows = take n.shadows t.shadows }

-- and those words put back
abbrev pub put_tables : LimiterTables → LimiterTables → LimiterTables
put_tables t part =
    record { keys = put_back part.keys t.keys; hot = put_back part.hot t.hot; shadows = put_back part.shadows t.shadows }

-- room for the records that a value counts
record Fits (l : Limiter) (n : Lengths) : Type 0 where
  keys : l.keys * 22 ≤ n.keys
  hot : l.hot * 6 ≤ n.hot
  shadows : l.shadows * 4 ≤ n.shadows

-- a value's settings are its state's
pub same-config : {l : Limiter} {t : LimiterTables} {x : LimiterState} → LimiterStands l t x → l.config ≡ x.settings.config
unfolding limiter-state.state_of
same-config s = ap (λ (y : LimiterState). y.settings.config) s.reads

module _ {l : Limiter} {t : LimiterTables} {x : LimiterState} (s : LimiterStands l t x) where
  -- as many keys as the value counts
  pub keys-counted : length x.keys ≡ l.keys
  unfolding limiter-state.state_of
  keys-counted =
      ap (λ (y : LimiterState). length y.keys) (sym s.reads) ∙ length-map (records 22 l.keys t.keys) (key_of (units_in l))
      ∙ length-records 22 l.keys t.keys

  -- as many hot entries
  pub hot-counted : length x.hot ≡ l.hot
  unfolding limiter-state.state_of hot-set.entries
  hot-counted =
      ap (λ (y : LimiterState). length y.hot) (sym s.reads) ∙ length-map (records 6 l.hot t.hot) hot-set.entry
      ∙ length-records 6 l.hot t.hot

  -- as many shadows
  pub shadows-counted : length x.shadows ≡ l.shadows
  unfolding limiter-state.state_of
  shadows-counted =
      ap (λ (y : LimiterState). length y.shadows) (sym s.reads) ∙ length-map (records 4 l.shadows t.shadows) (shadow_of (units_in l))
      ∙ length-records 4 l.shadows t.shadows

  -- question 1's room is enough
  roomy-fits : (n : Lengths) → have_room x.settings.config n ≡ true → Fits l n
  roomy-fits n room =
      let v = valid-says (units_of x.settings) x s.valid in
      let z = sizes-say x.settings.config v.settings.config.sizes in
      let r = room_says x.settings.config n room in
      record {
        keys = omega (arith, keys-counted, v.few, r.for_keys);
        hot = omega (arith, hot-counted, v.hot_few, r.for_hot);
        shadows = omega (arith, shadows-counted, few-shadows (units_of x.settings) x v, v.few, r.for_shadows);
      }

-- tables whose records in use are the same read the same
reads_same :
    {l : Limiter} {t t' : LimiterTables} {x : LimiterState} → records 22 l.keys t.keys ≡ records 22 l.keys t'.keys
    → records 6 l.hot t.hot ≡ records 6 l.hot t'.hot
    → records 4 l.shadows t.shadows ≡ records 4 l.shadows t'.shadows → LimiterStands l t x → LimiterStands l t' x
unfolding limiter-state.state_of limiter-state.are_exact hot-set.entries
reads_same {l} {t} {t'} {x} a b c s =
    record {
      valid = s.valid;
      reads =
          sym
          (λ i. record {
            settings = limiter-state.settings_of l;
            keys = map (key_of (units_in l)) (a i);
            hot = map hot-set.entry (b i);
            shadows = map (shadow_of (units_in l)) (c i);
          })
          ∙ s.reads;
      exact =
          sym
          (λ i. exact (key_words (units_in l)) (key_of (units_in l)) (a i)
          && (exact hot-set.words hot-set.entry (b i) && exact (shadow_words (units_in l)) (shadow_of (units_in l)) (c i)))
          ∙ s.exact;
    }

-- what is lent stands for the same, where there is room
pub limiter-lent :
    {l : Limiter} {t : LimiterTables} {x : LimiterState} (n : Lengths) → have_room x.settings.config (lengths (lent_tables n t)) ≡ true
    → LimiterStands l t x → LimiterStands l (lent_tables n t) x
limiter-lent {l} {t} {x} n room s =
    let f = roomy-fits s (lengths (lent_tables n t)) room in
    reads_same (sym (lent-records 22 l.keys n.keys t.keys f.keys)) (sym (lent-records 6 l.hot n.hot t.hot f.hot))
    (sym (lent-records 4 l.shadows n.shadows t.shadows f.shadows)) s

-- and so do the tables that it comes back to
pub limiter-back :
    {l : Limiter} {t : LimiterTables} {x : LimiterState} (whole : LimiterTables) → have_room x.settings.config (lengths t) ≡ true
    → LimiterStands l t x → LimiterStands l (put_tables whole t) x
limiter-back {l} {t} {x} whole room s =
    let f = roomy-fits s (lengths t) room in
    reads_same (sym (front-records 22 l.keys t.keys (drop (length t.keys) whole.keys) f.keys))
    (sym (front-records 6 l.hot t.hot (drop (length t.hot) whole.hot) f.hot))
    (sym (front-records 4 l.shadows t.shadows (drop (length t.shadows) whole.shadows) f.shadows)) s

-- ---- the peers

pub record PeersStand (p : PeerDemand) (t : PeerTables) (x : PeersState) : Type 0 where
  pub valid : peer-state.valid x ≡ true
  pub reads : peer-state.state_of p t ≡ x
  pub exact : peer-state.are_exact p t ≡ true

-- the first words of their tables
abbrev pub lent_peers : PeerLengths → PeerTables → PeerTables
lent_peers n t =
    record {
      peers = take n.peers t.peers;
      snapshot_keys = take n.snapshot_keys t.snapshot_keys;
      contested = take n.contested t.contested;
    }

-- and those words put back
abbrev pub put_peers : PeerTables → PeerTables → PeerTables
put_peers t part =
    record {
      peers = put_back part.peers t.peers;
      snapshot_keys = put_back part.snapshot_keys t.snapshot_keys;
      contested = put_back part.contested t.contested;
    }

-- room for the records that a value counts
record PeersFit (p : PeerDemand) (t : PeerTables) : Type 0 where
  peers : p.peers * 12 ≤ length t.peers
  snapshot_keys : p.snapshot_keys * 4 ≤ length t.snapshot_keys
  contested : p.contested * 6 ≤ length t.contested

module _ {p : PeerDemand} {t : PeerTables} {x : PeersState} (s : PeersStand p t x) where
  -- as many peers as the value counts
  peers-counted : length x.peers ≡ p.peers
  unfolding peer-state.state_of
  peers-counted =
      ap (λ (y : PeersState). length y.peers) (sym s.reads) ∙ length-map (records 12 p.peers t.peers) peer_of
      ∙ length-records 12 p.peers t.peers

  -- as many snapshot keys
  snapshot-keys-counted : length x.snapshot_keys ≡ p.snapshot_keys
  unfolding peer-state.state_of
  snapshot-keys-counted =
      ap (λ (y : PeersState). length y.snapshot_keys) (sym s.reads) ∙ length-map (records 4 p.snapshot_keys t.snapshot_keys) snapshot_key_of
      ∙ length-records 4 p.snapshot_keys t.snapshot_keys

  -- as many contested keys
  contested-counted : length x.contested ≡ p.contested
  unfolding peer-state.state_of
  contested-counted =
      ap (λ (y : PeersState). length y.contested) (sym s.reads) ∙ length-map (records 6 p.contested t.contested) contested_of
      ∙ length-records 6 p.contested t.contested

  -- question 1's room is enough
  roomy-fit : (t' : PeerTables) → peer-state.have_room (peer-state.lengths t') ≡ true → PeersFit p t'
  unfolding peer-state.lengths peer-state.have_room
  roomy-fit t' room =
      let v = peers-kept.valid-says x s.valid in
      let a = both (leb peer-state.peers_size (length t'.peers)) _ room in
      let b = both (leb peer-state.snapshot_keys_size (length t'.snapshot_keys)) _ a.1 in
      record {
        peers = omega (arith, peers-counted, v.few_peers, leb-true peer-state.peers_size (length t'.peers) a.0);
        snapshot_keys =
            omega (arith, snapshot-keys-counted, peers-kept.few_keys x v, leb-true peer-state.snapshot_keys_size (length t'.snapshot_keys) b.0);
        contested = omega (arith, contested-counted, peers-kept.few-contested x v, leb-true peer-state.contested_size (length t'.contested) b.1);
      }

-- tables whose records in use are the same read the same
peers-read-same :
    {p : PeerDemand} {t t' : PeerTables} {x : PeersState} → records 12 p.peers t.peers ≡ records 12 p.peers t'.peers
    → records 4 p.snapshot_keys t.snapshot_keys ≡ records 4 p.snapshot_keys t'.snapshot_keys
    → records 6 p.contested t.contested ≡ records 6 p.contested t'.contested → PeersStand p t x → PeersStand p t' x
unfolding peer-state.state_of peer-state.are_exact
peers-read-same {p} {t} {t'} {x} a b c s =
    record {
      valid = s.valid;
      reads =
          sym (λ i. record { peers = map peer_of (a i); snapshot_keys = map snapshot_key_of (b i); contested = map contested_of (c i) }) ∙ s.reads;
      exact =
          sym
          (λ i. exact peer_words peer_of (a i) && (exact snapshot_key_words snapshot_key_of (b i) && exact contested_words contested_of (c i)))
          ∙ s.exact;
    }

-- what is lent stands for the same, where there is room
pub peers-lent :
    {p : PeerDemand} {t : PeerTables} {x : PeersState} (n : PeerLengths) → peer-state.have_room (peer-state.lengths (lent_peers n t)) ≡ true
    → PeersStand p t x → PeersStand p (lent_peers n t) x
peers-lent {p} {t} {x} n room s =
    let f = roomy-fit s (lent_peers n t) room in
    peers-read-same (sym (lent-records 12 p.peers n.peers t.peers f.peers))
    (sym (lent-records 4 p.snapshot_keys n.snapshot_keys t.snapshot_keys f.snapshot_keys))
    (sym (lent-records 6 p.contested n.contested t.contested f.contested)) s

-- and so do the tables that it comes back to
pub peers-back :
    {p : PeerDemand} {t : PeerTables} {x : PeersState} (whole : PeerTables) → peer-state.have_room (peer-state.lengths t) ≡ true
    → PeersStand p t x → PeersStand p (put_peers whole t) x
peers-back {p} {t} {x} whole room s =
    let f = roomy-fit s t room in
    peers-read-same (sym (front-records 12 p.peers t.peers (drop (length t.peers) whole.peers) f.peers))
    (sym (front-records 4 p.snapshot_keys t.snapshot_keys (drop (length t.snapshot_keys) whole.snapshot_keys) f.snapshot_keys))
    (sym (front-records 6 p.contested t.contested (drop (length t.contested) whole.contested) f.contested)) s

-- ---- both

pub record Stands (h : Memory) (s : State) : Type 0 where
  pub limiter : LimiterStands h.limiter h.tables s.limiter
  pub peers : PeersStand h.peers h.peer_tables s.peers
