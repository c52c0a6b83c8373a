-- Laws: a report that passed its questions keeps the peers' state valid.
use Rattle.std.proofs.Common.{◌≡◌, ℕ, ◌+◌, ◌*◌, ◌^◌, ◌<◌, ◌≤◌, Bool, true, false, ◌&&◌, ◌||◌, eqb, ltb, leb, List, [], ◌∷◌, ◌++◌, map, length, sym, refl, ap, ◌∙◌, zero-le, le_of_suc-le-suc, not-suc-le-zero, mul-le-mul_right, suc-mul, arith, ltb-true, lt-ltb, eq-eqb, eqb-true, le-leb, leb-true}
use borrow.Author.Tests.{eqb-false}
use Rattle.records.specs.Records.{leads, ascending}
use Rattle.questions.proofs.Tests.{split, both, and_intro, eqb-turn}
use Rattle.questions.specs.Lists.{all, any, only, those, replaced}
use Rattle.peers.specs.Peers.Records.{PeerRecord, SnapshotKey, ContestedKey, past_words, peer_words, snapshot_key_words, contested_words}
use Rattle.peers.specs.Peers.State.{PeersState, is_taken, is_known, has_snapshot, valid_past, valid_peer, valid_snapshot_key, valid_contested, valid_peers, valid_snapshot_keys, valid_contesteds, valid}
use Rattle.records.specs.Typed.{is_word, word}
use Rattle.peers.specs.Peers.Changes as changes
use Rattle.peers.specs.Peers.Calls.{has_place}
use Rattle.peers.proofs.Peers.Tables.KindLaws.{Keys, Contesteds}
use Rattle.questions.proofs.OnlyLaws.{only_yes, only_no, only_same, only-all, only-nothing, any-right, any-kept, any-counted, all_append, all-only, only-passes, all-replaced, all-imply, all_two, those-same, those-other, length-replaced}
use Rattle.records.proofs.Order.AscendingLaws.{asc-numbered}

-- ---- the peers after one was replaced
module _ (id : ℕ) (tp : PeerRecord) (ti : tp.id ≡ id) (ps : List PeerRecord) where
  abbrev after : List PeerRecord
  after = replaced (λ (p : PeerRecord). p.id) id (tp ∷ []) ps

  is-id : (m : ℕ) → (m ≡ id → ⊥) → (x : PeerRecord) → eqb x.id m ≡ true → x.id ≡ id → ⊥
  is-id m h x e q = h (sym (eqb-true x.id m e) ∙ q)

  new_is : (p : PeerRecord → Bool) → p tp ≡ true → any p after ≡ true
  unfolding replaced any
  new_is p e = any-right p (only (λ (x : PeerRecord). ltb x.id id) ps) (tp ∷ only (λ (x : PeerRecord). ltb id x.id) ps) (ap (λ (b : Bool). b || any p (only (λ (x : PeerRecord). ltb id x.id) ps)) e)

  pub known-new : is_known after id ≡ true
  unfolding is_known
  known-new = new_is (λ (p : PeerRecord). eqb p.id id) (eq-eqb tp.id id ti)

  pub known-still : (m : ℕ) → is_known ps m ≡ true → is_known after m ≡ true
  unfolding is_known
  known-still m e = split (eqb m id)
      (λ q. new_is (λ (p : PeerRecord). eqb p.id m) (eq-eqb tp.id m (ti ∙ sym (eqb-true m id q))))
      (λ q. any-kept (λ (p : PeerRecord). eqb p.id m) (λ (p : PeerRecord). p.id) id (tp ∷ []) ps (is-id m (eqb-false m id q)) e)

  pub taken-new : is_taken tp ≡ true → has_snapshot after id ≡ true
  unfolding has_snapshot
  taken-new t = new_is (λ (p : PeerRecord). eqb p.id id && is_taken p) (and_intro (eqb tp.id id) (is_taken tp) (eq-eqb tp.id id ti) t)

  pub taken-still : (m : ℕ) → (m ≡ id → ⊥) → has_snapshot ps m ≡ true → has_snapshot after m ≡ true
  unfolding has_snapshot
  taken-still m h e = any-kept (λ (p : PeerRecord). eqb p.id m && is_taken p) (λ (p : PeerRecord). p.id) id (tp ∷ []) ps (λ x z q. is-id m h x (both (eqb x.id m) (is_taken x) z).0 q) e

  pub peers-few : has_place id ps ≡ true → length ps ≤ 32 → length after ≤ 32
  unfolding is_known those
  peers-few e l =
      let one : length (tp ∷ []) ≡ 1 = refl in
      let q = length-replaced (λ (p : PeerRecord). p.id) id (tp ∷ []) ps in
      split (any (λ (p : PeerRecord). eqb p.id id) ps)
      (λ h. omega (arith, q, one, ltb-true 0 (length (only (λ (p : PeerRecord). eqb p.id id) ps)) (sym (any-counted (λ (p : PeerRecord). eqb p.id id) ps) ∙ h)))
      (λ h. omega (arith, q, one, ltb-true (length ps) 32 (sym (ap (λ (b : Bool). b || ltb (length ps) 32) h) ∙ e)))

-- a peer with a snapshot is known
pub taken-known : (ps : List PeerRecord) (m : ℕ) → has_snapshot ps m ≡ true → is_known ps m ≡ true
unfolding has_snapshot is_known any
taken-known [] m e = e
taken-known (p ∷ ps) m e = split (eqb p.id m)
    (λ h. ap (λ (b : Bool). b || any (λ (x : PeerRecord). eqb x.id m) ps) h)
    (λ h. ap (λ (b : Bool). b || any (λ (x : PeerRecord). eqb x.id m) ps) h ∙ taken-known ps m (sym (ap (λ (b : Bool). (b && is_taken p) || any (λ (x : PeerRecord). eqb x.id m && is_taken x) ps) h) ∙ e))

-- ---- as many as the peers hold
length-or : {A : Type 0} (p q : A → Bool) (xs : List A) → length (only (λ x. p x || q x) xs) ≤ length (only p xs) + length (only q xs)
unfolding only
length-or p q [] = zero-le
length-or {A = A} p q (x ∷ xs) =
    let r : A → Bool = λ y. p y || q y in
    split (p x)
    (λ e. omega (arith, length-or p q xs, ap length (only_yes r x xs (ap (λ (b : Bool). b || q x) e)), ap length (only_yes p x xs e), length_more q x xs))
    (λ e. split (q x)
    (λ f. omega (arith, length-or p q xs, ap length (only_yes r x xs (ap (λ (b : Bool). b || q x) e ∙ f)), ap length (only_no p x xs e), ap length (only_yes q x xs f)))
    (λ f. omega (arith, length-or p q xs, ap length (only_no r x xs (ap (λ (b : Bool). b || q x) e ∙ f)), ap length (only_no p x xs e), ap length (only_no q x xs f))))
  where
    length_more : (q : A → Bool) (x : A) (xs : List A) → length (only q xs) ≤ length (only q (x ∷ xs))
    length_more q x xs = split (q x) (λ e. omega (arith, ap length (only_yes q x xs e))) (λ e. omega (arith, ap length (only_no q x xs e)))

held_by : {A : Type 0} (peer : A → ℕ) (bound : ℕ) (ps : List PeerRecord) (xs : List A) → all (λ (p : PeerRecord). leb (length (those peer p.id xs)) bound) ps ≡ true → length (only (λ x. is_known ps (peer x)) xs) ≤ length ps * bound
unfolding is_known any all those
held_by {A = A} peer bound [] xs e =
    let z : only (λ (x : A). false) xs ≡ [] = only-nothing (λ x. false) xs (all_true xs) in
    omega (arith, ap length z, nil-length)
  where
    nil-length : length {A = A} [] ≡ 0
    nil-length = refl

    all_true : (xs : List A) → all (λ x. true) xs ≡ true
    all_true [] = refl
    all_true (x ∷ xs) = all_true xs
held_by peer bound (p ∷ ps) xs e =
    let b = both (leb (length (only (λ x. eqb (peer x) p.id) xs)) bound) _ e in
    let o = length-or (λ x. eqb p.id (peer x)) (λ x. is_known ps (peer x)) xs in
    omega (
      arith,
      o,
      held_by peer bound ps xs b.1,
      leb-true (length (only (λ x. eqb (peer x) p.id) xs)) bound b.0,
      ap length (only_same (λ x. eqb p.id (peer x)) (λ x. eqb (peer x) p.id) (λ x. eqb-turn p.id (peer x)) xs),
      suc-mul (length ps) bound,
    )

pub not_more : {A : Type 0} (peer : A → ℕ) (bound : ℕ) (ps : List PeerRecord) (xs : List A) → all (λ (p : PeerRecord). leb (length (those peer p.id xs)) bound) ps ≡ true → all (λ x. is_known ps (peer x)) xs ≡ true → length ps ≤ 32 → length xs ≤ 32 * bound
not_more peer bound ps xs few known l = omega (arith, held_by peer bound ps xs few, ap length (only-all (λ x. is_known ps (peer x)) xs known), mul-le-mul_right bound l)

-- ---- a table of keys
module _ {A : Type 0} (peer : A → ℕ) (id bound : ℕ) (new xs : List A) (en : all (λ x. eqb (peer x) id) new ≡ true) where
  pub keys_few : length new ≤ bound → (ps : List PeerRecord) → all (λ (p : PeerRecord). leb (length (those peer p.id xs)) bound) ps ≡ true → all (λ (p : PeerRecord). leb (length (those peer p.id (replaced peer id new xs))) bound) ps ≡ true
  keys_few l ps e = all-imply (λ (p : PeerRecord). leb (length (those peer p.id xs)) bound) (λ (p : PeerRecord). leb (length (those peer p.id (replaced peer id new xs))) bound) ps
      (λ p f. few-of p.id (leb-true (length (those peer p.id xs)) bound f)) e
    where
      few-of : (m : ℕ) → length (those peer m xs) ≤ bound → leb (length (those peer m (replaced peer id new xs))) bound ≡ true
      few-of m f = split (eqb m id)
          (λ q. le-leb (length (those peer m (replaced peer id new xs))) bound (omega (arith, l, ap (λ (z : ℕ). length (those peer z (replaced peer id new xs))) (eqb-true m id q), ap length (those-same peer id new xs en))))
          (λ q. le-leb (length (those peer m (replaced peer id new xs))) bound (omega (arith, f, ap length (those-other peer id new xs en m (eqb-false m id q)))))

  pub key-few : length new ≤ bound → leb (length (those peer id (replaced peer id new xs))) bound ≡ true
  key-few l = le-leb (length (those peer id (replaced peer id new xs))) bound (omega (arith, l, ap length (those-same peer id new xs en)))

  -- named still: what was named, and the peer itself
  pub keys-named : (named named' : ℕ → Bool) → ((m : ℕ) → (m ≡ id → ⊥) → named m ≡ true → named' m ≡ true) → (all (λ x. eqb (peer x) id) new ≡ true → named' id ≡ true) → all (λ x. named (peer x)) xs ≡ true → all (λ x. named' (peer x)) (replaced peer id new xs) ≡ true
  unfolding replaced
  keys-named named named' f g a =
      all_append (λ x. named' (peer x)) (only (λ x. ltb (peer x) id) xs) (new ++ only (λ x. ltb id (peer x)) xs)
      (all_two (λ x. ltb (peer x) id) (λ x. named (peer x)) (λ x. named' (peer x)) (only (λ x. ltb (peer x) id) xs) (λ x l n. f (peer x) (λ q. omega (arith, ltb-true (peer x) id l)) n) (only-passes (λ x. ltb (peer x) id) xs) (all-only (λ x. named (peer x)) (λ x. ltb (peer x) id) xs a))
      (all_append (λ x. named' (peer x)) new (only (λ x. ltb id (peer x)) xs)
      (all-imply (λ x. eqb (peer x) id) (λ x. named' (peer x)) new (λ x q. ap named' (eqb-true (peer x) id q) ∙ g en) en)
      (all_two (λ x. ltb id (peer x)) (λ x. named (peer x)) (λ x. named' (peer x)) (only (λ x. ltb id (peer x)) xs) (λ x l n. f (peer x) (λ q. omega (arith, ltb-true id (peer x) l)) n) (only-passes (λ x. ltb id (peer x)) xs) (all-only (λ x. named (peer x)) (λ x. ltb id (peer x)) xs a)))

-- ---- what valid says
pub record ValidState (s : PeersState) : Type 0 where
  pub few_peers : length s.peers ≤ 32
  pub peers : all valid_peer s.peers ≡ true
  pub peers_ascend : ascending 1 (map peer_words s.peers) ≡ true
  pub keys : all valid_snapshot_key s.snapshot_keys ≡ true
  pub keys_ascend : ascending 2 (map snapshot_key_words s.snapshot_keys) ≡ true
  pub keys_taken : all (λ (k : SnapshotKey). has_snapshot s.peers k.peer) s.snapshot_keys ≡ true
  pub keys_few : all (λ (p : PeerRecord). leb (length (those (λ (k : SnapshotKey). k.peer) p.id s.snapshot_keys)) 64) s.peers ≡ true
  pub contested : all valid_contested s.contested ≡ true
  pub contested_ascend : ascending 2 (map contested_words s.contested) ≡ true
  pub contested_known : all (λ (c : ContestedKey). is_known s.peers c.peer) s.contested ≡ true
  pub contested_few : all (λ (p : PeerRecord). leb (length (those (λ (c : ContestedKey). c.peer) p.id s.contested)) 256) s.peers ≡ true

pub valid-says : (s : PeersState) → valid s ≡ true → ValidState s
unfolding valid valid_peers valid_snapshot_keys valid_contesteds
valid-says s e =
    let a = both (valid_peers s.peers) _ e in
    let b = both (valid_snapshot_keys s.peers s.snapshot_keys) (valid_contesteds s.peers s.contested) a.1 in
    let p = both (leb (length s.peers) 32) _ a.0 in
    let p2 = both (all valid_peer s.peers) _ p.1 in
    let k = both (leb (length s.snapshot_keys) (32 * 64)) _ b.0 in
    let k2 = both (all valid_snapshot_key s.snapshot_keys) _ k.1 in
    let k3 = both (ascending 2 (map snapshot_key_words s.snapshot_keys)) _ k2.1 in
    let k4 = both (all (λ (x : SnapshotKey). has_snapshot s.peers x.peer) s.snapshot_keys) _ k3.1 in
    let c = both (leb (length s.contested) (32 * 256)) _ b.1 in
    let c2 = both (all valid_contested s.contested) _ c.1 in
    let c3 = both (ascending 2 (map contested_words s.contested)) _ c2.1 in
    let c4 = both (all (λ (x : ContestedKey). is_known s.peers x.peer) s.contested) _ c3.1 in
    record {
      few_peers = leb-true (length s.peers) 32 p.0;
      peers = p2.0;
      peers_ascend = p2.1;
      keys = k2.0;
      keys_ascend = k3.0;
      keys_taken = k4.0;
      keys_few = k4.1;
      contested = c2.0;
      contested_ascend = c3.0;
      contested_known = c4.0;
      contested_few = c4.1;
    }

pub few_keys : (s : PeersState) → ValidState s → length s.snapshot_keys ≤ 32 * 64
few_keys s v = not_more (λ (k : SnapshotKey). k.peer) 64 s.peers s.snapshot_keys v.keys_few (all-imply (λ (k : SnapshotKey). has_snapshot s.peers k.peer) (λ (k : SnapshotKey). is_known s.peers k.peer) s.snapshot_keys (λ k e. taken-known s.peers k.peer e) v.keys_taken) v.few_peers

pub few-contested : (s : PeersState) → ValidState s → length s.contested ≤ 32 * 256
few-contested s v = not_more (λ (c : ContestedKey). c.peer) 256 s.peers s.contested v.contested_few v.contested_known v.few_peers

pub valid-intro : (s : PeersState) → ValidState s → valid s ≡ true
unfolding valid valid_peers valid_snapshot_keys valid_contesteds
valid-intro s v =
    and_intro (valid_peers s.peers) _
    (and_intro (leb (length s.peers) 32) _ (le-leb (length s.peers) 32 v.few_peers) (and_intro (all valid_peer s.peers) _ v.peers v.peers_ascend))
    (and_intro (valid_snapshot_keys s.peers s.snapshot_keys) _
    (and_intro (leb (length s.snapshot_keys) (32 * 64)) _ (le-leb (length s.snapshot_keys) (32 * 64) (few_keys s v)) (and_intro (all valid_snapshot_key s.snapshot_keys) _ v.keys (and_intro (ascending 2 (map snapshot_key_words s.snapshot_keys)) _ v.keys_ascend (and_intro (all (λ (x : SnapshotKey). has_snapshot s.peers x.peer) s.snapshot_keys) _ v.keys_taken v.keys_few))))
    (and_intro (leb (length s.contested) (32 * 256)) _ (le-leb (length s.contested) (32 * 256) (few-contested s v)) (and_intro (all valid_contested s.contested) _ v.contested (and_intro (ascending 2 (map contested_words s.contested)) _ v.contested_ascend (and_intro (all (λ (x : ContestedKey). is_known s.peers x.peer) s.contested) _ v.contested_known v.contested_few)))))

pub record Fitting (id epoch round at : ℕ) : Type 0 where
  pub peer : id < 2 ^ 64
  pub epochs : epoch < 2 ^ 32
  pub rounds : round < 2 ^ 16
  pub time : at < 2 ^ 64

past_fits : (past : List ℕ) → valid_past past ≡ true → all is_word (past_words past) ≡ true
unfolding all
past_fits past v = by_length past (leb-true (length past) 4 (both (leb (length past) 4) _ v).0) (both (leb (length past) 4) _ v).1
  where
    w : (e : ℕ) → ltb e (2 ^ 32) ≡ true → is_word e ≡ true
    w e h = lt-ltb e (2 ^ 64) (omega (arith, ltb-true e (2 ^ 32) h))

    by_length : (past : List ℕ) → length past ≤ 4 → all (λ (e : ℕ). ltb e (2 ^ 32)) past ≡ true → all is_word (past_words past) ≡ true
    by_length [] l a = refl
    by_length (x ∷ []) l a = and_intro (is_word x) _ (w x (both (ltb x (2 ^ 32)) _ a).0) refl
    by_length (x ∷ y ∷ []) l a =
        let b = both (ltb x (2 ^ 32)) _ a in
        and_intro (is_word x) _ (w x b.0) (and_intro (is_word y) _ (w y (both (ltb y (2 ^ 32)) _ b.1).0) refl)
    by_length (x ∷ y ∷ z ∷ []) l a =
        let b = both (ltb x (2 ^ 32)) _ a in
        let c = both (ltb y (2 ^ 32)) _ b.1 in
        and_intro (is_word x) _ (w x b.0) (and_intro (is_word y) _ (w y c.0) (and_intro (is_word z) _ (w z (both (ltb z (2 ^ 32)) _ c.1).0) refl))
    by_length (x ∷ y ∷ z ∷ t ∷ []) l a =
        let b = both (ltb x (2 ^ 32)) _ a in
        let c = both (ltb y (2 ^ 32)) _ b.1 in
        let d = both (ltb z (2 ^ 32)) _ c.1 in
        and_intro (is_word x) _ (w x b.0) (and_intro (is_word y) _ (w y c.0) (and_intro (is_word z) _ (w z d.0) (and_intro (is_word t) _ (w t (both (ltb t (2 ^ 32)) _ d.1).0) refl)))
    by_length (x ∷ y ∷ z ∷ t ∷ u ∷ es) l a = absurd (not-suc-le-zero (le_of_suc-le-suc (le_of_suc-le-suc (le_of_suc-le-suc (le_of_suc-le-suc l)))))

pub taken-valid : (id epoch round at : ℕ) (past : List ℕ) → Fitting id epoch round at → valid_past past ≡ true → valid_peer (changes.taken_peer id epoch round at past) ≡ true
unfolding valid_peer peer_words all
taken-valid id epoch round at past f pasts =
    and_intro (all is_word (id ∷ 0 ∷ 0 ∷ 1 ∷ epoch ∷ round ∷ at ∷ past_words past)) _
    (and_intro (is_word id) _ (lt-ltb id (2 ^ 64) f.peer)
    (and_intro (is_word epoch) _ (lt-ltb epoch (2 ^ 64) (omega (arith, f.epochs)))
    (and_intro (is_word round) _ (lt-ltb round (2 ^ 64) (omega (arith, f.rounds)))
    (and_intro (is_word at) _ (lt-ltb at (2 ^ 64) f.time) (past_fits past pasts)))))
    (and_intro (ltb epoch (2 ^ 32) && ltb round (2 ^ 16)) _
    (and_intro (ltb epoch (2 ^ 32)) _ (lt-ltb epoch (2 ^ 32) f.epochs) (lt-ltb round (2 ^ 16) f.rounds))
    (and_intro (valid_past past) true pasts refl))

-- ---- a peer with a report, and its keys, in the place of what was
module _ (id : ℕ) (s : PeersState) (v : ValidState s) (nc : List ContestedKey) (gc : Contesteds id nc) (lc : length nc ≤ 256) where
  peer_word : (c : ContestedKey) → word 0 (contested_words c) ≡ c.peer
  unfolding contested_words
  peer_word c = refl

  -- contested keys of a peer that is known
  pub contested-kept : is_known s.peers id ≡ true → ValidState (record { peers = s.peers; snapshot_keys = s.snapshot_keys; contested = changes.with_contested id nc s.contested })
  contested-kept known = record {
    few_peers = v.few_peers;
    peers = v.peers;
    peers_ascend = v.peers_ascend;
    keys = v.keys;
    keys_ascend = v.keys_ascend;
    keys_taken = v.keys_taken;
    keys_few = v.keys_few;
    contested = all-replaced valid_contested (λ (c : ContestedKey). c.peer) id nc s.contested gc.valids v.contested;
    contested_ascend = asc-numbered contested_words (λ (c : ContestedKey). c.peer) peer_word 1 id nc s.contested gc.shared v.contested_ascend gc.ascends;
    contested_known = keys-named (λ (c : ContestedKey). c.peer) id 256 nc s.contested gc.shared (is_known s.peers) (is_known s.peers) (λ m h e. e) (λ e. known) v.contested_known;
    contested_few = keys_few (λ (c : ContestedKey). c.peer) id 256 nc s.contested gc.shared lc s.peers v.contested_few;
  }

  module _ (tp : PeerRecord) (ti : tp.id ≡ id) (tt' : is_taken tp ≡ true) (tv : valid_peer tp ≡ true) (room : has_place id s.peers ≡ true) (nk : List SnapshotKey) (gk : Keys id nk) (lk : length nk ≤ 64) where
    id-word : (p : PeerRecord) → word 0 (peer_words p) ≡ p.id
    unfolding peer_words
    id-word p = refl

    key-peer : (k : SnapshotKey) → word 0 (snapshot_key_words k) ≡ k.peer
    unfolding snapshot_key_words
    key-peer k = refl

    abbrev ps' : List PeerRecord
    ps' = changes.with_peer id (tp ∷ []) s.peers

    one-id : all (λ (p : PeerRecord). eqb p.id id) (tp ∷ []) ≡ true
    unfolding all
    one-id = and_intro (eqb tp.id id) true (eq-eqb tp.id id ti) refl

    one-asc : ascending 1 (map peer_words (tp ∷ [])) ≡ true
    unfolding ascending leads
    one-asc = refl

    one-valid : all valid_peer (tp ∷ []) ≡ true
    unfolding all
    one-valid = and_intro (valid_peer tp) true tv refl

    with-new : (f : PeerRecord → Bool) → f tp ≡ true → all f s.peers ≡ true → all f ps' ≡ true
    unfolding all
    with-new f e a = all-replaced f (λ (p : PeerRecord). p.id) id (tp ∷ []) s.peers (and_intro (f tp) true e refl) a

    few-new : {A : Type 0} (peer : A → ℕ) (bound : ℕ) (xs : List A) → leb (length (those peer id xs)) bound ≡ true → leb (length (those peer tp.id xs)) bound ≡ true
    few-new peer bound xs e = ap (λ (m : ℕ). leb (length (those peer m xs)) bound) ti ∙ e

    pub report-kept : ValidState (record { peers = ps'; snapshot_keys = changes.with_snapshot_keys id nk s.snapshot_keys; contested = changes.with_contested id nc s.contested })
    report-kept = record {
      few_peers = peers-few id tp ti s.peers room v.few_peers;
      peers = all-replaced valid_peer (λ (p : PeerRecord). p.id) id (tp ∷ []) s.peers one-valid v.peers;
      peers_ascend = asc-numbered peer_words (λ (p : PeerRecord). p.id) id-word 0 id (tp ∷ []) s.peers one-id v.peers_ascend one-asc;
      keys = all-replaced valid_snapshot_key (λ (k : SnapshotKey). k.peer) id nk s.snapshot_keys gk.valids v.keys;
      keys_ascend = asc-numbered snapshot_key_words (λ (k : SnapshotKey). k.peer) key-peer 1 id nk s.snapshot_keys gk.shared v.keys_ascend gk.ascends;
      keys_taken = keys-named (λ (k : SnapshotKey). k.peer) id 64 nk s.snapshot_keys gk.shared (has_snapshot s.peers) (has_snapshot ps') (λ m h e. taken-still id tp ti s.peers m h e) (λ e. taken-new id tp ti s.peers tt') v.keys_taken;
      keys_few = with-new (λ (p : PeerRecord). leb (length (those (λ (k : SnapshotKey). k.peer) p.id (changes.with_snapshot_keys id nk s.snapshot_keys))) 64)
          (few-new (λ (k : SnapshotKey). k.peer) 64 (changes.with_snapshot_keys id nk s.snapshot_keys) (key-few (λ (k : SnapshotKey). k.peer) id 64 nk s.snapshot_keys gk.shared lk))
          (keys_few (λ (k : SnapshotKey). k.peer) id 64 nk s.snapshot_keys gk.shared lk s.peers v.keys_few);
      contested = all-replaced valid_contested (λ (c : ContestedKey). c.peer) id nc s.contested gc.valids v.contested;
      contested_ascend = asc-numbered contested_words (λ (c : ContestedKey). c.peer) peer_word 1 id nc s.contested gc.shared v.contested_ascend gc.ascends;
      contested_known = keys-named (λ (c : ContestedKey). c.peer) id 256 nc s.contested gc.shared (is_known s.peers) (is_known ps') (λ m h e. known-still id tp ti s.peers m e) (λ e. known-new id tp ti s.peers) v.contested_known;
      contested_few = with-new (λ (p : PeerRecord). leb (length (those (λ (c : ContestedKey). c.peer) p.id (changes.with_contested id nc s.contested))) 256)
          (few-new (λ (c : ContestedKey). c.peer) 256 (changes.with_contested id nc s.contested) (key-few (λ (c : ContestedKey). c.peer) id 256 nc s.contested gc.shared lc))
          (keys_few (λ (c : ContestedKey). c.peer) id 256 nc s.contested gc.shared lc s.peers v.contested_few);
    }
