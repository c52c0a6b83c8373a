-- Laws: what stays of a state as time goes, one test a record, and the tables that hold it.
use Rattle.std.proofs.Common.{◌≡◌, ℕ, ◌*◌, ◌≤◌, Bool, true, false, cond, not, ◌&&◌, ◌||◌, eqb, List, [], ◌∷◌, map, length, get_or, drop, sym, refl, ap, ◌∙◌, subst, mul-le-mul_right, arith, length-drop, length-take}
use mathlib.Core.Bool.{or-true}
use lib.ListN.{length-map}
use Rattle.records.specs.Records.{records, key, before, leads, ascending, same}
use Rattle.questions.proofs.Tests.{split, both, and_intro, and_second, and-skip, same_truth}
use Rattle.records.proofs.Words.RecordLaws.{length-records}
use Rattle.records.proofs.Order.OrderLaws.{before-trans}
use Rattle.records.proofs.Changes.EditLaws.{asc-tail}
use Rattle.records.proofs.Tables.TableLaws.{Wide}
use Rattle.peers.specs.declared.peer_demand.PeerDemand.{PeerDemand}
use Rattle.questions.specs.Lists.{only, all, any}
use Rattle.peers.specs.Peers.Records.{PeerRecord, SnapshotKey, ContestedKey, peer_words, snapshot_key_words, contested_words, peer_of, snapshot_key_of, contested_of}
use Rattle.peers.specs.Peers.State.{PeersState, PeerTables, snapshot_keys_size, contested_size, state_of, is_taken, is_held, is_known, has_snapshot}
use Rattle.records.specs.Typed.{exact, Tabled, in_order}
use Rattle.peers.specs.Peers.Changes.{hold_ended, not_ended, expire_holds, expire_age, expire_empty, expire, age_peer, aged_peers, stays, is_fresh, is_fresh_snapshot, is_exempt, fresh_contested}
use Rattle.peers.specs.Peers.Steps.Runs.{Stores}
use Rattle.peers.specs.Peers.Steps.Stays.{stays_contested, stays_peer}
use Rattle.records.proofs.Tables.TypedLaws.{words-of-exact, wide-map}
use Rattle.peers.proofs.Peers.Tables.WordLaws.{peer-of-words, peer-long, contested-long}
use Rattle.questions.proofs.OnlyLaws.{map-self, only_yes, only_no, only_same, only-only, map-only, any_same, any-only, length-only}
use Rattle.questions.proofs.ListLaws.{any-map, map-map}
use Rattle.records.proofs.Order.AscendingLaws.{wide-only}
use Rattle.peers.proofs.Peers.Tables.KindLaws.{contested_kind, all_back}
use Rattle.records.proofs.Tables.TabledLaws.{in-order-says, in-order-intro, tabled-records, tabled-length, Sound}
use Rattle.peers.proofs.Peers.Tables.TableLaws.{stores-of}
use Rattle.peers.proofs.Peers.Tables.StoreLaws.{Tables}
use Rattle.std.specs.declared.option.Option.TheVariants.{None}

-- ---- fewer records

-- a key before that of a record is before those of the records after it
leads-only : {A : Type 0} (d : ℕ) (words : A → List ℕ) (r : List ℕ) (p : A → Bool) (xs : List A) → leads d r (map words xs) ≡ true → ascending d (map words xs) ≡ true → leads d r (map words (only p xs)) ≡ true
unfolding leads only
leads-only d words r p [] l a = refl
leads-only d words r p (x ∷ xs) l a = split (p x)
    (λ e. ap (λ ys. leads d r (map words ys)) (only_yes p x xs e) ∙ l)
    (λ e. ap (λ ys. leads d r (map words ys)) (only_no p x xs e) ∙ leads-only d words r p xs (next (map words xs) l (asc-tail d (words x) (map words xs) a).0) (asc-tail d (words x) (map words xs) a).1)
  where
    next : (rs : List (List ℕ)) → before (key d r) (key d (words x)) ≡ true → leads d (words x) rs ≡ true → leads d r rs ≡ true
    next [] h k = refl
    next (t ∷ ts) h k = before-trans (key d r) (key d (words x)) (key d t) h k

pub ascending-by : {A : Type 0} (d : ℕ) (words : A → List ℕ) (p : A → Bool) (xs : List A) → ascending d (map words xs) ≡ true → ascending d (map words (only p xs)) ≡ true
unfolding ascending only
ascending-by d words p [] a = refl
ascending-by d words p (x ∷ xs) a =
    let t = asc-tail d (words x) (map words xs) a in
    split (p x)
    (λ e. ap (λ ys. ascending d (map words ys)) (only_yes p x xs e) ∙ and_intro (leads d (words x) (map words (only p xs))) (ascending d (map words (only p xs))) (leads-only d words (words x) p xs t.0 t.1) (ascending-by d words p xs t.1))
    (λ e. ap (λ ys. ascending d (map words ys)) (only_no p x xs e) ∙ ascending-by d words p xs t.1)

pub ascending-only : (d : ℕ) (p : List ℕ → Bool) (rs : List (List ℕ)) → ascending d rs ≡ true → ascending d (only p rs) ≡ true
ascending-only d p rs a =
    ap (ascending d) (sym (map-self (only p rs))) ∙ ascending-by d (λ r. r) p rs (ap (ascending d) (map-self rs) ∙ a)

-- records with the same keys
pub ascending-same : {A : Type 0} (d : ℕ) (f g : A → List ℕ) → ((x : A) → key d (f x) ≡ key d (g x)) → (xs : List A) → ascending d (map f xs) ≡ ascending d (map g xs)
unfolding ascending leads
ascending-same d f g h [] = refl
ascending-same d f g h (x ∷ []) = refl
ascending-same d f g h (x ∷ y ∷ xs) = (λ k. before (h x k) (h y k) && ascending-same d f g h (y ∷ xs) k)

-- kept of records in order, they are in order
pub only-in-order : (w d n m : ℕ) (p : List ℕ → Bool) (gs : List (List ℕ)) (xs ys : List ℕ) → 1 ≤ d → d ≤ 2 → d ≤ w → n * w ≤ length xs → length gs ≡ n → Wide w gs → ascending d gs ≡ true → Tabled m (only p gs) xs ys → in_order w d m ys ≡ true
only-in-order w d n m p gs xs ys some_words two_words in_record fit l wide a h =
    let few : m ≤ n = omega (arith, h.count, length-only p gs) in
    let wo : Wide w (only p gs) = wide-only w p gs wide in
    let room : m * w ≤ length xs = omega (arith, mul-le-mul_right w few) in
    in-order-intro w d m ys some_words two_words in_record
    (omega (arith, tabled-length w m (only p gs) xs ys wo h room))
    (ap (ascending d) (tabled-records w m (only p gs) xs ys wo h) ∙ ascending-only d p gs a)

exact-only : {A : Type 0} (words : A → List ℕ) (of : List ℕ → A) (p : List ℕ → Bool) (rs : List (List ℕ)) → exact words of rs ≡ true → exact words of (only p rs) ≡ true
unfolding all only
exact-only words of p [] e = refl
exact-only words of p (r ∷ rs) e =
    let q = both (same (words (of r)) r) (exact words of rs) e in
    split (p r)
    (λ f. ap (exact words of) (only_yes p r rs f) ∙ and_intro (same (words (of r)) r) (exact words of (only p rs)) q.0 (exact-only words of p rs q.1))
    (λ f. ap (exact words of) (only_no p r rs f) ∙ exact-only words of p rs q.1)

-- the kept records are the words of what is kept
pub tabled-only : {A : Type 0} (words : A → List ℕ) (of : List ℕ → A) (w d size n : ℕ) (xs : List ℕ) → Sound words of w d size n xs → (p : A → Bool) (m : ℕ) (ys : List ℕ) → Tabled m (only (λ x. p (of x)) (records w n xs)) xs ys → Tabled m (map words (only p (map of (records w n xs)))) xs ys
tabled-only words of w d size n xs o p m ys =
    let rs : List (List ℕ) = records w n xs in
    let e : only (λ x. p (of x)) rs ≡ map words (only p (map of rs)) =
    sym (ap (map words) (sym (map-only of p rs)) ∙ words-of-exact words of (only (λ x. p (of x)) rs) (exact-only words of (λ x. p (of x)) rs o.exactly)) in
    subst (λ (l : List (List ℕ)). Tabled m l xs ys) e

-- ---- past epochs that four words hold

abbrev pub Short : List PeerRecord → Type 0
Short [] = Unit
Short (p ∷ ps) = (length p.past_epochs ≤ 4) × Short ps

short-records : (rs : List (List ℕ)) → Wide 12 rs → Short (map peer_of rs)
unfolding peer_of
short-records [] w = tt
short-records (r ∷ rs) w = (omega (arith, length-take (get_or r 7 0) (drop 8 r), length-drop 8 r, w.0), short-records rs w.1)

-- a peer without its snapshot, and whether it keeps it
abbrev pub bare : PeerRecord → PeerRecord
bare p = record { id = p.id; held_until = p.held_until; snapshot = None; past_epochs = [] }

abbrev pub keeps : ℕ → ℕ → PeerRecord → Bool
keeps at age p = is_held p || is_fresh_snapshot at age p.snapshot

short-aged : (at age : ℕ) (ps : List PeerRecord) → Short ps → Short (map (age_peer is_held at age) ps)
short-aged at age [] s = tt
short-aged at age (p ∷ ps) s = (by (keeps at age p), short-aged at age ps s.1)
  where
    by : (b : Bool) → length (cond b p (bare p)).past_epochs ≤ 4
    by true = s.0
    by false = omega arith

short-only : (q : PeerRecord → Bool) (ps : List PeerRecord) → Short ps → Short (only q ps)
unfolding only
short-only q [] s = tt
short-only q (p ∷ ps) s = split (q p)
    (λ e. subst Short (sym (only_yes q p ps e)) (s.0, short-only q ps s.1))
    (λ e. subst Short (sym (only_no q p ps e)) (short-only q ps s.1))

peers-back : (ps : List PeerRecord) → Short ps → map peer_of (map peer_words ps) ≡ ps
peers-back [] s = refl
peers-back (p ∷ ps) s = (λ k. peer-of-words p s.0 k ∷ peers-back ps s.1 k)

-- peers kept by their words
peers-only : (q : PeerRecord → Bool) (ps : List PeerRecord) → Short ps → only (λ x. q (peer_of x)) (map peer_words ps) ≡ map peer_words (only q ps)
unfolding only
peers-only q [] s = refl
peers-only q (p ∷ ps) s =
    let e : q (peer_of (peer_words p)) ≡ q p = ap q (peer-of-words p s.0) in
    split (q p)
    (λ f. only_yes (λ x. q (peer_of x)) (peer_words p) (map peer_words ps) (e ∙ f) ∙ ap (λ l. peer_words p ∷ l) (peers-only q ps s.1) ∙ sym (ap (map peer_words) (only_yes q p ps f)))
    (λ f. only_no (λ x. q (peer_of x)) (peer_words p) (map peer_words ps) (e ∙ f) ∙ peers-only q ps s.1 ∙ sym (ap (map peer_words) (only_no q p ps f)))

-- ---- what stays, one test a record

pub aged-held : (at age : ℕ) (p : PeerRecord) → (age_peer is_held at age p).held_until ≡ p.held_until
aged-held at age p = by (keeps at age p)
  where
    by : (b : Bool) → (cond b p (bare p)).held_until ≡ p.held_until
    by true = refl
    by false = refl

pub aged-id : (at age : ℕ) (p : PeerRecord) → (age_peer is_held at age p).id ≡ p.id
aged-id at age p = by (keeps at age p)
  where
    by : (b : Bool) → (cond b p (bare p)).id ≡ p.id
    by true = refl
    by false = refl

pub any-weaker : {A : Type 0} (p q : A → Bool) → ((x : A) → p x ≡ true → q x ≡ true) → (xs : List A) → any p xs ≡ true → any q xs ≡ true
unfolding any
any-weaker p q h [] e = e
any-weaker p q h (x ∷ xs) e = split (p x)
    (λ f. ap (λ (b : Bool). b || any q xs) (h x f))
    (λ f. later (q x) (any-weaker p q h xs (sym (ap (λ (b : Bool). b || any p xs) f) ∙ e)))
  where
    later : (b : Bool) {c : Bool} → c ≡ true → (b || c) ≡ true
    later true k = refl
    later false k = k

module _ (at age : ℕ) (s : PeersState) where
  -- the peers whose hold has not ended
  abbrev kept : List PeerRecord
  kept = not_ended at s.peers

  -- contested keys
  abbrev pub staying_contested : List ContestedKey
  staying_contested = only (λ (c : ContestedKey). stays_contested at age s.peers c.peer c.heard_at) s.contested

  contested-stay : fresh_contested is_held at age (expire_holds at s) ≡ staying_contested
  unfolding expire_holds stays_contested
  contested-stay = only-only (λ (c : ContestedKey). is_known kept c.peer) (λ (c : ContestedKey). is_exempt is_held kept c.peer || is_fresh at age c.heard_at) s.contested

  -- peers
  abbrev pub staying_peers : List PeerRecord
  staying_peers = only (λ (p : PeerRecord). stays_peer at staying_contested p.id p.held_until (is_taken p)) (map (age_peer is_held at age) s.peers)

  peers-stay : only (stays is_held (fresh_contested is_held at age (expire_holds at s))) (aged_peers is_held at age (expire_holds at s)) ≡ staying_peers
  unfolding expire_holds stays_peer
  peers-stay =
      ap (λ cs. only (stays is_held cs) (map (age_peer is_held at age) kept)) contested-stay
      ∙ ap (λ ps. only (stays is_held staying_contested) (map (age_peer is_held at age) ps))
      (only_same (λ (p : PeerRecord). not (hold_ended at p.held_until)) (λ (p : PeerRecord). not (hold_ended at (age_peer is_held at age p).held_until)) (λ (p : PeerRecord). ap (λ h. not (hold_ended at h)) (sym (aged-held at age p))) s.peers)
      ∙ ap (only (stays is_held staying_contested)) (map-only (age_peer is_held at age) (λ (p : PeerRecord). not (hold_ended at p.held_until)) s.peers)
      ∙ only-only (λ (p : PeerRecord). not (hold_ended at p.held_until)) (stays is_held staying_contested) (map (age_peer is_held at age) s.peers)

  -- snapshot keys: a peer that has a snapshot stays, and its hold has not ended
  abbrev pub staying_keys : List SnapshotKey
  staying_keys = only (λ (k : SnapshotKey). has_snapshot staying_peers k.peer) s.snapshot_keys

  snapshots-stay : (id : ℕ) → has_snapshot (map (age_peer is_held at age) kept) id ≡ has_snapshot staying_peers id
  unfolding has_snapshot expire_holds
  snapshots-stay id =
      let aged : List PeerRecord = map (age_peer is_held at age) kept in
      let taken : PeerRecord → Bool = λ (p : PeerRecord). eqb p.id id && is_taken p in
      any_same taken (λ (p : PeerRecord). stays is_held staying_contested p && taken p)
      (λ (p : PeerRecord). taken-stays (is_held p) (is_taken p) (any (λ (c : ContestedKey). eqb c.peer p.id) staying_contested) (eqb p.id id)) aged
      ∙ sym (any-only taken (stays is_held staying_contested) aged)
      ∙ ap (λ ps. has_snapshot ps id) (sym (ap (λ cs. only (stays is_held cs) aged) contested-stay) ∙ peers-stay)
    where
      taken-stays : (h t c i : Bool) → (i && t) ≡ ((h || (t || c)) && (i && t))
      taken-stays h true c i = sym (and-skip (h || true) (i && true) (or-true h))
      taken-stays h false c true = sym (and_second (h || c) false refl)
      taken-stays h false c false = sym (and_second (h || c) false refl)

  staying-known : (id : ℕ) → has_snapshot staying_peers id ≡ true → is_known kept id ≡ true
  unfolding has_snapshot is_known
  staying-known id e =
      any-weaker (λ (p : PeerRecord). eqb (age_peer is_held at age p).id id && is_taken (age_peer is_held at age p)) (λ (p : PeerRecord). eqb p.id id)
      (λ (p : PeerRecord) h.
      sym (ap (λ (n : ℕ). eqb n id) (aged-id at age p))
      ∙ (both (eqb (age_peer is_held at age p).id id) (is_taken (age_peer is_held at age p)) h).0)
      kept
      (sym (any-map (age_peer is_held at age) (λ (p : PeerRecord). eqb p.id id && is_taken p) kept) ∙ snapshots-stay id ∙ e)

  keys-stay : only (λ (k : SnapshotKey). has_snapshot (map (age_peer is_held at age) kept) k.peer) (only (λ (k : SnapshotKey). is_known kept k.peer) s.snapshot_keys) ≡ staying_keys
  keys-stay =
      only_same (λ (k : SnapshotKey). has_snapshot (map (age_peer is_held at age) kept) k.peer) (λ (k : SnapshotKey). has_snapshot staying_peers k.peer) (λ (k : SnapshotKey). snapshots-stay k.peer) (only (λ (k : SnapshotKey). is_known kept k.peer) s.snapshot_keys)
      ∙ only-only (λ (k : SnapshotKey). is_known kept k.peer) (λ (k : SnapshotKey). has_snapshot staying_peers k.peer) s.snapshot_keys
      ∙ only_same (λ (k : SnapshotKey). is_known kept k.peer && has_snapshot staying_peers k.peer) (λ (k : SnapshotKey). has_snapshot staying_peers k.peer)
      (λ (k : SnapshotKey). same_truth (is_known kept k.peer && has_snapshot staying_peers k.peer) (has_snapshot staying_peers k.peer)
      (λ e. (both (is_known kept k.peer) (has_snapshot staying_peers k.peer) e).1)
      (λ e. and_intro (is_known kept k.peer) (has_snapshot staying_peers k.peer) (staying-known k.peer e) e))
      s.snapshot_keys

  pub expire-stays : expire at age s ≡ record { peers = staying_peers; snapshot_keys = staying_keys; contested = staying_contested }
  unfolding expire expire_empty expire_age expire_holds
  expire-stays = (λ k. record { peers = peers-stay k; snapshot_keys = keys-stay k; contested = contested-stay k })

-- ---- the tables, step by step

module _ (p : PeerDemand) (t : PeerTables) (o : Tables p t) (at age : ℕ) where
  abbrev s : PeersState
  s = record { peers = map peer_of (records 12 p.peers t.peers); snapshot_keys = map snapshot_key_of (records 4 p.snapshot_keys t.snapshot_keys); contested = map contested_of (records 6 p.contested t.contested) }

  -- the contested keys that stay
  module _ (c : ℕ) (cs : List ℕ) (h : Tabled c (only (λ x. stays_contested at age (map peer_of (records 12 p.peers t.peers)) (contested_of x).peer (contested_of x).heard_at) (records 6 p.contested t.contested)) t.contested cs) where
    contested-stored : Tabled c (map contested_words (staying_contested at age s)) t.contested cs
    contested-stored = tabled-only contested_words contested_of 6 2 contested_size p.contested t.contested o.contested (λ (x : ContestedKey). stays_contested at age s.peers x.peer x.heard_at) c cs h

    contested-read : map contested_of (records 6 c cs) ≡ staying_contested at age s
    contested-read =
        ap (map contested_of) (tabled-records 6 c (map contested_words (staying_contested at age s)) t.contested cs (wide-map contested_words 6 contested-long (staying_contested at age s)) contested-stored)
        ∙ all_back contested_kind (staying_contested at age s)

    pub contested-order : in_order 6 2 c cs ≡ true
    contested-order =
        let i = in-order-says 6 2 p.contested t.contested o.contested.order in
        only-in-order 6 2 p.contested c (λ x. stays_contested at age s.peers (contested_of x).peer (contested_of x).heard_at) (records 6 p.contested t.contested) t.contested cs (omega arith) (omega arith) (omega arith) i.words (length-records 6 p.contested t.contested) i.wide i.order h

    -- the peers that stay
    abbrev aged_words : List (List ℕ)
    aged_words = map (λ x. peer_words (age_peer is_held at age (peer_of x))) (records 12 p.peers t.peers)

    abbrev stays_by : List ℕ → Bool
    stays_by x = stays_peer at (map contested_of (records 6 c cs)) (peer_of x).id (peer_of x).held_until (is_taken (peer_of x))

    module _ (n : ℕ) (ps : List ℕ) (b : Tabled n (only stays_by aged_words) t.peers ps) where
      short : Short (map (age_peer is_held at age) s.peers)
      short = short-aged at age s.peers (short-records (records 12 p.peers t.peers) (in-order-says 12 1 p.peers t.peers o.peers.order).wide)

      aged : aged_words ≡ map peer_words (map (age_peer is_held at age) s.peers)
      aged =
          sym (map-map (λ (x : PeerRecord). peer_words (age_peer is_held at age x)) peer_of (records 12 p.peers t.peers))
          ∙ sym (map-map peer_words (age_peer is_held at age) s.peers)

      peers-stored : Tabled n (map peer_words (staying_peers at age s)) t.peers ps
      peers-stored = subst (λ (rs : List (List ℕ)). Tabled n rs t.peers ps)
          ((λ k. only (λ x. stays_peer at (contested-read k) (peer_of x).id (peer_of x).held_until (is_taken (peer_of x))) (aged k))
          ∙ peers-only (λ (x : PeerRecord). stays_peer at (staying_contested at age s) x.id x.held_until (is_taken x)) (map (age_peer is_held at age) s.peers) short)
          b

      peers-read : map peer_of (records 12 n ps) ≡ staying_peers at age s
      peers-read =
          ap (map peer_of) (tabled-records 12 n (map peer_words (staying_peers at age s)) t.peers ps (wide-map peer_words 12 peer-long (staying_peers at age s)) peers-stored)
          ∙ peers-back (staying_peers at age s) (short-only (λ (x : PeerRecord). stays_peer at (staying_contested at age s) x.id x.held_until (is_taken x)) (map (age_peer is_held at age) s.peers) short)

      pub peers-order : in_order 12 1 n ps ≡ true
      unfolding peer_words
      peers-order =
          let i = in-order-says 12 1 p.peers t.peers o.peers.order in
          only-in-order 12 1 p.peers n stays_by aged_words t.peers ps (omega arith) (omega arith) (omega arith) i.words
          (length-map (records 12 p.peers t.peers) (λ x. peer_words (age_peer is_held at age (peer_of x))) ∙ length-records 12 p.peers t.peers)
          (wide-map (λ x. peer_words (age_peer is_held at age (peer_of x))) 12 (λ x. peer-long (age_peer is_held at age (peer_of x))) (records 12 p.peers t.peers))
          (ap (ascending 1) (aged ∙ map-map peer_words (age_peer is_held at age) s.peers)
          ∙ ascending-same 1 (λ (x : PeerRecord). peer_words (age_peer is_held at age x)) peer_words (λ (x : PeerRecord). ap (λ (m : ℕ). m ∷ []) (aged-id at age x)) s.peers
          ∙ ap (ascending 1) (words-of-exact peer_words peer_of (records 12 p.peers t.peers) o.peers.exactly)
          ∙ i.order)
          b

      -- the snapshot keys that stay, and all three
      pub expired :
          (k : ℕ) (ks : List ℕ)
          → Tabled k (only (λ x. has_snapshot (map peer_of (records 12 n ps)) (snapshot_key_of x).peer) (records 4 p.snapshot_keys t.snapshot_keys)) t.snapshot_keys ks
          → Stores (expire at age (state_of p t)) p t (record { peers = n; snapshot_keys = k; contested = c }) (record { peers = ps; snapshot_keys = ks; contested = cs })
      unfolding state_of
      expired k ks d =
          let e : only (λ x. has_snapshot (map peer_of (records 12 n ps)) (snapshot_key_of x).peer) (records 4 p.snapshot_keys t.snapshot_keys) ≡ only (λ x. has_snapshot (staying_peers at age s) (snapshot_key_of x).peer) (records 4 p.snapshot_keys t.snapshot_keys) =
          ap (λ (qs : List PeerRecord). only (λ x. has_snapshot qs (snapshot_key_of x).peer) (records 4 p.snapshot_keys t.snapshot_keys)) peers-read in
          subst (λ (x : PeersState). Stores x p t (record { peers = n; snapshot_keys = k; contested = c }) (record { peers = ps; snapshot_keys = ks; contested = cs })) (sym (expire-stays at age s))
          (stores-of p (record { peers = staying_peers at age s; snapshot_keys = staying_keys at age s; contested = staying_contested at age s }) n k c t ps ks cs
          peers-stored
          (tabled-only snapshot_key_words snapshot_key_of 4 2 snapshot_keys_size p.snapshot_keys t.snapshot_keys o.snapshot_keys (λ (x : SnapshotKey). has_snapshot (staying_peers at age s) x.peer) k ks
          (subst (λ (rs : List (List ℕ)). Tabled k rs t.snapshot_keys ks) e d))
          contested-stored)
