-- Laws: a departure and expiry keep the state valid.
use Rattle.std.proofs.Common.{◌≡◌, ℕ, ◌+◌, ◌*◌, ◌^◌, ◌≤◌, Bool, true, false, cond, not, ◌&&◌, ◌||◌, eqb, ltb, leb, List, [], ◌∷◌, ◌++◌, map, length, get_or, sym, refl, ap, ◌∙◌, subst, arith, take-append-drop, ltb-true, lt-ltb, eq-eqb, ne_eqb, eqb-true, le-leb, leb-true}
use mathlib.Core.Bool.{and_comm, and-not_self}
use borrow.Author.Tests.{eqb-false}
use lib.ListN.{length-map}
use Rattle.records.specs.Records.{ascending, lower_bound}
use Rattle.questions.proofs.Tests.{split, both, and_intro}
use Rattle.records.proofs.Order.SearchLaws.{Cut}
use Rattle.questions.specs.Lists.{only, all, any, those, replaced, present}
use Rattle.peers.specs.Peers.Records.{Snapshot, PeerRecord, SnapshotKey, ContestedKey, peer_words, snapshot_key_words, contested_words}
use Rattle.peers.specs.Peers.State.{PeersState, max_peers, max_demand_keys, max_contested, valid, valid_peers, valid_peer, valid_snapshot_keys, valid_snapshot_key, valid_contesteds, valid_contested, is_taken, is_held, is_known, has_snapshot}
use Rattle.records.specs.Typed.{is_word, first_word}
use Rattle.peers.specs.Peers.Changes.{forget, hold, hold_peer, leave, later, hold_ended, not_ended, expire, age_peer}
use Rattle.peers.specs.Peers.Steps.Stays.{stays_contested, stays_peer}
use Rattle.questions.proofs.ListLaws.{all_map, any-map, map-map}
use Rattle.questions.proofs.OnlyLaws.{only_yes, only_no, only-append, only_same, only-only, map-append, map-self, any_same, any-only, after_test, equal-test, length-only}
use Rattle.records.proofs.Order.RangeLaws.{only-front-by, only-back-by, first-cut}
use Rattle.records.proofs.Tables.TypedLaws.{wide-map}
use Rattle.peers.proofs.Peers.Tables.WordLaws.{peer-long, key-long, contested-long}
use Rattle.peers.proofs.Peers.Tables.StoreLaws.{leaves-held, leaves-now}
use Rattle.peers.proofs.Peers.Departures.ExpireLaws.{ascending-by, ascending-same, any-weaker, bare, keeps, aged-id, aged-held, staying_contested, staying_peers, staying_keys, expire-stays}
use Rattle.std.specs.declared.option.Option.{Option}
use Rattle.std.specs.declared.option.Option.TheVariants.{None, Some}

-- ---- a list that ascends by a number, in its parts

none_pass : {A : Type 0} (xs : List A) → only (λ x. false) xs ≡ []
unfolding only
none_pass [] = refl
none_pass (x ∷ xs) = none_pass xs

map-where : {A B : Type 0} (f g : A → B) (p : A → Bool) → ((x : A) → p x ≡ true → f x ≡ g x) → (xs : List A) → map f (only p xs) ≡ map g (only p xs)
unfolding only
map-where f g p h [] = refl
map-where f g p h (x ∷ xs) = split (p x)
    (λ e. ap (map f) (only_yes p x xs e) ∙ (λ k. h x e k ∷ map-where f g p h xs k) ∙ sym (ap (map g) (only_yes p x xs e)))
    (λ e. ap (map f) (only_no p x xs e) ∙ map-where f g p h xs ∙ sym (ap (map g) (only_no p x xs e)))

module _ {A : Type 0} (words : A → List ℕ) (d w : ℕ) (hd : 1 ≤ d) (hw : 1 ≤ w) (long : (x : A) → length (words x) ≡ w) where
  abbrev number : A → ℕ
  number x = first_word (words x)

  -- those below a, then the others
  halves : (a : ℕ) (xs : List A) → ascending d (map words xs) ≡ true → only (λ x. ltb (number x) a) xs ++ only (λ x. not (ltb (number x) a)) xs ≡ xs
  halves a xs e =
      let c : Cut (λ n. ltb (first_word (get_or (map words xs) n [])) a) (length xs) (lower_bound 1 (a ∷ []) (map words xs)) =
      subst (λ (n : ℕ). Cut (λ i. ltb (first_word (get_or (map words xs) i [])) a) n (lower_bound 1 (a ∷ []) (map words xs))) (length-map xs words) (first-cut d w a (map words xs) hd hw (wide-map words w long xs) e) in
      (λ k. only-front-by words (λ r. ltb (first_word r) a) [] xs (lower_bound 1 (a ∷ []) (map words xs)) c k ++ only-back-by words (λ r. ltb (first_word r) a) [] xs (lower_bound 1 (a ∷ []) (map words xs)) c k)
      ∙ take-append-drop (lower_bound 1 (a ∷ []) (map words xs)) xs

  -- those below a, those of a, those above it
  parts : (a : ℕ) (xs : List A) → ascending d (map words xs) ≡ true → xs ≡ only (λ x. ltb (number x) a) xs ++ (only (λ x. eqb (number x) a) xs ++ only (λ x. ltb a (number x)) xs)
  parts a xs e =
      let ys : List A = only (λ x. not (ltb (number x) a)) xs in
      let eq : only (λ x. ltb (number x) (a + 1)) ys ≡ only (λ x. eqb (number x) a) xs =
      only-only (λ x. not (ltb (number x) a)) (λ x. ltb (number x) (a + 1)) xs
      ∙ only_same (λ x. not (ltb (number x) a) && ltb (number x) (a + 1)) (λ x. eqb (number x) a) (λ x. and_comm (not (ltb (number x) a)) (ltb (number x) (a + 1)) ∙ sym (equal-test (number x) a)) xs in
      let gt : only (λ x. not (ltb (number x) (a + 1))) ys ≡ only (λ x. ltb a (number x)) xs =
      only-only (λ x. not (ltb (number x) a)) (λ x. not (ltb (number x) (a + 1))) xs
      ∙ only_same (λ x. not (ltb (number x) a) && not (ltb (number x) (a + 1))) (λ x. ltb a (number x)) (λ x. above (number x) a ∙ sym (after_test (number x) a)) xs in
      sym (halves a xs e)
      ∙ ap (λ l. only (λ x. ltb (number x) a) xs ++ l) (sym (halves (a + 1) ys (ascending-by d words (λ x. not (ltb (number x) a)) xs e)) ∙ (λ k. eq k ++ gt k))
    where
      above : (x y : ℕ) → (not (ltb x y) && not (ltb x (y + 1))) ≡ not (ltb x (y + 1))
      above x y = split (ltb x y)
          (λ f. (λ k. not (f k) && not (lt-ltb x (y + 1) (omega (arith, ltb-true x y f)) k)) ∙ sym (ap not (lt-ltb x (y + 1) (omega (arith, ltb-true x y f)))))
          (λ f. ap (λ (b : Bool). not b && not (ltb x (y + 1))) f)

  -- nothing for those of a: they are dropped
  pub dropped : (a : ℕ) (xs : List A) → ascending d (map words xs) ≡ true → replaced number a [] xs ≡ only (λ x. not (eqb (number x) a)) xs
  unfolding replaced
  dropped a xs e = sym
      (ap (only (λ x. not (eqb (number x) a))) (parts a xs e)
      ∙ only-append (λ x. not (eqb (number x) a)) (only (λ x. ltb (number x) a) xs) (only (λ x. eqb (number x) a) xs ++ only (λ x. ltb a (number x)) xs)
      ∙ (λ k.
      (only-only (λ x. ltb (number x) a) (λ x. not (eqb (number x) a)) xs ∙ only_same (λ x. ltb (number x) a && not (eqb (number x) a)) (λ x. ltb (number x) a) (λ x. less (number x) a) xs) k
      ++ (only-append (λ x. not (eqb (number x) a)) (only (λ x. eqb (number x) a) xs) (only (λ x. ltb a (number x)) xs)
      ∙ (λ m.
      (only-only (λ x. eqb (number x) a) (λ x. not (eqb (number x) a)) xs ∙ only_same (λ x. eqb (number x) a && not (eqb (number x) a)) (λ x. false) (λ x. and-not_self (eqb (number x) a)) xs ∙ none_pass xs) m
      ++ (only-only (λ x. ltb a (number x)) (λ x. not (eqb (number x) a)) xs ∙ only_same (λ x. ltb a (number x) && not (eqb (number x) a)) (λ x. ltb a (number x)) (λ x. more (number x) a) xs) m)) k))
    where
      less : (x y : ℕ) → (ltb x y && not (eqb x y)) ≡ ltb x y
      less x y = split (ltb x y) (λ f. (λ k. f k && not (ne_eqb x y (λ q. omega (arith, ltb-true x y f)) k)) ∙ sym f) (λ f. ap (λ (b : Bool). b && not (eqb x y)) f ∙ sym f)

      more : (x y : ℕ) → (ltb y x && not (eqb x y)) ≡ ltb y x
      more x y = split (ltb y x) (λ f. (λ k. f k && not (ne_eqb x y (λ q. omega (arith, ltb-true y x f)) k)) ∙ sym f) (λ f. ap (λ (b : Bool). b && not (eqb x y)) f ∙ sym f)

  -- others for those of a: they are changed in their places
  pub changed : (g : A → A) (a : ℕ) (xs : List A) → ascending d (map words xs) ≡ true → replaced number a (map g (those number a xs)) xs ≡ map (λ x. cond (eqb (number x) a) (g x) x) xs
  unfolding replaced those
  changed g a xs e =
      let f : A → A = λ x. cond (eqb (number x) a) (g x) x in
      sym
      (ap (map f) (parts a xs e)
      ∙ map-append f (only (λ x. ltb (number x) a) xs) (only (λ x. eqb (number x) a) xs ++ only (λ x. ltb a (number x)) xs)
      ∙ (λ k.
      (map-where f (λ x. x) (λ x. ltb (number x) a) (λ x q. ap (λ (b : Bool). cond b (g x) x) (ne_eqb (number x) a (λ z. omega (arith, ltb-true (number x) a q)))) xs ∙ map-self (only (λ x. ltb (number x) a) xs)) k
      ++ (map-append f (only (λ x. eqb (number x) a) xs) (only (λ x. ltb a (number x)) xs)
      ∙ (λ m.
      map-where f g (λ x. eqb (number x) a) (λ x q. ap (λ (b : Bool). cond b (g x) x) q) xs m
      ++ (map-where f (λ x. x) (λ x. ltb a (number x)) (λ x q. ap (λ (b : Bool). cond b (g x) x) (ne_eqb (number x) a (λ z. omega (arith, ltb-true a (number x) q)))) xs ∙ map-self (only (λ x. ltb a (number x)) xs)) m)) k))

-- ---- all of a list

all_weaker : {A : Type 0} (p q : A → Bool) → ((x : A) → p x ≡ true → q x ≡ true) → (xs : List A) → all p xs ≡ true → all q xs ≡ true
unfolding all
all_weaker p q h [] e = e
all_weaker p q h (x ∷ xs) e =
    let b = both (p x) (all p xs) e in
    and_intro (q x) (all q xs) (h x b.0) (all_weaker p q h xs b.1)

-- of what passes another test
all-where : {A : Type 0} (p q r : A → Bool) → ((x : A) → q x ≡ true → p x ≡ true → r x ≡ true) → (xs : List A) → all p xs ≡ true → all r (only q xs) ≡ true
unfolding all only
all-where p q r h [] e = refl
all-where p q r h (x ∷ xs) e =
    let b = both (p x) (all p xs) e in
    split (q x)
    (λ f. ap (all r) (only_yes q x xs f) ∙ and_intro (r x) (all r (only q xs)) (h x f b.0) (all-where p q r h xs b.1))
    (λ f. ap (all r) (only_no q x xs f) ∙ all-where p q r h xs b.1)

all-weaker-both : {A : Type 0} (p q r : A → Bool) → ((x : A) → p x ≡ true → q x ≡ true → r x ≡ true) → (xs : List A) → all p xs ≡ true → all q xs ≡ true → all r xs ≡ true
unfolding all
all-weaker-both p q r h [] e f = e
all-weaker-both p q r h (x ∷ xs) e f =
    let b = both (p x) (all p xs) e in
    let c = both (q x) (all q xs) f in
    and_intro (r x) (all r xs) (h x b.0 c.0) (all-weaker-both p q r h xs b.1 c.1)

all_true : {A : Type 0} (xs : List A) → all (λ x. true) xs ≡ true
unfolding all
all_true [] = refl
all_true (x ∷ xs) = all_true xs

-- each is one of them
all_in : {A : Type 0} (number : A → ℕ) (ys xs : List A) → ((p : A → Bool) → any p xs ≡ true → any p ys ≡ true) → all (λ x. any (λ y. eqb (number y) (number x)) ys) xs ≡ true
unfolding all any
all_in number ys [] h = refl
all_in number ys (x ∷ xs) h =
    and_intro (any (λ y. eqb (number y) (number x)) ys) (all (λ z. any (λ y. eqb (number y) (number z)) ys) xs)
    (h (λ y. eqb (number y) (number x)) (ap (λ (b : Bool). b || any (λ y. eqb (number y) (number x)) xs) (eq-eqb (number x) (number x) refl)))
    (all_in number ys xs (λ p e. h p (split (p x) (λ f. ap (λ (b : Bool). b || any p xs) f) (λ f. ap (λ (b : Bool). b || any p xs) f ∙ e))))

-- ---- keys of either kind

abbrev keys_valid : {A : Type 0} → (A → List ℕ) → (A → Bool) → (A → ℕ) → (List PeerRecord → ℕ → Bool) → ℕ → ℕ → List PeerRecord → List A → Bool
keys_valid words good peer ref most bound ps ks =
    leb (length ks) most
    && (all good ks
    && (ascending 2 (map words ks)
    && (all (λ k. ref ps (peer k)) ks
    && all (λ (p : PeerRecord). leb (length (those peer p.id ks)) bound) ps)))

-- the peers of one list have their ids in another
abbrev Among : List PeerRecord → List PeerRecord → Type 0
Among ps qs = (f : ℕ → Bool) → all (λ (p : PeerRecord). f p.id) ps ≡ true → all (λ (p : PeerRecord). f p.id) qs ≡ true

among-only : (q : PeerRecord → Bool) (ps : List PeerRecord) → Among ps (only q ps)
among-only q ps f e = all-where (λ (p : PeerRecord). f p.id) q (λ (p : PeerRecord). f p.id) (λ p g h. h) ps e

among-map : (g : PeerRecord → PeerRecord) → ((p : PeerRecord) → (g p).id ≡ p.id) → (ps : List PeerRecord) → Among ps (map g ps)
among-map g h ps f e = all_map g (λ (p : PeerRecord). f p.id) ps ∙ all_weaker (λ (p : PeerRecord). f p.id) (λ (p : PeerRecord). f (g p).id) (λ p k. ap f (h p) ∙ k) ps e

fewer : {A : Type 0} (peer : A → ℕ) (q : A → Bool) (id : ℕ) (ks : List A) → length (those peer id (only q ks)) ≤ length (those peer id ks)
unfolding those
fewer peer q id ks =
    let e : only (λ x. eqb (peer x) id) (only q ks) ≡ only q (only (λ x. eqb (peer x) id) ks) =
    only-only q (λ x. eqb (peer x) id) ks
    ∙ only_same (λ x. q x && eqb (peer x) id) (λ x. eqb (peer x) id && q x) (λ x. and_comm (q x) (eqb (peer x) id)) ks
    ∙ sym (only-only (λ x. eqb (peer x) id) q ks) in
    subst (λ l. length l ≤ length (only (λ x. eqb (peer x) id) ks)) (sym e) (length-only q (only (λ x. eqb (peer x) id) ks))

module _ {A : Type 0} (words : A → List ℕ) (good : A → Bool) (peer : A → ℕ) (ref : List PeerRecord → ℕ → Bool) (most bound : ℕ) where
  keys_kept : (q : A → Bool) (ps qs : List PeerRecord) (ks : List A) → keys_valid words good peer ref most bound ps ks ≡ true → all (λ k. ref qs (peer k)) (only q ks) ≡ true → Among ps qs → keys_valid words good peer ref most bound qs (only q ks) ≡ true
  keys_kept q ps qs ks v r m =
      let a = both (leb (length ks) most) _ v in
      let b = both (all good ks) _ a.1 in
      let c = both (ascending 2 (map words ks)) _ b.1 in
      let d = both (all (λ k. ref ps (peer k)) ks) _ c.1 in
      and_intro (leb (length (only q ks)) most) _ (le-leb (length (only q ks)) most (omega (arith, leb-true (length ks) most a.0, length-only q ks)))
      (and_intro (all good (only q ks)) _ (all-where good q good (λ x e f. f) ks b.0)
      (and_intro (ascending 2 (map words (only q ks))) _ (ascending-by 2 words q ks c.0)
      (and_intro (all (λ k. ref qs (peer k)) (only q ks)) _ r
      (m (λ (id : ℕ). leb (length (those peer id (only q ks))) bound)
      (all_weaker (λ (p : PeerRecord). leb (length (those peer p.id ks)) bound) (λ (p : PeerRecord). leb (length (those peer p.id (only q ks))) bound)
      (λ (p : PeerRecord) e. le-leb (length (those peer p.id (only q ks))) bound (omega (arith, leb-true (length (those peer p.id ks)) bound e, fewer peer q p.id ks)))
      ps d.1)))))

  keys-still : (ps qs : List PeerRecord) (ks : List A) → keys_valid words good peer ref most bound ps ks ≡ true → all (λ k. ref qs (peer k)) ks ≡ true → Among ps qs → keys_valid words good peer ref most bound qs ks ≡ true
  keys-still ps qs ks v r m =
      let a = both (leb (length ks) most) _ v in
      let b = both (all good ks) _ a.1 in
      let c = both (ascending 2 (map words ks)) _ b.1 in
      let d = both (all (λ k. ref ps (peer k)) ks) _ c.1 in
      and_intro (leb (length ks) most) _ a.0
      (and_intro (all good ks) _ b.0
      (and_intro (ascending 2 (map words ks)) _ c.0
      (and_intro (all (λ k. ref qs (peer k)) ks) _ r (m (λ (id : ℕ). leb (length (those peer id ks)) bound) d.1))))

  keys-refs : (ps : List PeerRecord) (ks : List A) → keys_valid words good peer ref most bound ps ks ≡ true → (all (λ k. ref ps (peer k)) ks ≡ true) × (ascending 2 (map words ks) ≡ true)
  keys-refs ps ks v =
      let c = both (ascending 2 (map words ks)) _ (both (all good ks) _ (both (leb (length ks) most) _ v).1).1 in
      ((both (all (λ k. ref ps (peer k)) ks) _ c.1).0, c.0)

-- ---- peers

module _ (ps : List PeerRecord) (v : valid_peers ps ≡ true) where
  few_peers : leb (length ps) max_peers ≡ true
  unfolding valid_peers
  few_peers = (both (leb (length ps) max_peers) _ v).0

  good-peers : all valid_peer ps ≡ true
  unfolding valid_peers
  good-peers = (both (all valid_peer ps) _ (both (leb (length ps) max_peers) _ v).1).0

  peers_ascend : ascending 1 (map peer_words ps) ≡ true
  unfolding valid_peers
  peers_ascend = (both (all valid_peer ps) _ (both (leb (length ps) max_peers) _ v).1).1

  peers-some : (q : PeerRecord → Bool) → valid_peers (only q ps) ≡ true
  unfolding valid_peers
  peers-some q =
      and_intro (leb (length (only q ps)) max_peers) _ (le-leb (length (only q ps)) max_peers (omega (arith, leb-true (length ps) max_peers few_peers, length-only q ps)))
      (and_intro (all valid_peer (only q ps)) _ (all-where valid_peer q valid_peer (λ p e f. f) ps good-peers) (ascending-by 1 peer_words q ps peers_ascend))

  peers-changed : (g : PeerRecord → PeerRecord) → ((p : PeerRecord) → (g p).id ≡ p.id) → ((p : PeerRecord) → valid_peer p ≡ true → valid_peer (g p) ≡ true) → valid_peers (map g ps) ≡ true
  unfolding valid_peers peer_words
  peers-changed g h k =
      and_intro (leb (length (map g ps)) max_peers) _ (ap (λ (n : ℕ). leb n max_peers) (length-map ps g) ∙ few_peers)
      (and_intro (all valid_peer (map g ps)) _ (all_map g valid_peer ps ∙ all_weaker valid_peer (λ p. valid_peer (g p)) k ps good-peers)
      (ap (ascending 1) (map-map peer_words g ps) ∙ ascending-same 1 (λ p. peer_words (g p)) peer_words (λ (p : PeerRecord). ap (λ (n : ℕ). n ∷ []) (h p)) ps ∙ peers_ascend))

-- ---- the parts of validity

module _ (s : PeersState) (v : valid s ≡ true) where
  peers-valid : valid_peers s.peers ≡ true
  unfolding valid
  peers-valid = (both (valid_peers s.peers) _ v).0

  keys-valid : keys_valid snapshot_key_words valid_snapshot_key (λ (k : SnapshotKey). k.peer) has_snapshot (max_peers * max_demand_keys) max_demand_keys s.peers s.snapshot_keys ≡ true
  unfolding valid valid_snapshot_keys
  keys-valid = (both (valid_snapshot_keys s.peers s.snapshot_keys) _ (both (valid_peers s.peers) _ v).1).0

  contested-valid : keys_valid contested_words valid_contested (λ (c : ContestedKey). c.peer) is_known (max_peers * max_contested) max_contested s.peers s.contested ≡ true
  unfolding valid valid_contesteds
  contested-valid = (both (valid_snapshot_keys s.peers s.snapshot_keys) _ (both (valid_peers s.peers) _ v).1).1

valid-by :
    (ps : List PeerRecord) (ks : List SnapshotKey) (cs : List ContestedKey)
    → valid_peers ps ≡ true
    → keys_valid snapshot_key_words valid_snapshot_key (λ (k : SnapshotKey). k.peer) has_snapshot (max_peers * max_demand_keys) max_demand_keys ps ks ≡ true
    → keys_valid contested_words valid_contested (λ (c : ContestedKey). c.peer) is_known (max_peers * max_contested) max_contested ps cs ≡ true
    → valid (record { peers = ps; snapshot_keys = ks; contested = cs }) ≡ true
unfolding valid valid_snapshot_keys valid_contesteds
valid-by ps ks cs a b c = and_intro (valid_peers ps) _ a (and_intro (valid_snapshot_keys ps ks) (valid_contesteds ps cs) b c)

-- ---- forget

-- a test that only a peer of that id passes
other-stays : (t : PeerRecord → ℕ → Bool) → ((p : PeerRecord) (j : ℕ) → t p j ≡ true → p.id ≡ j) → (id j : ℕ) (ps : List PeerRecord) → not (eqb j id) ≡ true → any (λ p. t p j) ps ≡ true → any (λ p. t p j) (only (λ (p : PeerRecord). not (eqb p.id id)) ps) ≡ true
other-stays t h id j ps n e =
    any-only (λ p. t p j) (λ (p : PeerRecord). not (eqb p.id id)) ps
    ∙ any-weaker (λ p. t p j) (λ p. not (eqb p.id id) && t p j) (λ p f. and_intro (not (eqb p.id id)) (t p j) (ap (λ (m : ℕ). not (eqb m id)) (h p j f) ∙ n) f) ps e

taken-id : (p : PeerRecord) (j : ℕ) → (eqb p.id j && is_taken p) ≡ true → p.id ≡ j
taken-id p j e = eqb-true p.id j (both (eqb p.id j) (is_taken p) e).0

pub forget-valid : (id : ℕ) (s : PeersState) → valid s ≡ true → valid (forget id s) ≡ true
unfolding forget peer_words snapshot_key_words contested_words has_snapshot is_known
forget-valid id s v =
    let vp = peers-valid s v in
    let vk = keys-valid s v in
    let vc = contested-valid s v in
    let rk = keys-refs snapshot_key_words valid_snapshot_key (λ (k : SnapshotKey). k.peer) has_snapshot (max_peers * max_demand_keys) max_demand_keys s.peers s.snapshot_keys vk in
    let rc = keys-refs contested_words valid_contested (λ (c : ContestedKey). c.peer) is_known (max_peers * max_contested) max_contested s.peers s.contested vc in
    let ps : List PeerRecord = only (λ (p : PeerRecord). not (eqb p.id id)) s.peers in
    let e : forget id s ≡ record { peers = ps; snapshot_keys = only (λ (k : SnapshotKey). not (eqb k.peer id)) s.snapshot_keys; contested = only (λ (c : ContestedKey). not (eqb c.peer id)) s.contested } =
    (λ i. record {
      peers = dropped peer_words 1 12 (omega arith) (omega arith) peer-long id s.peers (peers_ascend s.peers vp) i;
      snapshot_keys = dropped snapshot_key_words 2 4 (omega arith) (omega arith) key-long id s.snapshot_keys rk.1 i;
      contested = dropped contested_words 2 6 (omega arith) (omega arith) contested-long id s.contested rc.1 i;
    }) in
    ap valid e
    ∙ valid-by ps _ _ (peers-some s.peers vp (λ (p : PeerRecord). not (eqb p.id id)))
    (keys_kept snapshot_key_words valid_snapshot_key (λ (k : SnapshotKey). k.peer) has_snapshot (max_peers * max_demand_keys) max_demand_keys (λ (k : SnapshotKey). not (eqb k.peer id)) s.peers ps s.snapshot_keys vk
    (all-where (λ (k : SnapshotKey). has_snapshot s.peers k.peer) (λ (k : SnapshotKey). not (eqb k.peer id)) (λ (k : SnapshotKey). has_snapshot ps k.peer)
    (λ (k : SnapshotKey) f g. other-stays (λ (p : PeerRecord) (j : ℕ). eqb p.id j && is_taken p) taken-id id k.peer s.peers f g) s.snapshot_keys rk.0)
    (among-only (λ (p : PeerRecord). not (eqb p.id id)) s.peers))
    (keys_kept contested_words valid_contested (λ (c : ContestedKey). c.peer) is_known (max_peers * max_contested) max_contested (λ (c : ContestedKey). not (eqb c.peer id)) s.peers ps s.contested vc
    (all-where (λ (c : ContestedKey). is_known s.peers c.peer) (λ (c : ContestedKey). not (eqb c.peer id)) (λ (c : ContestedKey). is_known ps c.peer)
    (λ (c : ContestedKey) f g. other-stays (λ (p : PeerRecord) (j : ℕ). eqb p.id j) (λ (p : PeerRecord) (j : ℕ) h. eqb-true p.id j h) id c.peer s.peers f g) s.contested rc.0)
    (among-only (λ (p : PeerRecord). not (eqb p.id id)) s.peers))

-- ---- leave

hold-valid-by : (until id : ℕ) (held : Option ℕ) (taken : Option Snapshot) (past : List ℕ) → is_word until ≡ true → valid_peer (record { id = id; held_until = held; snapshot = taken; past_epochs = past }) ≡ true → valid_peer (record { id = id; held_until = Some until; snapshot = taken; past_epochs = past }) ≡ true
unfolding valid_peer peer_words all
hold-valid-by until id None taken past u v =
    let a = both (all is_word (peer_words (record { id = id; held_until = None; snapshot = taken; past_epochs = past }))) _ v in
    let b = both (is_word id) _ a.0 in
    and_intro (all is_word (peer_words (record { id = id; held_until = Some until; snapshot = taken; past_epochs = past }))) _ (and_intro (is_word id) _ b.0 (and_intro (is_word until) _ u b.1)) a.1
hold-valid-by until id (Some t) taken past u v =
    let a = both (all is_word (peer_words (record { id = id; held_until = Some t; snapshot = taken; past_epochs = past }))) _ v in
    let b = both (is_word id) _ a.0 in
    let c = both (is_word t) _ b.1 in
    and_intro (all is_word (peer_words (record { id = id; held_until = Some until; snapshot = taken; past_epochs = past }))) _ (and_intro (is_word id) _ b.0 (and_intro (is_word until) _ u c.1)) a.1

-- a peer of that id with a hold, any other as it is
abbrev held-if : ℕ → ℕ → PeerRecord → PeerRecord
held-if id until p = cond (eqb p.id id) (hold until p) p

held-id : (b : Bool) (until : ℕ) (p : PeerRecord) → (cond b (hold until p) p).id ≡ p.id
held-id true until p = refl
held-id false until p = refl

held-taken : (b : Bool) (until : ℕ) (p : PeerRecord) → is_taken (cond b (hold until p) p) ≡ is_taken p
held-taken true until p = refl
held-taken false until p = refl

held-good : (b : Bool) (until : ℕ) (p : PeerRecord) → is_word until ≡ true → valid_peer p ≡ true → valid_peer (cond b (hold until p) p) ≡ true
held-good true until p u v = hold-valid-by until p.id p.held_until p.snapshot p.past_epochs u v
held-good false until p u v = v

pub hold-valid : (id until : ℕ) (s : PeersState) → is_word until ≡ true → valid s ≡ true → valid (hold_peer id until s) ≡ true
unfolding hold_peer peer_words has_snapshot is_known
hold-valid id until s u v =
    let vp = peers-valid s v in
    let vk = keys-valid s v in
    let vc = contested-valid s v in
    let rk = keys-refs snapshot_key_words valid_snapshot_key (λ (k : SnapshotKey). k.peer) has_snapshot (max_peers * max_demand_keys) max_demand_keys s.peers s.snapshot_keys vk in
    let rc = keys-refs contested_words valid_contested (λ (c : ContestedKey). c.peer) is_known (max_peers * max_contested) max_contested s.peers s.contested vc in
    let e : hold_peer id until s ≡ record { peers = map (held-if id until) s.peers; snapshot_keys = s.snapshot_keys; contested = s.contested } =
    ap (λ ps. record { peers = ps; snapshot_keys = s.snapshot_keys; contested = s.contested }) (changed peer_words 1 12 (omega arith) (omega arith) peer-long (hold until) id s.peers (peers_ascend s.peers vp)) in
    ap valid e
    ∙ valid-by (map (held-if id until) s.peers) s.snapshot_keys s.contested
    (peers-changed s.peers vp (held-if id until) (λ p. held-id (eqb p.id id) until p) (λ p w. held-good (eqb p.id id) until p u w))
    (keys-still snapshot_key_words valid_snapshot_key (λ (k : SnapshotKey). k.peer) has_snapshot (max_peers * max_demand_keys) max_demand_keys s.peers (map (held-if id until) s.peers) s.snapshot_keys vk
    (all_weaker (λ (k : SnapshotKey). has_snapshot s.peers k.peer) (λ (k : SnapshotKey). has_snapshot (map (held-if id until) s.peers) k.peer)
    (λ (k : SnapshotKey) f.
    any-map (held-if id until) (λ (p : PeerRecord). eqb p.id k.peer && is_taken p) s.peers
    ∙ any_same (λ (p : PeerRecord). eqb (held-if id until p).id k.peer && is_taken (held-if id until p)) (λ (p : PeerRecord). eqb p.id k.peer && is_taken p)
    (λ p. (λ i. eqb (held-id (eqb p.id id) until p i) k.peer && held-taken (eqb p.id id) until p i)) s.peers
    ∙ f)
    s.snapshot_keys rk.0)
    (among-map (held-if id until) (λ p. held-id (eqb p.id id) until p) s.peers))
    (keys-still contested_words valid_contested (λ (c : ContestedKey). c.peer) is_known (max_peers * max_contested) max_contested s.peers (map (held-if id until) s.peers) s.contested vc
    (all_weaker (λ (c : ContestedKey). is_known s.peers c.peer) (λ (c : ContestedKey). is_known (map (held-if id until) s.peers) c.peer)
    (λ (c : ContestedKey) f.
    any-map (held-if id until) (λ (p : PeerRecord). eqb p.id c.peer) s.peers
    ∙ any_same (λ (p : PeerRecord). eqb (held-if id until p).id c.peer) (λ (p : PeerRecord). eqb p.id c.peer)
    (λ p. ap (λ (m : ℕ). eqb m c.peer) (held-id (eqb p.id id) until p)) s.peers
    ∙ f)
    s.contested rc.0)
    (among-map (held-if id until) (λ p. held-id (eqb p.id id) until p) s.peers))

pub leave-valid : (id at time : ℕ) (s : PeersState) → valid s ≡ true → valid (leave id at time s) ≡ true
leave-valid id at time s v = split (eqb time 0)
    (λ e. ap valid (leaves-now id at time s (eqb-true time 0 e)) ∙ forget-valid id s v)
    (λ e. ap valid (leaves-held id at time s (eqb-false time 0 e)) ∙ hold-valid id (later at time) s (lt-ltb (later at time) (2 ^ 64) (omega arith)) v)

-- ---- expire

aged-valid-by : (id : ℕ) (held : Option ℕ) (taken : Option Snapshot) (past : List ℕ) → valid_peer (record { id = id; held_until = held; snapshot = taken; past_epochs = past }) ≡ true → valid_peer (record { id = id; held_until = held; snapshot = None; past_epochs = [] }) ≡ true
unfolding valid_peer peer_words all
aged-valid-by id None taken past v =
    let a = both (all is_word (peer_words (record { id = id; held_until = None; snapshot = taken; past_epochs = past }))) _ v in
    let b = both (is_word id) _ a.0 in
    ap (λ (x : Bool). (x && true) && true) b.0
aged-valid-by id (Some t) taken past v =
    let a = both (all is_word (peer_words (record { id = id; held_until = Some t; snapshot = taken; past_epochs = past }))) _ v in
    let b = both (is_word id) _ a.0 in
    let c = both (is_word t) _ b.1 in
    (λ i. (b.0 i && (c.0 i && true)) && true)

aged-valid : (at age : ℕ) (p : PeerRecord) → valid_peer p ≡ true → valid_peer (age_peer is_held at age p) ≡ true
aged-valid at age p v = by (keeps at age p)
  where
    by : (b : Bool) → valid_peer (cond b p (bare p)) ≡ true
    by true = v
    by false = aged-valid-by p.id p.held_until p.snapshot p.past_epochs v

-- the peer of a contested key that stays, stays too
contested_known : (at age id heard : ℕ) (ps : List PeerRecord) (cs : List ContestedKey) → stays_contested at age ps id heard ≡ true → any (λ (c : ContestedKey). eqb c.peer id) cs ≡ true → is_known (only (λ (p : PeerRecord). stays_peer at cs p.id p.held_until (is_taken p)) (map (age_peer is_held at age) ps)) id ≡ true
unfolding stays_contested stays_peer is_known
contested_known at age id heard ps cs e k =
    any-only (λ (p : PeerRecord). eqb p.id id) (λ (p : PeerRecord). stays_peer at cs p.id p.held_until (is_taken p)) (map (age_peer is_held at age) ps)
    ∙ any-map (age_peer is_held at age) (λ (p : PeerRecord). stays_peer at cs p.id p.held_until (is_taken p) && eqb p.id id) ps
    ∙ any-weaker (λ (p : PeerRecord). not (hold_ended at p.held_until) && eqb p.id id) (λ (p : PeerRecord). stays_peer at cs (age_peer is_held at age p).id (age_peer is_held at age p).held_until (is_taken (age_peer is_held at age p)) && eqb (age_peer is_held at age p).id id)
    (λ (p : PeerRecord) f.
    let q : PeerRecord = age_peer is_held at age p in
    let b = both (not (hold_ended at p.held_until)) (eqb p.id id) f in
    let i : q.id ≡ id = aged-id at age p ∙ eqb-true p.id id b.1 in
    and_intro (stays_peer at cs q.id q.held_until (is_taken q)) (eqb q.id id)
    (and_intro (not (hold_ended at q.held_until)) _ (ap (λ (h : Option ℕ). not (hold_ended at h)) (aged-held at age p) ∙ b.0)
    (last_of (present q.held_until) (is_taken q) (ap (λ (m : ℕ). any (λ (c : ContestedKey). eqb c.peer m) cs) i ∙ k)))
    (eq-eqb q.id id i))
    ps
    (sym (any-only (λ (p : PeerRecord). eqb p.id id) (λ (p : PeerRecord). not (hold_ended at p.held_until)) ps) ∙ (both (is_known (not_ended at ps) id) _ e).0)
  where
    last_of : (a b : Bool) {c : Bool} → c ≡ true → (a || (b || c)) ≡ true
    last_of true b h = refl
    last_of false true h = refl
    last_of false false h = h

pub expire-valid : (at age : ℕ) (s : PeersState) → valid s ≡ true → valid (expire at age s) ≡ true
expire-valid at age s v =
    let vp = peers-valid s v in
    let stays : PeerRecord → Bool = λ (p : PeerRecord). stays_peer at (staying_contested at age s) p.id p.held_until (is_taken p) in
    let among : Among s.peers (staying_peers at age s) = λ f e. among-only stays (map (age_peer is_held at age) s.peers) f (among-map (age_peer is_held at age) (aged-id at age) s.peers f e) in
    ap valid (expire-stays at age s)
    ∙ valid-by (staying_peers at age s) (staying_keys at age s) (staying_contested at age s)
    (peers-some (map (age_peer is_held at age) s.peers) (peers-changed s.peers vp (age_peer is_held at age) (aged-id at age) (aged-valid at age)) stays)
    (keys_kept snapshot_key_words valid_snapshot_key (λ (k : SnapshotKey). k.peer) has_snapshot (max_peers * max_demand_keys) max_demand_keys (λ (k : SnapshotKey). has_snapshot (staying_peers at age s) k.peer) s.peers (staying_peers at age s) s.snapshot_keys (keys-valid s v)
    (all-where (λ (k : SnapshotKey). true) (λ (k : SnapshotKey). has_snapshot (staying_peers at age s) k.peer) (λ (k : SnapshotKey). has_snapshot (staying_peers at age s) k.peer) (λ k f g. f) s.snapshot_keys (all_true s.snapshot_keys))
    among)
    (keys_kept contested_words valid_contested (λ (c : ContestedKey). c.peer) is_known (max_peers * max_contested) max_contested (λ (c : ContestedKey). stays_contested at age s.peers c.peer c.heard_at) s.peers (staying_peers at age s) s.contested (contested-valid s v)
    (all-weaker-both (λ (c : ContestedKey). stays_contested at age s.peers c.peer c.heard_at) (λ (c : ContestedKey). any (λ (x : ContestedKey). eqb x.peer c.peer) (staying_contested at age s)) (λ (c : ContestedKey). is_known (staying_peers at age s) c.peer)
    (λ (c : ContestedKey) f g. contested_known at age c.peer c.heard_at s.peers (staying_contested at age s) f g) (staying_contested at age s)
    (all-where (λ (c : ContestedKey). true) (λ (c : ContestedKey). stays_contested at age s.peers c.peer c.heard_at) (λ (c : ContestedKey). stays_contested at age s.peers c.peer c.heard_at) (λ c f g. f) s.contested (all_true s.contested))
    (all_in (λ (c : ContestedKey). c.peer) (staying_contested at age s) (staying_contested at age s) (λ p e. e)))
    among)
