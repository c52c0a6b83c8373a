-- Laws: a report taken or contested, by the words of the tables.
use Rattle.std.proofs.Common.{◌≡◌, ℕ, zero, suc, ◌-◌, ◌/◌, ◌^◌, ◌<◌, ◌≤◌, Bool, true, false, cond, not, ◌||◌, eqb, ltb, leb, List, [], ◌∷◌, ◌++◌, map, length, take, sym, refl, ap, ◌∙◌, subst, suc-le-suc, zero-le, arith, length-take, take_all, ltb-true, eq-eqb, eqb-true, le-leb, leb-true}
use borrow.Author.Tests.{eqb-false}
use lib.ListN.{length-map}
use Rattle.records.specs.Records.{records, leads, ascending}
use Rattle.questions.proofs.Tests.{contradiction, split, both, and_intro, or_right}
use Rattle.records.proofs.Words.RecordLaws.{fits_intro, length-records}
use Rattle.peers.specs.declared.peer_demand.PeerDemand.{PeerDemand}
use Rattle.questions.specs.Lists.{all, any, first, only, those, replaced}
use Rattle.records.specs.Fields.{time_words}
use Rattle.peers.specs.Peers.Records.{Snapshot, PeerRecord, SnapshotKey, ContestedKey, snapshot_words, past_words, peer_words, snapshot_key_words, contested_words, peer_of, snapshot_key_of}
use Rattle.peers.specs.Peers.State.{PeersState, PeerTables, peer_with, is_known, snapshot_keys_of, contested_keys_of, state_of, valid_snapshot, valid_past, valid_peer, valid_snapshot_key}
use Rattle.records.specs.Typed.{is_word, word, replaced_run, Replaceable, Tabled}
use Rattle.peers.specs.Peers.Changes as changes
use Rattle.peers.specs.Peers.Calls.{has_place}
use Rattle.peers.specs.Peers.Steps.Runs.{keys_in, all_keys_in, peers_in, KeyRun, contested_after, kept_after, Contestable, or_new, next_past, past_after, Reported, Read, Stores}
use Rattle.peers.proofs.Peers.Tables.WordLaws.{peer-of-words, peer-long}
use Rattle.questions.proofs.ListLaws.{all_take}
use Rattle.questions.proofs.OnlyLaws.{all-only, all-imply, length-replaced, replaced-words, any-counted, only-nothing}
use Rattle.peers.proofs.Peers.Reports.ContestLaws.{Sayable, merge_keeps, without-keeps}
use Rattle.peers.proofs.Peers.Reports.ReportLaws.{PeerFacts, snapshot-none, snapshot-some, no-peer-valid}
use Rattle.peers.proofs.Peers.Tables.KindLaws.{snapshot_kind, contested_kind, Keys, Contesteds, run_typed, peer-typed, with-peer}
use Rattle.peers.proofs.Peers.Reports.KeptLaws.{ValidState, few_keys, few-contested, contested-kept, report-kept, Fitting, taken-valid}
use Rattle.peers.proofs.Peers.Reports.ApplyLaws.{Tables, known-table, peers-fit, keys_fit, contested-fit, keys-asc, contested-asc}
use Rattle.records.proofs.Tables.TabledLaws.{tabled-same}
use Rattle.peers.proofs.Peers.Tables.TableLaws.{stores-of}
use Rattle.std.specs.declared.option.Option.{Option}
use Rattle.std.specs.declared.option.Option.TheVariants.{None, Some}

found : {A : Type 0} (number : A → ℕ) (k : ℕ) (xs : List A) → any (λ x. eqb (number x) k) xs ≡ true → 0 < length (those number k xs)
unfolding those
found number k xs e = ltb-true 0 (length (only (λ x. eqb (number x) k) xs)) (sym (any-counted (λ x. eqb (number x) k) xs) ∙ e)

keys-first : (id : ℕ) (k : SnapshotKey) (ks : List SnapshotKey) → Keys id (k ∷ ks) → Sayable id k
unfolding all
keys-first id k ks g = record { peer = eqb-true k.peer id (both (eqb k.peer id) _ g.shared).0; valid = (both (valid_snapshot_key k) _ g.valids).0 }

keys-rest : (id : ℕ) (k : SnapshotKey) (ks : List SnapshotKey) → Keys id (k ∷ ks) → Keys id ks
unfolding all ascending
keys-rest id k ks g = record {
  shared = (both (eqb k.peer id) _ g.shared).1;
  ascends = (both (leads 2 (snapshot_key_words k) (map snapshot_key_words ks)) _ g.ascends).1;
  valids = (both (valid_snapshot_key k) _ g.valids).1;
}

-- ---- a peer's contested keys after a report was contested
oldest-in : (c : ContestedKey) (cs : List ContestedKey) → any (λ (x : ContestedKey). eqb x.key (changes.oldest c cs)) (c ∷ cs) ≡ true
unfolding changes.oldest any
oldest-in c [] = ap (λ (b : Bool). b || false) (eq-eqb c.key c.key refl)
oldest-in c (d ∷ ds) = choose (changes.older d c) (oldest-in (cond (changes.older d c) d c) ds)
  where
    choose : (b : Bool) → any (λ (x : ContestedKey). eqb x.key (changes.oldest (cond b d c) ds)) (cond b d c ∷ ds) ≡ true → any (λ (x : ContestedKey). eqb x.key (changes.oldest (cond b d c) ds)) (c ∷ d ∷ ds) ≡ true
    choose true e = or_right (eqb c.key (changes.oldest d ds)) _ e
    choose false e = skip (eqb c.key (changes.oldest c ds)) (eqb d.key (changes.oldest c ds)) _ e
      where
        skip : (x y z : Bool) → (x || z) ≡ true → (x || (y || z)) ≡ true
        skip true y z e = refl
        skip false y z e = or_right y z e

without-less : (cs : List ContestedKey) → length (changes.without_oldest cs) ≤ length cs - 1
without-less [] = zero-le
without-less (c ∷ cs) =
    let k : ℕ = changes.oldest c cs in
    let q = length-replaced (λ (x : ContestedKey). x.key) k [] (c ∷ cs) in
    omega (arith, q, nil-length, some-those)
  where
    nil-length : length {A = ContestedKey} [] ≡ 0
    nil-length = refl

    some-those : 0 < length (those (λ (x : ContestedKey). x.key) (changes.oldest c cs) (c ∷ cs))
    some-those = found (λ (x : ContestedKey). x.key) (changes.oldest c cs) (c ∷ cs) (oldest-in c cs)

withouts-less : (n : ℕ) (cs : List ContestedKey) → length (changes.without_oldests n cs) ≤ length cs - n
unfolding changes.without_oldests
withouts-less zero cs = omega arith
withouts-less (suc n) cs = omega (arith, withouts-less n (changes.without_oldest cs), without-less cs)

withouts-keep : (id n : ℕ) (cs : List ContestedKey) → Contesteds id cs → Contesteds id (changes.without_oldests n cs)
unfolding changes.without_oldests
withouts-keep id zero cs g = g
withouts-keep id (suc n) cs g = withouts-keep id n (changes.without_oldest cs) (without-keeps id cs g)

merges-keep : (id round at : ℕ) (ks : List SnapshotKey) (cs : List ContestedKey) → Keys id ks → round < 2 ^ 16 → at < 2 ^ 64 → Contesteds id cs → Contesteds id (changes.merge_keys round at ks cs)
unfolding changes.merge_keys
merges-keep id round at [] cs g hr ha c = c
merges-keep id round at (k ∷ ks) cs g hr ha c =
    merges-keep id round at ks (changes.merge_key round at k cs) (keys-rest id k ks g) hr ha (merge_keeps id round at k cs (keys-first id k ks g) hr ha c)

pub contest-keeps : (id round at : ℕ) (ks : List SnapshotKey) (cs : List ContestedKey) → Keys id ks → round < 2 ^ 16 → at < 2 ^ 64 → Contesteds id cs → Contesteds id (changes.contest round at ks cs)
unfolding changes.contest
contest-keeps id round at ks cs g hr ha c = withouts-keep id (length (changes.merge_keys round at ks cs) - 256) (changes.merge_keys round at ks cs) (merges-keep id round at ks cs g hr ha c)

pub contest-few : (round at : ℕ) (ks : List SnapshotKey) (cs : List ContestedKey) → length (changes.contest round at ks cs) ≤ 256
unfolding changes.contest
contest-few round at ks cs = omega (arith, withouts-less (length (changes.merge_keys round at ks cs) - 256) (changes.merge_keys round at ks cs))

-- ---- as many keys of a peer, known or not, as a peer may have
few-known : {A : Type 0} (peer : A → ℕ) (bound id : ℕ) (ps : List PeerRecord) (xs : List A) → all (λ (p : PeerRecord). leb (length (those peer p.id xs)) bound) ps ≡ true → is_known ps id ≡ true → length (those peer id xs) ≤ bound
unfolding is_known any all
few-known peer bound id [] xs a e = contradiction (sym e)
few-known peer bound id (p ∷ ps) xs a e = split (eqb p.id id)
    (λ h. leb-true (length (those peer id xs)) bound (sym (ap (λ (m : ℕ). leb (length (those peer m xs)) bound) (eqb-true p.id id h)) ∙ (both (leb (length (those peer p.id xs)) bound) _ a).0))
    (λ h. few-known peer bound id ps xs (both (leb (length (those peer p.id xs)) bound) _ a).1 (sym (ap (λ (b : Bool). b || any (λ (x : PeerRecord). eqb x.id id) ps) h) ∙ e))

pub few-of-peer : {A : Type 0} (peer : A → ℕ) (bound id : ℕ) (ps : List PeerRecord) (xs : List A) → all (λ (p : PeerRecord). leb (length (those peer p.id xs)) bound) ps ≡ true → all (λ x. is_known ps (peer x)) xs ≡ true → length (those peer id xs) ≤ bound
unfolding those
few-of-peer {A = A} peer bound id ps xs few known = split (is_known ps id)
    (λ e. few-known peer bound id ps xs few e)
    (λ e. omega (arith, ap length (only-nothing (λ x. eqb (peer x) id) xs (all-imply (λ x. is_known ps (peer x)) (λ x. not (eqb (peer x) id)) xs (λ x h. other x h e) known)), nil-length))
  where
    nil-length : length {A = A} [] ≡ 0
    nil-length = refl

    other : (x : A) → is_known ps (peer x) ≡ true → is_known ps id ≡ false → not (eqb (peer x) id) ≡ true
    other x h e = split (eqb (peer x) id) (λ q. contradiction (sym h ∙ ap (is_known ps) (eqb-true (peer x) id q) ∙ e)) (λ q. ap not q)

-- ---- the peer, by its words
pub snapshot-is : (id : ℕ) (o : Option PeerRecord) → changes.snapshot_in o ≡ (or_new id o).snapshot
snapshot-is id None = refl
snapshot-is id (Some p) = refl

pub past_is : (id : ℕ) (o : Option PeerRecord) → changes.past_in o ≡ (or_new id o).past_epochs
past_is id None = refl
past_is id (Some p) = refl

first-valid : (id : ℕ) (ps : List PeerRecord) → id < 2 ^ 64 → all valid_peer ps ≡ true → valid_peer (or_new id (first ps)) ≡ true
unfolding all
first-valid id [] h a = no-peer-valid id h
first-valid id (p ∷ ps) h a = (both (valid_peer p) _ a).0

pub past-few : (p : PeerRecord) → valid_peer p ≡ true → length p.past_epochs ≤ 4
unfolding valid_peer
past-few p v =
    let a = both (all is_word (peer_words p)) _ v in
    let b = both (valid_snapshot p.snapshot) _ a.1 in
    leb-true (length p.past_epochs) 4 (both (leb (length p.past_epochs) 4) _ (both (valid_past p.past_epochs) _ b.1).0).0

peer-words-all : (p : PeerRecord) → valid_peer p ≡ true → all is_word (peer_words p) ≡ true
unfolding valid_peer
peer-words-all p v = (both (all is_word (peer_words p)) _ v).0

word_small : (ws : List ℕ) (i : ℕ) → all is_word ws ≡ true → word i ws < 2 ^ 64
unfolding all
word_small [] i a = omega arith
word_small (w ∷ ws) zero a = ltb-true w (2 ^ 64) (both (is_word w) _ a).0
word_small (w ∷ ws) (suc i) a = word_small ws i (both (is_word w) _ a).1

round-of : (p : PeerRecord) → valid_peer p ≡ true → word 5 (peer_words p) < 2 ^ 16
unfolding valid_peer peer_words
round-of p v = by p.snapshot (both (valid_snapshot p.snapshot) _ (both (all is_word (peer_words p)) _ v).1).0
  where
    by : (s : Option Snapshot) → valid_snapshot s ≡ true → word 5 (p.id ∷ (time_words p.held_until ++ (snapshot_words s ++ past_words p.past_epochs))) < 2 ^ 16
    by None e = omega arith
    by (Some s) e = ltb-true s.round (2 ^ 16) (both (ltb s.epoch (2 ^ 32)) _ e).1

pub record OldPeer (id : ℕ) (ps : List PeerRecord) (old : List ℕ) : Type 0 where
  pub facts : PeerFacts old
  pub is : peer_of old ≡ or_new id (peer_with id ps)
  pub round : word 5 old < 2 ^ 16
  pub time : word 6 old < 2 ^ 64

pub old-peer : (id : ℕ) (ps : List PeerRecord) (old : List ℕ) → id < 2 ^ 64 → all valid_peer ps ≡ true → old ≡ peer_words (or_new id (peer_with id ps)) → OldPeer id ps old
unfolding those
old-peer id ps old h a e =
    let q : PeerRecord = or_new id (peer_with id ps) in
    let v : valid_peer q ≡ true = first-valid id (only (λ (p : PeerRecord). eqb p.id id) ps) h (all-only valid_peer (λ (p : PeerRecord). eqb p.id id) ps a) in
    let i : peer_of old ≡ q = ap peer_of e ∙ peer-of-words q (past-few q v) in
    record {
      facts = record { valid = ap valid_peer i ∙ v; exact = e ∙ ap peer_words (sym i) };
      is = i;
      round = subst (λ (z : List ℕ). word 5 z < 2 ^ 16) (sym e) (round-of q v);
      time = subst (λ (z : List ℕ). word 6 z < 2 ^ 64) (sym e) (word_small (peer_words q) 6 (peer-words-all q v));
    }

-- ---- past epochs stay valid
pub next-valid : (epoch : ℕ) (s : Option Snapshot) (past : List ℕ) → valid_snapshot s ≡ true → valid_past past ≡ true → valid_past (next_past epoch s past) ≡ true
unfolding all
next-valid epoch None past vs vp = refl
next-valid epoch (Some o) past vs vp = choose (eqb o.epoch epoch)
  where
    choose : (b : Bool) → valid_past (cond b past (o.epoch ∷ take 3 past)) ≡ true
    choose true = vp
    choose false =
        and_intro (leb (length (o.epoch ∷ take 3 past)) 4) (all (λ (e : ℕ). ltb e (2 ^ 32)) (o.epoch ∷ take 3 past))
        (le-leb (length (o.epoch ∷ take 3 past)) 4 (suc-le-suc (omega (arith, length-take 3 past))))
        (and_intro (ltb o.epoch (2 ^ 32)) _ (both (ltb o.epoch (2 ^ 32)) _ vs).0 (all_take (λ (e : ℕ). ltb e (2 ^ 32)) 3 past (both (leb (length past) 4) _ vp).1))

pub after-valid : (epoch : ℕ) (old : List ℕ) → PeerFacts old → valid_past (past_after epoch old) ≡ true
unfolding valid_peer
after-valid epoch old f =
    let a = both (all is_word (peer_words (peer_of old))) _ f.valid in
    let b = both (valid_snapshot (peer_of old).snapshot) _ a.1 in
    next-valid epoch (peer_of old).snapshot (peer_of old).past_epochs b.0 (both (valid_past (peer_of old).past_epochs) _ b.1).0

-- ---- the keys of a report, typed
pub reported-keys : (id : ℕ) (keys : List ℕ) → Reported id keys → Keys id (all_keys_in keys)
reported-keys id keys e = run_typed snapshot_kind id (length keys / 4) keys e.run

pub reported-few : (id : ℕ) (keys : List ℕ) → Reported id keys → length (all_keys_in keys) ≤ 64
reported-few id keys e =
    let q : length keys / 4 ≤ 64 = omega (arith, e.few) in
    omega (arith, q, length-map (records 4 (length keys / 4) keys) snapshot_key_of, length-records 4 (length keys / 4) keys)

id-first : (x : PeerRecord) → word 0 (peer_words x) ≡ x.id
unfolding peer_words
id-first x = refl

one-record : (ws : List ℕ) → length ws ≡ 12 → records 12 (length ws / 12) ws ≡ ws ∷ []
unfolding records
one-record ws e =
    let q : length ws / 12 ≡ 1 = omega (arith, e) in
    ap (λ (k : ℕ). records 12 k ws) q ∙ ap (λ (l : List ℕ). l ∷ []) (take_all 12 ws (omega arith))

module _ {p : PeerDemand} {t : PeerTables} (id : ℕ) (o : Tables p t) where
  abbrev s : PeersState
  s = state_of p t

  pub contested-run : Contesteds id (contested_keys_of id s.contested)
  contested-run = peer-typed contested_kind id s.contested o.valids.contested o.valids.contested_ascend

  pub contested_few : length (contested_keys_of id s.contested) ≤ 256
  contested_few = few-of-peer (λ (c : ContestedKey). c.peer) 256 id s.peers s.contested o.valids.contested_few o.valids.contested_known

  pub old_of : id < 2 ^ 64 → (old : List ℕ) → old ≡ peer_words (or_new id (peer_with id s.peers)) → OldPeer id s.peers old
  old_of h old e = old-peer id s.peers old h o.valids.peers e

  -- what is contested, within a valid state after it
  contestable : (keys : List ℕ) (round time : ℕ) → KeyRun id (length keys / 4) keys → length keys ≤ 256 → round < 2 ^ 16 → (ps : List PeerRecord) (ks : List SnapshotKey) → ValidState (record { peers = ps; snapshot_keys = ks; contested = changes.with_contested id (changes.contest round time (keys_in (length keys / 4) keys) (contested_keys_of id s.contested)) s.contested }) → Contestable p.contested id keys round time t.contested
  unfolding state_of
  contestable keys round time run few hr ps ks v = record {
    fit = contested-fit p t o;
    exact = o.contested_exact;
    valids = o.valids.contested;
    ascends = contested-asc p t o;
    few = contested_few;
    key_run = run;
    few_keys = few;
    rounds = hr;
    room = omega (arith, few-contested (record { peers = ps; snapshot_keys = ks; contested = changes.with_contested id (changes.contest round time (keys_in (length keys / 4) keys) (contested_keys_of id s.contested)) s.contested }) v, o.roomy.contested);
  }

  -- ---- taken
  module _ {epoch round at : ℕ} (bs : Fitting id epoch round at) {keys current old : List ℕ} (rd : Read p t id keys current old) (place : has_place id s.peers ≡ true) where
    pub op : OldPeer id s.peers old
    op = old_of bs.peer old rd.peer

    after : (nc : List ContestedKey) → Contesteds id nc → length nc ≤ 256 → ValidState (record { peers = changes.with_peer id (changes.taken_peer id epoch round at (past_after epoch old) ∷ []) s.peers; snapshot_keys = changes.with_snapshot_keys id (all_keys_in keys) s.snapshot_keys; contested = changes.with_contested id nc s.contested })
    after nc g l = report-kept id s o.valids nc g l (changes.taken_peer id epoch round at (past_after epoch old)) refl refl
        (taken-valid id epoch round at (past_after epoch old) bs (after-valid epoch old op.facts))
        place (all_keys_in keys) (reported-keys id keys rd.reported) (reported-few id keys rd.reported)

    contested-held : Contesteds id (changes.contest (word 5 old) (word 6 old) (keys_in (length current / 4) current) (contested_keys_of id s.contested))
    contested-held = contest-keeps id (word 5 old) (word 6 old) (keys_in (length current / 4) current) (contested_keys_of id s.contested) (run_typed snapshot_kind id (length current / 4) current rd.snapshot) op.round op.time contested-run

    pub take-contestable : Contestable p.contested id current (word 5 old) (word 6 old) t.contested
    take-contestable = contestable current (word 5 old) (word 6 old) rd.snapshot rd.few op.round _ _ (after _ contested-held (contest-few (word 5 old) (word 6 old) (keys_in (length current / 4) current) (contested_keys_of id s.contested)))

    any-after : ValidState (record { peers = changes.with_peer id (changes.taken_peer id epoch round at (past_after epoch old) ∷ []) s.peers; snapshot_keys = changes.with_snapshot_keys id (all_keys_in keys) s.snapshot_keys; contested = changes.with_contested id (contested_keys_of id s.contested) s.contested })
    any-after = after (contested_keys_of id s.contested) contested-run contested_few

    keys-words : replaced_run 4 p.snapshot_keys id keys t.snapshot_keys ≡ map snapshot_key_words (changes.with_snapshot_keys id (all_keys_in keys) s.snapshot_keys)
    unfolding state_of
    keys-words =
        (λ i. replaced (word 0) id (rd.reported.run.exact i) (o.keys_exact i))
        ∙ sym (with-peer snapshot_kind id (all_keys_in keys) (keys_in p.snapshot_keys t.snapshot_keys))

    keys_few : length (map snapshot_key_words (changes.with_snapshot_keys id (all_keys_in keys) s.snapshot_keys)) ≤ 2048
    keys_few = omega (arith, length-map (changes.with_snapshot_keys id (all_keys_in keys) s.snapshot_keys) snapshot_key_words, few_keys _ any-after)

    pub take-keys : Replaceable 4 p.snapshot_keys id keys t.snapshot_keys
    take-keys = record {
      fit = fits_intro (length t.snapshot_keys) 4 p.snapshot_keys (omega arith) (keys_fit p t o);
      depth = 2;
      some_words = omega arith;
      ascends = keys-asc p t o;
      whole = rd.reported.whole;
      room = omega (arith, ap length keys-words, keys_few, o.roomy.snapshot_keys);
    }

    module _ (ws : List ℕ) (ew : ws ≡ peer_words (changes.taken_peer id epoch round at (past_after epoch old))) where
      pub taken-long : length ws ≡ 12
      taken-long = ap length ew ∙ peer-long (changes.taken_peer id epoch round at (past_after epoch old))

      peers-words : replaced_run 12 p.peers id ws t.peers ≡ map peer_words (changes.with_peer id (changes.taken_peer id epoch round at (past_after epoch old) ∷ []) s.peers)
      unfolding state_of
      peers-words =
          (λ i. replaced (word 0) id ((one-record ws taken-long ∙ ap (λ (l : List ℕ). l ∷ []) ew) i) (o.peers_exact i))
          ∙ sym (with-peer (changes.taken_peer id epoch round at (past_after epoch old) ∷ []) (peers_in p.peers t.peers))
        where
          with-peer : (new ps : List PeerRecord) → map peer_words (changes.with_peer id new ps) ≡ replaced (word 0) id (map peer_words new) (map peer_words ps)
          with-peer new ps = replaced-words (λ (q : PeerRecord). q.id) peer_words (word 0) (λ x. id-first x) id new ps

      peers-few : length (map peer_words (changes.with_peer id (changes.taken_peer id epoch round at (past_after epoch old) ∷ []) s.peers)) ≤ 32
      peers-few = omega (arith, length-map (changes.with_peer id (changes.taken_peer id epoch round at (past_after epoch old) ∷ []) s.peers) peer_words, any-after.few_peers)

      pub take-peers : Replaceable 12 p.peers id ws t.peers
      take-peers = record {
        fit = fits_intro (length t.peers) 12 p.peers (omega arith) (peers-fit p t o);
        depth = 1;
        some_words = omega arith;
        ascends = (known-table p t o).ascends;
        whole = omega (arith, taken-long);
        room = omega (arith, ap length peers-words, peers-few, o.roomy.peers);
      }

      -- the contested keys that are left
      kept-is : (keep kept : Bool) → kept ≡ cond (eqb (word 3 old) 0) false keep → cond kept (changes.contest (word 5 old) (word 6 old) (keys_in (length current / 4) current) (contested_keys_of id s.contested)) (contested_keys_of id s.contested) ≡ changes.keep_replaced keep (changes.snapshot_in (peer_with id s.peers)) (snapshot_keys_of id s.snapshot_keys) (contested_keys_of id s.contested)
      kept-is keep kept e =
          let q : changes.snapshot_in (peer_with id s.peers) ≡ (peer_of old).snapshot = snapshot-is id (peer_with id s.peers) ∙ ap (λ (x : PeerRecord). x.snapshot) (sym op.is) in
          split (eqb (word 3 old) 0)
          (λ h.
          ap (λ (b : Bool). cond b (changes.contest (word 5 old) (word 6 old) (keys_in (length current / 4) current) (contested_keys_of id s.contested)) (contested_keys_of id s.contested)) (e ∙ ap (λ (b : Bool). cond b false keep) h)
          ∙ sym (ap (λ (x : Option Snapshot). changes.keep_replaced keep x (snapshot_keys_of id s.snapshot_keys) (contested_keys_of id s.contested)) (q ∙ snapshot-none old op.facts (eqb-true (word 3 old) 0 h))))
          (λ h.
          (λ i. cond ((e ∙ ap (λ (b : Bool). cond b false keep) h) i) (changes.contest (word 5 old) (word 6 old) (rd.are i) (contested_keys_of id s.contested)) (contested_keys_of id s.contested))
          ∙ sym (ap (λ (x : Option Snapshot). changes.keep_replaced keep x (snapshot_keys_of id s.snapshot_keys) (contested_keys_of id s.contested)) (q ∙ snapshot-some old op.facts (eqb-false (word 3 old) 0 h))))

      pub take-stores :
          (keep kept : Bool)
          → kept ≡ cond (eqb (word 3 old) 0) false keep
          → (n k c : ℕ) (ps' ks' cs' : List ℕ)
          → Tabled n (replaced_run 12 p.peers id ws t.peers) t.peers ps'
          → Tabled k (replaced_run 4 p.snapshot_keys id keys t.snapshot_keys) t.snapshot_keys ks'
          → Tabled c (map contested_words (kept_after kept p.contested id current (word 5 old) (word 6 old) t.contested)) t.contested cs'
          → Stores (changes.take_report id epoch round at (all_keys_in keys) (past_after epoch old) keep (state_of p t)) p t (record { peers = n; snapshot_keys = k; contested = c }) (record { peers = ps'; snapshot_keys = ks'; contested = cs' })
      unfolding changes.take_report state_of
      take-stores keep kept ek n k c ps' ks' cs' tn tk tc =
          stores-of p (changes.take_report id epoch round at (all_keys_in keys) (past_after epoch old) keep (state_of p t)) n k c t ps' ks' cs'
          (subst (λ (rs : List (List ℕ)). Tabled n rs t.peers ps') peers-words tn)
          (subst (λ (rs : List (List ℕ)). Tabled k rs t.snapshot_keys ks') keys-words tk)
          (subst (λ (l : List ContestedKey). Tabled c (map contested_words (changes.with_contested id l s.contested)) t.contested cs') (kept-is keep kept ek) tc)

  -- ---- contested
  module _ {round at : ℕ} (small : round < 2 ^ 16) (time : at < 2 ^ 64) {keys : List ℕ} (rp : Reported id keys) (known : is_known s.peers id ≡ true) where
    contested-after : ValidState (record { peers = s.peers; snapshot_keys = s.snapshot_keys; contested = changes.with_contested id (changes.contest round at (keys_in (length keys / 4) keys) (contested_keys_of id s.contested)) s.contested })
    contested-after = contested-kept id s o.valids _
        (contest-keeps id round at (keys_in (length keys / 4) keys) (contested_keys_of id s.contested) (run_typed snapshot_kind id (length keys / 4) keys rp.run) small time contested-run)
        (contest-few round at (keys_in (length keys / 4) keys) (contested_keys_of id s.contested)) known

    pub contest-contestable : Contestable p.contested id keys round at t.contested
    contest-contestable = contestable keys round at rp.run rp.few small s.peers s.snapshot_keys contested-after

    pub contest-stores :
        (c : ℕ) (cs' : List ℕ)
        → Tabled c (map contested_words (contested_after p.contested id keys round at t.contested)) t.contested cs'
        → Stores (changes.contest_report id round at (all_keys_in keys) (state_of p t)) p t (record { peers = p.peers; snapshot_keys = p.snapshot_keys; contested = c }) (record { peers = t.peers; snapshot_keys = t.snapshot_keys; contested = cs' })
    unfolding changes.contest_report state_of
    contest-stores c cs' tc =
        stores-of p (changes.contest_report id round at (all_keys_in keys) (state_of p t)) p.peers p.snapshot_keys c t t.peers t.snapshot_keys cs'
        (tabled-same peer_words 12 p.peers s.peers t.peers (peers-fit p t o) o.peers_exact)
        (tabled-same snapshot_key_words 4 p.snapshot_keys s.snapshot_keys t.snapshot_keys (keys_fit p t o) o.keys_exact)
        tc
