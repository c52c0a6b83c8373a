-- Laws: which verdict a report meets, and what the state is after it.
use Rattle.std.proofs.Common.{◌≡◌, ℕ, suc, ◌*◌, ◌/◌, ◌%◌, ◌<◌, ◌≤◌, Bool, true, cond, ◌&&◌, eqb, ltb, List, [], ◌∷◌, map, length, take, sym, refl, ap, ◌∙◌, subst, suc-le-suc, zero-le, arith, length-take-le, take_all, lt-ltb, eq-eqb, ne_eqb}
use Rattle.std.specs.Cmp.Lexicographic.{pointwise}
use native.Mathlib.Nat.{mul-div_left, mul-mod_left}
use lib.ListN.{length-map}
use Rattle.records.specs.Records.{records, flat, same}
use Rattle.records.proofs.Words.RecordLaws.{fits_intro, length-records, flat-records}
use Rattle.records.proofs.Order.OrderLaws.{same-append}
use Rattle.peers.specs.declared.peer_demand.DemandReport.{DemandReport}
use Rattle.peers.specs.declared.peer_demand.PeerDemand.{PeerDemand}
use Rattle.peers.specs.declared.peer_report.Verdict.{Verdict}
use Rattle.questions.specs.Lists.{first, only, those}
use Rattle.peers.specs.Peers.Records.{PeerRecord, SnapshotKey, peer_words, snapshot_key_words, peer_of}
use Rattle.peers.specs.Peers.State.{PeersState, PeerTables, peer_with, is_known, has_snapshot, snapshot_keys_of, state_of}
use Rattle.records.specs.Typed.{word, Replaceable, Front}
use Rattle.peers.specs.Peers.Changes as changes
use Rattle.peers.specs.Peers.Steps.Runs.{keys_in, all_keys_in, KeyRun, or_new, verdict_with, past_after, Reported, Read, Stores}
use Rattle.questions.proofs.OnlyLaws.{all-imply, length-replaced, any-counted}
use Rattle.records.proofs.Changes.RunLaws.{records-take}
use Rattle.peers.proofs.Peers.Tables.KindLaws.{snapshot_kind, Keys, run_typed, front-in, front-run, peer-typed, those-peer}
use Rattle.peers.proofs.Peers.Reports.KeptLaws.{taken-known}
use Rattle.peers.proofs.Peers.Reports.TakeLaws.{OldPeer, few-of-peer, snapshot-is, past_is}
use Rattle.peers.proofs.Peers.Reports.ApplyLaws.{Tables, keys_fit, keys-asc}

-- ---- words compared, by std's name and by ours
pub words-same : (xs ys : List ℕ) → pointwise eqb xs ys ≡ same xs ys
unfolding same
words-same [] [] = refl
words-same [] (y ∷ ys) = refl
words-same (x ∷ xs) [] = refl
words-same (x ∷ xs) (y ∷ ys) = ap (λ (b : Bool). eqb x y && b) (words-same xs ys)

-- ---- a run at the front of its words
front-lent : (w m : ℕ) (rs : List (List ℕ)) (xs : List ℕ) → 0 < w → m * w ≤ length xs → Front w m rs xs → Front w (length (take (m * w) xs) / w) rs (take (m * w) xs)
front-lent w m rs xs hw h f =
    let l : length (take (m * w) xs) ≡ m * w = length-take-le (m * w) xs h in
    let q : length (take (m * w) xs) / w ≡ m = ap (λ (z : ℕ). z / w) l ∙ mul-div_left m hw in
    record {
      count = q ∙ f.count;
      front = ap (λ (z : ℕ). records w z (take (m * w) xs)) q ∙ records-take w m xs ∙ f.front;
    }

-- the keys of a report, lent
pub reported-lent : (id m : ℕ) (r : DemandReport) (keys : List ℕ) → KeyRun id m keys → keys_in m keys ≡ changes.report_keys id r → m ≤ 64 → Reported id (take (m * 4) keys) × (all_keys_in (take (m * 4) keys) ≡ changes.report_keys id r)
reported-lent id m r keys u e few =
    let l : length (take (m * 4) keys) ≡ m * 4 = length-take-le (m * 4) keys u.run.fit in
    let f : Front 4 (length (take (m * 4) keys) / 4) (map snapshot_key_words (changes.report_keys id r)) (take (m * 4) keys) =
    front-lent 4 m (map snapshot_key_words (changes.report_keys id r)) keys (omega arith) u.run.fit (record { count = sym (length-records 4 m keys) ∙ ap length (u.exact ∙ ap (map snapshot_key_words) e); front = u.exact ∙ ap (map snapshot_key_words) e }) in (
      record {
        run = front-run snapshot_kind id _ (changes.report_keys id r) (take (m * 4) keys) f (omega (arith, l)) (subst (Keys id) e (run_typed snapshot_kind id m keys u));
        few = omega (arith, l);
        whole = ap (λ (z : ℕ). z % 4) l ∙ mul-mod_left m 4;
      },
      front-in snapshot_kind id _ (changes.report_keys id r) (take (m * 4) keys) f,
    )

-- ---- the same keys, by their words
same-flat : (xs ys : List SnapshotKey) → same (flat (map snapshot_key_words xs)) (flat (map snapshot_key_words ys)) ≡ changes.same_keys xs ys
unfolding same flat changes.same_keys snapshot_key_words
same-flat [] [] = refl
same-flat [] (y ∷ ys) = refl
same-flat (x ∷ xs) [] = refl
same-flat (x ∷ xs) (y ∷ ys) =
    same-append (snapshot_key_words x) (snapshot_key_words y) (flat (map snapshot_key_words xs)) (flat (map snapshot_key_words ys)) refl
    ∙ ap (λ (z : Bool). same (snapshot_key_words x) (snapshot_key_words y) && z) (same-flat xs ys)

module _ {p : PeerDemand} {t : PeerTables} (id : ℕ) (o : Tables p t) where
  abbrev s : PeersState
  s = state_of p t

  snapshot-few : length (snapshot_keys_of id s.snapshot_keys) ≤ 64
  snapshot-few = few-of-peer (λ (k : SnapshotKey). k.peer) 64 id s.peers s.snapshot_keys o.valids.keys_few
      (all-imply (λ (k : SnapshotKey). has_snapshot s.peers k.peer) (λ (k : SnapshotKey). is_known s.peers k.peer) s.snapshot_keys (λ k e. taken-known s.peers k.peer e) o.valids.keys_taken)

  snapshot-words : those (word 0) id (records 4 p.snapshot_keys t.snapshot_keys) ≡ map snapshot_key_words (snapshot_keys_of id s.snapshot_keys)
  unfolding state_of
  snapshot-words = ap (those (word 0) id) o.keys_exact ∙ sym (those-peer snapshot_kind id (keys_in p.snapshot_keys t.snapshot_keys))

  words-few : length (those (word 0) id (records 4 p.snapshot_keys t.snapshot_keys)) ≤ 64
  words-few = omega (arith, ap length snapshot-words, length-map (snapshot_keys_of id s.snapshot_keys) snapshot_key_words, snapshot-few)

  pub current-fits : Replaceable 4 p.snapshot_keys id [] t.snapshot_keys × (length (those (word 0) id (records 4 p.snapshot_keys t.snapshot_keys)) * 4 ≤ 256)
  unfolding records
  current-fits = (
    record {
      fit = fits_intro (length t.snapshot_keys) 4 p.snapshot_keys (omega arith) (keys_fit p t o);
      depth = 2;
      some_words = omega arith;
      ascends = keys-asc p t o;
      whole = refl;
      room = omega (arith, keys_fit p t o, length-replaced (word 0) id [] (records 4 p.snapshot_keys t.snapshot_keys), length-records 4 p.snapshot_keys t.snapshot_keys, nil-length);
    },
    omega (arith, words-few),
  )
    where
      nil-length : length {A = List ℕ} [] ≡ 0
      nil-length = refl

  module _ (m : ℕ) (current : List ℕ) (long : length current ≡ 256) (f : Front 4 m (those (word 0) id (records 4 p.snapshot_keys t.snapshot_keys)) current) where
    pub current-few : m ≤ 64
    current-few = omega (arith, f.count, words-few)

    current-front : Front 4 (length (take (m * 4) current) / 4) (map snapshot_key_words (snapshot_keys_of id s.snapshot_keys)) (take (m * 4) current)
    current-front = front-lent 4 m _ current (omega arith) (omega (arith, current-few, long)) (subst (λ (rs : List (List ℕ)). Front 4 m rs current) snapshot-words f)

    pub current-length : m * 4 ≡ length (take (m * 4) current)
    current-length = sym (length-take-le (m * 4) current (omega (arith, current-few, long)))

    current-run : KeyRun id (length (take (m * 4) current) / 4) (take (m * 4) current)
    current-run = front-run snapshot_kind id _ (snapshot_keys_of id s.snapshot_keys) (take (m * 4) current) current-front (fits_div (length (take (m * 4) current))) (peer-typed snapshot_kind id s.snapshot_keys o.valids.keys o.valids.keys_ascend)
      where
        fits_div : (n : ℕ) → n / 4 * 4 ≤ n
        fits_div n = omega arith

    pub read_all : (keys old : List ℕ) → Reported id keys → old ≡ peer_words (or_new id (peer_with id s.peers)) → Read p t id keys (take (m * 4) current) old
    read_all keys old rp e = record {
      reported = rp;
      snapshot = current-run;
      few = omega (arith, current-length, current-few);
      are = front-in snapshot_kind id _ (snapshot_keys_of id s.snapshot_keys) (take (m * 4) current) current-front;
      peer = e;
    }

    -- the report has the keys of the snapshot
    pub alike_is : (keys : List ℕ) (b : Bool) → Reported id keys → b ≡ same (take (m * 4) current) keys → b ≡ changes.same_keys (snapshot_keys_of id s.snapshot_keys) (all_keys_in keys)
    alike_is keys b rp e =
        let h : take (m * 4) current ≡ flat (map snapshot_key_words (snapshot_keys_of id s.snapshot_keys)) = sym (flat-records 4 m current) ∙ ap flat (f.front ∙ snapshot-words) in
        let q : length keys / 4 * 4 ≡ length keys = omega (arith, rp.whole) in
        let k : keys ≡ flat (map snapshot_key_words (all_keys_in keys)) =
        sym (flat-records 4 (length keys / 4) keys ∙ take_all (length keys / 4 * 4) keys (omega (arith, q))) ∙ ap flat rp.run.exact in
        e ∙ (λ i. same (h i) (k i)) ∙ same-flat (snapshot_keys_of id s.snapshot_keys) (all_keys_in keys)

  -- the verdict, by the words of the peer
  pub judged : (jump epoch round : ℕ) (ks : List SnapshotKey) (old : List ℕ) (alike : Bool) (v : Verdict) → OldPeer id s.peers old → alike ≡ changes.same_keys (snapshot_keys_of id s.snapshot_keys) ks → verdict_with (past_after epoch old) v ≡ changes.verdict_on jump epoch round (peer_of old).snapshot (peer_of old).past_epochs alike → verdict_with (past_after epoch old) v ≡ changes.verdict jump id epoch round ks (state_of p t)
  unfolding changes.verdict
  judged jump epoch round ks old alike v op e q =
      let a : (peer_of old).snapshot ≡ changes.snapshot_in (peer_with id s.peers) = ap (λ (x : PeerRecord). x.snapshot) op.is ∙ sym (snapshot-is id (peer_with id s.peers)) in
      let b : (peer_of old).past_epochs ≡ changes.past_in (peer_with id s.peers) = ap (λ (x : PeerRecord). x.past_epochs) op.is ∙ sym (past_is id (peer_with id s.peers)) in
      q ∙ (λ i. changes.verdict_on jump epoch round (a i) (b i) (e i))

  -- only a known peer's report is contested
  pub contests-known : (jump epoch round : ℕ) (ks : List SnapshotKey) → changes.contests ≡ changes.verdict jump id epoch round ks (state_of p t) → is_known s.peers id ≡ true
  unfolding changes.verdict is_known those
  contests-known jump epoch round ks e = any-counted (λ (x : PeerRecord). eqb x.id id) s.peers ∙ some_of (only (λ (x : PeerRecord). eqb x.id id) s.peers) e
    where
      some_of : (ps : List PeerRecord) → changes.contests ≡ changes.verdict_on jump epoch round (changes.snapshot_in (first ps)) (changes.past_in (first ps)) (changes.same_keys (snapshot_keys_of id s.snapshot_keys) ks) → ltb 0 (length ps) ≡ true
      some_of [] z = let y : ◌≡◌ {A = ℕ} 0 1 = cc in absurd (omega arith)
      some_of (q ∷ ps) z = lt-ltb 0 (suc (length ps)) (suc-le-suc zero-le)

  -- the state after each verdict
  pub stores_as : (epoch round at : ℕ) (ks : List SnapshotKey) (u v : changes.Verdict) (p' : PeerDemand) (t' : PeerTables) → u ≡ v → Stores (changes.apply_verdict id epoch round at ks u (state_of p t)) p t p' t' → Stores (changes.apply_verdict id epoch round at ks v (state_of p t)) p t p' t'
  stores_as epoch round at ks u v p' t' e h = subst (λ (x : changes.Verdict). Stores (changes.apply_verdict id epoch round at ks x (state_of p t)) p t p' t') e h

-- a report of the peer itself, and of another
pub applies-own : (jump id at : ℕ) (r : DemandReport) (s : PeersState) → r.origin ≡ id → changes.settle jump id r.epoch r.round at (changes.report_keys id r) s ≡ changes.apply jump id r at s
unfolding changes.apply
applies-own jump id at r s e = sym (ap (λ (b : Bool). cond b (changes.settle jump id r.epoch r.round at (changes.report_keys id r) s) s) (eq-eqb r.origin id e))

pub applies-other : (jump id at : ℕ) (r : DemandReport) (s : PeersState) → (r.origin ≡ id → ⊥) → s ≡ changes.apply jump id r at s
unfolding changes.apply
applies-other jump id at r s h = sym (ap (λ (b : Bool). cond b (changes.settle jump id r.epoch r.round at (changes.report_keys id r) s) s) (ne_eqb r.origin id h))

pub stores_at : (u v : PeersState) (p : PeerDemand) (t : PeerTables) (p' : PeerDemand) (t' : PeerTables) → u ≡ v → Stores u p t p' t' → Stores v p t p' t'
stores_at u v p t p' t' e h = subst (λ (x : PeersState). Stores x p t p' t') e h
