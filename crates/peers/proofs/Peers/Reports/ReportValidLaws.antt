-- A report that passes its questions leaves the peers' state valid.
use Rattle.std.proofs.Common.{◌≡◌, ℕ, suc, ◌+◌, ◌^◌, ◌<◌, ◌≤◌, Bool, true, false, cond, ◌&&◌, eqb, ltb, List, [], ◌∷◌, ◌++◌, length, take, sym, refl, ap, ◌∙◌, subst, suc-le-suc, zero-le, arith, length-take, ltb-true, lt-ltb}
use lib.Ieee.{binary32, fits}
use Rattle.float.specs.Magnitude.{magnitude}
use Rattle.questions.proofs.Tests.{split, both, and_intro}
use Rattle.peers.specs.declared.peer_demand.KeyDemand.{KeyDemand}
use Rattle.peers.specs.declared.peer_demand.DemandReport.{DemandReport}
use Rattle.questions.specs.Lists.{all, first, those}
use Rattle.records.specs.Fields.{time_flag, time_word, time_words}
use Rattle.peers.specs.Peers.Records.{Snapshot, PeerRecord, SnapshotKey, ContestedKey, snapshot_words, past_words, peer_words}
use Rattle.peers.specs.Peers.State.{PeersState, peer_with, is_known, snapshot_keys_of, contested_keys_of, valid, valid_snapshot, valid_past, valid_peer, valid_snapshot_key}
use Rattle.records.specs.Typed.{is_word}
use Rattle.peers.specs.Peers.Changes as changes
use Rattle.peers.specs.Peers.Calls.{has_demands, has_place, Widths, fits_widths}
use Rattle.questions.proofs.OnlyLaws.{all-only, any-counted}
use Rattle.peers.proofs.Peers.Tables.KindLaws.{snapshot_kind, contested_kind, Keys, Contesteds, none-typed, peer-typed}
use Rattle.peers.proofs.Peers.Reports.KeyLaws.{put_keeps, put-length, key-valid}
use Rattle.peers.proofs.Peers.Reports.KeptLaws.{ValidState, valid-says, valid-intro, contested-kept, report-kept, taken-valid}
use Rattle.questions.proofs.ListLaws.{all_take}
use Rattle.peers.proofs.Peers.Reports.TakeLaws.{few-of-peer, contest-keeps, contest-few, next-valid}
use Rattle.std.specs.declared.option.Option.{Option}
use Rattle.std.specs.declared.option.Option.TheVariants.{None, Some}

-- ---- the keys of a report
collected-keys : (id : ℕ) (ds : List KeyDemand) (ks : List SnapshotKey) → all (λ (d : KeyDemand). valid_snapshot_key (changes.key_of id d)) ds ≡ true → Keys id ks → Keys id (changes.collected id ds ks)
unfolding changes.collected all
collected-keys id [] ks a g = g
collected-keys id (d ∷ ds) ks a g =
    let b = both (valid_snapshot_key (changes.key_of id d)) _ a in
    collected-keys id ds (changes.put_key (changes.key_of id d) ks) b.1 (put_keeps id (changes.key_of id d) ks (record { peer = refl; valid = b.0 }) g)

collected-length : (id : ℕ) (ds : List KeyDemand) (ks : List SnapshotKey) → length (changes.collected id ds ks) ≤ length ks + length ds
unfolding changes.collected
collected-length id [] ks = omega arith
collected-length id (d ∷ ds) ks =
    let e : length (d ∷ ds) ≡ suc (length ds) = refl in
    omega (arith, e, collected-length id ds (changes.put_key (changes.key_of id d) ks), put-length (changes.key_of id d) ks)

-- ---- what a verdict says
Fit : List PeerRecord → ℕ → changes.Verdict → Type 0
Fit ps id (changes.takes past keep) = valid_past past ≡ true
Fit ps id changes.contests = is_known ps id ≡ true
Fit ps id changes.duplicates = Unit {0}

arms : (P : changes.Verdict → Type 0) (b : Bool) (x y : changes.Verdict) → P x → P y → P (cond b x y)
arms P true x y p q = p
arms P false x y p q = q

module _ (jump id epoch round : ℕ) (alike : Bool) (ps : List PeerRecord) where
  taken-fits : (o : Snapshot) (past : List ℕ) → valid_snapshot (Some o) ≡ true → valid_past past ≡ true → Fit ps id (changes.taken jump epoch round o past)
  unfolding Fit
  taken-fits o past vs vp = by-epoch (eqb o.epoch epoch) (next-valid epoch (Some o) past vs vp)
    where
      by-epoch : (b : Bool) → valid_past (cond b past (o.epoch ∷ take 3 past)) ≡ true → Fit ps id (cond b (changes.takes past (changes.implausible jump round o.round)) (changes.takes (o.epoch ∷ take 3 past) true))
      by-epoch true v = v
      by-epoch false v = v

  fits_on : (s : Option Snapshot) (past : List ℕ) → valid_snapshot s ≡ true → valid_past past ≡ true → is_known ps id ≡ true → Fit ps id (changes.verdict_on jump epoch round s past alike)
  unfolding Fit all
  fits_on None past vs vp known = refl
  fits_on (Some o) past vs vp known = arms (Fit ps id) (changes.is_news epoch round o past) (changes.taken jump epoch round o past) (changes.not_taken epoch round o alike) (taken-fits o past vs vp)
      (arms (Fit ps id) (eqb o.epoch epoch && (eqb o.round round && alike)) changes.duplicates changes.contests tt known)

parts-of : (p : PeerRecord) → valid_peer p ≡ true → (valid_snapshot p.snapshot ≡ true) × (valid_past p.past_epochs ≡ true)
unfolding valid_peer
parts-of p v =
    let b = both (valid_snapshot p.snapshot) _ (both (all is_word (peer_words p)) _ v).1 in
    (b.0, (both (valid_past p.past_epochs) _ b.1).0)

-- a snapshot's time is a word
time-of : (p : PeerRecord) (o : Snapshot) → valid_peer p ≡ true → p.snapshot ≡ Some o → o.heard_at < 2 ^ 64
unfolding valid_peer peer_words all
time-of p o v e = by p.snapshot e (both (all is_word (peer_words p)) _ v).0
  where
    sixth : (x : Snapshot) → Some x ≡ Some o → all is_word (x.epoch ∷ x.round ∷ x.heard_at ∷ past_words p.past_epochs) ≡ true → o.heard_at < 2 ^ 64
    sixth x e a =
        let q : x ≡ o = cc in
        let t = both (is_word x.round) _ (both (is_word x.epoch) _ a).1 in
        subst (λ (y : Snapshot). y.heard_at < 2 ^ 64) q (ltb-true x.heard_at (2 ^ 64) (both (is_word x.heard_at) _ t.1).0)

    by : (s : Option Snapshot) → s ≡ Some o → all is_word (p.id ∷ (time_words p.held_until ++ (snapshot_words s ++ past_words p.past_epochs))) ≡ true → o.heard_at < 2 ^ 64
    by None e a = let z : ◌≡◌ {A = ℕ} 0 1 = cc in absurd (omega arith)
    by (Some x) e a =
        let h = both (is_word (time_flag p.held_until)) _ (both (is_word p.id) _ a).1 in
        sixth x e (both (is_word (time_word p.held_until)) _ h.1).1

known_some : (id : ℕ) (ps : List PeerRecord) (p : PeerRecord) (qs : List PeerRecord) → those (λ (q : PeerRecord). q.id) id ps ≡ p ∷ qs → is_known ps id ≡ true
unfolding is_known those
known_some id ps p qs e = any-counted (λ (q : PeerRecord). eqb q.id id) ps ∙ ap (λ (l : List PeerRecord). ltb 0 (length l)) e ∙ lt-ltb 0 (suc (length qs)) (suc-le-suc zero-le)

-- ---- the state after it
module _ (id at : ℕ) (r : DemandReport) (s : PeersState) (v : ValidState s) (ws : Widths id at r) (count : r.count ≤ 64) (keys : all (λ (d : KeyDemand). valid_snapshot_key (changes.key_of id d)) (changes.listed r) ≡ true) (place : has_place id s.peers ≡ true) where
  new-keys : Keys id (changes.report_keys id r)
  new-keys = collected-keys id (changes.listed r) [] keys (none-typed snapshot_kind id)

  new-few : length (changes.report_keys id r) ≤ 64
  new-few =
      let z : length {A = SnapshotKey} [] ≡ 0 = refl in
      omega (arith, z, count, collected-length id (changes.listed r) [], length-take r.count r.keys)

  abbrev current : List ContestedKey
  current = contested_keys_of id s.contested

  current-run : Contesteds id current
  current-run = peer-typed contested_kind id s.contested v.contested v.contested_ascend

  current-few : length current ≤ 256
  current-few = few-of-peer (λ (c : ContestedKey). c.peer) 256 id s.peers s.contested v.contested_few v.contested_known

  old-keys : Keys id (snapshot_keys_of id s.snapshot_keys)
  old-keys = peer-typed snapshot_kind id s.snapshot_keys v.keys v.keys_ascend

  firsts : all valid_peer (those (λ (p : PeerRecord). p.id) id s.peers) ≡ true
  unfolding those
  firsts = all-only valid_peer (λ (p : PeerRecord). eqb p.id id) s.peers v.peers

  left : (keep : Bool) (ps : List PeerRecord) → all valid_peer ps ≡ true → Contesteds id (changes.keep_replaced keep (changes.snapshot_in (first ps)) (snapshot_keys_of id s.snapshot_keys) current) × (length (changes.keep_replaced keep (changes.snapshot_in (first ps)) (snapshot_keys_of id s.snapshot_keys) current) ≤ 256)
  unfolding all
  left keep [] a = (current-run, current-few)
  left keep (p ∷ ps) a = by-snapshot p.snapshot refl
    where
      pv : valid_peer p ≡ true
      pv = (both (valid_peer p) _ a).0

      by-snapshot : (x : Option Snapshot) → p.snapshot ≡ x → Contesteds id (changes.keep_replaced keep x (snapshot_keys_of id s.snapshot_keys) current) × (length (changes.keep_replaced keep x (snapshot_keys_of id s.snapshot_keys) current) ≤ 256)
      by-snapshot None e = (current-run, current-few)
      by-snapshot (Some o) e = by-keep keep
        where
          vs : valid_snapshot (Some o) ≡ true
          vs = ap valid_snapshot (sym e) ∙ (parts-of p pv).0

          by-keep : (b : Bool) → Contesteds id (cond b (changes.contest o.round o.heard_at (snapshot_keys_of id s.snapshot_keys) current) current) × (length (cond b (changes.contest o.round o.heard_at (snapshot_keys_of id s.snapshot_keys) current) current) ≤ 256)
          by-keep true = (contest-keeps id o.round o.heard_at (snapshot_keys_of id s.snapshot_keys) current old-keys (ltb-true o.round (2 ^ 16) (both (ltb o.epoch (2 ^ 32)) _ vs).1) (time-of p o pv e) current-run, contest-few o.round o.heard_at (snapshot_keys_of id s.snapshot_keys) current)
          by-keep false = (current-run, current-few)

  takes-valid : (past : List ℕ) (keep : Bool) → valid_past past ≡ true → valid (changes.take_report id r.epoch r.round at (changes.report_keys id r) past keep s) ≡ true
  unfolding changes.take_report
  takes-valid past keep vp =
      let l = left keep (those (λ (p : PeerRecord). p.id) id s.peers) firsts in
      valid-intro _ (report-kept id s v (changes.keep_replaced keep (changes.snapshot_in (peer_with id s.peers)) (snapshot_keys_of id s.snapshot_keys) current) l.0 l.1 (changes.taken_peer id r.epoch r.round at past) refl refl
      (taken-valid id r.epoch r.round at past (record { peer = ws.peer; epochs = ws.epoch; rounds = ws.round; time = ws.time }) vp)
      place (changes.report_keys id r) new-keys new-few)

  contests-valid : is_known s.peers id ≡ true → valid (changes.contest_report id r.round at (changes.report_keys id r) s) ≡ true
  unfolding changes.contest_report
  contests-valid known = valid-intro _ (contested-kept id s v _ (contest-keeps id r.round at (changes.report_keys id r) current new-keys ws.round ws.time current-run) (contest-few r.round at (changes.report_keys id r) current) known)

  verdict-valid : (u : changes.Verdict) → Fit s.peers id u → valid (changes.apply_verdict id r.epoch r.round at (changes.report_keys id r) u s) ≡ true
  unfolding Fit
  verdict-valid (changes.takes past keep) f = takes-valid past keep f
  verdict-valid changes.contests f = contests-valid f
  verdict-valid changes.duplicates f = valid-intro s v

  verdict-fits : (jump : ℕ) → Fit s.peers id (changes.verdict jump id r.epoch r.round (changes.report_keys id r) s)
  unfolding changes.verdict Fit is_known all
  verdict-fits jump = by_first (those (λ (p : PeerRecord). p.id) id s.peers) firsts refl
    where
      by_first : (ps : List PeerRecord) → all valid_peer ps ≡ true → those (λ (p : PeerRecord). p.id) id s.peers ≡ ps → Fit s.peers id (changes.verdict_on jump r.epoch r.round (changes.snapshot_in (first ps)) (changes.past_in (first ps)) (changes.same_keys (snapshot_keys_of id s.snapshot_keys) (changes.report_keys id r)))
      by_first [] a e = refl
      by_first (p ∷ ps) a e =
          let b = parts-of p (both (valid_peer p) _ a).0 in
          fits_on jump id r.epoch r.round (changes.same_keys (snapshot_keys_of id s.snapshot_keys) (changes.report_keys id r)) s.peers p.snapshot p.past_epochs b.0 b.1 (known_of p ps e)
        where
          known_of : (p : PeerRecord) (ps : List PeerRecord) → those (λ (q : PeerRecord). q.id) id s.peers ≡ p ∷ ps → is_known s.peers id ≡ true
          known_of p ps e = known_some id s.peers p ps e

-- the keys of a report, whose demands passed question 11, are valid as they are stored
listed-valid : (id : ℕ) → id < 2 ^ 64 → (ds : List KeyDemand) → all fits_widths ds ≡ true → all (λ (d : KeyDemand). magnitude d.demand) ds ≡ true → all (λ (d : KeyDemand). valid_snapshot_key (changes.key_of id d)) ds ≡ true
unfolding all
listed-valid id h [] f m = refl
listed-valid id h (d ∷ ds) f m =
    let a = both (fits_widths d) _ f in
    let k = both (is_word d.key_hash) (fits binary32 d.demand) a.0 in
    let b = both (magnitude d.demand) _ m in
    and_intro (valid_snapshot_key (changes.key_of id d)) _ (key-valid id d h (ltb-true d.key_hash (2 ^ 64) k.0) k.1 b.0) (listed-valid id h ds a.1 b.1)

-- the premises are what the arguments' types say, and questions 10 to 12
pub apply-valid :
    (jump id at : ℕ) (r : DemandReport) (s : PeersState)
    → Widths id at r
    → all fits_widths r.keys ≡ true
    → r.count ≤ 64
    → has_demands r ≡ true
    → has_place id s.peers ≡ true
    → valid s ≡ true
    → valid (changes.apply jump id r at s) ≡ true
unfolding changes.apply
apply-valid jump id at r s ws fit count demands place e =
    let v : ValidState s = valid-says s e in
    let keys = listed-valid id ws.peer (changes.listed r) (all_take fits_widths r.count r.keys fit) demands in
    split (eqb r.origin id)
    (λ h. ap (λ (b : Bool). valid (cond b (changes.settle jump id r.epoch r.round at (changes.report_keys id r) s) s)) h ∙ verdict-valid id at r s v ws count keys place (changes.verdict jump id r.epoch r.round (changes.report_keys id r) s) (verdict-fits id at r s v ws count keys place jump))
    (λ h. ap (λ (b : Bool). valid (cond b (changes.settle jump id r.epoch r.round at (changes.report_keys id r) s) s)) h ∙ e)
