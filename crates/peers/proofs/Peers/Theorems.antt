-- What every call on the peers keeps: a value and tables that pass questions 1 and 2 pass them again after it, refused or not. A call
-- that reads is lent what it cannot write.
use Rattle.std.proofs.Common.{◌≡◌, ℕ, Bool, true, false, cond, ◌&&◌, leb, List, map, length, sym, refl, ap, ◌∙◌, subst, arith}
use Rattle.records.specs.Records.{records, same, ascending}
use Rattle.questions.proofs.Tests.{split, both, and_intro}
use Rattle.questions.specs.Questions.{Question, passes, given}
use Rattle.questions.proofs.Answers.{changed-passed, given-passed, none_passed}
use Rattle.peers.specs.declared.peer_demand.DemandReport.{DemandReport}
use Rattle.peers.specs.declared.peer_demand.PeerDemand.{PeerDemand}
use Rattle.peers.specs.declared.peer_demand.PeersChanged.{PeersChanged}
use Rattle.questions.specs.Lists.{all}
use Rattle.peers.specs.Peers.Records.{PeerRecord, peer_words, snapshot_key_words, contested_words, peer_of, snapshot_key_of, contested_of}
use Rattle.peers.specs.Peers.State.{PeersState, PeerTables, peers_size, snapshot_keys_size, contested_size, valid_peer, valid_snapshot_key, valid_contested, valid, valid_peers, valid_snapshot_keys, valid_contesteds, lengths, have_room, state_of, are_exact, is_valid, new_peers, with_counts, written}
use Rattle.records.specs.Typed.{exact}
use Rattle.peers.specs.Peers.Changes as changes
use Rattle.peers.specs.Peers.Calls.{Widths, fits_widths, new_questions, peers_questions, report_questions, Changes, IsNew, Applies, Forgets, Leaves, Expires}
use Rattle.peers.specs.Peers.Steps.Stays.{Valid}
use Rattle.peers.proofs.Peers.Tables.WordLaws.{peer-of-words, snapshot-key-of-words, contested-of-words, peer-long, key-long, contested-long}
use Rattle.records.proofs.Tables.TypedLaws.{all_back, all-exact, records-written, length-written}
use Rattle.peers.proofs.Peers.CallLaws.{valid-passes, passes-valid}
use Rattle.peers.proofs.Peers.Reports.KeptLaws.{valid-says, few_keys, few-contested}
use Rattle.peers.proofs.Peers.Validity.ValidLaws.{room_says}
use Rattle.peers.proofs.Peers.Tables.StoreLaws.{stores-still}
use Rattle.peers.proofs.Peers.Reports.SettleLaws.{applies-other}
use Rattle.peers.proofs.Peers.Reports.TakeLaws.{past-few}
use Rattle.peers.proofs.Peers.Reports.ApplyLaws.{passed-says}
use Rattle.peers.proofs.Peers.Reports.ReportValidLaws.{apply-valid}
use Rattle.peers.proofs.Peers.Departures.DepartureLaws.{forget-valid, leave-valid, expire-valid}
use Rattle.std.specs.declared.result.Result.{Result}
use Rattle.questions.specs.declared.Refusal.{Refusal}
use Rattle.questions.specs.Refusals.{answer_of}

-- a valid peer comes back from its words
pub peer-back : (x : PeerRecord) → valid_peer x ≡ true → peer_of (peer_words x) ≡ x
peer-back x v = peer-of-words x (past-few x v)

-- ---- a valid state that is written is read back, its words are exact, and it passes questions 1 and 2
module _ (p : PeerDemand) (s : PeersState) (t : PeerTables) (e : valid s ≡ true) where
  peers-written : records 12 (length s.peers) (written s t).peers ≡ map peer_words s.peers
  peers-written = records-written peer_words 12 peer-long s.peers t.peers

  keys-written : records 4 (length s.snapshot_keys) (written s t).snapshot_keys ≡ map snapshot_key_words s.snapshot_keys
  keys-written = records-written snapshot_key_words 4 key-long s.snapshot_keys t.snapshot_keys

  contested-written : records 6 (length s.contested) (written s t).contested ≡ map contested_words s.contested
  contested-written = records-written contested_words 6 contested-long s.contested t.contested

  pub read_back : state_of (with_counts p s) (written s t) ≡ s
  unfolding state_of
  read_back =
      let v = valid-says s e in
      (λ i. record {
        peers = (ap (map peer_of) peers-written ∙ all_back peer_words peer_of valid_peer peer-back s.peers v.peers) i;
        snapshot_keys = (ap (map snapshot_key_of) keys-written ∙ all_back snapshot_key_words snapshot_key_of valid_snapshot_key (λ k _. snapshot-key-of-words k) s.snapshot_keys v.keys) i;
        contested = (ap (map contested_of) contested-written ∙ all_back contested_words contested_of valid_contested (λ c _. contested-of-words c) s.contested v.contested) i;
      })

  pub written-exact : are_exact (with_counts p s) (written s t) ≡ true
  unfolding are_exact
  written-exact =
      let v = valid-says s e in
      and_intro (exact peer_words peer_of (records 12 (length s.peers) (written s t).peers)) _
      (ap (exact peer_words peer_of) peers-written ∙ all-exact peer_words peer_of valid_peer peer-back s.peers v.peers)
      (and_intro (exact snapshot_key_words snapshot_key_of (records 4 (length s.snapshot_keys) (written s t).snapshot_keys)) _
      (ap (exact snapshot_key_words snapshot_key_of) keys-written ∙ all-exact snapshot_key_words snapshot_key_of valid_snapshot_key (λ k _. snapshot-key-of-words k) s.snapshot_keys v.keys)
      (ap (exact contested_words contested_of) contested-written ∙ all-exact contested_words contested_of valid_contested (λ c _. contested-of-words c) s.contested v.contested))

  pub written-valid : have_room (lengths t) ≡ true → Valid (with_counts p s) (written s t)
  unfolding lengths have_room is_valid
  written-valid room =
      let v = valid-says s e in
      let r = room_says t room in
      record {
        room =
            (λ i. leb peers_size (length-written peer_words 12 peer-long s.peers t.peers (omega (arith, v.few_peers, r.peers)) i)
            && (leb snapshot_keys_size (length-written snapshot_key_words 4 key-long s.snapshot_keys t.snapshot_keys (omega (arith, few_keys s v, r.snapshot_keys)) i)
            && leb contested_size (length-written contested_words 6 contested-long s.contested t.contested (omega (arith, few-contested s v, r.contested)) i)))
            ∙ room;
        state = and_intro (are_exact (with_counts p s) (written s t)) (valid (state_of (with_counts p s) (written s t))) written-exact (ap valid read_back ∙ e);
      }

valid-now : (p : PeerDemand) (t : PeerTables) → Valid p t → valid (state_of p t) ≡ true
unfolding is_valid
valid-now p t v = (both (are_exact p t) (valid (state_of p t)) v.state).1

-- ---- every call that changes the state
module _ (qs : List Question) (change : PeersState → PeersState) (p : PeerDemand) (t : PeerTables) (r : PeersChanged) (t' : PeerTables) (c : Changes qs change p t r t') where
  -- all questions answered 'yes', and one answered 'no'
  pub after-yes : passes qs ≡ true → (r.peers ≡ with_counts p (change (state_of p t))) × (t' ≡ written (change (state_of p t)) t)
  after-yes e = (c.value ∙ sym (changed-passed _ p qs e), c.words ∙ sym (changed-passed _ t qs e))

  pub after-no : passes qs ≡ false → (r.peers ≡ p) × (t' ≡ t)
  after-no e = (c.value ∙ ap (λ (b : Bool). cond b (with_counts p (change (state_of p t))) p) e, c.words ∙ ap (λ (b : Bool). cond b (written (change (state_of p t)) t) t) e)

  changed-again : passes (peers_questions p t) ≡ true → (passes qs ≡ true → valid (change (state_of p t)) ≡ true) → passes (peers_questions r.peers t') ≡ true
  changed-again before keeps = split (passes qs)
      (λ e.
      let u = after-yes e in
      (λ i. passes (peers_questions (u.0 i) (u.1 i))) ∙ valid-passes _ _ (written-valid p (change (state_of p t)) t (keeps e) (passes-valid p t before).room))
      (λ e.
      let u = after-no e in
      (λ i. passes (peers_questions (u.0 i) (u.1 i))) ∙ before)

  -- a change that leaves a valid state as it is leaves the value and every word of the tables
  pub unmoved : (passes qs ≡ true → Valid p t) → change (state_of p t) ≡ state_of p t → (r.peers ≡ p) × (t' ≡ t)
  unmoved ok same = split (passes qs)
      (λ e.
      let u = after-yes e in
      let k = stores-still p t (ok e) in
      (u.0 ∙ ap (with_counts p) same ∙ sym k.value, u.1 ∙ ap (λ (s : PeersState). written s t) same ∙ sym k.words))
      after-no

-- 01: 'A report that passes every question but whose origin is not the sender changes nothing'
pub ignored : (p : PeerDemand) (t t' : PeerTables) (r : PeersChanged) (id at : ℕ) (report : DemandReport) → Applies p t id report at r t' → (report.origin ≡ id → ⊥) → (r.peers ≡ p) × (t' ≡ t)
ignored p t t' r id at report c other =
    unmoved (report_questions p t id report) (changes.apply changes.implausible_jump id report at) p t r t' c
    (λ e. let d = passed-says p t id report (record { questions = none_passed (report_questions p t id report) e }) in record { room = d.room; state = d.state })
    (sym (applies-other changes.implausible_jump id at report (state_of p t) other))

module _ (p : PeerDemand) (t t' : PeerTables) (r : PeersChanged) (before : passes (peers_questions p t) ≡ true) where
  was-valid : valid (state_of p t) ≡ true
  was-valid = valid-now p t (passes-valid p t before)

  pub applied-again : (id at : ℕ) (report : DemandReport) → Widths id at report → all fits_widths report.keys ≡ true → Applies p t id report at r t' → passes (peers_questions r.peers t') ≡ true
  applied-again id at report ws fit c =
      changed-again (report_questions p t id report) (changes.apply changes.implausible_jump id report at) p t r t' c before
      (λ e.
      let d = passed-says p t id report (record { questions = none_passed (report_questions p t id report) e }) in
      apply-valid changes.implausible_jump id at report (state_of p t) ws fit d.count d.demands d.place was-valid)

  pub forgotten-again : (id : ℕ) → Forgets p t id r t' → passes (peers_questions r.peers t') ≡ true
  forgotten-again id c = changed-again (peers_questions p t) (changes.forget id) p t r t' c before (λ e. forget-valid id (state_of p t) was-valid)

  pub left-again : (id at hold : ℕ) → Leaves p t id at hold r t' → passes (peers_questions r.peers t') ≡ true
  left-again id at hold c = changed-again (peers_questions p t) (changes.leave id at hold) p t r t' c before (λ e. leave-valid id at hold (state_of p t) was-valid)

  pub expired-again : (at max_age : ℕ) → Expires p t at max_age r t' → passes (peers_questions r.peers t') ≡ true
  expired-again at max_age c = changed-again (peers_questions p t) (changes.expire at max_age) p t r t' c before (λ e. expire-valid at max_age (state_of p t) was-valid)

-- ---- and what `new` gives passes them
new-valid : (t : PeerTables) → is_valid new_peers t ≡ true
unfolding is_valid are_exact state_of records valid valid_peers valid_snapshot_keys valid_contesteds all ascending
new-valid t = refl

pub new-passes : (t : PeerTables) (r : Result PeerDemand Refusal) (p : PeerDemand) → IsNew t r → answer_of r ≡ given p → passes (peers_questions p t) ≡ true
unfolding passes
new-passes t r p c e =
    let w = given-passed (new_questions t) p new_peers (sym e ∙ c) in
    subst (λ (x : PeerDemand). passes (peers_questions x t) ≡ true) (sym w.1) (valid-passes new_peers t (record { room = (both (have_room (lengths t)) true w.0).0; state = new-valid t }))
