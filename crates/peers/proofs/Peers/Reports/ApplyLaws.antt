-- Laws: what a report that passed its questions finds in the tables, and what they hold after it.
use Rattle.std.proofs.Common.{◌≡◌, ℕ, ◌*◌, ◌<◌, ◌≤◌, Bool, true, false, ◌||◌, leb, List, [], ◌∷◌, map, length, sym, refl, ap, ◌∙◌, arith, le-ltb, lt-ltb, le-leb, leb-true}
use mathlib.Core.Bool.{or-false}
use borrow.Author.Tests.{lt-leb}
use lib.ListN.{length-map}
use Rattle.records.specs.Records.{records, ascending}
use Rattle.questions.proofs.Tests.{both, or_right}
use Rattle.records.proofs.Words.RecordLaws.{length-records}
use Rattle.peers.specs.declared.peer_demand.DemandReport.{DemandReport}
use Rattle.peers.specs.declared.peer_demand.PeerDemand.{PeerDemand}
use Rattle.questions.specs.Questions.{Question, ◌asks◌, passes, first_no}
use Rattle.questions.proofs.Answers.{passed_none, first-no, first-yes, first-none, first_more, first_rest}
use Rattle.peers.specs.Peers.Records.{peer_words, snapshot_key_words, contested_words, peer_of, snapshot_key_of, contested_of}
use Rattle.peers.specs.Peers.State.{PeerTables, is_known, lengths, have_room, state_of, are_exact, is_valid, valid}
use Rattle.records.specs.Typed.{exact}
use Rattle.peers.specs.Peers.Calls.{has_demands, has_place, peers_questions, report_questions}
use Rattle.peers.specs.Peers.Steps.Runs.{keys_in, contested_in, peers_in, Passed, Known}
use Rattle.peers.proofs.Peers.CallLaws.{peers-numbered, report-numbered}
use Rattle.records.proofs.Tables.TypedLaws.{words-of-exact}
use Rattle.peers.proofs.Peers.Validity.ValidLaws.{Roomy, room_says}
use Rattle.peers.proofs.Peers.Reports.KeptLaws.{ValidState, valid-says, few_keys, few-contested}

-- ---- the questions

pub record Sound (p : PeerDemand) (t : PeerTables) (id : ℕ) (r : DemandReport) : Type 0 where
  pub room : have_room (lengths t) ≡ true
  pub state : is_valid p t ≡ true
  pub count : r.count ≤ 64
  pub demands : has_demands r ≡ true
  pub place : has_place id (state_of p t).peers ≡ true

pub passed-says : (p : PeerDemand) (t : PeerTables) (id : ℕ) (r : DemandReport) → Passed p t id r → Sound p t id r
unfolding passes
passed-says p t id r e =
    let q = passed_none (report_questions p t id r) 0 (report-numbered p t id r) (sym e.questions) refl in
    let a = both (have_room (lengths t)) _ q in
    let b = both (is_valid p t) _ a.1 in
    let c = both (leb r.count 64) _ b.1 in
    let d = both (has_demands r) _ c.1 in
    record {
      room = a.0;
      state = b.0;
      count = leb-true r.count 64 c.0;
      demands = d.0;
      place = (both (has_place id (state_of p t).peers) true d.1).0;
    }

module _ (p : PeerDemand) (t : PeerTables) (id : ℕ) (r : DemandReport) where
  -- what is asked of the report alone
  abbrev asks-report : List Question
  asks-report = (10 asks leb r.count 64) ∷ (11 asks has_demands r) ∷ (12 asks has_place id (state_of p t).peers) ∷ []

  pub report-no : (n : ℕ) → n ≡ first_no (peers_questions p t) → (n ≡ 0 → ⊥) → n ≡ first_no (report_questions p t id r)
  report-no n e h = first_more (peers_questions p t) asks-report n e h

  -- questions 1 and 2 passed: the others decide
  module _ (n : ℕ) (e : n ≡ first_no (peers_questions p t)) (z : n ≡ 0) where
    rest : first_no asks-report ≡ first_no (report_questions p t id r)
    rest = first_rest (peers_questions p t) asks-report (passed_none (peers_questions p t) n (peers-numbered p t) e z)

    pub report-ten : 64 < r.count → 10 ≡ first_no (report_questions p t id r)
    report-ten h = first-no 10 _ (lt-leb r.count 64 h) ∙ rest

    pub report-eleven : r.count ≤ 64 → has_demands r ≡ false → 11 ≡ first_no (report_questions p t id r)
    report-eleven h d = first-yes 10 _ (le-leb r.count 64 h) (first-no 11 _ d) ∙ rest

    pub report-twelve : r.count ≤ 64 → has_demands r ≡ true → has_place id (state_of p t).peers ≡ false → 12 ≡ first_no (report_questions p t id r)
    report-twelve h d f = first-yes 10 _ (le-leb r.count 64 h) (first-yes 11 _ d (first-no 12 _ f)) ∙ rest

    pub report-none : r.count ≤ 64 → has_demands r ≡ true → has_place id (state_of p t).peers ≡ true → 0 ≡ first_no (report_questions p t id r)
    report-none h d f = first-yes 10 _ (le-leb r.count 64 h) (first-yes 11 _ d (first-yes 12 _ f first-none)) ∙ rest

  -- places free; none free, and the peer known or not
  as_many : length (peers_in p.peers t.peers) ≡ p.peers
  as_many = length-map (records 12 p.peers t.peers) peer_of ∙ length-records 12 p.peers t.peers

  pub place-free : p.peers < 32 → has_place id (state_of p t).peers ≡ true
  unfolding state_of
  place-free h = or_right (is_known (peers_in p.peers t.peers) id) _ (lt-ltb (length (peers_in p.peers t.peers)) 32 (omega (arith, h, as_many)))

  pub place-full : 32 ≤ p.peers → has_place id (state_of p t).peers ≡ is_known (peers_in p.peers t.peers) id
  unfolding state_of
  place-full h =
      ap (λ (x : Bool). is_known (peers_in p.peers t.peers) id || x) (le-ltb (length (peers_in p.peers t.peers)) 32 (omega (arith, h, as_many)))
      ∙ or-false (is_known (peers_in p.peers t.peers) id)

-- ---- the tables of a valid state
pub record Tables (p : PeerDemand) (t : PeerTables) : Type 0 where
  pub roomy : Roomy t
  pub peers_exact : records 12 p.peers t.peers ≡ map peer_words (peers_in p.peers t.peers)
  pub keys_exact : records 4 p.snapshot_keys t.snapshot_keys ≡ map snapshot_key_words (keys_in p.snapshot_keys t.snapshot_keys)
  pub contested_exact : records 6 p.contested t.contested ≡ map contested_words (contested_in p.contested t.contested)
  pub valids : ValidState (state_of p t)

pub tables-of : (p : PeerDemand) (t : PeerTables) → have_room (lengths t) ≡ true → is_valid p t ≡ true → Tables p t
unfolding is_valid are_exact
tables-of p t h e =
    let a = both (are_exact p t) (valid (state_of p t)) e in
    let b = both (exact peer_words peer_of (records 12 p.peers t.peers)) _ a.0 in
    let c = both (exact snapshot_key_words snapshot_key_of (records 4 p.snapshot_keys t.snapshot_keys)) _ b.1 in
    record {
      roomy = room_says t h;
      peers_exact = sym (words-of-exact peer_words peer_of (records 12 p.peers t.peers) b.0);
      keys_exact = sym (words-of-exact snapshot_key_words snapshot_key_of (records 4 p.snapshot_keys t.snapshot_keys) c.0);
      contested_exact = sym (words-of-exact contested_words contested_of (records 6 p.contested t.contested) c.1);
      valids = valid-says (state_of p t) a.1;
    }

module _ (p : PeerDemand) (t : PeerTables) (o : Tables p t) where
  peers-count : p.peers ≤ 32
  unfolding state_of
  peers-count = omega (arith, o.valids.few_peers, length-map (records 12 p.peers t.peers) peer_of, length-records 12 p.peers t.peers)

  keys-count : p.snapshot_keys ≤ 2048
  unfolding state_of
  keys-count = omega (arith, few_keys (state_of p t) o.valids, length-map (records 4 p.snapshot_keys t.snapshot_keys) snapshot_key_of, length-records 4 p.snapshot_keys t.snapshot_keys)

  contested-count : p.contested ≤ 8192
  unfolding state_of
  contested-count = omega (arith, few-contested (state_of p t) o.valids, length-map (records 6 p.contested t.contested) contested_of, length-records 6 p.contested t.contested)

  pub peers-fit : p.peers * 12 ≤ length t.peers
  peers-fit = omega (arith, peers-count, o.roomy.peers)

  pub keys_fit : p.snapshot_keys * 4 ≤ length t.snapshot_keys
  keys_fit = omega (arith, keys-count, o.roomy.snapshot_keys)

  pub contested-fit : p.contested * 6 ≤ length t.contested
  contested-fit = omega (arith, contested-count, o.roomy.contested)

  pub known-table : Known p.peers t.peers
  unfolding state_of
  known-table = record {
    fit = peers-fit;
    exact = o.peers_exact;
    valids = o.valids.peers;
    ascends = ap (ascending 1) o.peers_exact ∙ o.valids.peers_ascend;
  }

  pub keys-asc : ascending 2 (records 4 p.snapshot_keys t.snapshot_keys) ≡ true
  unfolding state_of
  keys-asc = ap (ascending 2) o.keys_exact ∙ o.valids.keys_ascend

  pub contested-asc : ascending 2 (records 6 p.contested t.contested) ≡ true
  unfolding state_of
  contested-asc = ap (ascending 2) o.contested_exact ∙ o.valids.contested_ascend
