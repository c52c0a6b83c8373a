-- What a valid state says of a key, by its words.
use Rattle.std.proofs.Common.{subst, is_some, ok_or, IfSome, MatchOption, ◌≡◌, ℕ, zero, suc, ◌+◌, ◌*◌, ◌^◌, ◌<◌, ◌≤◌, Bool, true, false, cond, not, ◌&&◌, ◌||◌, eqb, ltb, leb, List, [], ◌∷◌, map, length, get_or, drop, sym, refl, ap, ◌∙◌, add-one, arith, drop_of_length-le, drop-cons, ltb-true, eqb-true, leb-true}
use lib.Ieee.{Float, binary64, of_bits}
use lib.ListN.{length-map}
use Rattle.records.specs.declared.Found.TheVariants.{At, Gap}
use Rattle.records.specs.Records.{records, ascending, find}
use Rattle.questions.proofs.Tests.{both}
use Rattle.records.proofs.Words.RecordLaws.{length-records, record-length}
use Rattle.records.proofs.Order.PlaceLaws.{find_at, at-says}
use Rattle.peers.specs.declared.peer_demand.PeerDemand.{PeerDemand}
use Rattle.peers.specs.declared.peer_state.KeyStarts.{KeyStarts}
use Rattle.questions.specs.Questions.{given, answer, first_no}
use Rattle.questions.proofs.Answers.{answer-passed, passed_none, first-no, first-yes, first-none}
use Rattle.questions.specs.Lists.{only, all, any, first, present, those}
use Rattle.peers.specs.Peers.Records.{PeerRecord, SnapshotKey, ContestedKey, snapshot_of, peer_of, snapshot_key_of, contested_of}
use Rattle.peers.specs.Peers.State.{PeersState, PeerTables, max_peers, max_demand_keys, max_contested, peer_with, state_of, lengths, have_room, is_valid}
use Rattle.records.specs.Typed.{is_word, first_word, second_word, are_records}
use Rattle.records.specs.Fields.{is_time}
use Rattle.peers.specs.Peers.Steps.Scan.{is_snapshot, is_peer, are_peer_words, are_key_words, are_peers, are_keys, is_scanned, PeersReady}
use Rattle.peers.specs.Peers.Readers.{heard_taken, heard_contested, snapshot_key_at, contested_at, join, peer_heard, heard_in, heard, add_heard, total_from, total, is_primary, hot_elsewhere}
use Rattle.peers.specs.Peers.Steps.Heard.{counted, is_listed, KeyTable, KeyIn, StateReady, Started, Readable, Asked}
use Rattle.peers.specs.Peers.Calls.{peers_questions}
use Rattle.questions.proofs.ListLaws.{mapped, any-map, only-map, all-index, any_here, any-end, only_here, only_end, any-only}
use Rattle.records.proofs.Order.FindLaws.{Long}
use Rattle.peers.proofs.Peers.Validity.ValidLaws.{room_says, peers-ready, keys-ready, scanned-is-valid}
use Rattle.records.proofs.Tables.TypedLaws.{all_words}
use Rattle.records.proofs.Words.RowLaws.{word-at, first-at, key-at}
use Rattle.peers.proofs.Peers.CallLaws.{peers-numbered, asked-all}
use Rattle.peers.proofs.Peers.Readers.HeardLaws.{peer-of-id, word-found, word-missing, any-epoch, has_words, picked_words}
use Rattle.std.specs.declared.option.Option.{Option}
use Rattle.std.specs.declared.option.Option.TheVariants.{None, Some}
use Rattle.std.specs.declared.result.Result.{Result}
use Rattle.std.specs.declared.result.Result.TheVariants.{Ok, Err}
use Rattle.questions.specs.declared.Refusal.{Refusal}
use Rattle.questions.specs.declared.Refusal.TheVariants.{Invalid}
use Rattle.questions.specs.Refusals.{number, asked}
use Rattle.questions.proofs.RefusalLaws.{number-nonzero}

-- ---- answers by the number of the first 'no'
pub answer-yes : {A : Type 0} (p : PeerDemand) (t : PeerTables) (n : ℕ) (u v : A) → n ≡ first_no (peers_questions p t) → n ≡ 0 → u ≡ v → given u ≡ answer (peers_questions p t) v
answer-yes p t n u v e h q = ap given q ∙ answer-passed v (peers_questions p t) (passed_none (peers_questions p t) n (peers-numbered p t) e h)

-- ---- an asker that refuses
pub asked-no : (p : PeerDemand) (t : PeerTables) (x : Refusal) → number x ≡ first_no (peers_questions p t) → Asked p t (Err x)
asked-no p t x f = record { first = f; ready = λ s e. absurd (number-nonzero x (ap asked e)) }

ok-is : {A : Type 0} (a b : A) → ◌≡◌ {A = Result A Refusal} (Ok a) (Ok b) → a ≡ b
ok-is a b e = cc

-- ---- what questions 1 and 2 give to the readers
module _ (p : PeerDemand) (t : PeerTables) where
  key-table : (w bound least n : ℕ) (ps : List (List ℕ)) (xs : List ℕ) → 4 ≤ w → max_peers * bound * w ≤ length xs → are_keys w least bound ps (records w n xs) ≡ true → KeyTable w n xs
  unfolding are_keys
  key-table w bound least n ps xs wide room e =
      let rs : List (List ℕ) = records w n xs in
      let a = both (leb (length rs) (max_peers * bound)) _ e in
      let b = both (all (are_key_words w) rs) _ a.1 in
      let c = both (ascending 2 rs) _ b.1 in
      let few : n ≤ max_peers * bound = omega (arith, leb-true (length rs) (max_peers * bound) a.0, length-records w n xs) in
      record { ready = keys-ready w n (max_peers * bound) xs wide room few; ascend = c.0; pass = b.0 }

  pub state-ready : first_no (peers_questions p t) ≡ 0 → all is_word t.peers ≡ true → all is_word t.snapshot_keys ≡ true → all is_word t.contested ≡ true → StateReady p t
  unfolding is_scanned are_peers are_records
  state-ready e wp wk wc =
      let q = asked-all p t 0 (sym e) refl in
      let r = room_says t q.room in
      let ps : List (List ℕ) = records 12 p.peers t.peers in
      let s : is_scanned p t ≡ true = scanned-is-valid p t q.room wp wk wc ∙ q.state in
      let a = both (are_peers ps) _ s in
      let b = both (are_keys 4 1 max_demand_keys ps (records 4 p.snapshot_keys t.snapshot_keys)) _ a.1 in
      let c = both (leb (length ps) max_peers) _ a.0 in
      let d = both (all are_peer_words ps) _ c.1 in
      record {
        peers = peers-ready p.peers t.peers r.peers a.0;
        pass = d.0;
        snapshot_keys = key-table 4 max_demand_keys 1 p.snapshot_keys ps t.snapshot_keys (omega arith) (omega (arith, r.snapshot_keys)) b.0;
        contested = key-table 6 max_contested 0 p.contested ps t.contested (omega arith) (omega (arith, r.contested)) b.1;
      }

  -- by the answer of the asker and the bounds of the lent words
  pub asked-ready : (n : ℕ) → n ≡ first_no (peers_questions p t) → n ≡ 0 → ((i : ℕ) → get_or t.peers i 0 < 2 ^ 64) → ((i : ℕ) → get_or t.snapshot_keys i 0 < 2 ^ 64) → ((i : ℕ) → get_or t.contested i 0 < 2 ^ 64) → StateReady p t
  asked-ready n e h wp wk wc = state-ready (sym e ∙ h) (all_words t.peers wp) (all_words t.snapshot_keys wk) (all_words t.contested wc)

  -- an asker that answers with the starts
  pub asked-yes : (s : KeyStarts) → 0 ≡ first_no (peers_questions p t) → ((i : ℕ) → get_or t.peers i 0 < 2 ^ 64) → ((i : ℕ) → get_or t.snapshot_keys i 0 < 2 ^ 64) → ((i : ℕ) → get_or t.contested i 0 < 2 ^ 64) → Started p t s → Asked p t (Ok s)
  asked-yes s e wp wk wc f = record {
    first = e;
    ready = λ s' i. subst (Readable p t) (ok-is s s' i) (record { ready = asked-ready 0 e refl wp wk wc; started = f });
  }

  -- an asker that answers with the starts of a valid state
  pub asked-by :
      (o : Option KeyStarts) (r : Result KeyStarts Refusal) → r ≡ ok_or o Invalid → have_room (lengths t) ≡ true → is_some o ≡ is_valid p t → IfSome o (Started p t)
      → ((i : ℕ) → get_or t.peers i 0 < 2 ^ 64) → ((i : ℕ) → get_or t.snapshot_keys i 0 < 2 ^ 64) → ((i : ℕ) → get_or t.contested i 0 < 2 ^ 64) → Asked p t r
  asked-by None r e room v f wp wk wc = subst (Asked p t) (sym e) (asked-no p t Invalid (first-yes 1 _ room (first-no 2 _ (sym v))))
  asked-by (Some s) r e room v f wp wk wc = subst (Asked p t) (sym e) (asked-yes s (first-yes 1 _ room (first-yes 2 _ (sym v) first-none)) wp wk wc f)

-- ---- the peers' table
snapshot-round : (flag epoch round at : ℕ) → is_snapshot flag epoch round at ≡ true → round < 2 ^ 16
unfolding is_snapshot
snapshot-round zero epoch round at e =
    let b = both (eqb epoch 0) (eqb round 0 && eqb at 0) e in
    omega (arith, eqb-true round 0 (both (eqb round 0) (eqb at 0) b.1).0)
snapshot-round (suc flag) epoch round at e =
    let b = both (eqb (suc flag) 1) (ltb epoch (2 ^ 32) && ltb round (2 ^ 16)) e in
    ltb-true round (2 ^ 16) (both (ltb epoch (2 ^ 32)) (ltb round (2 ^ 16)) b.1).1

module _ (n : ℕ) (xs : List ℕ) (ready : PeersReady n xs) where
  pub long-peers : Long 1 (records 12 n xs)
  long-peers i h = omega (arith, record-length 12 n xs i (omega (arith, h, length-records 12 n xs)) ready.fit)

  pub peer-at : (i : ℕ) → i < n → find 1 (get_or xs (i * 12) 0 ∷ []) (records 12 n xs) ≡ At i
  peer-at i h =
      find_at 1 (get_or xs (i * 12) 0 ∷ []) (records 12 n xs) i ready.ascend (omega (arith, h, length-records 12 n xs)) (key-at 12 n xs i h (omega arith) ready.fit)

  pub id-at : (id i : ℕ) → find 1 (id ∷ []) (records 12 n xs) ≡ At i → (i < n) × (get_or xs (i * 12) 0 ≡ id)
  id-at id i e =
      let at = at-says 1 (id ∷ []) (records 12 n xs) i e in
      let h : i < n = omega (arith, at.0, length-records 12 n xs) in
      (h, ap (λ (l : List ℕ). get_or l 0 0) (sym (key-at 12 n xs i h (omega arith) ready.fit) ∙ at.1))

  pub peer-here : (i : ℕ) → i < n → peer_with (get_or xs (i * 12) 0) (map peer_of (records 12 n xs)) ≡ Some (peer_of (get_or (records 12 n xs) i []))
  peer-here i h =
      peer-of-id (get_or xs (i * 12) 0) (records 12 n xs) ∙ ap (mapped peer_of) (word-found (get_or xs (i * 12) 0) (records 12 n xs) ready.ascend long-peers i (peer-at i h))

  pub peer-missing : (id i : ℕ) → find 1 (id ∷ []) (records 12 n xs) ≡ Gap i → peer_with id (map peer_of (records 12 n xs)) ≡ None
  peer-missing id i e = peer-of-id id (records 12 n xs) ∙ ap (mapped peer_of) (word-missing id (records 12 n xs) ready.ascend long-peers i e)

  pub peer-round : all are_peer_words (records 12 n xs) ≡ true → (i : ℕ) → i < n → get_or xs (i * 12 + 5) 0 < 2 ^ 16
  unfolding is_peer
  peer-round pass i h =
      let r : List ℕ = get_or (records 12 n xs) i [] in
      let e = all-index are_peer_words [] (records 12 n xs) pass i (omega (arith, h, length-records 12 n xs)) in
      let b = both (is_time (get_or r 1 0) (get_or r 2 0)) _ e in
      let c = both (is_snapshot (get_or r 3 0) (get_or r 4 0) (get_or r 5 0) (get_or r 6 0)) _ b.1 in
      omega (arith, snapshot-round (get_or r 3 0) (get_or r 4 0) (get_or r 5 0) (get_or r 6 0) c.0, word-at 12 n xs i 5 h (omega arith))

-- ---- what is heard, from both tables
module _ (p : PeerDemand) (t : PeerTables) (ready : StateReady p t) (key : ℕ) where
  abbrev ks : List SnapshotKey
  ks = map snapshot_key_of (records 4 p.snapshot_keys t.snapshot_keys)

  abbrev cs : List ContestedKey
  cs = map contested_of (records 6 p.contested t.contested)

  abbrev word : ℕ → ℕ → ℕ
  word i j = get_or t.peers (i * 12 + j) 0

  pub heard-here : (i : ℕ) → i < p.peers → heard (get_or t.peers (i * 12) 0) key (state_of p t) ≡ peer_heard key (state_of p t) (peer_of (get_or (records 12 p.peers t.peers) i []))
  unfolding heard state_of
  heard-here i h = ap (heard_in key (state_of p t)) (peer-here p.peers t.peers ready.peers i h)

  pub heard-at : (i : ℕ) → i < p.peers → join (heard_taken (snapshot_of (word i 3) 0 (word i 5) (word i 6)) (snapshot_key_at (get_or t.peers (i * 12) 0) key ks)) (heard_contested (contested_at (get_or t.peers (i * 12) 0) key cs)) ≡ heard (get_or t.peers (i * 12) 0) key (state_of p t)
  unfolding state_of peer_of
  heard-at i h =
      let id : ℕ = get_or t.peers (i * 12) 0 in
      let at : (j : ℕ) → j < 12 → get_or (get_or (records 12 p.peers t.peers) i []) j 0 ≡ word i j = λ j. word-at 12 p.peers t.peers i j h in
      let first : get_or (get_or (records 12 p.peers t.peers) i []) 0 0 ≡ id = first-at 12 p.peers t.peers i h (omega arith) in
      ap (λ z. join z (heard_contested (contested_at id key cs))) (any-epoch (word i 3) (word i 4) (word i 5) (word i 6) (snapshot_key_at id key ks))
      ∙ sym (heard-here i h
      ∙ (λ k. join (heard_taken (snapshot_of (at 3 (omega arith) k) (at 4 (omega arith) k) (at 5 (omega arith) k) (at 6 (omega arith) k)) (snapshot_key_at (first k) key ks)) (heard_contested (contested_at (first k) key cs))))

  -- of a peer that is not known, nothing
  pub heard-missing : (id i : ℕ) → find 1 (id ∷ []) (records 12 p.peers t.peers) ≡ Gap i → None ≡ heard id key (state_of p t)
  unfolding heard state_of
  heard-missing id i e = sym (ap (heard_in key (state_of p t)) (peer-missing p.peers t.peers ready.peers id i e))

-- ---- over all peers
module _ (p : PeerDemand) (t : PeerTables) (key : ℕ) where
  abbrev prs : List (List ℕ)
  prs = records 12 p.peers t.peers

  abbrev state : PeersState
  state = state_of p t

  -- the sum so far, and what is left to add
  pub total-starts : total_from (of_bits binary64 0) key state (map peer_of (drop 0 prs)) ≡ total key state
  unfolding state_of
  total-starts = refl

  pub total-goes : (ready : StateReady p t) (sum : Float) (i : ℕ) → i < p.peers → total_from sum key state (map peer_of (drop i prs)) ≡ total_from (add_heard sum (heard (get_or t.peers (i * 12) 0) key state)) key state (map peer_of (drop (i + 1) prs))
  unfolding total_from
  total-goes ready sum i h =
      ap (λ (l : List (List ℕ)). total_from sum key state (map peer_of l)) (drop-cons prs i [] (omega (arith, h, length-records 12 p.peers t.peers)))
      ∙ ap (λ x. total_from (add_heard sum x) key state (map peer_of (drop (suc i) prs))) (sym (heard-here p t ready key i h))
      ∙ ap (λ (m : ℕ). total_from (add_heard sum (heard (get_or t.peers (i * 12) 0) key state)) key state (map peer_of (drop m prs))) (sym (add-one i))

  pub total-ends : (sum : Float) (i : ℕ) → p.peers ≤ i → total_from sum key state (map peer_of (drop i prs)) ≡ sum
  unfolding total_from
  total-ends sum i h =
      let past : length prs ≤ i = omega (arith, h, length-records 12 p.peers t.peers) in
      ap (λ (l : List (List ℕ)). total_from sum key state (map peer_of l)) (drop_of_length-le prs past)

  -- whether some peer holds it hot
  abbrev pub holds : List ℕ → Bool
  holds r = is_primary (peer_heard key state (peer_of r))

  pub hot-starts : hot_elsewhere key state ≡ any holds (drop 0 prs)
  unfolding hot_elsewhere state_of
  hot-starts = any-map peer_of (λ (q : PeerRecord). is_primary (peer_heard key state q)) prs

  pub hot-here : (ready : StateReady p t) (i : ℕ) → i < p.peers → is_primary (heard (get_or t.peers (i * 12) 0) key state) ≡ true → hot_elsewhere key state ≡ any holds (drop i prs) → true ≡ hot_elsewhere key state
  hot-here ready i h e inv = sym
      (inv ∙ any_here holds [] prs i (omega (arith, h, length-records 12 p.peers t.peers))
      ∙ ap (λ (b : Bool). b || any holds (drop (suc i) prs)) (sym (ap is_primary (heard-here p t ready key i h)) ∙ e))

  pub hot-goes : (ready : StateReady p t) (i : ℕ) → i < p.peers → is_primary (heard (get_or t.peers (i * 12) 0) key state) ≡ false → hot_elsewhere key state ≡ any holds (drop i prs) → hot_elsewhere key state ≡ any holds (drop (i + 1) prs)
  hot-goes ready i h e inv =
      inv ∙ any_here holds [] prs i (omega (arith, h, length-records 12 p.peers t.peers))
      ∙ ap (λ (b : Bool). b || any holds (drop (suc i) prs)) (sym (ap is_primary (heard-here p t ready key i h)) ∙ e)
      ∙ ap (λ (m : ℕ). any holds (drop m prs)) (sym (add-one i))

  pub hot-ends : (i : ℕ) → p.peers ≤ i → hot_elsewhere key state ≡ any holds (drop i prs) → false ≡ hot_elsewhere key state
  hot-ends i h inv = sym (inv ∙ any-end holds [] prs i (omega (arith, h, length-records 12 p.peers t.peers)))

-- ---- how many keys
pub listed-by : (id key : ℕ) (rs : List (List ℕ)) → is_listed id key (map snapshot_key_of rs) ≡ present (first (those second_word key (those first_word id rs)))
unfolding is_listed snapshot_key_of
listed-by id key rs =
    any-map snapshot_key_of (λ (k : SnapshotKey). eqb k.peer id && eqb k.key key) rs
    ∙ any-only (has_words id key) rs
    ∙ ap (λ zs. present (first zs)) (sym (picked_words id key rs))

pub listed-as : {B : Type 0} (words : B → List ℕ) (o : Option B) (w id key : ℕ) (rs : List (List ℕ)) → MatchOption o (first (those second_word key (those first_word id rs)) ≡ None) (λ b. KeyIn w id key rs (words b)) → is_some o ≡ is_listed id key (map snapshot_key_of rs)
listed-as words None w id key rs h = sym (listed-by id key rs ∙ ap present h)
listed-as words (Some b) w id key rs h = sym (listed-by id key rs ∙ ap present h.is_first)

-- a contested key, by its words, that is not among the n snapshot keys in xs
abbrev pub alone : ℕ → List ℕ → List ℕ → Bool
alone n xs r = not (is_listed (first_word r) (second_word r) (map snapshot_key_of (records 4 n xs)))

pub len-starts : (p : PeerDemand) (t : PeerTables) → counted (state_of p t) ≡ p.snapshot_keys + length (only (alone p.snapshot_keys t.snapshot_keys) (drop 0 (records 6 p.contested t.contested)))
unfolding counted state_of is_listed contested_of
len-starts p t =
    let ks : List SnapshotKey = map snapshot_key_of (records 4 p.snapshot_keys t.snapshot_keys) in
    let crs : List (List ℕ) = records 6 p.contested t.contested in
    (λ k. (length-map (records 4 p.snapshot_keys t.snapshot_keys) snapshot_key_of ∙ length-records 4 p.snapshot_keys t.snapshot_keys) k + (ap length (only-map contested_of (λ (c : ContestedKey). not (is_listed c.peer c.key ks)) crs) ∙ length-map (only (alone p.snapshot_keys t.snapshot_keys) crs) contested_of) k)

one_more : (b : Bool) (xs : List (List ℕ)) (r : List ℕ) → length (cond (not b) (r ∷ xs) xs) ≡ cond b 0 1 + length xs
one_more true xs r = omega arith
one_more false xs r = omega arith

pub at_most_one : (b : Bool) → cond b 0 1 ≤ 1
at_most_one true = omega arith
at_most_one false = omega arith

-- what is left to count
module _ (n : ℕ) (xs : List ℕ) (m : ℕ) (ys : List ℕ) where
  abbrev crs : List (List ℕ)
  crs = records 6 m ys

  pub len-goes : (i : ℕ) → i < m → length (only (alone n xs) (drop i crs)) ≡ cond (is_listed (get_or ys (i * 6) 0) (get_or ys (i * 6 + 1) 0) (map snapshot_key_of (records 4 n xs))) 0 1 + length (only (alone n xs) (drop (i + 1) crs))
  len-goes i h =
      let r : List ℕ = get_or crs i [] in
      ap length (only_here (alone n xs) [] crs i (omega (arith, h, length-records 6 m ys)))
      ∙ one_more (is_listed (first_word r) (second_word r) (map snapshot_key_of (records 4 n xs))) (only (alone n xs) (drop (suc i) crs)) r
      ∙ (λ k. cond (is_listed (first-at 6 m ys i h (omega arith) k) (word-at 6 m ys i 1 h (omega arith) k) (map snapshot_key_of (records 4 n xs))) 0 1 + length (only (alone n xs) (drop (sym (add-one i) k) crs)))

  pub len-ends : (i : ℕ) → m ≤ i → length (only (alone n xs) (drop i crs)) ≡ 0
  len-ends i h = ap length (only_end (alone n xs) [] crs i (omega (arith, h, length-records 6 m ys)))
