-- Where the keys of each peer start: as the scan finds it, and what it says of the keys of one peer.
use Rattle.std.proofs.Common.{◌≡◌, ℕ, zero, suc, ◌+◌, ◌-◌, ◌*◌, ◌<◌, ◌≤◌, eqb, ltb, List, [], map, length, get_or, take, drop, set, sym, ap, ◌∙◌, subst, mul-le-mul_right, arith, length-drop, length-set, length-take-le, get_or-drop, get_or-set_other, get_or-take, get_or-set_same, ltb-false, ltb-true, le-ltb, lt-ltb, eqb-true}
use lib.Seq.{slice}
use Rattle.records.specs.Records.{records, ascending}
use Rattle.questions.proofs.Tests.{split}
use Rattle.records.proofs.Words.RecordLaws.{length-records, sub-mul, record-length}
use Rattle.records.proofs.Order.OrderLaws.{asc-lt}
use Rattle.peers.specs.declared.peer_demand.PeerDemand.{PeerDemand}
use Rattle.peers.specs.declared.peer_state.KeyStarts.{KeyStarts}
use Rattle.peers.specs.declared.peer_readers.OwnKeys.{OwnKeys}
use Rattle.questions.specs.Lists.{all, first, those}
use Rattle.peers.specs.Peers.Records.{snapshot_of, snapshot_key_of, contested_of}
use Rattle.peers.specs.Peers.State.{PeerTables, tables, state_of}
use Rattle.peers.specs.Peers.Readers.{heard_taken, heard_contested, snapshot_key_at, contested_at, join, heard}
use Rattle.records.specs.Typed.{first_word, second_word}
use Rattle.peers.specs.Peers.Steps.Scan.{are_key_words, is_key_of, PeersReady, Starts}
use Rattle.peers.specs.Peers.Steps.Heard.{KeyTable, StateReady, Readable, OwnRun, Own, own_keys}
use Rattle.questions.proofs.ListLaws.{all-index, mapped}
use Rattle.records.proofs.Words.RowLaws.{first-at}
use Rattle.records.proofs.Order.RangeLaws.{those-is}
use Rattle.questions.proofs.OnlyLaws.{those-twice, all-only}
use Rattle.peers.proofs.Peers.Validity.ScanRunLaws.{ahead, key-says, run-keys, run-within}
use Rattle.peers.proofs.Peers.Readers.HeardLaws.{taken-of-words, contested-of-words}
use Rattle.peers.proofs.Peers.Readers.ReaderLaws.{heard-at}
use Rattle.records.proofs.Changes.RunLaws.{records-part}
use Rattle.records.proofs.Order.AscendingLaws.{asc-only, before-one}

-- ---- as the scan finds it
module _ (w n : ℕ) (xs peers : List ℕ) where
  -- the records of a run are of its peer
  run-own : (id from j : ℕ) → from ≤ j → j < from + ahead w n id xs 0 from → first_word (get_or (records w n xs) j []) ≡ id
  run-own id from j h l =
      let rs : List (List ℕ) = records w n xs in
      let m : ℕ = ahead w n id xs 0 from in
      let at : get_or (take m (drop from rs)) (j - from) [] ≡ get_or rs j [] =
      get_or-take m (drop from rs) (j - from) [] (omega arith) ∙ get_or-drop from rs (j - from) [] ∙ ap (λ (k : ℕ). get_or rs k []) (omega arith) in
      let size : length (take m (drop from rs)) ≡ m = length-take-le m (drop from rs) (run-within w id 0 (drop from rs)) in
      sym (ap first_word at) ∙ eqb-true (first_word (get_or (take m (drop from rs)) (j - from) [])) id
      (key-says w id 0 (get_or (take m (drop from rs)) (j - from) []) (all-index (is_key_of w id 0) [] (take m (drop from rs)) (run-keys w id 0 (drop from rs)) (j - from) (omega arith))).0

  pub starts-next : (i from to : ℕ) (starts : List ℕ) → Starts w n i from xs peers starts → i + 1 < length starts → to ≡ from + ahead w n (get_or peers (i * 12) 0) xs 0 from → Starts w n (i + 1) to xs peers (set starts (i + 1) to)
  starts-next i from to starts s h e =
      let old : (k : ℕ) → k < i + 1 → get_or (set starts (i + 1) to) k 0 ≡ get_or starts k 0 = λ k l. get_or-set_other starts (i + 1) k to 0 (λ q. omega arith) in
      let new : get_or (set starts (i + 1) to) (i + 1) 0 ≡ to = get_or-set_same starts (i + 1) to 0 h in
      record {
        room = omega (arith, length-set starts (i + 1) to);
        begin = old 0 (omega arith) ∙ s.begin;
        end = new;
        rise = λ k l. split (ltb k i)
            (λ f. let b : k < i = ltb-true k i f in omega (arith, old k (omega arith), old (k + 1) (omega arith), s.rise k b))
            (λ f. let q : k ≡ i = omega (arith, ltb-false k i f) in omega (arith, old k (omega arith), ap (λ (m : ℕ). get_or starts m 0) q, s.end, ap (λ (m : ℕ). get_or (set starts (i + 1) to) (m + 1) 0) q, new));
        own = λ k j l a b. split (ltb k i)
            (λ f. let c : k < i = ltb-true k i f in s.own k j c (omega (arith, old k (omega arith))) (omega (arith, old (k + 1) (omega arith))))
            (λ f.
            let q : k ≡ i = omega (arith, ltb-false k i f) in
            run-own (get_or peers (i * 12) 0) from j
            (omega (arith, old k (omega arith), ap (λ (m : ℕ). get_or starts m 0) q, s.end))
            (omega (arith, ap (λ (m : ℕ). get_or (set starts (i + 1) to) (m + 1) 0) q, new))
            ∙ ap (λ (m : ℕ). get_or peers (m * 12) 0) (sym q));
      }

-- ---- the keys of one peer are those from its start up to the next one
module _ (w n p : ℕ) (xs peers starts : List ℕ) (ready : PeersReady p peers) (s : Starts w n p n xs peers starts) where
  abbrev rs : List (List ℕ)
  rs = records w n xs

  abbrev start : ℕ → ℕ
  start k = get_or starts k 0

  abbrev id : ℕ → ℕ
  id k = get_or peers (k * 12) 0

  abbrev of : ℕ → ℕ
  of j = first_word (get_or rs j [])

  ids-rise : (k : ℕ) → k + 1 < p → id k < id (k + 1)
  ids-rise k h =
      let ps : List (List ℕ) = records 12 p peers in
      let l = before-one (get_or ps k []) (get_or ps (k + 1) []) (omega (arith, record-length 12 p peers k (omega arith) ready.fit)) (asc-lt 1 ps ready.ascend k (k + 1) (omega arith) (omega (arith, length-records 12 p peers))) in
      omega (arith, l, first-at 12 p peers k (omega arith) (omega arith), first-at 12 p peers (k + 1) h (omega arith))

  start-within : (d k : ℕ) → k + d ≡ p → start k ≤ n
  start-within zero k e =
      let q : k ≡ p = omega arith in
      omega (arith, ap start q, s.end)
  start-within (suc d) k e = omega (arith, s.rise k (omega arith), start-within d (k + 1) (omega arith))

  -- the records before a start are of smaller ids, those from the next start on of greater ones
  below : (k j : ℕ) → k < p → j < start k → of j < id k
  below zero j h l = absurd (omega (arith, s.begin))
  below (suc k) j h l =
      let q : suc k ≡ k + 1 = omega arith in
      let up : id k < id (suc k) = omega (arith, ids-rise k (omega arith), ap id q) in
      split (ltb j (start k))
      (λ f. omega (arith, below k j (omega arith) (ltb-true j (start k) f)))
      (λ f. omega (arith, s.own k j (omega arith) (ltb-false j (start k) f) (omega (arith, ap start q))))

  above : (d k j : ℕ) → k + 1 + d ≡ p → start (k + 1) ≤ j → j < n → id k < of j
  above zero k j e h l =
      let q : k + 1 ≡ p = omega arith in
      absurd (omega (arith, ap start q, s.end))
  above (suc d) k j e h l =
      let up : id k < id (k + 1) = ids-rise k (omega arith) in
      split (ltb j (start (k + 1 + 1)))
      (λ f. omega (arith, s.own (k + 1) j (omega arith) h (ltb-true j (start (k + 1 + 1)) f)))
      (λ f. omega (arith, above d (k + 1) j (omega arith) (ltb-false j (start (k + 1 + 1)) f) l))

  module _ (i : ℕ) (h : i < p) where
    own-ordered : (start i ≤ start (i + 1)) × (start (i + 1) ≤ n)
    own-ordered = (s.rise i h, start-within (p - (i + 1)) (i + 1) (omega arith))

    own_keys_lem : those first_word (id i) rs ≡ slice (start i) (start (i + 1)) rs
    own_keys_lem = those-is first_word [] (id i) rs (start i) (start (i + 1))
        (record {
          within = omega (arith, own-ordered, length-records w n xs);
          below = λ j l. lt-ltb (of j) (id i) (below i j h l);
          above = λ j l m. le-ltb (of j) (id i) (at_least j l (omega (arith, m, length-records w n xs)));
        })
        (record {
          within = omega (arith, own-ordered, length-records w n xs);
          below = λ j l. lt-ltb (of j) (id i + 1) (at_most j l);
          above = λ j l m. le-ltb (of j) (id i + 1) (omega (arith, above (p - (i + 1)) i j (omega arith) l (omega (arith, m, length-records w n xs))));
        })
      where
        at_least : (j : ℕ) → start i ≤ j → j < n → id i ≤ of j
        at_least j l m = split (ltb j (start (i + 1)))
            (λ f. omega (arith, s.own i j h l (ltb-true j (start (i + 1)) f)))
            (λ f. omega (arith, above (p - (i + 1)) i j (omega arith) (ltb-false j (start (i + 1)) f) m))

        at_most : (j : ℕ) → j < start (i + 1) → of j < id i + 1
        at_most j l = split (ltb j (start i))
            (λ f. omega (arith, below i j h (ltb-true j (start i) f)))
            (λ f. omega (arith, s.own i j h (ltb-false j (start i) f) l))

    pub own-run : OwnRun w n xs (id i) (start i) (start (i + 1))
    own-run = record { ordered = own-ordered.0; within = own-ordered.1; are = own_keys_lem }

-- ---- the words of one peer's keys, as a table
module _ (w n : ℕ) (xs : List ℕ) (id from to : ℕ) (own : OwnRun w n xs id from to) where
  abbrev part : List ℕ
  part = take (to * w - from * w) (drop (from * w) xs)

  part-is : records w (to - from) part ≡ those first_word id (records w n xs)
  part-is = records-part w n from to xs own.ordered own.within ∙ sym own.are

  own-those : those first_word id (records w (to - from) part) ≡ those first_word id (records w n xs)
  own-those = ap (those first_word id) part-is ∙ those-twice first_word id (records w n xs)

  own-table : KeyTable w n xs → KeyTable w (to - from) part
  unfolding those
  own-table table = record {
    ready = record {
      wide = table.ready.wide;
      fit =
          let a = mul-le-mul_right w own.within in
          omega (arith, a, sub-mul w to from own.ordered, table.ready.fit, length-drop (from * w) xs, length-take-le (to * w - from * w) (drop (from * w) xs) (omega (arith, length-drop (from * w) xs, a, table.ready.fit)));
    };
    ascend = ap (ascending 2) part-is ∙ asc-only 2 (λ (r : List ℕ). eqb (first_word r) id) (records w n xs) table.ascend;
    pass = ap (all (are_key_words w)) part-is ∙ all-only (are_key_words w) (λ (r : List ℕ). eqb (first_word r) id) (records w n xs) table.pass;
  }

-- ---- what is heard from a peer is heard from its own keys
pub own-told : (p : PeerDemand) (t : PeerTables) (s : KeyStarts) → Readable p t s → (i : ℕ) → i < p.peers → (o : OwnKeys) → o ≡ own_keys s.snapshot_keys s.contested i → Own p t i o
own-told p t s r i h o e = subst (Own p t i) (sym e) (record {
  snapshot_keys = own-run 4 p.snapshot_keys p.peers t.snapshot_keys t.peers s.snapshot_keys r.ready.peers r.started.snapshot_keys i h;
  contested = own-run 6 p.contested p.peers t.contested t.peers s.contested r.ready.peers r.started.contested i h;
})

module _ (p : PeerDemand) (t : PeerTables) (i : ℕ) (o : OwnKeys) (own : Own p t i o) where
  abbrev peer : ℕ
  peer = get_or t.peers (i * 12) 0

  abbrev alone : PeerDemand
  alone = record { peers = p.peers; snapshot_keys = o.snapshot_to - o.snapshot_from; contested = o.contested_to - o.contested_from }

  abbrev own_tables : PeerTables
  own_tables = tables t.peers (take (o.snapshot_to * 4 - o.snapshot_from * 4) (drop (o.snapshot_from * 4) t.snapshot_keys)) (take (o.contested_to * 6 - o.contested_from * 6) (drop (o.contested_from * 6) t.contested))

  pub own-ready : StateReady p t → StateReady alone own_tables
  own-ready ready = record {
    peers = ready.peers;
    pass = ready.pass;
    snapshot_keys = own-table 4 p.snapshot_keys t.snapshot_keys peer o.snapshot_from o.snapshot_to own.snapshot_keys ready.snapshot_keys;
    contested = own-table 6 p.contested t.contested peer o.contested_from o.contested_to own.contested ready.contested;
  }

  pub own-heard : StateReady p t → i < p.peers → (key : ℕ) → heard peer key (state_of alone own_tables) ≡ heard peer key (state_of p t)
  own-heard ready h key =
      let word : ℕ → ℕ = λ j. get_or t.peers (i * 12 + j) 0 in
      sym (heard-at alone own_tables (own-ready ready) key i h)
      ∙ (λ k. join (heard_taken (snapshot_of (word 3) 0 (word 5) (word 6)) (taken k)) (heard_contested (contested k)))
      ∙ heard-at p t ready key i h
    where
      taken : snapshot_key_at peer key (map snapshot_key_of (records 4 alone.snapshot_keys own_tables.snapshot_keys)) ≡ snapshot_key_at peer key (map snapshot_key_of (records 4 p.snapshot_keys t.snapshot_keys))
      taken =
          taken-of-words peer key (records 4 alone.snapshot_keys own_tables.snapshot_keys)
          ∙ ap (λ (l : List (List ℕ)). mapped snapshot_key_of (first (those second_word key l))) (own-those 4 p.snapshot_keys t.snapshot_keys peer o.snapshot_from o.snapshot_to own.snapshot_keys)
          ∙ sym (taken-of-words peer key (records 4 p.snapshot_keys t.snapshot_keys))

      contested : contested_at peer key (map contested_of (records 6 alone.contested own_tables.contested)) ≡ contested_at peer key (map contested_of (records 6 p.contested t.contested))
      contested =
          contested-of-words peer key (records 6 alone.contested own_tables.contested)
          ∙ ap (λ (l : List (List ℕ)). mapped contested_of (first (those second_word key l))) (own-those 6 p.contested t.contested peer o.contested_from o.contested_to own.contested)
          ∙ sym (contested-of-words peer key (records 6 p.contested t.contested))
