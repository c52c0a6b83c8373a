-- Laws: the contested keys of one peer, merged with those of a report and trimmed.
use Rattle.std.proofs.Common.{◌≡◌, ℕ, zero, suc, ◌+◌, ◌-◌, ◌*◌, ◌^◌, ◌<◌, ◌≤◌, max, Bool, true, false, cond, ◌||◌, eqb, ltb, List, [], ◌∷◌, map, length, get_or, take, drop, sym, refl, ap, ◌∙◌, subst, not-suc-le-zero, arith, length-drop, length-take-le, ltb-true, le-ltb, lt-ltb, eqb-true}
use lib.ListN.{length-map}
use Rattle.records.specs.declared.Found.TheVariants.{At, Gap}
use Rattle.records.specs.Records.{records, find, find_in, splice, remove_at, removable, removed}
use Rattle.questions.proofs.Tests.{both, and_intro}
use Rattle.records.proofs.Words.FieldLaws.{flag-fits}
use Rattle.records.proofs.Words.RecordLaws.{fits_intro, length-records, record-at, record-length}
use Rattle.records.proofs.Order.PlaceLaws.{find_at}
use Rattle.records.proofs.Changes.EditLaws.{length-remove}
use Rattle.records.proofs.Tables.TableLaws.{records-removed}
use Rattle.questions.specs.Lists.{all, first, those, replaced}
use Rattle.records.specs.Fields.{flag_word, flag_of}
use Rattle.peers.specs.Peers.Records.{SnapshotKey, ContestedKey, snapshot_key_words, snapshot_key_of, contested_words, contested_of}
use Rattle.records.specs.Typed.{is_word, word, Front, Run, second_word}
use Rattle.peers.specs.Peers.State.{is_demand, valid_snapshot_key, valid_contested}
use Rattle.peers.specs.Peers.Changes.{exceeds, fresh, merged, contested_with, merge_key, merge_keys, oldest, without_oldest, without_oldests}
use Rattle.peers.specs.Peers.Steps.Runs.{keys_in, contested_in, ContestedRun, KeyRun, OneKey}
use Rattle.questions.proofs.ListLaws.{all_map, all-index, those-map, map_at}
use Rattle.records.proofs.Order.RangeLaws.{those-at, those-gap, second-order}
use Rattle.records.proofs.Changes.RunLaws.{run-shape, find-in, put-at}
use Rattle.questions.proofs.OnlyLaws.{length-replaced}
use Rattle.peers.proofs.Peers.Tables.KindLaws.{contested_kind, Contesteds, run_typed, front-in, front-run, one_typed, one-keyed, put-words, put_typed, key-typed, keyed, none-typed}
use Rattle.records.proofs.Changes.StepLaws.{next-record, drop-end}
use Rattle.peers.proofs.Peers.StepLaws.{contested_record}
use Rattle.peers.proofs.Peers.Readers.DemandLaws.{exceeds-is}

-- ---- one key merged

module _ (c k : List ℕ) (round at p t : ℕ) (dc : is_demand (word 2 c) ≡ true) (dk : is_demand (word 2 k) ≡ true) (ep : p ≡ flag_word (flag_of (word 3 c) || flag_of (word 3 k))) (et : t ≡ max (word 5 c) at) where
  by-test : (b : Bool) → exceeds (word 2 k) (word 2 c) ≡ b → word 0 c ∷ word 1 c ∷ cond b (word 2 k) (word 2 c) ∷ p ∷ cond b round (word 4 c) ∷ t ∷ [] ≡ contested_words (merged round at (snapshot_key_of k) (contested_of c))
  unfolding contested_words snapshot_key_of contested_of
  by-test b e = (λ i. word 0 c ∷ word 1 c ∷ cond (sym e i) (word 2 k) (word 2 c) ∷ ep i ∷ cond (sym e i) round (word 4 c) ∷ et i ∷ [])

  pub merged-higher : word 2 c < word 2 k → word 0 c ∷ word 1 c ∷ word 2 k ∷ p ∷ round ∷ t ∷ [] ≡ contested_words (merged round at (snapshot_key_of k) (contested_of c))
  merged-higher h = by-test true (exceeds-is (word 2 k) (word 2 c) dk dc ∙ lt-ltb (word 2 c) (word 2 k) h)

  pub merged-lower : word 2 k ≤ word 2 c → word 0 c ∷ word 1 c ∷ word 2 c ∷ p ∷ word 4 c ∷ t ∷ [] ≡ contested_words (merged round at (snapshot_key_of k) (contested_of c))
  merged-lower h = by-test false (exceeds-is (word 2 k) (word 2 c) dk dc ∙ le-ltb (word 2 c) (word 2 k) h)

-- what a valid key says of its words
pub key-demand : (k : List ℕ) → OneKey k → is_demand (word 2 k) ≡ true
unfolding valid_snapshot_key snapshot_key_of
key-demand k o = (both (all is_word (snapshot_key_words (snapshot_key_of k))) (is_demand (word 2 k)) o.valid).1

pub contested-demand : (c : ContestedKey) → valid_contested c ≡ true → is_demand c.demand ≡ true
unfolding valid_contested
contested-demand c v = (both (is_demand c.demand) _ (both (all is_word (contested_words c)) _ v).1).0

pub fresh-words : (k : List ℕ) (round at : ℕ) → OneKey k → word 0 k ∷ word 1 k ∷ word 2 k ∷ word 3 k ∷ round ∷ at ∷ [] ≡ contested_words (fresh round at (snapshot_key_of k))
unfolding snapshot_key_of snapshot_key_words contested_words
fresh-words k round at o =
    let e : word 3 k ≡ flag_word (flag_of (word 3 k)) = ap (word 3) o.exact in
    ap (λ (f : ℕ). word 0 k ∷ word 1 k ∷ word 2 k ∷ f ∷ round ∷ at ∷ []) e

-- ---- where a key is among the contested ones
module _ (id n : ℕ) (xs : List ℕ) (u : Run 6 id n xs) (key : ℕ) where
  pub contested-at : (i : ℕ) → find_in 6 2 n id key xs ≡ At i → those (λ (c : ContestedKey). c.key) key (contested_in n xs) ≡ contested_record i xs ∷ []
  unfolding contested_of
  contested-at i e =
      let f : find 2 (id ∷ key ∷ []) (records 6 n xs) ≡ At i = sym (find-in 6 id n xs u (omega arith) key) ∙ e in
      those-map contested_of (λ (c : ContestedKey). c.key) key (records 6 n xs)
      ∙ ap (map contested_of) (those-at 2 second_word (λ (x : ℕ). id ∷ x ∷ []) (records 6 n xs) u.ascends (run-shape 6 id n xs u (omega arith)) (second-order id) key i f)
      ∙ ap (λ (r : List ℕ). contested_of r ∷ []) (record-at 6 n xs i (put-at 6 id n xs u (omega arith) key i e).0)

  pub contested-gap : (i : ℕ) → find_in 6 2 n id key xs ≡ Gap i → those (λ (c : ContestedKey). c.key) key (contested_in n xs) ≡ []
  unfolding contested_of
  contested-gap i e =
      let f : find 2 (id ∷ key ∷ []) (records 6 n xs) ≡ Gap i = sym (find-in 6 id n xs u (omega arith) key) ∙ e in
      those-map contested_of (λ (c : ContestedKey). c.key) key (records 6 n xs)
      ∙ ap (map contested_of) (those-gap 2 second_word (λ (x : ℕ). id ∷ x ∷ []) (records 6 n xs) u.ascends (run-shape 6 id n xs u (omega arith)) (second-order id) key i f)

-- a key of a report that may be contested
pub record Sayable (id : ℕ) (k : SnapshotKey) : Type 0 where
  pub peer : k.peer ≡ id
  pub valid : valid_snapshot_key k ≡ true

abbrev pub word_below : ℕ → Type 0
word_below n = is_word n ≡ true

six-words : (a b c d e f : ℕ) → word_below a → word_below b → word_below c → word_below d → word_below e → word_below f → all is_word (a ∷ b ∷ c ∷ d ∷ e ∷ f ∷ []) ≡ true
unfolding all
six-words a b c d e f pa pb pc pd pe pf =
    and_intro (is_word a) _ pa (and_intro (is_word b) _ pb (and_intro (is_word c) _ pc (and_intro (is_word d) _ pd (and_intro (is_word e) _ pe (and_intro (is_word f) true pf refl)))))

demand-fits : (d : ℕ) → is_demand d ≡ true → word_below d
demand-fits d h = lt-ltb d (2 ^ 64) (omega (arith, ltb-true d 0x7f800000 h))

round-fits : (r : ℕ) → r < 2 ^ 16 → word_below r
round-fits r h = lt-ltb r (2 ^ 64) (omega arith)

-- the words of a snapshot key, and of a contested one, are words
pub record KeyFacts (k : SnapshotKey) : Type 0 where
  pub peer_word : word_below k.peer
  pub key_word : word_below k.key
  pub demand : is_demand k.demand ≡ true

pub key-facts : (k : SnapshotKey) → valid_snapshot_key k ≡ true → KeyFacts k
unfolding valid_snapshot_key snapshot_key_words all
key-facts k v =
    let w = both (all is_word (snapshot_key_words k)) (is_demand k.demand) v in
    let a = both (is_word k.peer) _ w.0 in
    let b = both (is_word k.key) _ a.1 in
    record { peer_word = a.0; key_word = b.0; demand = w.1 }

pub record ContestedFacts (c : ContestedKey) : Type 0 where
  pub peer_word : word_below c.peer
  pub key_word : word_below c.key
  pub demand : is_demand c.demand ≡ true
  pub round : c.round < 2 ^ 16
  pub time : word_below c.heard_at

pub contested-facts : (c : ContestedKey) → valid_contested c ≡ true → ContestedFacts c
unfolding valid_contested contested_words all
contested-facts c v =
    let w = both (all is_word (contested_words c)) _ v in
    let d = both (is_demand c.demand) (ltb c.round (2 ^ 16)) w.1 in
    let x0 = both (is_word c.peer) _ w.0 in
    let x1 = both (is_word c.key) _ x0.1 in
    let x2 = both (is_word c.demand) _ x1.1 in
    let x3 = both (is_word (flag_word c.primary)) _ x2.1 in
    let x4 = both (is_word c.round) _ x3.1 in
    let x5 = both (is_word c.heard_at) true x4.1 in
    record { peer_word = x0.0; key_word = x1.0; demand = d.0; round = ltb-true c.round (2 ^ 16) d.1; time = x5.0 }

pub contested-valid : (c : ContestedKey) → ContestedFacts c → valid_contested c ≡ true
unfolding valid_contested contested_words
contested-valid c f =
    and_intro (all is_word (contested_words c)) _
    (six-words c.peer c.key c.demand (flag_word c.primary) c.round c.heard_at f.peer_word f.key_word (demand-fits c.demand f.demand) (flag-fits c.primary) (round-fits c.round f.round) f.time)
    (and_intro (is_demand c.demand) _ f.demand (lt-ltb c.round (2 ^ 16) f.round))

pick : (P : ℕ → Type 0) (b : Bool) (x y : ℕ) → P x → P y → P (cond b x y)
pick P true x y p q = p
pick P false x y p q = q

max-word : (a b : ℕ) → word_below a → word_below b → word_below (max a b)
max-word a b p q = lt-ltb (max a b) (2 ^ 64) (omega (arith, ltb-true a (2 ^ 64) p, ltb-true b (2 ^ 64) q))

module _ (id round at : ℕ) (k : SnapshotKey) (s : Sayable id k) (hr : round < 2 ^ 16) (ha : at < 2 ^ 64) where
  fresh-facts : ContestedFacts (fresh round at k)
  fresh-facts =
      let f = key-facts k s.valid in
      record { peer_word = f.peer_word; key_word = f.key_word; demand = f.demand; round = hr; time = lt-ltb at (2 ^ 64) ha }

  merged-facts : (c : ContestedKey) → valid_contested c ≡ true → ContestedFacts (merged round at k c)
  merged-facts c v =
      let f = key-facts k s.valid in
      let g = contested-facts c v in
      record {
        peer_word = g.peer_word;
        key_word = g.key_word;
        demand = pick (λ (d : ℕ). is_demand d ≡ true) (exceeds k.demand c.demand) k.demand c.demand f.demand g.demand;
        round = pick (λ (r : ℕ). r < 2 ^ 16) (exceeds k.demand c.demand) round c.round hr g.round;
        time = max-word c.heard_at at g.time (lt-ltb at (2 ^ 64) ha);
      }

  with_first : (cs ds : List ContestedKey) → Contesteds id cs → Contesteds id ds → all (λ (x : ContestedKey). eqb x.key k.key) ds ≡ true → Contesteds id (replaced (λ (c : ContestedKey). c.key) k.key (contested_with round at k (first ds) ∷ []) cs)
  unfolding all
  with_first cs [] g d e = put_typed contested_kind id k.key (fresh round at k ∷ []) cs (one_typed contested_kind id (fresh round at k) s.peer (contested-valid (fresh round at k) fresh-facts)) (one-keyed contested_kind k.key (fresh round at k) refl) g
  with_first cs (c ∷ ds) g d e =
      put_typed contested_kind id k.key (merged round at k c ∷ []) cs
      (one_typed contested_kind id (merged round at k c) (eqb-true c.peer id (both (eqb c.peer id) _ d.shared).0) (contested-valid (merged round at k c) (merged-facts c (both (valid_contested c) _ d.valids).0)))
      (one-keyed contested_kind k.key (merged round at k c) (eqb-true c.key k.key (both (eqb c.key k.key) _ e).0))
      g

pub merge_keeps : (id round at : ℕ) (k : SnapshotKey) (cs : List ContestedKey) → Sayable id k → round < 2 ^ 16 → at < 2 ^ 64 → Contesteds id cs → Contesteds id (merge_key round at k cs)
merge_keeps id round at k cs s hr ha g =
    with_first id round at k s hr ha cs (those (λ (c : ContestedKey). c.key) k.key cs) g (key-typed contested_kind id k.key cs g) (keyed contested_kind k.key cs)

pub merge-length : (round at : ℕ) (k : SnapshotKey) (cs : List ContestedKey) → length (merge_key round at k cs) ≤ length cs + 1
merge-length round at k cs =
    let e : length (contested_with round at k (first (those (λ (c : ContestedKey). c.key) k.key cs)) ∷ []) ≡ 1 = refl in
    omega (arith, e, length-replaced (λ (c : ContestedKey). c.key) k.key (contested_with round at k (first (those (λ (c : ContestedKey). c.key) k.key cs)) ∷ []) cs)

-- ---- one key merged, by the words
pub merge-key-front :
    (n m round at : ℕ) (xs ys k ws : List ℕ)
    → records 6 n xs ≡ map contested_words (contested_in n xs)
    → ws ≡ contested_words (contested_with round at (snapshot_key_of k) (first (those (λ (c : ContestedKey). c.key) (word 1 k) (contested_in n xs))))
    → Front 6 m (replaced (word 1) (word 1 k) (ws ∷ []) (records 6 n xs)) ys
    → Front 6 m (map contested_words (merge_key round at (snapshot_key_of k) (contested_in n xs))) ys
unfolding snapshot_key_of
merge-key-front n m round at xs ys k ws exact e f =
    let x : ContestedKey = contested_with round at (snapshot_key_of k) (first (those (λ (c : ContestedKey). c.key) (word 1 k) (contested_in n xs))) in
    subst (λ (rs : List (List ℕ)). Front 6 m rs ys)
    ((λ i. replaced (word 1) (word 1 k) (e i ∷ []) (exact i)) ∙ sym (put-words contested_kind (word 1 k) (x ∷ []) (contested_in n xs)))
    f

-- ---- the keys of a report, one after the other
module _ (id n : ℕ) (keys : List ℕ) (u : KeyRun id n keys) (i : ℕ) (h : i < n) where
  part-words : take 4 (drop (i * 4) keys) ≡ get_or (records 4 n keys) i []
  part-words = sym (record-at 4 n keys i h)

  pub part-peer : word 0 (take 4 (drop (i * 4) keys)) ≡ id
  part-peer =
      ap (word 0) part-words
      ∙ eqb-true (word 0 (get_or (records 4 n keys) i [])) id (all-index (λ (r : List ℕ). eqb (word 0 r) id) [] (records 4 n keys) u.run.shared i (omega (arith, length-records 4 n keys)))

  pub part-key : OneKey (take 4 (drop (i * 4) keys))
  part-key = record {
    four = ap length part-words ∙ record-length 4 n keys i h u.run.fit;
    exact =
        part-words
        ∙ ap (λ (l : List (List ℕ)). get_or l i []) u.exact
        ∙ map_at snapshot_key_words (snapshot_key_of []) [] (map snapshot_key_of (records 4 n keys)) i (omega (arith, length-map (records 4 n keys) snapshot_key_of, length-records 4 n keys))
        ∙ ap snapshot_key_words (map_at snapshot_key_of [] (snapshot_key_of []) (records 4 n keys) i (omega (arith, length-records 4 n keys)))
        ∙ ap (λ (r : List ℕ). snapshot_key_words (snapshot_key_of r)) (sym part-words);
    valid =
        ap (λ (r : List ℕ). valid_snapshot_key (snapshot_key_of r)) part-words
        ∙ all-index (λ (r : List ℕ). valid_snapshot_key (snapshot_key_of r)) [] (records 4 n keys) (sym (all_map snapshot_key_of valid_snapshot_key (records 4 n keys)) ∙ u.keys) i (omega (arith, length-records 4 n keys));
  }

-- a valid key of a peer
pub sayable : (id : ℕ) (k : List ℕ) → OneKey k → word 0 k ≡ id → Sayable id (snapshot_key_of k)
unfolding snapshot_key_of
sayable id k o e = record { peer = e; valid = o.valid }

module _ (id round at m m' : ℕ) (xs ys k : List ℕ) (c : ContestedRun id m xs) (s : Sayable id (snapshot_key_of k)) (hr : round < 2 ^ 16) (ha : at < 2 ^ 64) (same_length : length ys ≡ length xs) (room : (m + 1) * 6 ≤ length xs) (f : Front 6 m' (map contested_words (merge_key round at (snapshot_key_of k) (contested_in m xs))) ys) where
  pub merge-more : m' ≤ m + 1
  merge-more = omega (arith, f.count, length-map (merge_key round at (snapshot_key_of k) (contested_in m xs)) contested_words, merge-length round at (snapshot_key_of k) (contested_in m xs), length-map (records 6 m xs) contested_of, length-records 6 m xs)

  pub merge-run : ContestedRun id m' ys
  merge-run = front-run contested_kind id m' (merge_key round at (snapshot_key_of k) (contested_in m xs)) ys f
      (omega (arith, merge-more, same_length, room))
      (merge_keeps id round at (snapshot_key_of k) (contested_in m xs) s hr ha (run_typed contested_kind id m xs c))

  pub merge_in : contested_in m' ys ≡ merge_key round at (snapshot_key_of k) (contested_in m xs)
  merge_in = front-in contested_kind id m' (merge_key round at (snapshot_key_of k) (contested_in m xs)) ys f

  pub merge-next : (n i : ℕ) (keys : List ℕ) → i < n → k ≡ take 4 (drop (i * 4) keys) → merge_keys round at (drop (i + 1) (keys_in n keys)) (contested_in m' ys) ≡ merge_keys round at (drop i (keys_in n keys)) (contested_in m xs)
  unfolding merge_keys
  merge-next n i keys h e =
      ap (merge_keys round at (drop (i + 1) (keys_in n keys))) merge_in
      ∙ ap (λ (z : List ℕ). merge_keys round at (snapshot_key_of z ∷ drop (i + 1) (keys_in n keys)) (contested_in m xs)) e
      ∙ sym (ap (λ (l : List SnapshotKey). merge_keys round at l (contested_in m xs)) (next-record snapshot_key_of 4 n keys i h))

pub merge-end : (round at n i : ℕ) (keys : List ℕ) (cs : List ContestedKey) → n ≤ i → merge_keys round at (drop i (keys_in n keys)) cs ≡ cs
unfolding merge_keys
merge-end round at n i keys cs h = ap (λ (l : List SnapshotKey). merge_keys round at l cs) (drop-end (keys_in n keys) i (omega (arith, length-map (records 4 n keys) snapshot_key_of, length-records 4 n keys)))

-- ---- the oldest removed
remove-is : (i : ℕ) (rs : List (List ℕ)) → remove_at i rs ≡ splice i (suc i) [] rs
unfolding remove_at
remove-is i rs = refl

can-remove : (len m i : ℕ) → i < m → m * 6 ≤ len → removable len 6 m i ≡ true
unfolding removable
can-remove len m i h f = and_intro (ltb i m) _ (lt-ltb i m h) (fits_intro len 6 m (omega arith) f)

without_is : (m : ℕ) (xs : List ℕ) → 0 < m → without_oldest (contested_in m xs) ≡ replaced (λ (x : ContestedKey). x.key) (oldest (contested_of (take 6 xs)) (drop 1 (contested_in m xs))) [] (contested_in m xs)
unfolding records
without_is zero xs h = absurd (not-suc-le-zero h)
without_is (suc m) xs h = refl

pub without-keeps : (id : ℕ) (cs : List ContestedKey) → Contesteds id cs → Contesteds id (without_oldest cs)
unfolding all
without-keeps id [] g = g
without-keeps id (c ∷ cs) g = put_typed contested_kind id (oldest c cs) [] (c ∷ cs) (none-typed contested_kind id) refl g

module _ (id m i : ℕ) (xs ys : List ℕ) (c : ContestedRun id m xs) (h : i < m) (is-oldest : (contested_record i xs).key ≡ oldest (contested_of (take 6 xs)) (drop 1 (contested_in m xs))) (e : ys ≡ removed 6 m i xs) where
  key_here : word 1 (get_or (records 6 m xs) i []) ≡ (contested_record i xs).key
  unfolding contested_of
  key_here = ap (word 1) (record-at 6 m xs i h)

  found : find_in 6 2 m id (contested_record i xs).key xs ≡ At i
  found =
      find-in 6 id m xs c.run (omega arith) (contested_record i xs).key
      ∙ find_at 2 (id ∷ (contested_record i xs).key ∷ []) (records 6 m xs) i c.run.ascends (omega (arith, length-records 6 m xs))
      (run-shape 6 id m xs c.run (omega arith) i (omega (arith, length-records 6 m xs)) ∙ ap (λ (k : ℕ). id ∷ k ∷ []) key_here)

  pub trim-front : Front 6 (m - 1) (map contested_words (without_oldest (contested_in m xs))) ys
  trim-front =
      let w : without_oldest (contested_in m xs) ≡ replaced (λ (x : ContestedKey). x.key) (contested_record i xs).key [] (contested_in m xs) =
      without_is m xs (omega arith) ∙ ap (λ (k : ℕ). replaced (λ (x : ContestedKey). x.key) k [] (contested_in m xs)) (sym is-oldest) in
      let p = put-at 6 id m xs c.run (omega arith) (contested_record i xs).key i found in
      let q : map contested_words (without_oldest (contested_in m xs)) ≡ remove_at i (records 6 m xs) =
      ap (map contested_words) w
      ∙ put-words contested_kind (contested_record i xs).key [] (contested_in m xs)
      ∙ ap (replaced (word 1) (contested_record i xs).key []) (sym c.exact)
      ∙ removal (p.1 []) in
      record {
        count = sym (ap length q ∙ length-remove i (records 6 m xs) (omega (arith, length-records 6 m xs)) ∙ ap (λ (k : ℕ). k - 1) (length-records 6 m xs));
        front = ap (records 6 (m - 1)) e ∙ records-removed 6 m i xs can ∙ sym q;
      }
    where
      removal : replaced (word 1) (contested_record i xs).key [] (records 6 m xs) ≡ splice i (suc i) [] (records 6 m xs) → replaced (word 1) (contested_record i xs).key [] (records 6 m xs) ≡ remove_at i (records 6 m xs)
      removal z = z ∙ sym (remove-is i (records 6 m xs))

      can : removable (length xs) 6 m i ≡ true
      can = can-remove (length xs) m i h c.run.fit

  pub trim-run : length ys ≡ length xs → ContestedRun id (m - 1) ys
  trim-run l = front-run contested_kind id (m - 1) (without_oldest (contested_in m xs)) ys trim-front
      (omega (arith, l, c.run.fit))
      (without-keeps id (contested_in m xs) (run_typed contested_kind id m xs c))

  pub trim-next : 256 < m → without_oldests (m - 1 - 256) (contested_in (m - 1) ys) ≡ without_oldests (m - 256) (contested_in m xs)
  unfolding without_oldests
  trim-next g =
      let k : m - 256 ≡ suc (m - 1 - 256) = omega arith in
      ap (without_oldests (m - 1 - 256)) (front-in contested_kind id (m - 1) (without_oldest (contested_in m xs)) ys trim-front)
      ∙ sym (ap (λ (n : ℕ). without_oldests n (contested_in m xs)) k)

pub trim_end : (m : ℕ) (cs : List ContestedKey) → m ≤ 256 → without_oldests (m - 256) cs ≡ cs
unfolding without_oldests
trim_end m cs h =
    let k : m - 256 ≡ 0 = omega arith in
    ap (λ (n : ℕ). without_oldests n cs) k

-- ---- record i of a run, lent as a part
pub part-six : (n i : ℕ) (xs : List ℕ) → i * 6 + 6 ≤ length xs → length (take (i * 6 + 6 - i * 6) (drop (i * 6) xs)) ≡ 6
part-six n i xs h =
    let e : i * 6 + 6 - i * 6 ≡ 6 = omega arith in
    ap (λ (m : ℕ). length (take m (drop (i * 6) xs))) e ∙ length-take-le 6 (drop (i * 6) xs) (omega (arith, length-drop (i * 6) xs))

part_of : (i : ℕ) (xs : List ℕ) → take (i * 6 + 6 - i * 6) (drop (i * 6) xs) ≡ take 6 (drop (i * 6) xs)
part_of i xs =
    let e : i * 6 + 6 - i * 6 ≡ 6 = omega arith in
    ap (λ (m : ℕ). take m (drop (i * 6) xs)) e

pub record-demand : (n i : ℕ) (xs : List ℕ) → all valid_contested (contested_in n xs) ≡ true → i < n → is_demand (word 2 (take (i * 6 + 6 - i * 6) (drop (i * 6) xs))) ≡ true
unfolding contested_of
record-demand n i xs v h =
    ap (λ (r : List ℕ). is_demand (word 2 r)) (part_of i xs ∙ sym (record-at 6 n xs i h))
    ∙ contested-demand (contested_of (get_or (records 6 n xs) i [])) (all-index (λ (r : List ℕ). valid_contested (contested_of r)) [] (records 6 n xs) (sym (all_map contested_of valid_contested (records 6 n xs)) ∙ v) i (omega (arith, length-records 6 n xs)))

pub merged-part :
    (n i round at : ℕ) (xs k : List ℕ)
    → those (λ (c : ContestedKey). c.key) (word 1 k) (contested_in n xs) ≡ contested_record i xs ∷ []
    → contested_words (merged round at (snapshot_key_of k) (contested_of (take (i * 6 + 6 - i * 6) (drop (i * 6) xs))))
    ≡ contested_words (contested_with round at (snapshot_key_of k) (first (those (λ (c : ContestedKey). c.key) (word 1 k) (contested_in n xs))))
merged-part n i round at xs k e =
    ap (λ (r : List ℕ). contested_words (merged round at (snapshot_key_of k) (contested_of r))) (part_of i xs)
    ∙ sym (ap (λ (l : List ContestedKey). contested_words (contested_with round at (snapshot_key_of k) (first l))) e)

pub four-of : (i : ℕ) (xs : List ℕ) → take (i * 4 + 4 - i * 4) (drop (i * 4) xs) ≡ take 4 (drop (i * 4) xs)
four-of i xs =
    let e : i * 4 + 4 - i * 4 ≡ 4 = omega arith in
    ap (λ (m : ℕ). take m (drop (i * 4) xs)) e

-- key i of a report, lent as a part
module _ (id n : ℕ) (keys : List ℕ) (u : KeyRun id n keys) (i : ℕ) (h : i < n) where
  pub lent-peer : word 0 (take (i * 4 + 4 - i * 4) (drop (i * 4) keys)) ≡ id
  lent-peer = ap (word 0) (four-of i keys) ∙ part-peer id n keys u i h

  pub lent_key : OneKey (take (i * 4 + 4 - i * 4) (drop (i * 4) keys))
  lent_key = subst OneKey (sym (four-of i keys)) (part-key id n keys u i h)

  pub lent-run : (m : ℕ) (xs : List ℕ) → ContestedRun id m xs → ContestedRun (word 0 (take (i * 4 + 4 - i * 4) (drop (i * 4) keys))) m xs
  lent-run m xs c = subst (λ (z : ℕ). ContestedRun z m xs) (sym lent-peer) c

  pub lent-sayable : Sayable id (snapshot_key_of (take (i * 4 + 4 - i * 4) (drop (i * 4) keys)))
  lent-sayable = sayable id (take (i * 4 + 4 - i * 4) (drop (i * 4) keys)) lent_key lent-peer
