-- A key is hot elsewhere where a snapshot key or a contested key has it as primary.
use Rattle.std.proofs.Common.{◌≡◌, ℕ, zero, suc, ◌+◌, ◌*◌, ◌<◌, ◌≤◌, Bool, true, ◌&&◌, ◌||◌, eqb, leb, List, [], ◌∷◌, map, length, get_or, sym, refl, ap, ◌∙◌, suc-le-suc, zero-le, le_of_suc-le-suc, not-suc-le-zero, arith, eq-eqb, eqb-true, leb-true}
use mathlib.Core.Bool.{or-false}
use borrow.Author.Tests.{eqb-false}
use Rattle.records.specs.declared.Found.TheVariants.{At}
use Rattle.records.specs.Records.{records, find}
use Rattle.questions.proofs.Tests.{contradiction, split, both, and_intro, same_truth, or_right}
use Rattle.records.proofs.Words.RecordLaws.{length-records, record-length}
use Rattle.records.proofs.Order.PlaceLaws.{find_cases, find_at, at-says}
use Rattle.peers.specs.declared.peer_demand.Heard.{Heard}
use Rattle.peers.specs.declared.peer_demand.PeerDemand.{PeerDemand}
use Rattle.records.specs.Fields.{flag_of}
use Rattle.questions.specs.Lists.{any}
use Rattle.peers.specs.Peers.Records.{SnapshotKey, ContestedKey, snapshot_of, peer_of, snapshot_key_of, contested_of}
use Rattle.peers.specs.Peers.State.{PeerTables, is_known, has_snapshot, state_of}
use Rattle.peers.specs.Peers.Readers.{heard_taken, heard_contested, snapshot_key_at, contested_at, join, heard, is_primary, hot_elsewhere}
use Rattle.records.specs.Typed.{first_word}
use Rattle.peers.specs.Peers.Steps.Scan.{is_named}
use Rattle.peers.specs.Peers.Steps.Heard.{KeyTable, StateReady}
use Rattle.peers.specs.Peers.Steps.Each.{has_primary, is_primary_in}
use Rattle.questions.proofs.ListLaws.{all_map, all-index}
use Rattle.records.proofs.Order.FindLaws.{key-2}
use Rattle.records.proofs.Words.RowLaws.{word-at, first-at}
use Rattle.peers.proofs.Peers.Validity.ValidLaws.{taken-named, known-named}
use Rattle.peers.proofs.Peers.Reports.KeptLaws.{ValidState}
use Rattle.peers.proofs.Peers.Readers.HeardLaws.{key-found, table-missing, taken-absent, taken-found, taken-missing, contested-found, contested-missing}
use Rattle.peers.proofs.Peers.Readers.ReaderLaws.{heard-here, heard-at, holds, hot-starts}
use Rattle.std.specs.declared.option.Option.{Option}
use Rattle.std.specs.declared.option.Option.TheVariants.{None, Some}

-- ---- one of a list that passes
module _ {A : Type 0} (p : A → Bool) (d : A) where
  pub any_some : (xs : List A) → any p xs ≡ true → (i : ℕ) × (i < length xs) × (p (get_or xs i d) ≡ true)
  unfolding any
  any_some [] e = contradiction (sym e)
  any_some (x ∷ xs) e = split (p x)
      (λ h. (0, suc-le-suc zero-le, h))
      (λ h. let r = any_some xs (sym (ap (λ (b : Bool). b || any p xs) h) ∙ e) in (suc r.0, suc-le-suc r.1, r.2))

  pub any-index : (xs : List A) (i : ℕ) → i < length xs → p (get_or xs i d) ≡ true → any p xs ≡ true
  unfolding any
  any-index [] i h e = absurd (not-suc-le-zero h)
  any-index (x ∷ xs) zero h e = ap (λ (b : Bool). b || any p xs) e
  any-index (x ∷ xs) (suc i) h e = or_right (p x) (any p xs) (any-index xs i (le_of_suc-le-suc h) e)

-- ---- a word of a peer
primary-join : (a b : Option Heard) → is_primary (join a b) ≡ (is_primary a || is_primary b)
primary-join None b = refl
primary-join (Some a) None = sym (or-false a.primary)
primary-join (Some a) (Some b) = refl

-- ---- a key of a table, by its place
module _ (w n id key : ℕ) (xs : List ℕ) (table : KeyTable w n xs) where
  abbrev rs : List (List ℕ)
  rs = records w n xs

  long : (i : ℕ) → i < n → 2 ≤ length (get_or rs i [])
  long i h = omega (arith, table.ready.wide, record-length w n xs i h table.ready.fit)

  primary-found : (i : ℕ) → i < n → id ≡ first_word (get_or rs i []) → has_primary key (get_or rs i []) ≡ true → find 2 (id ∷ key ∷ []) rs ≡ At i
  primary-found i h e k =
      find_at 2 (id ∷ key ∷ []) rs i table.ascend (omega (arith, h, length-records w n xs))
      (key-2 (get_or rs i []) (long i h) ∙ (λ j. sym e j ∷ eqb-true (get_or (get_or rs i []) 1 0) key (both (eqb (get_or (get_or rs i []) 1 0) key) _ k).0 j ∷ []))

  found-primary : (i : ℕ) → find 2 (id ∷ key ∷ []) rs ≡ At i → flag_of (get_or (get_or rs i []) 3 0) ≡ true → is_primary_in rs key ≡ true
  found-primary i e f =
      let at = at-says 2 (id ∷ key ∷ []) rs i e in
      let h : i < n = omega (arith, at.0, length-records w n xs) in
      any-index (has_primary key) [] rs i at.0
      (and_intro (eqb (get_or (get_or rs i []) 1 0) key) _
      (eq-eqb (get_or (get_or rs i []) 1 0) key (ap (λ (l : List ℕ). get_or l 1 0) (sym (key-2 (get_or rs i []) (long i h)) ∙ at.1)))
      f)

-- ---- all peers
module _ (p : PeerDemand) (t : PeerTables) (ready : StateReady p t) (v : ValidState (state_of p t)) (key : ℕ) where
  abbrev krs : List (List ℕ)
  krs = records 4 p.snapshot_keys t.snapshot_keys

  abbrev crs : List (List ℕ)
  crs = records 6 p.contested t.contested

  abbrev prs : List (List ℕ)
  prs = records 12 p.peers t.peers

  abbrev id : ℕ → ℕ
  id q = get_or t.peers (q * 12) 0

  abbrev word : ℕ → ℕ → ℕ
  word q j = get_or t.peers (q * 12 + j) 0

  -- what peer q said: its snapshot's word and its contested one
  abbrev taken : ℕ → Option Heard
  taken q = heard_taken (snapshot_of (word q 3) 0 (word q 5) (word q 6)) (snapshot_key_at (id q) key (map snapshot_key_of krs))

  abbrev other : ℕ → Option Heard
  other q = heard_contested (contested_at (id q) key (map contested_of crs))

  said : (q : ℕ) → q < p.peers → is_primary (heard (id q) key (state_of p t)) ≡ (is_primary (taken q) || is_primary (other q))
  said q h = sym (ap is_primary (heard-at p t ready key q h)) ∙ primary-join (taken q) (other q)

  hot-of : (q : ℕ) → q < p.peers → (is_primary (taken q) || is_primary (other q)) ≡ true → hot_elsewhere key (state_of p t) ≡ true
  hot-of q h e =
      hot-starts p t key
      ∙ any-index (holds p t key) [] prs q (omega (arith, h, length-records 12 p.peers t.peers))
      (sym (ap is_primary (heard-here p t ready key q h)) ∙ said q h ∙ e)

  -- the peer that an id names
  named : (least a : ℕ) → is_named least prs a ≡ true → (q : ℕ) × (q < p.peers) × (id q ≡ a) × (least ≤ word q 3)
  unfolding is_named
  named least a e =
      let r = any_some (λ (x : List ℕ). eqb (first_word x) a && leb least (get_or x 3 0)) [] prs e in
      let q = r.0 in
      let h : q < p.peers = omega (arith, r.1, length-records 12 p.peers t.peers) in
      let b = both (eqb (first_word (get_or prs q [])) a) _ r.2 in
      let e₁ : id q ≡ a = sym (first-at 12 p.peers t.peers q h (omega arith)) ∙ eqb-true (first_word (get_or prs q [])) a b.0 in
      (q, h, e₁, omega (arith, leb-true least (get_or (get_or prs q []) 3 0) b.1, word-at 12 p.peers t.peers q 3 h (omega arith)))

  keys-named : (i : ℕ) → i < p.snapshot_keys → is_named 1 prs (first_word (get_or krs i [])) ≡ true
  unfolding state_of snapshot_key_of
  keys-named i h =
      sym (taken-named prs (first_word (get_or krs i [])))
      ∙ all-index (λ (r : List ℕ). has_snapshot (map peer_of prs) (first_word r)) [] krs (sym (all_map snapshot_key_of (λ (k : SnapshotKey). has_snapshot (map peer_of prs) k.peer) krs) ∙ v.keys_taken) i
      (omega (arith, h, length-records 4 p.snapshot_keys t.snapshot_keys))

  contested-named : (i : ℕ) → i < p.contested → is_named 0 prs (first_word (get_or crs i [])) ≡ true
  unfolding state_of contested_of
  contested-named i h =
      sym (known-named prs (first_word (get_or crs i [])))
      ∙ all-index (λ (r : List ℕ). is_known (map peer_of prs) (first_word r)) [] crs (sym (all_map contested_of (λ (c : ContestedKey). is_known (map peer_of prs) c.peer) crs) ∙ v.contested_known) i
      (omega (arith, h, length-records 6 p.contested t.contested))

  -- a record makes it hot
  by_key : is_primary_in krs key ≡ true → hot_elsewhere key (state_of p t) ≡ true
  by_key e =
      let r = any_some (has_primary key) [] krs e in
      let i = r.0 in
      let h : i < p.snapshot_keys = omega (arith, r.1, length-records 4 p.snapshot_keys t.snapshot_keys) in
      let n = named 1 (first_word (get_or krs i [])) (keys-named i h) in
      let q = n.0 in
      let at = primary-found 4 p.snapshot_keys (id q) key t.snapshot_keys ready.snapshot_keys i h n.2 r.2 in
      let some-flag : word q 3 ≡ 0 → ⊥ = λ z. omega (arith, z, n.3) in
      hot-of q n.1
      (ap (λ (b : Bool). b || is_primary (other q))
      (sym (ap is_primary (taken-found (id q) key krs (word q 3) (word q 5) (word q 6) some-flag _ (key-found 4 p.snapshot_keys (id q) key t.snapshot_keys ready.snapshot_keys i at)))
      ∙ (both (eqb (get_or (get_or krs i []) 1 0) key) _ r.2).1))

  by-contested : is_primary_in crs key ≡ true → hot_elsewhere key (state_of p t) ≡ true
  by-contested e =
      let r = any_some (has_primary key) [] crs e in
      let i = r.0 in
      let h : i < p.contested = omega (arith, r.1, length-records 6 p.contested t.contested) in
      let n = named 0 (first_word (get_or crs i [])) (contested-named i h) in
      let q = n.0 in
      let at = primary-found 6 p.contested (id q) key t.contested ready.contested i h n.2 r.2 in
      hot-of q n.1
      (or_right (is_primary (taken q)) (is_primary (other q))
      (sym (ap is_primary (contested-found (id q) key crs _ (key-found 6 p.contested (id q) key t.contested ready.contested i at)))
      ∙ (both (eqb (get_or (get_or crs i []) 1 0) key) _ r.2).1))

  -- what makes it hot is a record
  of-taken : (q : ℕ) → is_primary (taken q) ≡ true → is_primary_in krs key ≡ true
  of-taken q e = split (eqb (word q 3) 0)
      (λ z. contradiction (sym e ∙ sym (ap is_primary (taken-absent (id q) key krs (word q 3) (word q 5) (word q 6) (eqb-true (word q 3) 0 z)))))
      (λ z. find_cases 2 (id q ∷ key ∷ []) krs
      (λ i at. found-primary 4 p.snapshot_keys (id q) key t.snapshot_keys ready.snapshot_keys i at
      (ap is_primary (taken-found (id q) key krs (word q 3) (word q 5) (word q 6) (eqb-false (word q 3) 0 z) _ (key-found 4 p.snapshot_keys (id q) key t.snapshot_keys ready.snapshot_keys i at)) ∙ e))
      (λ i gap. contradiction (sym e ∙ sym (ap is_primary (taken-missing (id q) key krs (word q 3) (word q 5) (word q 6) (eqb-false (word q 3) 0 z) (table-missing 4 p.snapshot_keys (id q) key t.snapshot_keys ready.snapshot_keys i gap))))))

  of_other : (q : ℕ) → is_primary (other q) ≡ true → is_primary_in crs key ≡ true
  of_other q e =
      find_cases 2 (id q ∷ key ∷ []) crs
      (λ i at. found-primary 6 p.contested (id q) key t.contested ready.contested i at
      (ap is_primary (contested-found (id q) key crs _ (key-found 6 p.contested (id q) key t.contested ready.contested i at)) ∙ e))
      (λ i gap. contradiction (sym e ∙ sym (ap is_primary (contested-missing (id q) key crs (table-missing 6 p.contested (id q) key t.contested ready.contested i gap)))))

  by-peer : hot_elsewhere key (state_of p t) ≡ true → (is_primary_in krs key || is_primary_in crs key) ≡ true
  by-peer e =
      let r = any_some (holds p t key) [] prs (sym (hot-starts p t key) ∙ e) in
      let q = r.0 in
      let h : q < p.peers = omega (arith, r.1, length-records 12 p.peers t.peers) in
      let s : (is_primary (taken q) || is_primary (other q)) ≡ true = sym (said q h) ∙ ap is_primary (heard-here p t ready key q h) ∙ r.2 in
      split (is_primary (taken q))
      (λ a. ap (λ (b : Bool). b || is_primary_in crs key) (of-taken q a))
      (λ a. or_right (is_primary_in krs key) (is_primary_in crs key) (of_other q (sym (ap (λ (b : Bool). b || is_primary (other q)) a) ∙ s)))

  pub hot-by-records : (is_primary_in krs key || is_primary_in crs key) ≡ hot_elsewhere key (state_of p t)
  hot-by-records =
      same_truth (is_primary_in krs key || is_primary_in crs key) (hot_elsewhere key (state_of p t))
      (λ e. split (is_primary_in krs key) by_key (λ z. by-contested (sym (ap (λ (b : Bool). b || is_primary_in crs key) z) ∙ e)))
      by-peer
