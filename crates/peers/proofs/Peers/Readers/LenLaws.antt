-- `len` is a sum over the peers; of a valid state it is the count of keys that goes over the tables once.
use Rattle.std.proofs.Common.{◌≡◌, ℕ, ◌+◌, ◌<◌, Bool, true, false, not, ◌&&◌, ◌||◌, eqb, List, [], ◌∷◌, map, length, sym, refl, ap, ◌∙◌, arith, ltb-true, ne_eqb, eqb-true}
use mathlib.Core.Bool.{and-true, and-false}
use Rattle.records.specs.Records.{key, before, ascending}
use Rattle.questions.proofs.Tests.{split, both, eqb-turn}
use Rattle.records.proofs.Order.OrderLaws.{before-word}
use Rattle.questions.specs.Questions.{first_no}
use Rattle.peers.specs.declared.peer_demand.PeerDemand.{PeerDemand}
use Rattle.questions.specs.Lists.{only, all, any, those}
use Rattle.peers.specs.Peers.Records.{PeerRecord, SnapshotKey, ContestedKey, peer_words}
use Rattle.peers.specs.Peers.State.{PeersState, PeerTables, valid, are_exact, is_valid, state_of, is_known, has_snapshot, snapshot_keys_of, contested_keys_of}
use Rattle.peers.specs.Peers.Readers.{sum_over, peer_len, len}
use Rattle.peers.specs.Peers.Steps.Heard.{is_listed, counted}
use Rattle.peers.specs.Peers.Calls.{peers_questions}
use Rattle.questions.proofs.OnlyLaws.{only-all, only_yes, only_no, only_same, only-only, any-those, all-only, all-imply}
use Rattle.records.proofs.Order.AscendingLaws.{asc-ahead, asc-rest}
use Rattle.peers.proofs.Peers.CallLaws.{asked-all}
use Rattle.peers.proofs.Peers.Reports.KeptLaws.{ValidState, valid-says, taken-known}

-- ---- sums over the peers
sum-add : (f g : ℕ → ℕ) (ps : List PeerRecord) → sum_over (λ id. f id + g id) ps ≡ sum_over f ps + sum_over g ps
unfolding sum_over
sum-add f g [] = refl
sum-add f g (p ∷ ps) = omega (arith, sum-add f g ps)

sum_same : (f g : ℕ → ℕ) → ((id : ℕ) → f id ≡ g id) → (ps : List PeerRecord) → sum_over f ps ≡ sum_over g ps
unfolding sum_over
sum_same f g h [] = refl
sum_same f g h (p ∷ ps) = (λ k. h p.id k + sum_same f g h ps k)

-- ---- two tests of which at most one holds
length-apart : {A : Type 0} (p q : A → Bool) → ((x : A) → p x ≡ true → q x ≡ false) → (xs : List A) → length (only (λ x. p x || q x) xs) ≡ length (only p xs) + length (only q xs)
unfolding only
length-apart p q h [] = refl
length-apart {A = A} p q h (x ∷ xs) =
    let r : A → Bool = λ y. p y || q y in
    split (p x)
    (λ e. omega (arith, length-apart p q h xs, ap length (only_yes r x xs (ap (λ (b : Bool). b || q x) e)), ap length (only_yes p x xs e), ap length (only_no q x xs (h x e))))
    (λ e. split (q x)
    (λ f. omega (arith, length-apart p q h xs, ap length (only_yes r x xs (ap (λ (b : Bool). b || q x) e ∙ f)), ap length (only_no p x xs e), ap length (only_yes q x xs f)))
    (λ f. omega (arith, length-apart p q h xs, ap length (only_no r x xs (ap (λ (b : Bool). b || q x) e ∙ f)), ap length (only_no p x xs e), ap length (only_no q x xs f))))

-- ---- the parts of the peers make up what is of known peers

-- no peer after the first has its id
above-unknown : (id : ℕ) (ps : List PeerRecord) → all (λ (r : List ℕ). before (id ∷ []) (key 1 r)) (map peer_words ps) ≡ true → is_known ps id ≡ false
unfolding is_known any all peer_words
above-unknown id [] a = refl
above-unknown id (p ∷ ps) a =
    let b = both (before (id ∷ []) (p.id ∷ [])) _ a in
    let l : id < p.id = ltb-true id p.id (sym (before-word id p.id) ∙ b.0) in
    ap (λ (c : Bool). c || is_known ps id) (ne_eqb p.id id (λ e. omega arith)) ∙ above-unknown id ps b.1

ahead-unknown : (p : PeerRecord) (ps : List PeerRecord) → ascending 1 (map peer_words (p ∷ ps)) ≡ true → is_known ps p.id ≡ false
unfolding peer_words
ahead-unknown p ps a = above-unknown p.id ps (asc-ahead 1 (peer_words p) (map peer_words ps) a)

none_pass : {A : Type 0} (xs : List A) → length (only (λ x. false) xs) ≡ 0
unfolding only
none_pass [] = refl
none_pass (x ∷ xs) = none_pass xs

module _ {A : Type 0} (peer : A → ℕ) (xs : List A) where
  parts : (ps : List PeerRecord) → ascending 1 (map peer_words ps) ≡ true → sum_over (λ id. length (those peer id xs)) ps ≡ length (only (λ x. is_known ps (peer x)) xs)
  unfolding sum_over is_known any those
  parts [] a = sym (none_pass xs)
  parts (p ∷ ps) a =
      ap (λ (n : ℕ). length (those peer p.id xs) + n) (parts ps (asc-rest 1 (peer_words p) (map peer_words ps) a))
      ∙ ap (λ (n : ℕ). n + length (only (λ x. is_known ps (peer x)) xs)) (ap length (only_same (λ x. eqb (peer x) p.id) (λ x. eqb p.id (peer x)) (λ x. eqb-turn (peer x) p.id) xs))
      ∙ sym (length-apart (λ x. eqb p.id (peer x)) (λ x. is_known ps (peer x)) (λ x e. ap (is_known ps) (sym (eqb-true p.id (peer x) e)) ∙ ahead-unknown p ps a) xs)

-- ---- the contested keys of a peer that its snapshot has not are its part of all those that no snapshot has

-- a contested key that no snapshot has, and one that the snapshot of the peer `id` has not
abbrev is_alone : List SnapshotKey → ContestedKey → Bool
is_alone ks c = not (is_listed c.peer c.key ks)

abbrev is_missing : ℕ → List SnapshotKey → ContestedKey → Bool
is_missing id ks c = not (any (λ (k : SnapshotKey). eqb k.key c.key) (snapshot_keys_of id ks))

module _ (id : ℕ) (ks : List SnapshotKey) where
  missing-alone : (c : ContestedKey) → c.peer ≡ id → is_missing id ks c ≡ is_alone ks c
  unfolding is_listed
  missing-alone c e =
      ap not (sym (any-those (λ (k : SnapshotKey). k.peer) id (λ (k : SnapshotKey). eqb k.key c.key) ks))
      ∙ ap (λ (m : ℕ). not (is_listed m c.key ks)) (sym e)

  same_test : (c : ContestedKey) → (eqb c.peer id && is_missing id ks c) ≡ (is_alone ks c && eqb c.peer id)
  same_test c = split (eqb c.peer id)
      (λ e. (λ i. e i && missing-alone c (eqb-true c.peer id e) i) ∙ sym (ap (λ (b : Bool). is_alone ks c && b) e ∙ and-true (is_alone ks c)))
      (λ e. ap (λ (b : Bool). b && is_missing id ks c) e ∙ sym (ap (λ (b : Bool). is_alone ks c && b) e ∙ and-false (is_alone ks c)))

  alone_of : (cs : List ContestedKey) → only (is_missing id ks) (contested_keys_of id cs) ≡ contested_keys_of id (only (is_alone ks) cs)
  unfolding those
  alone_of cs =
      only-only (λ (c : ContestedKey). eqb c.peer id) (is_missing id ks) cs
      ∙ only_same (λ (c : ContestedKey). eqb c.peer id && is_missing id ks c) (λ (c : ContestedKey). is_alone ks c && eqb c.peer id) same_test cs
      ∙ sym (only-only (is_alone ks) (λ (c : ContestedKey). eqb c.peer id) cs)

-- ---- the count
module _ (s : PeersState) (v : ValidState s) where
  abbrev keys : List SnapshotKey
  keys = s.snapshot_keys

  abbrev alone : List ContestedKey
  alone = only (is_alone s.snapshot_keys) s.contested

  keys-known : all (λ (k : SnapshotKey). is_known s.peers k.peer) keys ≡ true
  keys-known = all-imply (λ (k : SnapshotKey). has_snapshot s.peers k.peer) (λ (k : SnapshotKey). is_known s.peers k.peer) keys (λ k e. taken-known s.peers k.peer e) v.keys_taken

  alone-known : all (λ (c : ContestedKey). is_known s.peers c.peer) alone ≡ true
  alone-known = all-only (λ (c : ContestedKey). is_known s.peers c.peer) (is_alone keys) s.contested v.contested_known

  keys-counted : sum_over (λ id. length (snapshot_keys_of id keys)) s.peers ≡ length keys
  keys-counted = parts (λ (k : SnapshotKey). k.peer) keys s.peers v.peers_ascend ∙ ap length (only-all (λ (k : SnapshotKey). is_known s.peers k.peer) keys keys-known)

  alone-counted : sum_over (λ id. length (contested_keys_of id alone)) s.peers ≡ length alone
  alone-counted = parts (λ (c : ContestedKey). c.peer) alone s.peers v.peers_ascend ∙ ap length (only-all (λ (c : ContestedKey). is_known s.peers c.peer) alone alone-known)

  pub len-counted : len s ≡ counted s
  unfolding len counted peer_len
  len-counted =
      sum_same (peer_len s) (λ id. length (snapshot_keys_of id keys) + length (contested_keys_of id alone)) (λ id. ap (λ (l : List ContestedKey). length (snapshot_keys_of id keys) + length l) (alone_of id keys s.contested)) s.peers
      ∙ sum-add (λ id. length (snapshot_keys_of id keys)) (λ id. length (contested_keys_of id alone)) s.peers
      ∙ (λ i. keys-counted i + alone-counted i)

-- where questions 1 and 2 are passed
pub asked-counted : (p : PeerDemand) (t : PeerTables) (n : ℕ) → n ≡ first_no (peers_questions p t) → n ≡ 0 → counted (state_of p t) ≡ len (state_of p t)
unfolding is_valid
asked-counted p t n e h =
    let v = asked-all p t n e h in
    sym (len-counted (state_of p t) (valid-says (state_of p t) (both (are_exact p t) (valid (state_of p t)) v.state).1))
