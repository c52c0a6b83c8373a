-- Laws: keys of one peer, of either kind, as records and by their words.
use Rattle.std.proofs.Common.{◌≡◌, ℕ, ◌*◌, ◌≤◌, true, eqb, List, [], ◌∷◌, map, length, sym, refl, ap, ◌∙◌, zero-le, le_trans, le_of_eq, zero-mul, eq-eqb}
use Rattle.records.specs.Records.{records, leads, ascending}
use Rattle.questions.proofs.Tests.{and_intro}
use Rattle.questions.specs.Lists.{all, only, those, replaced}
use Rattle.peers.specs.Peers.Records.{SnapshotKey, ContestedKey, snapshot_key_words, contested_words}
use Rattle.records.specs.Typed.{word, Front}
use Rattle.peers.specs.Peers.Steps.Runs.{Form, snapshot_form, contested_form, RunOf}
use Rattle.peers.proofs.Peers.Tables.WordLaws.{snapshot-key-of-words, contested-of-words}
use Rattle.questions.proofs.ListLaws.{all_map}
use Rattle.questions.proofs.OnlyLaws.{only_same, map-only, those-words, replaced-words, all-only, only-passes, all-replaced}
use Rattle.records.proofs.Order.AscendingLaws.{asc-only, asc-replaced, second-before}

-- the peer and the key are the first two words, and the words stand for the record
pub record Kind (A : Type 0) : Type 0 where
  pub form : Form A
  pub peer : A → ℕ
  pub key : A → ℕ
  pub back : (x : A) → form.of (form.words x) ≡ x
  pub first : (x : A) → word 0 (form.words x) ≡ peer x
  pub second : (x : A) → word 1 (form.words x) ≡ key x

pub snapshot-first : (k : SnapshotKey) → word 0 (snapshot_key_words k) ≡ k.peer
unfolding snapshot_key_words
snapshot-first k = refl

pub snapshot-second : (k : SnapshotKey) → word 1 (snapshot_key_words k) ≡ k.key
unfolding snapshot_key_words
snapshot-second k = refl

pub contested-first : (c : ContestedKey) → word 0 (contested_words c) ≡ c.peer
unfolding contested_words
contested-first c = refl

pub contested-second : (c : ContestedKey) → word 1 (contested_words c) ≡ c.key
unfolding contested_words
contested-second c = refl

abbrev pub snapshot_kind : Kind SnapshotKey
snapshot_kind = record {
  form = snapshot_form;
  peer = λ k. k.peer;
  key = λ k. k.key;
  back = snapshot-key-of-words;
  first = snapshot-first;
  second = snapshot-second;
}

abbrev pub contested_kind : Kind ContestedKey
contested_kind = record {
  form = contested_form;
  peer = λ c. c.peer;
  key = λ c. c.key;
  back = contested-of-words;
  first = contested-first;
  second = contested-second;
}

-- valid keys of one peer, ascending
pub record Typed {A : Type 0} (k : Kind A) (id : ℕ) (xs : List A) : Type 0 where
  pub shared : all (λ x. eqb (k.peer x) id) xs ≡ true
  pub ascends : ascending 2 (map k.form.words xs) ≡ true
  pub valids : all k.form.is_valid xs ≡ true

abbrev pub Keys : (id : ℕ) (ks : List SnapshotKey) → Type 0
Keys = Typed snapshot_kind

abbrev pub Contesteds : (id : ℕ) (cs : List ContestedKey) → Type 0
Contesteds = Typed contested_kind

module _ {A : Type 0} (k : Kind A) where
  pub all_back : (xs : List A) → map k.form.of (map k.form.words xs) ≡ xs
  all_back [] = refl
  all_back (x ∷ xs) = (λ i. k.back x i ∷ all_back xs i)

  pub shared-words : (id : ℕ) (xs : List A) → all (λ (r : List ℕ). eqb (word 0 r) id) (map k.form.words xs) ≡ all (λ x. eqb (k.peer x) id) xs
  shared-words id xs = all_map k.form.words (λ (r : List ℕ). eqb (word 0 r) id) xs ∙ (λ i. all (λ x. eqb (k.first x i) id) xs)

  -- ---- between words and records
  pub run_typed : (id n : ℕ) (xs : List ℕ) → RunOf k.form id n xs → Typed k id (map k.form.of (records k.form.width n xs))
  run_typed id n xs c = record {
    shared =
        sym (shared-words id (map k.form.of (records k.form.width n xs)))
        ∙ ap (all (λ (r : List ℕ). eqb (word 0 r) id)) (sym c.exact)
        ∙ c.run.shared;
    ascends = ap (ascending 2) (sym c.exact) ∙ c.run.ascends;
    valids = c.keys;
  }

  module _ (id m : ℕ) (ks : List A) (xs : List ℕ) (f : Front k.form.width m (map k.form.words ks) xs) where
    pub front-in : map k.form.of (records k.form.width m xs) ≡ ks
    front-in = ap (map k.form.of) f.front ∙ all_back ks

    pub front-run : m * k.form.width ≤ length xs → Typed k id ks → RunOf k.form id m xs
    front-run fit g = record {
      run = record {
        fit = fit;
        shared = ap (all (λ (r : List ℕ). eqb (word 0 r) id)) f.front ∙ shared-words id ks ∙ g.shared;
        ascends = ap (ascending 2) f.front ∙ g.ascends;
      };
      exact = f.front ∙ ap (map k.form.words) (sym front-in);
      keys = ap (all k.form.is_valid) front-in ∙ g.valids;
    }

  -- ---- none and one
  pub none-typed : (id : ℕ) → Typed k id []
  unfolding all ascending
  none-typed id = record { shared = refl; ascends = refl; valids = refl }

  pub none-run : (id : ℕ) (xs : List ℕ) → RunOf k.form id 0 xs
  unfolding records all ascending
  none-run id xs = record {
    run = record { fit = le_trans (le_of_eq (zero-mul k.form.width)) zero-le; shared = refl; ascends = refl };
    exact = refl;
    keys = refl;
  }

  pub one_typed : (id : ℕ) (x : A) → k.peer x ≡ id → k.form.is_valid x ≡ true → Typed k id (x ∷ [])
  unfolding all ascending leads
  one_typed id x p v = record {
    shared = and_intro (eqb (k.peer x) id) true (eq-eqb (k.peer x) id p) refl;
    ascends = refl;
    valids = and_intro (k.form.is_valid x) true v refl;
  }

  pub one-keyed : (a : ℕ) (x : A) → k.key x ≡ a → all (λ y. eqb (k.key y) a) (x ∷ []) ≡ true
  unfolding all
  one-keyed a x e = and_intro (eqb (k.key x) a) true (eq-eqb (k.key x) a e) refl

  -- ---- keys put in the place of those with one key
  pub put-words : (a : ℕ) (new xs : List A) → map k.form.words (replaced k.key a new xs) ≡ replaced (word 1) a (map k.form.words new) (map k.form.words xs)
  put-words a new xs = replaced-words k.key k.form.words (word 1) k.second a new xs

  pub put_typed : (id a : ℕ) (new xs : List A) → Typed k id new → all (λ x. eqb (k.key x) a) new ≡ true → Typed k id xs → Typed k id (replaced k.key a new xs)
  put_typed id a new xs n e g = record {
    shared = all-replaced (λ x. eqb (k.peer x) id) k.key a new xs n.shared g.shared;
    ascends =
        ap (ascending 2) (put-words a new xs)
        ∙ asc-replaced 2 (word 1) (λ (r : List ℕ). eqb (word 0 r) id) a (map k.form.words new) (map k.form.words xs)
        (second-before id)
        (shared-words id xs ∙ g.shared)
        (shared-words id new ∙ n.shared)
        (all_map k.form.words (λ (r : List ℕ). eqb (word 1 r) a) new ∙ (λ i. all (λ x. eqb (k.second x i) a) new) ∙ e)
        g.ascends
        n.ascends;
    valids = all-replaced k.form.is_valid k.key a new xs n.valids g.valids;
  }

  -- ---- some of them
  module _ (number : A → ℕ) (word_of : List ℕ → ℕ) (h : (x : A) → word_of (k.form.words x) ≡ number x) (a : ℕ) (xs : List A) where
    only-words : map k.form.words (only (λ x. eqb (number x) a) xs) ≡ only (λ (r : List ℕ). eqb (word_of r) a) (map k.form.words xs)
    only-words =
        ap (map k.form.words) (only_same (λ x. eqb (number x) a) (λ x. eqb (word_of (k.form.words x)) a) (λ x. ap (λ (m : ℕ). eqb m a) (sym (h x))) xs)
        ∙ map-only k.form.words (λ (r : List ℕ). eqb (word_of r) a) xs

    only-ascends : ascending 2 (map k.form.words xs) ≡ true → ascending 2 (map k.form.words (only (λ x. eqb (number x) a) xs)) ≡ true
    only-ascends e = ap (ascending 2) only-words ∙ asc-only 2 (λ (r : List ℕ). eqb (word_of r) a) (map k.form.words xs) e

  -- those with a key
  pub key-typed : (id a : ℕ) (xs : List A) → Typed k id xs → Typed k id (those k.key a xs)
  unfolding those
  key-typed id a xs g = record {
    shared = all-only (λ x. eqb (k.peer x) id) (λ x. eqb (k.key x) a) xs g.shared;
    ascends = only-ascends k.key (word 1) k.second a xs g.ascends;
    valids = all-only k.form.is_valid (λ x. eqb (k.key x) a) xs g.valids;
  }

  pub keyed : (a : ℕ) (xs : List A) → all (λ x. eqb (k.key x) a) (those k.key a xs) ≡ true
  unfolding those
  keyed a xs = only-passes (λ x. eqb (k.key x) a) xs

  -- ---- the keys of a peer among those of all
  pub peer-typed : (id : ℕ) (xs : List A) → all k.form.is_valid xs ≡ true → ascending 2 (map k.form.words xs) ≡ true → Typed k id (those k.peer id xs)
  unfolding those
  peer-typed id xs v a = record {
    shared = only-passes (λ x. eqb (k.peer x) id) xs;
    ascends = only-ascends k.peer (word 0) k.first id xs a;
    valids = all-only k.form.is_valid (λ x. eqb (k.peer x) id) xs v;
  }

  pub those-peer : (id : ℕ) (xs : List A) → map k.form.words (those k.peer id xs) ≡ those (word 0) id (map k.form.words xs)
  those-peer id xs = those-words k.peer k.form.words (word 0) k.first id xs

  pub with-peer : (id : ℕ) (new xs : List A) → map k.form.words (replaced k.peer id new xs) ≡ replaced (word 0) id (map k.form.words new) (map k.form.words xs)
  with-peer id new xs = replaced-words k.peer k.form.words (word 0) k.first id new xs
