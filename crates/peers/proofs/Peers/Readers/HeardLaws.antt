-- What lookups of the tables say of a key.
use Rattle.std.proofs.Common.{◌≡◌, ℕ, zero, suc, ◌*◌, ◌^◌, ◌<◌, ◌≤◌, Bool, true, ◌&&◌, ◌||◌, eqb, ltb, leb, List, [], ◌∷◌, map, length, get_or, sym, refl, ap, ◌∙◌, arith, ltb-true, eq-eqb, eqb-true}
use borrow.Author.Tests.{lt-leb}
use Rattle.records.specs.declared.Found.{Found}
use Rattle.records.specs.declared.Found.TheVariants.{At, Gap, Unfit}
use Rattle.records.specs.Records.{records, ascending, find, find_in}
use Rattle.questions.proofs.Tests.{split, both}
use Rattle.records.proofs.Words.RecordLaws.{length-records, record-length}
use Rattle.records.proofs.Order.OrderLaws.{key_at}
use Rattle.records.proofs.Order.PlaceLaws.{at-says}
use Rattle.questions.specs.Lists.{only, first, those}
use Rattle.peers.specs.Peers.Records.{PeerRecord, SnapshotKey, ContestedKey, snapshot_of, peer_of, snapshot_key_of, contested_of}
use Rattle.peers.specs.Peers.State.{peer_with, is_demand}
use Rattle.records.specs.Typed.{first_word, second_word}
use Rattle.peers.specs.Peers.Steps.Scan.{are_key_words}
use Rattle.peers.specs.Peers.Readers.{heard_taken, heard_contested, snapshot_key_at, contested_at}
use Rattle.peers.specs.Peers.Steps.Heard.{heard_of, KeyTable, KeyIn}
use Rattle.questions.proofs.ListLaws.{mapped, those-map, first-map, first-pass, none_pass, all-index}
use Rattle.questions.proofs.OnlyLaws.{only-only}
use Rattle.records.proofs.Order.FindLaws.{Long, key-1, key-2, found-alone, found_none}
use Rattle.records.proofs.Words.RowLaws.{never-unfit}
use Rattle.std.specs.declared.option.Option.{Option}
use Rattle.std.specs.declared.option.Option.TheVariants.{None, Some}

-- a search that found none says where the key would go
pub gap-of : (w d n a b : ℕ) (xs : List ℕ) → 1 ≤ d → d ≤ 2 → d ≤ w → n * w ≤ length xs → (r : Found) → r ≡ find_in w d n a b xs → ((x : ℕ) → r ≡ At x → ⊥) → (i : ℕ) × (r ≡ Gap i)
gap-of w d n a b xs one two wide fit (At i) e h = absurd (h i refl)
gap-of w d n a b xs one two wide fit (Gap i) e h = (i, refl)
gap-of w d n a b xs one two wide fit Unfit e h = absurd (never-unfit w d n a b xs one two wide fit Unfit e refl)

-- ---- the record with two words
abbrev pub has_words : ℕ → ℕ → List ℕ → Bool
has_words id key r = eqb (first_word r) id && eqb (second_word r) key

pub picked_words : (id key : ℕ) (rs : List (List ℕ)) → those second_word key (those first_word id rs) ≡ only (has_words id key) rs
unfolding those
picked_words id key rs = only-only (λ (r : List ℕ). eqb (first_word r) id) (λ (r : List ℕ). eqb (second_word r) key) rs

module _ (id key : ℕ) (rs : List (List ℕ)) (asc : ascending 2 rs ≡ true) (long : Long 2 rs) where
  abbrev has : List ℕ → Bool
  has = has_words id key

  abbrev picked : those second_word key (those first_word id rs) ≡ only has rs
  picked = picked_words id key rs

  -- a record that passes has the key, and the other way round
  passes-key : (j : ℕ) → j < length rs → has (get_or rs j []) ≡ true → key_at 2 rs j ≡ id ∷ key ∷ []
  passes-key j h e =
      let b = both (eqb (first_word (get_or rs j [])) id) (eqb (second_word (get_or rs j [])) key) e in
      key-2 (get_or rs j []) (long j h) ∙ (λ k. eqb-true (first_word (get_or rs j [])) id b.0 k ∷ eqb-true (second_word (get_or rs j [])) key b.1 k ∷ [])

  key-passes : (j : ℕ) → j < length rs → key_at 2 rs j ≡ id ∷ key ∷ [] → has (get_or rs j []) ≡ true
  key-passes j h e =
      let words : first_word (get_or rs j []) ∷ second_word (get_or rs j []) ∷ [] ≡ id ∷ key ∷ [] = sym (key-2 (get_or rs j []) (long j h)) ∙ e in
      (λ k. eq-eqb (first_word (get_or rs j [])) id (ap (λ (l : List ℕ). get_or l 0 0) words) k && eq-eqb (second_word (get_or rs j [])) key (ap (λ (l : List ℕ). get_or l 1 0) words) k)

  pub words-found : (i : ℕ) → find 2 (id ∷ key ∷ []) rs ≡ At i → first (those second_word key (those first_word id rs)) ≡ Some (get_or rs i [])
  words-found i e =
      let at = at-says 2 (id ∷ key ∷ []) rs i e in
      ap first picked
      ∙ first-pass has [] rs i at.0
      (λ j h. split (has (get_or rs j [])) (λ p. let q : j ≡ i = found-alone 2 (id ∷ key ∷ []) rs asc i e j (omega (arith, h, at.0)) (passes-key j (omega (arith, h, at.0)) p) in absurd (omega (arith, h, q))) (λ p. p))
      (key-passes i at.0 at.1)

  pub words-missing : (i : ℕ) → find 2 (id ∷ key ∷ []) rs ≡ Gap i → first (those second_word key (those first_word id rs)) ≡ None
  words-missing i e =
      ap first (picked ∙ none_pass has [] rs (λ j h. split (has (get_or rs j [])) (λ p. absurd (found_none 2 (id ∷ key ∷ []) rs asc i e j h (passes-key j h p))) (λ p. p)))

-- ---- the record with one word
module _ (id : ℕ) (rs : List (List ℕ)) (asc : ascending 1 rs ≡ true) (long : Long 1 rs) where
  is-its : List ℕ → Bool
  is-its r = eqb (first_word r) id

  its-key : (j : ℕ) → j < length rs → is-its (get_or rs j []) ≡ true → key_at 1 rs j ≡ id ∷ []
  unfolding is-its
  its-key j h e = key-1 (get_or rs j []) (long j h) ∙ ap (λ (a : ℕ). a ∷ []) (eqb-true (first_word (get_or rs j [])) id e)

  pub word-found : (i : ℕ) → find 1 (id ∷ []) rs ≡ At i → first (those first_word id rs) ≡ Some (get_or rs i [])
  unfolding those is-its
  word-found i e =
      let at = at-says 1 (id ∷ []) rs i e in
      first-pass is-its [] rs i at.0
      (λ j h. split (is-its (get_or rs j [])) (λ p. let q : j ≡ i = found-alone 1 (id ∷ []) rs asc i e j (omega (arith, h, at.0)) (its-key j (omega (arith, h, at.0)) p) in absurd (omega (arith, h, q))) (λ p. p))
      (eq-eqb (first_word (get_or rs i [])) id (ap (λ (l : List ℕ). get_or l 0 0) (sym (key-1 (get_or rs i []) (long i at.0)) ∙ at.1)))

  pub word-missing : (i : ℕ) → find 1 (id ∷ []) rs ≡ Gap i → first (those first_word id rs) ≡ None
  unfolding those is-its
  word-missing i e =
      ap first (none_pass is-its [] rs (λ j h. split (is-its (get_or rs j [])) (λ p. absurd (found_none 1 (id ∷ []) rs asc i e j h (its-key j h p))) (λ p. p)))

-- ---- typed records, by their words
pub key-of-words : {A : Type 0} (of : List ℕ → A) (peer number : A → ℕ) → ((r : List ℕ) → peer (of r) ≡ first_word r) → ((r : List ℕ) → number (of r) ≡ second_word r) → (id key : ℕ) (rs : List (List ℕ)) → first (those number key (those peer id (map of rs))) ≡ mapped of (first (those second_word key (those first_word id rs)))
key-of-words of peer number hp hn id key rs =
    ap (λ zs. first (those number key zs)) (those-map of peer id rs)
    ∙ ap first (those-map of number key (those (λ (r : List ℕ). peer (of r)) id rs))
    ∙ first-map of (those (λ (r : List ℕ). number (of r)) key (those (λ (r : List ℕ). peer (of r)) id rs))
    ∙ (λ k. mapped of (first (those (λ (r : List ℕ). hn r k) key (those (λ (r : List ℕ). hp r k) id rs))))

pub peer-of-id : (id : ℕ) (rs : List (List ℕ)) → peer_with id (map peer_of rs) ≡ mapped peer_of (first (those first_word id rs))
unfolding peer_of
peer-of-id id rs = ap first (those-map peer_of (λ (p : PeerRecord). p.id) id rs) ∙ first-map peer_of (those first_word id rs)

pub taken-of-words : (id key : ℕ) (rs : List (List ℕ)) → snapshot_key_at id key (map snapshot_key_of rs) ≡ mapped snapshot_key_of (first (those second_word key (those first_word id rs)))
unfolding snapshot_key_of
taken-of-words id key rs = key-of-words snapshot_key_of (λ (k : SnapshotKey). k.peer) (λ (k : SnapshotKey). k.key) (λ r. refl) (λ r. refl) id key rs

pub contested-of-words : (id key : ℕ) (rs : List (List ℕ)) → contested_at id key (map contested_of rs) ≡ mapped contested_of (first (those second_word key (those first_word id rs)))
unfolding contested_of
contested-of-words id key rs = key-of-words contested_of (λ (c : ContestedKey). c.peer) (λ (c : ContestedKey). c.key) (λ r. refl) (λ r. refl) id key rs

-- ---- a table of keys
module _ (w n id key : ℕ) (xs : List ℕ) (table : KeyTable w n xs) where
  abbrev rs : List (List ℕ)
  rs = records w n xs

  long-keys : Long 2 rs
  long-keys i h = omega (arith, table.ready.wide, record-length w n xs i (omega (arith, h, length-records w n xs)) table.ready.fit)

  pub place-below : (i : ℕ) → find 2 (id ∷ key ∷ []) rs ≡ At i → i < n
  place-below i e = omega (arith, (at-says 2 (id ∷ key ∷ []) rs i e).0, length-records w n xs)

  pub table-found : (i : ℕ) → find 2 (id ∷ key ∷ []) rs ≡ At i → first (those second_word key (those first_word id rs)) ≡ Some (get_or rs i [])
  table-found = words-found id key rs table.ascend long-keys

  pub table-missing : (i : ℕ) → find 2 (id ∷ key ∷ []) rs ≡ Gap i → first (those second_word key (those first_word id rs)) ≡ None
  table-missing = words-missing id key rs table.ascend long-keys

  pub key-found : (i : ℕ) → find 2 (id ∷ key ∷ []) rs ≡ At i → KeyIn w id key rs (get_or rs i [])
  key-found i e =
      let h : i < n = place-below i e in
      record {
        is_first = table-found i e;
        length_is = record-length w n xs i h table.ready.fit;
        passes = all-index (are_key_words w) [] rs table.pass i (omega (arith, h, length-records w n xs));
      }

-- ---- the words of a key: its demand's pattern, and its round where there is one
module _ {w id key : ℕ} {rs : List (List ℕ)} (r : List ℕ) (k : KeyIn w id key rs r) where
  pub demand-fits : get_or r 2 0 < 0x7f800000
  unfolding are_key_words
  demand-fits = ltb-true (get_or r 2 0) 0x7f800000 (both (is_demand (get_or r 2 0)) _ k.passes).0

  pub round-fits : 4 < w → get_or r 4 0 < 2 ^ 16
  unfolding are_key_words
  round-fits long =
      let e = (both (leb (get_or r 3 0) 1) (leb w 4 || ltb (get_or r 4 0) (2 ^ 16)) (both (is_demand (get_or r 2 0)) _ k.passes).1).1 in
      ltb-true (get_or r 4 0) (2 ^ 16) (sym (ap (λ (b : Bool). b || ltb (get_or r 4 0) (2 ^ 16)) (lt-leb w 4 long)) ∙ e)

-- ---- what is heard
module _ (id key : ℕ) (rs : List (List ℕ)) where
  pub contested-found : (r : List ℕ) → KeyIn 6 id key rs r → Some (heard_of (get_or r 2 0) (get_or r 3 0) (get_or r 4 0) (get_or r 5 0)) ≡ heard_contested (contested_at id key (map contested_of rs))
  unfolding contested_of
  contested-found r k = sym (ap heard_contested (contested-of-words id key rs ∙ ap (mapped contested_of) k.is_first))

  pub contested-missing : first (those second_word key (those first_word id rs)) ≡ None → None ≡ heard_contested (contested_at id key (map contested_of rs))
  contested-missing e = sym (ap heard_contested (contested-of-words id key rs ∙ ap (mapped contested_of) e))

  module _ (flag round at : ℕ) where
    pub taken-absent : flag ≡ 0 → None ≡ heard_taken (snapshot_of flag 0 round at) (snapshot_key_at id key (map snapshot_key_of rs))
    taken-absent e = sym (ap (λ (f : ℕ). heard_taken (snapshot_of f 0 round at) (snapshot_key_at id key (map snapshot_key_of rs))) e)

    module _ (h : flag ≡ 0 → ⊥) where
      present-one : (f : ℕ) → (f ≡ 0 → ⊥) → snapshot_of f 0 round at ≡ Some (record { epoch = 0; round = round; heard_at = at })
      present-one zero g = absurd (g refl)
      present-one (suc f) g = refl

      pub taken-found : (r : List ℕ) → KeyIn 4 id key rs r → Some (heard_of (get_or r 2 0) (get_or r 3 0) round at) ≡ heard_taken (snapshot_of flag 0 round at) (snapshot_key_at id key (map snapshot_key_of rs))
      unfolding snapshot_key_of
      taken-found r k = sym (λ i. heard_taken (present-one flag h i) ((taken-of-words id key rs ∙ ap (mapped snapshot_key_of) k.is_first) i))

      pub taken-missing : first (those second_word key (those first_word id rs)) ≡ None → None ≡ heard_taken (snapshot_of flag 0 round at) (snapshot_key_at id key (map snapshot_key_of rs))
      taken-missing e = sym (λ i. heard_taken (present-one flag h i) ((taken-of-words id key rs ∙ ap (mapped snapshot_key_of) e) i))

-- the epoch of a snapshot says nothing about a key
pub any-epoch : (flag epoch round at : ℕ) (k : Option SnapshotKey) → heard_taken (snapshot_of flag 0 round at) k ≡ heard_taken (snapshot_of flag epoch round at) k
any-epoch zero epoch round at k = refl
any-epoch (suc flag) epoch round at None = refl
any-epoch (suc flag) epoch round at (Some k) = refl
