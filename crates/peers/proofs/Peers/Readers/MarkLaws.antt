-- Flags of many keys that ascend, set by going over the peers' records.
use Rattle.std.proofs.Common.{◌≡◌, ℕ, zero, suc, ◌+◌, ◌<◌, ◌≤◌, Bool, true, false, ◌&&◌, ◌||◌, eqb, ltb, List, [], ◌∷◌, ◌++◌, map, length, get_or, drop, set, replicate, sym, refl, ap, ◌∙◌, suc-le-suc, zero-le, le_of_suc-le-suc, not-suc-le-zero, add-one, arith, eq-eqb, ne_eqb}
use mathlib.Core.Bool.{and-false, or_assoc, or-false, or-true}
use Rattle.records.specs.declared.Found.{Found}
use Rattle.records.specs.declared.Found.TheVariants.{At, Gap}
use Rattle.records.specs.Records.{records, ascending, keyed, find, find_in}
use Rattle.questions.proofs.Tests.{both}
use Rattle.records.proofs.Words.RecordLaws.{length-records, fits-pos, fits_le, record-length}
use Rattle.records.proofs.Order.OrderLaws.{key_at}
use Rattle.records.proofs.Order.PlaceLaws.{at-says}
use Rattle.records.specs.Fields.{flag_of}
use Rattle.questions.specs.Lists.{any}
use Rattle.peers.specs.Peers.State.{PeersState}
use Rattle.peers.specs.Peers.Readers.{told}
use Rattle.records.specs.Typed.{first_word, in_order}
use Rattle.peers.specs.Peers.Steps.Each.{has_primary, is_primary_in, marked, cleared, Markable}
use Rattle.questions.proofs.ListLaws.{any_here, any-end}
use Rattle.records.proofs.Order.FindLaws.{Long, key-1, found-alone, found_none}
use Rattle.records.proofs.Words.RowLaws.{find-says}

-- ---- flags set where a test holds
pub length_marked : (f : ℕ → Bool) (rs : List (List ℕ)) (out : List Bool) → length (marked f rs out) ≡ length out
unfolding marked
length_marked f [] out = refl
length_marked f (r ∷ rs) [] = refl
length_marked f (r ∷ rs) (b ∷ out) = ap suc (length_marked f rs out)

pub marked-twice : (f g : ℕ → Bool) (rs : List (List ℕ)) (out : List Bool) → marked f rs (marked g rs out) ≡ marked (λ k. g k || f k) rs out
unfolding marked
marked-twice f g [] out = refl
marked-twice f g (r ∷ rs) [] = refl
marked-twice f g (r ∷ rs) (b ∷ out) = (λ i. or_assoc b (g (get_or r 0 0)) (f (get_or r 0 0)) i ∷ marked-twice f g rs out i)

module _ (f : ℕ → Bool) where
  pub marked-misses : (rs : List (List ℕ)) (out : List Bool) → ((j : ℕ) → j < length rs → f (first_word (get_or rs j [])) ≡ false) → marked f rs out ≡ out
  unfolding marked
  marked-misses [] out h = refl
  marked-misses (r ∷ rs) [] h = refl
  marked-misses (r ∷ rs) (b ∷ out) h =
      (λ i. (ap (λ (c : Bool). b || c) (h 0 (suc-le-suc zero-le)) ∙ or-false b) i ∷ marked-misses rs out (λ j l. h (suc j) (suc-le-suc l)) i)

  pub marked-hit :
      (rs : List (List ℕ)) (out : List Bool) (i : ℕ) → i < length rs → i < length out
      → f (first_word (get_or rs i [])) ≡ true
      → ((j : ℕ) → j < length rs → (j ≡ i → ⊥) → f (first_word (get_or rs j [])) ≡ false)
      → set out i true ≡ marked f rs out
  unfolding marked
  marked-hit [] out i l k hit miss = absurd (not-suc-le-zero l)
  marked-hit (r ∷ rs) [] i l k hit miss = absurd (not-suc-le-zero k)
  marked-hit (r ∷ rs) (b ∷ out) zero l k hit miss =
      (λ i. sym (ap (λ (c : Bool). b || c) hit ∙ or-true b) i ∷ sym (marked-misses rs out (λ j h. miss (suc j) (suc-le-suc h) (λ e. omega (arith, e)))) i)
  marked-hit (r ∷ rs) (b ∷ out) (suc i) l k hit miss =
      (λ n.
      sym (ap (λ (c : Bool). b || c) (miss 0 (suc-le-suc zero-le) (λ e. omega (arith, e))) ∙ or-false b) n
      ∷ marked-hit rs out i (le_of_suc-le-suc l) (le_of_suc-le-suc k) hit (λ j h ne. miss (suc j) (suc-le-suc h) (λ e. ne (omega (arith, e)))) n)

  pub marked-cleared : (rs : List (List ℕ)) (rest : List Bool) → marked f rs (replicate (length rs) false ++ rest) ≡ map (λ (r : List ℕ). f (get_or r 0 0)) rs ++ rest
  unfolding marked
  marked-cleared [] rest = refl
  marked-cleared (r ∷ rs) rest = ap (λ (l : List Bool). f (get_or r 0 0) ∷ l) (marked-cleared rs rest)

-- ---- one key, by its search among records that ascend
module _ (key : ℕ) (rs : List (List ℕ)) (asc : ascending 1 rs ≡ true) (long : Long 1 rs) where
  has_key : (j : ℕ) → j < length rs → key ≡ first_word (get_or rs j []) → key_at 1 rs j ≡ key ∷ []
  has_key j h e = key-1 (get_or rs j []) (long j h) ∙ ap (λ (a : ℕ). a ∷ []) (sym e)

  pub mark-found : (out : List Bool) (i : ℕ) → i < length out → find 1 (key ∷ []) rs ≡ At i → set out i true ≡ marked (eqb key) rs out
  mark-found out i k e =
      let at = at-says 1 (key ∷ []) rs i e in
      marked-hit (eqb key) rs out i at.0 k
      (eq-eqb key (first_word (get_or rs i [])) (sym (ap (λ (l : List ℕ). get_or l 0 0) (sym (key-1 (get_or rs i []) (long i at.0)) ∙ at.1))))
      (λ j h ne. ne_eqb key (first_word (get_or rs j [])) (λ q. ne (found-alone 1 (key ∷ []) rs asc i e j h (has_key j h q))))

  pub mark-missing : (out : List Bool) (i : ℕ) → find 1 (key ∷ []) rs ≡ Gap i → out ≡ marked (eqb key) rs out
  mark-missing out i e =
      sym (marked-misses (eqb key) rs out (λ j h. ne_eqb key (first_word (get_or rs j [])) (λ q. found_none 1 (key ∷ []) rs asc i e j h (has_key j h q))))

-- in a table of records
module _ (w n key : ℕ) (keys : List ℕ) (out : List Bool) (m : Markable w n keys out) where
  long-keys : Long 1 (records w n keys)
  long-keys i h =
      omega (arith, fits-pos (length keys) w n m.fit, record-length w n keys i (omega (arith, h, length-records w n keys)) (fits_le (length keys) w n m.fit))

  found : (r : Found) → r ≡ find_in w 1 n key 0 keys → find 1 (key ∷ []) (records w n keys) ≡ r
  found = find-says w 1 n key 0 keys (omega arith) (omega arith) (fits-pos (length keys) w n m.fit) (fits_le (length keys) w n m.fit)

  pub place-marked : (i : ℕ) → At i ≡ find_in w 1 n key 0 keys → i < length out
  place-marked i e = omega (arith, (at-says 1 (key ∷ []) (records w n keys) i (found (At i) e)).0, length-records w n keys, m.room)

  pub key-marked : (i : ℕ) → At i ≡ find_in w 1 n key 0 keys → set out i true ≡ marked (eqb key) (records w n keys) out
  key-marked i e = mark-found key (records w n keys) m.ascends long-keys out i (place-marked i e) (found (At i) e)

  pub key-absent : (i : ℕ) → Gap i ≡ find_in w 1 n key 0 keys → out ≡ marked (eqb key) (records w n keys) out
  key-absent i e = mark-missing key (records w n keys) m.ascends long-keys out i (found (Gap i) e)

-- of a record that is not primary
pub mark-other : (f a : ℕ) (rs : List (List ℕ)) (out : List Bool) → f ≡ 0 → out ≡ marked (λ (key : ℕ). eqb a key && flag_of f) rs out
mark-other f a rs out h =
    sym (marked-misses (λ (key : ℕ). eqb a key && flag_of f) rs out (λ j l. ap (λ (g : ℕ). eqb a (first_word (get_or rs j [])) && flag_of g) h ∙ and-false (eqb a (first_word (get_or rs j [])))))

-- ---- the keys of a table of the peers
module _ (rs : List (List ℕ)) (v m : ℕ) (xs : List ℕ) where
  abbrev rows : List (List ℕ)
  rows = records v m xs

  abbrev pub left : ℕ → List Bool → List Bool
  left i out = marked (is_primary_in (drop i rows)) rs out

  pub mark-goes :
      (out out' : List Bool) (i : ℕ) → i < m
      → out' ≡ marked (λ (key : ℕ). has_primary key (get_or rows i [])) rs out
      → left (i + 1) out' ≡ left i out
  mark-goes out out' i h e =
      ap (left (i + 1)) e
      ∙ marked-twice (is_primary_in (drop (i + 1) rows)) (λ (key : ℕ). has_primary key (get_or rows i [])) rs out
      ∙ (λ n. marked (λ (key : ℕ). has_primary key (get_or rows i []) || any (has_primary key) (drop (add-one i n) rows)) rs out)
      ∙ (λ n. marked (λ (key : ℕ). sym (any_here (has_primary key) [] rows i (omega (arith, length-records v m xs))) n) rs out)

  pub mark-ends : (out : List Bool) (i : ℕ) → m ≤ i → left i out ≡ out
  mark-ends out i h =
      (λ n. marked (λ (key : ℕ). any-end (has_primary key) [] rows i (omega (arith, length-records v m xs)) n) rs out)
      ∙ marked-misses (λ (key : ℕ). false) rs out (λ j l. refl)

-- ---- what is told of each key
pub many-ascending : (b : Bool) (w n : ℕ) (keys : List ℕ) → b ≡ (ltb 1 n && in_order w 1 n keys) → b ≡ true → ascending 1 (records w n keys) ≡ true
unfolding in_order
many-ascending b w n keys e h =
    (both (keyed (length keys) w 1 n) (ascending 1 (records w n keys)) (both (ltb 1 n) (in_order w 1 n keys) (sym e ∙ h)).1).1

pub marked-told :
    (f : ℕ → Bool) (tell : ℕ → PeersState → Bool) (s : PeersState) (w n : ℕ) (keys : List ℕ) (out : List Bool)
    → ((key : ℕ) → f key ≡ tell key s)
    → marked f (records w n keys) (cleared n out) ≡ told tell s w n keys out
unfolding told
marked-told f tell s w n keys out h =
    ap (λ (m : ℕ). marked f (records w n keys) (replicate m false ++ drop n out)) (sym (length-records w n keys))
    ∙ marked-cleared f (records w n keys) (drop n out)
    ∙ (λ i. map (λ (r : List ℕ). h (get_or r 0 0) i) (records w n keys) ++ drop n out)
