-- The keys of peers that ascend are valid where they are a run of records for each peer; and the scan of such runs.
use Rattle.std.proofs.Common.{◌≡◌, ℕ, suc, ◌+◌, ◌-◌, ◌*◌, ◌<◌, ◌≤◌, Bool, true, false, cond, ◌&&◌, ◌||◌, eqb, ltb, leb, List, [], ◌∷◌, ◌++◌, length, get_or, take, drop, sym, refl, ap, ◌∙◌, zero-le, add-one, arith, length-drop, take-append-drop, drop_of_length-le, length-take-le, drop-cons, drop-drop, ltb-false, ltb-true, lt-ltb, eq-eqb, ne_eqb, eqb-true, le-leb, leb-true}
use mathlib.Core.Bool.{or-false, and_assoc, and_comm}
use borrow.Author.Tests.{eqb-false}
use lib.Dec.{eqb-suc-zero}
use Rattle.records.specs.Records.{records, key, before, leads, ascending}
use Rattle.questions.proofs.Tests.{contradiction, split, both, and_intro, and_second, same_truth, and_left, stop}
use Rattle.records.proofs.Words.RecordLaws.{length-records, record-length, lent-record}
use Rattle.records.proofs.Tables.TableLaws.{Wide, wide-drop}
use Rattle.questions.specs.Lists.{all, any, only, those}
use Rattle.peers.specs.Peers.Steps.Scan.{are_key_words, is_named, are_named, are_within, is_key_of, run_length, is_run, are_runs}
use Rattle.records.specs.Typed.{first_word}
use Rattle.records.proofs.Words.RowLaws.{word-at, first-at}
use Rattle.questions.proofs.OnlyLaws.{only_yes, only_no, all-imply}
use Rattle.records.proofs.Order.AscendingLaws.{asc-ahead, asc-cons, asc-append, first-before, second-before, before-first, before-one, before-two}

-- ---- lists by a test
module _ {A : Type 0} (p : A → Bool) where
  all-parts : (xs ys : List A) → all p (xs ++ ys) ≡ (all p xs && all p ys)
  unfolding all
  all-parts [] ys = refl
  all-parts (x ∷ xs) ys = ap (λ (b : Bool). p x && b) (all-parts xs ys) ∙ sym (and_assoc (p x) (all p xs) (all p ys))

  -- a test that agrees with another, or is fixed, on what is known of each
  module _ (known : A → Bool) where
    all_same : (q : A → Bool) (xs : List A) → all known xs ≡ true → ((x : A) → known x ≡ true → p x ≡ q x) → all p xs ≡ all q xs
    unfolding all
    all_same q [] k h = refl
    all_same q (x ∷ xs) k h =
        let b = both (known x) (all known xs) k in
        (λ i. h x b.0 i && all_same q xs b.1 h i)

    all-fixed : (b : Bool) (xs : List A) → all known xs ≡ true → ((x : A) → known x ≡ true → p x ≡ b) → all p xs ≡ (eqb (length xs) 0 || b)
    unfolding all
    all-fixed b [] k h = refl
    all-fixed b (x ∷ xs) k h =
        let t = both (known x) (all known xs) k in
        (λ i. h x t.0 i && all-fixed b xs t.1 h i) ∙ again b (eqb (length xs) 0) ∙ sym (ap (λ (z : Bool). z || b) (eqb-suc-zero (length xs)))
      where
        again : (b c : Bool) → (b && (c || b)) ≡ b
        again true true = refl
        again true false = refl
        again false c = refl

-- ---- records in order, by their words
abbrev is_after : ℕ → List ℕ → Bool
is_after id r = ltb id (first_word r)

abbrev is_of : ℕ → List ℕ → Bool
is_of id r = eqb (first_word r) id

-- ---- records of greater ids
after-those : (id a : ℕ) (rs : List (List ℕ)) → a ≤ id → all (is_after id) rs ≡ true → those first_word a rs ≡ []
unfolding those only all
after-those id a [] l h = refl
after-those id a (r ∷ rs) l h =
    let b = both (is_after id r) (all (is_after id) rs) h in
    only_no (is_of a) r rs (ne_eqb (first_word r) a (λ e. omega (arith, ltb-true id (first_word r) b.0))) ∙ after-those id a rs l b.1

unnamed : (least id a : ℕ) (ps : List (List ℕ)) → all (is_after id) ps ≡ true → a ≤ id → is_named least ps a ≡ false
unfolding is_named any all
unnamed least id a [] h l = refl
unnamed least id a (p ∷ ps) h l =
    let b = both (is_after id p) (all (is_after id) ps) h in
    (λ k. (ne_eqb (first_word p) a (λ e. omega (arith, ltb-true id (first_word p) b.0)) k && leb least (get_or p 3 0)) || unnamed least id a ps b.1 l k)

named-after : (least id a : ℕ) (ps : List (List ℕ)) → all (is_after id) ps ≡ true → is_named least ps a ≡ true → id < a
named-after least id a ps h e = split (ltb id a) (ltb-true id a) (λ f. contradiction (sym e ∙ unnamed least id a ps h (ltb-false id a f)))

-- ---- the records of one id, and after them those of greater ids
those-first : (id : ℕ) (run rest : List (List ℕ)) → all (is_of id) run ≡ true → all (is_after id) rest ≡ true → length (those first_word id (run ++ rest)) ≡ length run
unfolding those only all
those-first id [] rest h k = ap length (after-those id id rest (omega arith) k)
those-first id (r ∷ run) rest h k =
    let b = both (is_of id r) (all (is_of id) run) h in
    ap length (only_yes (is_of id) r (run ++ rest) b.0) ∙ ap suc (those-first id run rest b.1 k)

those-rest : (id a : ℕ) (run rest : List (List ℕ)) → id < a → all (is_of id) run ≡ true → those first_word a (run ++ rest) ≡ those first_word a rest
unfolding those only all
those-rest id a [] rest l h = refl
those-rest id a (r ∷ run) rest l h =
    let b = both (is_of id r) (all (is_of id) run) h in
    only_no (is_of a) r (run ++ rest) (ne_eqb (first_word r) a (λ e. omega (arith, eqb-true (first_word r) id b.0))) ∙ those-rest id a run rest l b.1

asc-end : (d : ℕ) (run rest : List (List ℕ)) → ascending d (run ++ rest) ≡ true → ascending d rest ≡ true
unfolding ascending
asc-end d [] rest e = e
asc-end d (r ∷ run) rest e = asc-end d run rest (both (leads d r (run ++ rest)) (ascending d (run ++ rest)) e).1

asc-parts : (id : ℕ) (run rest : List (List ℕ)) → all (is_of id) run ≡ true → all (is_after id) rest ≡ true → ascending 2 run ≡ true → ascending 2 (run ++ rest) ≡ ascending 2 rest
asc-parts id run rest h k a = same_truth (ascending 2 (run ++ rest)) (ascending 2 rest) (asc-end 2 run rest)
    (asc-append 2 (is_of id) (is_after id) run rest
    (λ r s x y. first-before 1 r s (omega (arith, eqb-true (first_word r) id x, ltb-true id (first_word s) y))) h k a)

module _ (least bound : ℕ) (p : List ℕ) (ps run rest : List (List ℕ)) (next : all (is_after (first_word p)) ps ≡ true) (own : all (is_of (first_word p)) run ≡ true) (others : all (is_after (first_word p)) rest ≡ true) where
  named-own : (r : List ℕ) → is_of (first_word p) r ≡ true → is_named least (p ∷ ps) (first_word r) ≡ leb least (get_or p 3 0)
  unfolding is_named any
  named-own r e =
      let q : first_word r ≡ first_word p = eqb-true (first_word r) (first_word p) e in
      (λ k. (eq-eqb (first_word p) (first_word r) (sym q) k && leb least (get_or p 3 0)) || unnamed least (first_word p) (first_word r) ps next (omega arith) k)
      ∙ or-false (leb least (get_or p 3 0))

  named_other : (r : List ℕ) → is_after (first_word p) r ≡ true → is_named least (p ∷ ps) (first_word r) ≡ is_named least ps (first_word r)
  unfolding is_named any
  named_other r e =
      ap (λ (b : Bool). (b && leb least (get_or p 3 0)) || is_named least ps (first_word r)) (ne_eqb (first_word p) (first_word r) (λ q. omega (arith, ltb-true (first_word p) (first_word r) e)))

  named-parts : are_named least (p ∷ ps) (run ++ rest) ≡ ((eqb (length run) 0 || leb least (get_or p 3 0)) && are_named least ps rest)
  unfolding are_named
  named-parts =
      let named : List ℕ → Bool = λ r. is_named least (p ∷ ps) (first_word r) in
      all-parts named run rest
      ∙ (λ k. all-fixed named (is_of (first_word p)) (leb least (get_or p 3 0)) run own named-own k && all_same named (is_after (first_word p)) (λ (r : List ℕ). is_named least ps (first_word r)) rest others named_other k)

  within-parts : are_within bound (p ∷ ps) (run ++ rest) ≡ (leb (length run) bound && are_within bound ps rest)
  unfolding are_within all
  within-parts =
      (λ k. leb (those-first (first_word p) run rest own others k) bound && all_same (λ (q : List ℕ). leb (length (those first_word (first_word q) (run ++ rest))) bound) (is_after (first_word p)) (λ (q : List ℕ). leb (length (those first_word (first_word q) rest)) bound) ps next (λ q e. ap (λ (l : List (List ℕ)). leb (length l) bound) (those-rest (first_word p) (first_word q) run rest (ltb-true (first_word p) (first_word q) e) own)) k)

-- ---- the run at the front of the records
module _ (w id : ℕ) where
  run-goes : (low : ℕ) (r : List ℕ) (rs : List (List ℕ)) → is_key_of w id low r ≡ true → run_length w id low (r ∷ rs) ≡ suc (run_length w id (suc (get_or r 1 0)) rs)
  unfolding run_length
  run-goes low r rs e = ap (λ (b : Bool). cond b (suc (run_length w id (suc (get_or r 1 0)) rs)) 0) e

  run-stops : (low : ℕ) (r : List ℕ) (rs : List (List ℕ)) → is_key_of w id low r ≡ false → run_length w id low (r ∷ rs) ≡ 0
  unfolding run_length
  run-stops low r rs e = ap (λ (b : Bool). cond b (suc (run_length w id (suc (get_or r 1 0)) rs)) 0) e

  -- what such a key says
  pub key-says : (low : ℕ) (r : List ℕ) → is_key_of w id low r ≡ true → (is_of id r ≡ true) × (low ≤ get_or r 1 0) × (are_key_words w r ≡ true)
  unfolding is_key_of
  key-says low r e =
      let a = both (is_of id r) _ e in
      let b = both (leb low (get_or r 1 0)) (are_key_words w r) a.1 in
      (a.0, leb-true low (get_or r 1 0) b.0, b.1)

  key-is : (low : ℕ) (r : List ℕ) → is_of id r ≡ true → low ≤ get_or r 1 0 → are_key_words w r ≡ true → is_key_of w id low r ≡ true
  unfolding is_key_of
  key-is low r e l k = (λ i. e i && (le-leb low (get_or r 1 0) l i && k i))

  key-lower : (low high : ℕ) (r : List ℕ) → low ≤ high → is_key_of w id high r ≡ true → is_key_of w id low r ≡ true
  key-lower low high r l e = let s = key-says high r e in key-is low r s.0 (omega (arith, s.1)) s.2

  pub run-keys : (low : ℕ) (rs : List (List ℕ)) → all (is_key_of w id low) (take (run_length w id low rs) rs) ≡ true
  unfolding all run_length
  run-keys low [] = refl
  run-keys low (r ∷ rs) = split (is_key_of w id low r)
      (λ e.
      let high : ℕ = suc (get_or r 1 0) in
      ap (λ (m : ℕ). all (is_key_of w id low) (take m (r ∷ rs))) (run-goes low r rs e)
      ∙ and_intro (is_key_of w id low r) _ e
      (all-imply (is_key_of w id high) (is_key_of w id low) (take (run_length w id high rs) rs) (λ s f. key-lower low high s (omega (arith, (key-says low r e).1)) f) (run-keys high rs)))
      (λ e. ap (λ (m : ℕ). all (is_key_of w id low) (take m (r ∷ rs))) (run-stops low r rs e))

  run-ascends : (low : ℕ) (rs : List (List ℕ)) → ascending 2 (take (run_length w id low rs) rs) ≡ true
  unfolding ascending run_length
  run-ascends low [] = refl
  run-ascends low (r ∷ rs) = split (is_key_of w id low r)
      (λ e.
      let high : ℕ = suc (get_or r 1 0) in
      let run : List (List ℕ) = take (run_length w id high rs) rs in
      ap (λ (m : ℕ). ascending 2 (take m (r ∷ rs))) (run-goes low r rs e)
      ∙ asc-cons 2 r run
      (all-imply (is_key_of w id high) (λ (s : List ℕ). before (key 2 r) (key 2 s)) run (λ s f. second-before id r s (key-says low r e).0 (key-says high s f).0 (key-says high s f).1) (run-keys high rs))
      (run-ascends high rs))
      (λ e. ap (λ (m : ℕ). ascending 2 (take m (r ∷ rs))) (run-stops low r rs e))

  pub run-within : (low : ℕ) (rs : List (List ℕ)) → run_length w id low rs ≤ length rs
  unfolding run_length
  run-within low [] = zero-le
  run-within low (r ∷ rs) = split (is_key_of w id low r)
      (λ e. omega (arith, run-goes low r rs e, run-within (suc (get_or r 1 0)) rs))
      (λ e. omega (arith, run-stops low r rs e))

  -- of a greater id, or of this id with a second word from `low` on
  abbrev is_from : ℕ → List ℕ → Bool
  is_from low r = is_after id r || (is_of id r && leb low (get_or r 1 0))

  from-own : (low : ℕ) (r : List ℕ) → is_from low r ≡ true → is_of id r ≡ true → low ≤ get_or r 1 0
  from-own low r e f = split (is_after id r)
      (λ g. absurd (omega (arith, ltb-true id (first_word r) g, eqb-true (first_word r) id f)))
      (λ g. leb-true low (get_or r 1 0) (both (is_of id r) (leb low (get_or r 1 0)) (sym (ap (λ (b : Bool). b || (is_of id r && leb low (get_or r 1 0))) g) ∙ e)).1)

  from-other : (low : ℕ) (r : List ℕ) → is_from low r ≡ true → is_of id r ≡ false → is_after id r ≡ true
  from-other low r e f = split (is_after id r) (λ g. g) (λ g. contradiction (sym e ∙ (λ k. g k || (f k && leb low (get_or r 1 0)))))

  from_next : (r s : List ℕ) → 2 ≤ length r → is_of id r ≡ true → before (key 2 r) (key 2 s) ≡ true → is_from (suc (get_or r 1 0)) s ≡ true
  from_next r s two f e = split (is_after id s)
      (λ g. ap (λ (b : Bool). b || (is_of id s && leb (suc (get_or r 1 0)) (get_or s 1 0))) g)
      (λ g.
      let own : first_word r ≡ id = eqb-true (first_word r) id f in
      let same : first_word s ≡ id = omega (arith, before-first 1 r s e, ltb-false id (first_word s) g) in
      (λ k. g k || (eq-eqb (first_word s) id same k && le-leb (suc (get_or r 1 0)) (get_or s 1 0) (before-two r s two e (omega arith)) k)))

  -- of valid keys in their order, those after the run are of greater ids
  run-others : (low : ℕ) (rs : List (List ℕ)) → 2 ≤ w → Wide w rs → all (are_key_words w) rs ≡ true → ascending 2 rs ≡ true → all (is_from low) rs ≡ true → all (is_after id) (drop (run_length w id low rs) rs) ≡ true
  unfolding all run_length
  run-others low [] two wide k a f = refl
  run-others low (r ∷ rs) two wide k a f =
      let words = both (are_key_words w r) (all (are_key_words w) rs) k in
      let from = both (is_from low r) (all (is_from low) rs) f in
      let ahead : all (λ (s : List ℕ). before (key 2 r) (key 2 s)) rs ≡ true = asc-ahead 2 r rs a in
      split (is_key_of w id low r)
      (λ e.
      ap (λ (m : ℕ). all (is_after id) (drop m (r ∷ rs))) (run-goes low r rs e)
      ∙ run-others (suc (get_or r 1 0)) rs two wide.1 words.1 (asc-end 2 (r ∷ []) rs a)
      (all-imply (λ (s : List ℕ). before (key 2 r) (key 2 s)) (is_from (suc (get_or r 1 0))) rs (λ s b. from_next r s (omega (arith, wide.0)) (key-says low r e).0 b) ahead))
      (λ e.
      let other : is_after id r ≡ true = split (is_of id r)
      (λ g. contradiction (sym (key-is low r g (from-own low r from.0 g) words.0) ∙ e))
      (λ g. from-other low r from.0 g) in
      ap (λ (m : ℕ). all (is_after id) (drop m (r ∷ rs))) (run-stops low r rs e)
      ∙ and_intro (is_after id r) _ other
      (all-imply (λ (s : List ℕ). before (key 2 r) (key 2 s)) (is_after id) rs (λ s b. lt-ltb id (first_word s) (omega (arith, before-first 1 r s b, ltb-true id (first_word r) other))) ahead))

-- ---- the runs of all the peers
regroup : (a b c d e f l : Bool) → (e ≡ true → l ≡ true) → ((e || (l && f)) && (a && (b && (c && d)))) ≡ (a && (b && (((e || f) && c) && (l && d))))
regroup a b c d true f l h = ap (λ (z : Bool). a && (b && (c && (z && d)))) (sym (h refl))
regroup a b c d false f l h = turned
  where
    turned : ((l && f) && (a && (b && (c && d)))) ≡ (a && (b && ((f && c) && (l && d))))
    turned = simp (and_assoc, and_comm, and_left)

module _ (w least bound : ℕ) (two : 2 ≤ w) where
  abbrev are_valid : List (List ℕ) → List (List ℕ) → Bool
  are_valid ps rs = all (are_key_words w) rs && (ascending 2 rs && (are_named least ps rs && are_within bound ps rs))

  no-peers : (rs : List (List ℕ)) → eqb (length rs) 0 ≡ are_valid [] rs
  unfolding all any ascending is_named are_named are_within
  no-peers [] = refl
  no-peers (r ∷ rs) = eqb-suc-zero (length rs) ∙ sym (and_second (all (are_key_words w) (r ∷ rs)) _ (and_second (ascending 2 (r ∷ rs)) _ refl))

  module _ (p : List ℕ) (ps rs : List (List ℕ)) (next : all (is_after (first_word p)) ps ≡ true) (wide : Wide w rs) where
    abbrev id : ℕ
    id = first_word p

    abbrev count : ℕ
    count = run_length w id 0 rs

    abbrev run : List (List ℕ)
    run = take count rs

    abbrev rest : List (List ℕ)
    rest = drop count rs

    one-run : all (is_after id) rest ≡ true → (is_run least bound (get_or p 3 0) count && are_valid ps rest) ≡ are_valid (p ∷ ps) rs
    unfolding is_run
    one-run others =
        let own : all (is_of id) run ≡ true = all-imply (is_key_of w id 0) (is_of id) run (λ r e. (key-says w id 0 r e).0) (run-keys w id 0 rs) in
        let words : all (are_key_words w) run ≡ true = all-imply (is_key_of w id 0) (are_key_words w) run (λ r e. (key-says w id 0 r e).2) (run-keys w id 0 rs) in
        let size : length run ≡ count = length-take-le count rs (run-within w id 0 rs) in
        regroup (all (are_key_words w) rest) (ascending 2 rest) (are_named least ps rest) (are_within bound ps rest) (eqb count 0) (leb least (get_or p 3 0)) (leb count bound)
        (λ e. le-leb count bound (omega (arith, eqb-true count 0 e)))
        ∙ sym
        (ap (are_valid (p ∷ ps)) (sym (take-append-drop count rs))
        ∙ (λ k. (all-parts (are_key_words w) run rest ∙ ap (λ (b : Bool). b && all (are_key_words w) rest) words) k && (asc-parts id run rest own others (run-ascends w id 0 rs) k && (named-parts least bound p ps run rest next own others k && within-parts least bound p ps run rest next own others k)))
        ∙ ap (λ (n : ℕ). all (are_key_words w) rest && (ascending 2 rest && (((eqb n 0 || leb least (get_or p 3 0)) && are_named least ps rest) && (leb n bound && are_within bound ps rest)))) size)

    -- where others than those of greater ids follow the run, neither holds
    named-rest : are_valid ps rest ≡ true → all (is_after id) rest ≡ true
    unfolding are_named
    named-rest v =
        let a = both (all (are_key_words w) rest) _ v in
        let b = both (ascending 2 rest) _ a.1 in
        let c = both (are_named least ps rest) (are_within bound ps rest) b.1 in
        all-imply (λ (r : List ℕ). is_named least ps (first_word r)) (is_after id) rest (λ r e. lt-ltb id (first_word r) (named-after least id (first_word r) ps next e)) c.0

    from_named : (r : List ℕ) → is_named least (p ∷ ps) (first_word r) ≡ true → is_from w id 0 r ≡ true
    unfolding is_named any
    from_named r e = split (is_after id r)
        (λ g. ap (λ (b : Bool). b || (is_of id r && leb 0 (get_or r 1 0))) g)
        (λ g. split (is_of id r)
        (λ f. (λ k. g k || (f k && le-leb 0 (get_or r 1 0) zero-le k)))
        (λ f. contradiction (sym e ∙ (λ k. (ne_eqb id (first_word r) (λ q. eqb-false (first_word r) id f (sym q)) k && leb least (get_or p 3 0)) || unnamed least id (first_word r) ps next (ltb-false id (first_word r) g) k))))

    valid-rest : are_valid (p ∷ ps) rs ≡ true → all (is_after id) rest ≡ true
    unfolding are_named
    valid-rest v =
        let a = both (all (are_key_words w) rs) _ v in
        let b = both (ascending 2 rs) _ a.1 in
        let c = both (are_named least (p ∷ ps) rs) (are_within bound (p ∷ ps) rs) b.1 in
        run-others w id 0 rs two wide a.0 b.0 (all-imply (λ (r : List ℕ). is_named least (p ∷ ps) (first_word r)) (is_from w id 0) rs from_named c.0)

    by-peer : (is_run least bound (get_or p 3 0) count && are_valid ps rest) ≡ are_valid (p ∷ ps) rs
    by-peer = split (all (is_after id) rest) one-run
        (λ e.
        and_second (is_run least bound (get_or p 3 0) count) (are_valid ps rest) (refuted (are_valid ps rest) (λ v. contradiction (sym (named-rest v) ∙ e)))
        ∙ sym (refuted (are_valid (p ∷ ps) rs) (λ v. contradiction (sym (valid-rest v) ∙ e))))
      where
        refuted : (b : Bool) → (b ≡ true → b ≡ false) → b ≡ false
        refuted b f = split b f (λ e. e)

  pub runs-are-valid : (ps : List (List ℕ)) → Wide 12 ps → ascending 1 ps ≡ true → (rs : List (List ℕ)) → Wide w rs → are_runs w least bound ps rs ≡ are_valid ps rs
  unfolding are_runs
  runs-are-valid [] wp a rs wr = no-peers rs
  runs-are-valid (p ∷ ps) wp a rs wr =
      let count : ℕ = run_length w (first_word p) 0 rs in
      ap (λ (b : Bool). is_run least bound (get_or p 3 0) count && b) (runs-are-valid ps wp.1 (asc-end 1 (p ∷ []) ps a) (drop count rs) (wide-drop w count rs wr))
      ∙ by-peer p ps rs (all-imply (λ (q : List ℕ). before (key 1 p) (key 1 q)) (is_after (first_word p)) ps (λ q b. lt-ltb (first_word p) (first_word q) (before-one p q (omega (arith, wp.0)) b)) (asc-ahead 1 p ps a)) wr

-- ---- the scan: a run
-- the length of the run from record i on
abbrev pub ahead : ℕ → ℕ → ℕ → List ℕ → ℕ → ℕ → ℕ
ahead w n id xs low i = run_length w id low (drop i (records w n xs))

-- record i is such a key
abbrev pub is_here : ℕ → ℕ → ℕ → List ℕ → ℕ → ℕ → Bool
is_here w n id xs low i = is_key_of w id low (get_or (records w n xs) i [])

-- the same of its words as they are lent
pub lent-here : (w n peer : ℕ) (xs : List ℕ) → n * w ≤ length xs → (low i : ℕ) → i < n → is_key_of (length (take (i * w + w - i * w) (drop (i * w) xs))) peer low (take (i * w + w - i * w) (drop (i * w) xs)) ≡ is_here w n peer xs low i
lent-here w n peer xs fit low i h =
    let lent = lent-record w n xs i h in
    (λ k. is_key_of (length (lent k)) peer low (lent k))
    ∙ ap (λ (m : ℕ). is_key_of m peer low (get_or (records w n xs) i [])) (record-length w n xs i h fit)

module _ (w n id : ℕ) (xs : List ℕ) (wide : 4 ≤ w) where
  split-here : (low i : ℕ) → i < n → ahead w n id xs low i ≡ run_length w id low (get_or (records w n xs) i [] ∷ drop (suc i) (records w n xs))
  split-here low i h = ap (run_length w id low) (drop-cons (records w n xs) i [] (omega (arith, length-records w n xs)))

  goes_on : (low i : ℕ) → i < n → is_here w n id xs low i ≡ true → i + 1 + ahead w n id xs (suc (get_or xs ((i + 1) * w - w + 1) 0)) (i + 1) ≡ i + ahead w n id xs low i
  goes_on low i h e =
      let place : (i + 1) * w - w + 1 ≡ i * w + 1 = omega arith in
      let second : get_or xs ((i + 1) * w - w + 1) 0 ≡ get_or (get_or (records w n xs) i []) 1 0 = ap (λ (m : ℕ). get_or xs m 0) place ∙ sym (word-at w n xs i 1 h (omega arith)) in
      let next : ahead w n id xs (suc (get_or xs ((i + 1) * w - w + 1) 0)) (i + 1) ≡ run_length w id (suc (get_or (get_or (records w n xs) i []) 1 0)) (drop (suc i) (records w n xs)) = (λ k. run_length w id (suc (second k)) (drop (add-one i k) (records w n xs))) in
      omega (arith, next, split-here low i h, run-goes w id low (get_or (records w n xs) i []) (drop (suc i) (records w n xs)) e)

  stops-here : (low i : ℕ) → i < n → is_here w n id xs low i ≡ false → i ≡ i + ahead w n id xs low i
  stops-here low i h e = omega (arith, split-here low i h, run-stops w id low (get_or (records w n xs) i []) (drop (suc i) (records w n xs)) e)

  ends-here : (low i : ℕ) → n ≤ i → i ≡ i + ahead w n id xs low i
  unfolding run_length
  ends-here low i h =
      let none : ahead w n id xs low i ≡ 0 = ap (run_length w id low) (drop_of_length-le (records w n xs) {i = i} (omega (arith, length-records w n xs))) in
      omega arith

-- the records from `from` up to i are of the run, and the rest of it is what i has ahead
pub record Ran (w n id from i : ℕ) (xs : List ℕ) : Type 0 where
  pub begun : from < i
  pub within : i ≤ n
  pub same : i + ahead w n id xs (suc (get_or xs (i * w - w + 1) 0)) i ≡ from + ahead w n id xs 0 from

module _ (w n id from : ℕ) (xs : List ℕ) (wide : 4 ≤ w) where
  pub run_out : n ≤ from → from ≡ from + ahead w n id xs 0 from
  run_out = ends-here w n id xs wide 0 from

  pub run_none : from < n → is_here w n id xs 0 from ≡ false → from ≡ from + ahead w n id xs 0 from
  run_none = stops-here w n id xs wide 0 from

  pub run-begins : from < n → is_here w n id xs 0 from ≡ true → Ran w n id from (from + 1) xs
  run-begins h e = record { begun = omega arith; within = omega arith; same = goes_on w n id xs wide 0 from h e }

  module _ (i : ℕ) (ran : Ran w n id from i xs) where
    pub run-next : i < n → is_here w n id xs (suc (get_or xs (i * w - w + 1) 0)) i ≡ true → Ran w n id from (i + 1) xs
    run-next h e = record {
      begun = omega (arith, ran.begun);
      within = omega arith;
      same = goes_on w n id xs wide (suc (get_or xs (i * w - w + 1) 0)) i h e ∙ ran.same;
    }

    pub run-ended : i < n → is_here w n id xs (suc (get_or xs (i * w - w + 1) 0)) i ≡ false → i ≡ from + ahead w n id xs 0 from
    run-ended h e = stops-here w n id xs wide (suc (get_or xs (i * w - w + 1) 0)) i h e ∙ ran.same

    pub run-full : n ≤ i → i ≡ from + ahead w n id xs 0 from
    run-full h = ends-here w n id xs wide (suc (get_or xs (i * w - w + 1) 0)) i h ∙ ran.same

-- ---- the scan: the runs
-- the runs of the first i peers end at `from`, and what is left decides
pub record Scanned (w least bound n p from i : ℕ) (xs peers : List ℕ) : Type 0 where
  pub few : i ≤ p
  pub within : from ≤ n
  pub same : are_runs w least bound (records 12 p peers) (records w n xs) ≡ are_runs w least bound (drop i (records 12 p peers)) (drop from (records w n xs))

module _ (w least bound n p from i : ℕ) (xs peers : List ℕ) (scanned : Scanned w least bound n p from i xs peers) where
  pub runs-end : p ≤ i → eqb from n ≡ are_runs w least bound (records 12 p peers) (records w n xs)
  unfolding are_runs
  runs-end h = sym
      (scanned.same
      ∙ ap (λ (ps : List (List ℕ)). are_runs w least bound ps (drop from (records w n xs))) (drop_of_length-le (records 12 p peers) {i = i} (omega (arith, length-records 12 p peers)))
      ∙ ap (λ (m : ℕ). eqb m 0) (length-drop from (records w n xs) ∙ ap (λ (m : ℕ). m - from) (length-records w n xs))
      ∙ all-used)
    where
      all-used : eqb (n - from) 0 ≡ eqb from n
      all-used = same_truth (eqb (n - from) 0) (eqb from n)
          (λ e. eq-eqb from n (omega (arith, eqb-true (n - from) 0 e, scanned.within)))
          (λ e. eq-eqb (n - from) 0 (omega (arith, eqb-true from n e)))

  module _ (to : ℕ) (h : i < p) (e : to ≡ from + ahead w n (get_or peers (i * 12) 0) xs 0 from) where
    pub run_inside : (from ≤ to) × (to ≤ n)
    run_inside = (omega arith, omega (arith, run-within w (get_or peers (i * 12) 0) 0 (drop from (records w n xs)), length-drop from (records w n xs), length-records w n xs, scanned.within))

    -- this peer's run, and what is left after it
    by-run : are_runs w least bound (records 12 p peers) (records w n xs) ≡ (is_run least bound (get_or peers (i * 12 + 3) 0) (to - from) && are_runs w least bound (drop (i + 1) (records 12 p peers)) (drop to (records w n xs)))
    unfolding are_runs
    by-run =
        let ps : List (List ℕ) = records 12 p peers in
        let rs : List (List ℕ) = records w n xs in
        let id : first_word (get_or ps i []) ≡ get_or peers (i * 12) 0 = first-at 12 p peers i h (omega arith) in
        let count : run_length w (first_word (get_or ps i [])) 0 (drop from rs) ≡ to - from = ap (λ (a : ℕ). run_length w a 0 (drop from rs)) id ∙ omega arith in
        let there : from + (to - from) ≡ to = omega (arith, run_inside.0) in
        scanned.same
        ∙ ap (λ (l : List (List ℕ)). are_runs w least bound l (drop from rs)) (drop-cons ps i [] (omega (arith, length-records 12 p peers)))
        ∙ (λ k. is_run least bound (word-at 12 p peers i 3 h (omega arith) k) (count k) && are_runs w least bound (drop (sym (add-one i) k) ps) (drop (count k) (drop from rs)))
        ∙ ap (λ (l : List (List ℕ)). is_run least bound (get_or peers (i * 12 + 3) 0) (to - from) && are_runs w least bound (drop (i + 1) ps) l) (drop-drop (to - from) from rs ∙ ap (λ (m : ℕ). drop m rs) there)

    pub runs-fail : is_run least bound (get_or peers (i * 12 + 3) 0) (to - from) ≡ false → false ≡ are_runs w least bound (records 12 p peers) (records w n xs)
    runs-fail f = stop (is_run least bound (get_or peers (i * 12 + 3) 0) (to - from)) (are_runs w least bound (drop (i + 1) (records 12 p peers)) (drop to (records w n xs))) f ∙ sym by-run

    pub runs-go : is_run least bound (get_or peers (i * 12 + 3) 0) (to - from) ≡ true → Scanned w least bound n p to (i + 1) xs peers
    runs-go f = record {
      few = omega arith;
      within = run_inside.1;
      same = by-run ∙ ap (λ (b : Bool). b && are_runs w least bound (drop (i + 1) (records 12 p peers)) (drop to (records w n xs))) f;
    }
