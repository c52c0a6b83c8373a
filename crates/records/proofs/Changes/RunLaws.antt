-- Laws: records that share a first word, replaced, loaded and put by the functions on words.
use mathlib.Core.Path.{◌≡◌, refl, sym, ap, ◌∙◌, subst}
use mathlib.Core.Bool.{Bool, true, cond}
use mathlib.Core.List.{List, [], ◌∷◌, append-nil}
use Prim.Native.Nat.{ℕ, zero, suc, ◌+◌, ◌-◌, ◌*◌, ◌/◌, ◌%◌, ◌≤◌, ◌<◌}
use native.Mathlib.Nat.{div-add-mod', add-mul, zero-mul, suc-mul, mul-le-mul_right, mul-div_left, mul-mod_left}
use native.Mathlib.Omega.{arith}
use borrow.Author.Tests.{ltb-true, ltb-false, lt-ltb, le-ltb, le-leb, eqb-true, eq-eqb}
use lib.Dec.{ltb, leb, eqb}
use lib.ListN.{length, take, drop, get_or, length-drop}
use lib.Seq.{slice, length-slice, take-nil, drop-nil, take-take, length-take-le}
use Rattle.records.specs.declared.Found.TheVariants.{At, Gap, Unfit}
use Rattle.std.specs.Prelude.{Some, None}
use Rattle.std.specs.declared.ops.Range.{Range}
use Rattle.records.specs.Records.{records, table, fits, keyed, lower_bound, find, find_in, range_of, range_in, splice, insert_at, overwrite_at, spliceable, spliced, insertable, inserted, overwritable, overwritten, removable}
use Rattle.questions.proofs.Tests.{split, and_intro}
use Rattle.records.proofs.Words.RecordLaws.{fits-pos, fits_le, fits_intro, sub-mul, length-records, take-records, drop-records}
use Rattle.records.proofs.Changes.SpliceLaws.{splice-intro}
use Rattle.records.proofs.Order.OrderLaws.{keyed-is, key_at}
use Rattle.records.proofs.Order.SearchLaws.{find-fit}
use Rattle.records.proofs.Order.PlaceLaws.{find_cases, at-says, gap-place}
use Rattle.records.proofs.Changes.EditLaws.{length-splice, length-insert, length-overwrite}
use Rattle.records.proofs.Tables.TableLaws.{Wide, wide-records, records-spliced, records-inserted, records-overwritten}
use Rattle.questions.specs.Lists.{all, any, those, replaced}
use Rattle.records.specs.Typed.{word, replaced_run, Replaceable, Tabled, Front, Run, first_word, second_word}
use Rattle.questions.proofs.ListLaws.{all-index}
use Rattle.records.proofs.Words.RowLaws.{word-at}
use Rattle.records.proofs.Order.RangeLaws.{those-range, replaced-splice, range-ordered, first-cut, replaced-at, replaced-gap, last-below, replaced-end, second-shape, second-order}
use Rattle.questions.proofs.OnlyLaws.{any-number}

-- what holds of the words holds of the same words
pub front-as : {w n : ℕ} {rs : List (List ℕ)} {ys zs : List ℕ} → ys ≡ zs → Front w n rs zs → Front w n rs ys
front-as {w} {n} {rs} e f = subst (Front w n rs) (sym e) f

pub tabled-as : {n : ℕ} {rs : List (List ℕ)} {xs ys zs : List ℕ} → ys ≡ zs → Tabled n rs xs zs → Tabled n rs xs ys
tabled-as {n} {rs} {xs} e f = subst (Tabled n rs xs) (sym e) f

-- ---- what a search answered
pub range-bounds :
    (w n a : ℕ) (span : Range ℕ) (xs : List ℕ)
    → fits (length xs) w n ≡ true
    → range_in w n a xs ≡ Some span
    → (span.start ≡ lower_bound 1 (a ∷ []) (records w n xs)) × (span.end ≡ lower_bound 1 ((a + 1) ∷ []) (records w n xs))
unfolding range_in range_of
range-bounds w n a span xs f e =
    let q : Some (range_of a (records w n xs)) ≡ Some span = sym (ap (λ (b : Bool). cond b (Some (range_of a (records w n xs))) None) f) ∙ e in
    let r : range_of a (records w n xs) ≡ span = cc in
    (sym (ap (λ (s : Range ℕ). s.start) r), sym (ap (λ (s : Range ℕ). s.end) r))

pub range-fits : {P : Type 0} (w n a : ℕ) (xs : List ℕ) → fits (length xs) w n ≡ true → range_in w n a xs ≡ None → P
unfolding range_in range_of
range-fits w n a xs f e =
    let q : Some (range_of a (records w n xs)) ≡ None = sym (ap (λ (b : Bool). cond b (Some (range_of a (records w n xs))) None) f) ∙ e in
    let z : ◌≡◌ {A = ℕ} 0 1 = cc in
    absurd (omega arith)

-- ---- replaced
module _ (w n a : ℕ) (span : Range ℕ) (new xs : List ℕ) (p : Replaceable w n a new xs) (e : range_in w n a xs ≡ Some span) where
  width : 0 < w
  width = fits-pos (length xs) w n p.fit

  wide : Wide w (records w n xs)
  wide = wide-records w n xs (fits_le (length xs) w n p.fit)

  low : span.start ≡ lower_bound 1 (a ∷ []) (records w n xs)
  low = (range-bounds w n a span xs p.fit e).0

  high : span.end ≡ lower_bound 1 ((a + 1) ∷ []) (records w n xs)
  high = (range-bounds w n a span xs p.fit e).1

  pub run-ordered : span.start ≤ span.end
  run-ordered = omega (arith, low, high, range-ordered p.depth w a (records w n xs) p.some_words width wide p.ascends)

  pub run-within : span.end ≤ n
  run-within = omega (arith, high, length-records w n xs, (first-cut p.depth w (a + 1) (records w n xs) p.some_words width wide p.ascends).within)

  pub run-words : (span.start * w ≤ span.end * w) × (span.end * w ≤ length xs)
  run-words = (mul-le-mul_right w run-ordered, omega (arith, mul-le-mul_right w run-within, fits_le (length xs) w n p.fit))

  pub run-replaced : replaced_run w n a new xs ≡ splice span.start span.end (records w (length new / w) new) (records w n xs)
  run-replaced =
      replaced-splice p.depth w a (records w n xs) p.some_words width wide p.ascends (records w (length new / w) new)
      ∙ sym (λ k. splice (low k) (high k) (records w (length new / w) new) (records w n xs))

  pub run-those : those (word 0) a (records w n xs) ≡ slice span.start span.end (records w n xs)
  run-those =
      those-range p.depth w a (records w n xs) p.some_words width wide p.ascends
      ∙ sym (λ k. slice (low k) (high k) (records w n xs))

  pub run-any : ltb span.start span.end ≡ any (λ (r : List ℕ). eqb (word 0 r) a) (records w n xs)
  run-any =
      let l : length (those (word 0) a (records w n xs)) ≡ span.end - span.start = ap length run-those ∙ length-slice span.start span.end (records w n xs) (omega (arith, run-within, length-records w n xs)) in
      by-gap (length (those (word 0) a (records w n xs))) (sym l) ∙ sym (any-number (word 0) a (records w n xs))
    where
      by-gap : (m : ℕ) → span.end - span.start ≡ m → ltb span.start span.end ≡ ltb 0 m
      by-gap m e = split (ltb span.start span.end)
          (λ f. f ∙ sym (lt-ltb 0 m (omega (arith, ltb-true span.start span.end f))))
          (λ f. f ∙ sym (le-ltb 0 m (omega (arith, ltb-false span.start span.end f))))

  pub run-count : n - (span.end - span.start) + length new / w ≡ length (replaced_run w n a new xs)
  run-count =
      sym
      (ap length run-replaced
      ∙ length-splice span.start span.end (records w (length new / w) new) (records w n xs) (omega (arith, run-ordered, run-within, length-records w n xs))
      ∙ omega (arith, run-ordered, run-within, length-records w n xs, length-records w (length new / w) new))

  can : spliceable (length xs) w n span.start span.end (length new) ≡ true
  can =
      let whole : length new / w * w ≡ length new = omega (arith, div-add-mod' (length new) w, p.whole) in
      let r : (n - (span.end - span.start)) * w + length new ≡ length (replaced_run w n a new xs) * w =
      ap (λ (m : ℕ). (n - (span.end - span.start)) * w + m) (sym whole) ∙ sym (add-mul (n - (span.end - span.start)) (length new / w) w) ∙ ap (λ (m : ℕ). m * w) run-count in
      splice-intro (length xs) w n span.start span.end (length new) (record {
        width = width;
        within = fits_le (length xs) w n p.fit;
        order = run-ordered;
        last = run-within;
        whole = p.whole;
        room = omega (arith, r, p.room);
      })

  pub run-tabled : Tabled (n - (span.end - span.start) + length new / w) (replaced_run w n a new xs) xs (spliced w n span.start span.end new xs)
  unfolding spliced
  run-tabled = record {
    count = run-count;
    words =
        ap (λ (b : Bool). cond b (table (splice span.start span.end (records w (length new / w) new) (records w n xs)) xs) xs) can
        ∙ ap (λ (l : List (List ℕ)). table l xs) (sym run-replaced);
  }

-- ---- loaded
pub records-take : (w k : ℕ) (ys : List ℕ) → records w k (take (k * w) ys) ≡ records w k ys
unfolding records
records-take w zero ys = refl
records-take w (suc k) ys =
    let e : suc k * w ≡ w + k * w = omega (arith, suc-mul k w) in
    ap (λ (m : ℕ). take w (take m ys) ∷ records w k (drop w (take m ys))) e
    ∙ (λ i. take-take w (w + k * w) ys (omega arith) i ∷ records w k (drop-take-add i))
    ∙ ap (λ (l : List (List ℕ)). take w ys ∷ l) (records-take w k (drop w ys))
  where
    drop-take-add : drop w (take (w + k * w) ys) ≡ take (k * w) (drop w ys)
    drop-take-add = dt w (k * w) ys
      where
        dt : (a b : ℕ) (l : List ℕ) → drop a (take (a + b) l) ≡ take b (drop a l)
        dt zero b l =
            let q : 0 + b ≡ b = omega arith in
            ap (λ (m : ℕ). take m l) q
        dt (suc a) b [] = ap (drop (suc a)) (take-nil (suc a + b)) ∙ drop-nil (suc a) ∙ sym (ap (take b) (drop-nil (suc a)) ∙ take-nil b)
        dt (suc a) b (x ∷ l) =
            let q : suc a + b ≡ suc (a + b) = omega arith in
            ap (λ (m : ℕ). drop (suc a) (take m (x ∷ l))) q ∙ dt a b l

pub slice-records : (w n lo hi : ℕ) (xs : List ℕ) → lo ≤ hi → hi ≤ n → slice lo hi (records w n xs) ≡ records w (hi - lo) (drop (lo * w) xs)
slice-records w n lo hi xs h l = ap (drop lo) (take-records w n hi xs l) ∙ drop-records w hi lo xs h

-- the part of a table with the records from lo up to hi
pub records-part : (w n lo hi : ℕ) (xs : List ℕ) → lo ≤ hi → hi ≤ n → records w (hi - lo) (take (hi * w - lo * w) (drop (lo * w) xs)) ≡ slice lo hi (records w n xs)
records-part w n lo hi xs h l =
    let k : hi * w - lo * w ≡ (hi - lo) * w = omega (arith, sub-mul w hi lo h) in
    ap (λ (m : ℕ). records w (hi - lo) (take m (drop (lo * w) xs))) k
    ∙ records-take w (hi - lo) (drop (lo * w) xs)
    ∙ sym (slice-records w n lo hi xs h l)

module _ (w n a : ℕ) (span : Range ℕ) (xs run : List ℕ) (p : Replaceable w n a [] xs) (e : range_in w n a xs ≡ Some span) where
  abbrev part : List ℕ
  part = take (span.end * w - span.start * w) (drop (span.start * w) xs)

  part_length : length part ≡ (span.end - span.start) * w
  part_length =
      let l = sub-mul w span.end span.start (run-ordered w n a span [] xs p e) in
      length-take-le (span.end * w - span.start * w) (drop (span.start * w) xs) (omega (arith, run-words w n a span [] xs p e, length-drop (span.start * w) xs)) ∙ omega (arith, l)

  load-width : 0 < w
  load-width = fits-pos (length xs) w n p.fit

  part_count : length part / w ≡ span.end - span.start
  part_count = ap (λ (m : ℕ). m / w) part_length ∙ mul-div_left (span.end - span.start) load-width

  part-records : records w (span.end - span.start) part ≡ those (word 0) a (records w n xs)
  part-records = records-part w n span.start span.end xs (run-ordered w n a span [] xs p e) (run-within w n a span [] xs p e) ∙ sym (run-those w n a span [] xs p e)

  load-count : span.end - span.start ≡ length (those (word 0) a (records w n xs))
  load-count = sym (length-records w (span.end - span.start) part) ∙ ap length part-records

  pub loaded : length (those (word 0) a (records w n xs)) * w ≤ length run → Front w (span.end - span.start) (those (word 0) a (records w n xs)) (spliced w 0 0 0 part run)
  unfolding splice records
  loaded room =
      let s : spliceable (length run) w 0 0 0 (length part) ≡ true = splice-intro (length run) w 0 0 0 (length part) (record {
        width = load-width;
        within = omega (arith, zero-mul w);
        order = omega arith;
        last = omega arith;
        whole = ap (λ (m : ℕ). m % w) part_length ∙ mul-mod_left (span.end - span.start) w;
        room = omega (arith, zero-mul w, part_length, ap (λ (m : ℕ). m * w) load-count);
      }) in
      let k : 0 - (0 - 0) + length part / w ≡ span.end - span.start = omega (arith, part_count) in
      record {
        count = load-count;
        front =
            ap (λ (m : ℕ). records w m (spliced w 0 0 0 part run)) (sym k)
            ∙ records-spliced w 0 0 0 part run s
            ∙ append-nil (records w (length part / w) part)
            ∙ ap (λ (m : ℕ). records w m part) part_count
            ∙ part-records;
      }

-- ---- put
never-at : (i : ℕ) → Unfit ≡ At i → ⊥
never-at i e = let z : ◌≡◌ {A = ℕ} 0 1 = cc in omega arith

never-gap : (i : ℕ) → Unfit ≡ Gap i → ⊥
never-gap i e = let z : ◌≡◌ {A = ℕ} 0 1 = cc in omega arith

module _ (w id n : ℕ) (xs : List ℕ) (u : Run w id n xs) (two : 2 ≤ w) where
  pub run-wide : Wide w (records w n xs)
  run-wide = wide-records w n xs u.fit

  pub run-shape : (i : ℕ) → i < length (records w n xs) → key_at 2 (records w n xs) i ≡ id ∷ second_word (get_or (records w n xs) i []) ∷ []
  run-shape = second-shape w id (records w n xs) two run-wide
      (λ i h. eqb-true (first_word (get_or (records w n xs) i [])) id (all-index (λ (r : List ℕ). eqb (word 0 r) id) [] (records w n xs) u.shared i h))

  pub run-keyed : keyed (length xs) w 2 n ≡ true
  run-keyed = sym (keyed-is (length xs) w 2 n (λ z. omega arith) (omega arith) two) ∙ fits_intro (length xs) w n (omega arith) u.fit

  module _ (k : ℕ) where
    pub find-in : find_in w 2 n id k xs ≡ find 2 (id ∷ k ∷ []) (records w n xs)
    find-in = find-fit w 2 n id k xs run-keyed

    pub found-unfit : {P : Type 0} → find_in w 2 n id k xs ≡ Unfit → P
    found-unfit e = find_cases 2 (id ∷ k ∷ []) (records w n xs)
        (λ i f. absurd (never-at i (sym e ∙ find-in ∙ f)))
        (λ i f. absurd (never-gap i (sym e ∙ find-in ∙ f)))

    pub put-at : (i : ℕ) → find_in w 2 n id k xs ≡ At i → (i < n) × ((new : List (List ℕ)) → replaced (word 1) k new (records w n xs) ≡ splice i (suc i) new (records w n xs))
    put-at i e =
        let f : find 2 (id ∷ k ∷ []) (records w n xs) ≡ At i = sym find-in ∙ e in (
          omega (arith, (at-says 2 (id ∷ k ∷ []) (records w n xs) i f).0, length-records w n xs),
          replaced-at 2 second_word (λ (x : ℕ). id ∷ x ∷ []) (records w n xs) u.ascends run-shape (second-order id) k i f,
        )

    pub put-gap : (i : ℕ) → find_in w 2 n id k xs ≡ Gap i → (i ≤ n) × ((new : List (List ℕ)) → replaced (word 1) k new (records w n xs) ≡ splice i i new (records w n xs))
    put-gap i e =
        let f : find 2 (id ∷ k ∷ []) (records w n xs) ≡ Gap i = sym find-in ∙ e in (
          omega (arith, (gap-place 2 (id ∷ k ∷ []) (records w n xs) i u.ascends f).within, length-records w n xs),
          replaced-gap 2 second_word (λ (x : ℕ). id ∷ x ∷ []) (records w n xs) u.ascends run-shape (second-order id) k i f,
        )

    pub put-over : (i : ℕ) (r : List ℕ) → length r ≡ w → find_in w 2 n id k xs ≡ At i → Front w n (replaced (word 1) k (r ∷ []) (records w n xs)) (overwritten w n i r xs)
    unfolding overwritable removable overwrite_at
    put-over i r lr e =
        let h = put-at i e in
        let o : overwritable (length xs) w n i (length r) ≡ true = and_intro (eqb (length r) w) _ (eq-eqb (length r) w lr) (and_intro (ltb i n) _ (lt-ltb i n h.0) (fits_intro (length xs) w n (omega arith) u.fit)) in
        record {
          count = sym (ap length (h.1 (r ∷ [])) ∙ length-overwrite i r (records w n xs) (omega (arith, h.0, length-records w n xs)) ∙ length-records w n xs);
          front = records-overwritten w n i r xs o ∙ sym (h.1 (r ∷ []));
        }

    -- all keys are below k where there are none, and where the last is
    pub above-none : n ≡ 0 → true ≡ all (λ (r : List ℕ). ltb (word 1 r) k) (records w n xs)
    unfolding records all
    above-none e = sym (ap (λ (m : ℕ). all (λ (r : List ℕ). ltb (word 1 r) k) (records w m xs)) e)

    pub above-last : (n ≡ 0 → ⊥) → ltb (get_or xs ((n - 1) * w + 1) 0) k ≡ all (λ (r : List ℕ). ltb (word 1 r) k) (records w n xs)
    above-last h =
        ap (λ (m : ℕ). ltb m k) (sym (word-at w n xs (n - 1) 1 (omega arith) two))
        ∙ last-below 2 second_word (λ (x : ℕ). id ∷ x ∷ []) (records w n xs) u.ascends run-shape (second-order id) k (n - 1) (omega (arith, length-records w n xs))

    -- a record put in before record i, where its gap is
    put-before : (i : ℕ) (r : List ℕ) → length r ≡ w → (n + 1) * w ≤ length xs → i ≤ n → replaced (word 1) k (r ∷ []) (records w n xs) ≡ splice i i (r ∷ []) (records w n xs) → Front w (n + 1) (replaced (word 1) k (r ∷ []) (records w n xs)) (inserted w n i r xs)
    unfolding insertable insert_at
    put-before i r lr room h e =
        let o : insertable (length xs) w n i (length r) ≡ true = and_intro (eqb (length r) w) _ (eq-eqb (length r) w lr) (and_intro (leb i n) _ (le-leb i n h) (fits_intro (length xs) w (n + 1) (omega arith) room)) in
        record {
          count = sym (ap length e ∙ length-insert i r (records w n xs) (omega (arith, length-records w n xs)) ∙ ap (λ (m : ℕ). m + 1) (length-records w n xs));
          front = records-inserted w n i r xs o ∙ sym e;
        }

    pub put_in : (i : ℕ) (r : List ℕ) → length r ≡ w → (n + 1) * w ≤ length xs → find_in w 2 n id k xs ≡ Gap i → Front w (n + 1) (replaced (word 1) k (r ∷ []) (records w n xs)) (inserted w n i r xs)
    put_in i r lr room e =
        let h = put-gap i e in
        put-before i r lr room h.0 (h.1 (r ∷ []))

    pub put_last : (r : List ℕ) → length r ≡ w → (n + 1) * w ≤ length xs → all (λ (x : List ℕ). ltb (word 1 x) k) (records w n xs) ≡ true → Front w (n + 1) (replaced (word 1) k (r ∷ []) (records w n xs)) (inserted w n n r xs)
    put_last r lr room e =
        put-before n r lr room (omega arith)
        (replaced-end second_word k (records w n xs) e (r ∷ []) ∙ ap (λ (m : ℕ). splice m m (r ∷ []) (records w n xs)) (length-records w n xs))
