-- Laws of tables whose records ascend: what they hold, the one record with a number, by `find`, and the table after records were replaced.
use mathlib.Core.Path.{◌≡◌, refl, sym, ap, ◌∙◌, subst}
use mathlib.Core.Bool.{Bool, true, false, ◌&&◌, or-false}
use mathlib.Core.List.{List, [], ◌∷◌, ◌++◌, map}
use Prim.Native.Nat.{ℕ, suc, ◌+◌, ◌*◌, ◌≤◌, ◌<◌}
use native.Mathlib.Nat.{zero-div, zero-mod, mul-le-mul_right}
use native.Mathlib.Omega.{arith}
use lib.Dec.{eqb, leb}
use lib.ListN.{length, take, drop, get_or, length-map, take-append-drop}
use lib.Seq.{length-take-le}
use Rattle.records.specs.declared.Found.TheVariants.{At, Gap, Unfit}
use Rattle.records.specs.Records.{records, flat, table, keyed, ascending, find, find_in, splice}
use Rattle.questions.proofs.Tests.{both, and_intro}
use Rattle.records.proofs.Words.RecordLaws.{fits-pos, fits_le, fits_intro, row, length-records, flat-records}
use Rattle.records.proofs.Order.OrderLaws.{Keyed, keyed-says, keyed-is, before-word}
use Rattle.records.proofs.Order.PlaceLaws.{at-says, find_at}
use Rattle.records.proofs.Tables.TableLaws.{Wide, wide-records, length-flat, records-table, length-table}
use Rattle.questions.specs.Lists.{any, those, replaced}
use Rattle.records.specs.Typed.{first_word, in_order, replaced_run, Replaceable, Tabled, exact}
use Rattle.questions.proofs.OnlyLaws.{length-replaced, any_same, any-those, replaced-words}
use Rattle.records.proofs.Words.RowLaws.{key-at, find-says, never-unfit}
use Rattle.records.proofs.Order.RangeLaws.{those-at, those-gap, replaced-at, replaced-gap, first-shape}
use Rattle.questions.proofs.ListLaws.{any-map}
use borrow.Author.Tests.{leb-true}
use Rattle.records.proofs.Tables.TypedLaws.{words-of-exact}

-- ---- records in order

pub record InOrder (w d n : ℕ) (xs : List ℕ) : Type 0 where
  pub keys : Keyed (length xs) w d n
  pub order : ascending d (records w n xs) ≡ true
  pub width : 0 < w
  pub words : n * w ≤ length xs
  pub wide : Wide w (records w n xs)

pub in-order-says : (w d n : ℕ) (xs : List ℕ) → in_order w d n xs ≡ true → InOrder w d n xs
unfolding in_order
in-order-says w d n xs e =
    let a = both (keyed (length xs) w d n) (ascending d (records w n xs)) e in
    let k = keyed-says (length xs) w d n a.0 in
    record {
      keys = k;
      order = a.1;
      width = fits-pos (length xs) w n k.fit;
      words = fits_le (length xs) w n k.fit;
      wide = wide-records w n xs (fits_le (length xs) w n k.fit);
    }

pub in-order-intro : (w d n : ℕ) (xs : List ℕ) → 1 ≤ d → d ≤ 2 → d ≤ w → n * w ≤ length xs → ascending d (records w n xs) ≡ true → in_order w d n xs ≡ true
unfolding in_order
in-order-intro w d n xs h k l f a =
    and_intro (keyed (length xs) w d n) (ascending d (records w n xs))
    (sym (keyed-is (length xs) w d n (λ e. omega arith) k l) ∙ fits_intro (length xs) w n (omega arith) f)
    a

-- ---- a table and its records

-- words with these records at the front that are as before past them
pub table_of : (w n : ℕ) (rs : List (List ℕ)) (xs ys : List ℕ) → n * w ≤ length ys → records w n ys ≡ rs → drop (n * w) ys ≡ drop (n * w) xs → ys ≡ table rs xs
unfolding table
table_of w n rs xs ys h e d =
    let f : flat rs ≡ take (n * w) ys = ap flat (sym e) ∙ flat-records w n ys in
    let l : length (flat rs) ≡ n * w = ap length f ∙ length-take-le (n * w) ys h in
    sym ((λ k. f k ++ drop (l k) xs) ∙ ap (λ (zs : List ℕ). take (n * w) ys ++ zs) (sym d) ∙ take-append-drop (n * w) ys)

pub table_same : (w n : ℕ) (xs : List ℕ) → n * w ≤ length xs → table (records w n xs) xs ≡ xs
table_same w n xs h = sym (table_of w n (records w n xs) xs xs h refl refl)

-- with the words of what its records stand for
pub tabled-same : {A : Type 0} (words : A → List ℕ) (w n : ℕ) (vs : List A) (xs : List ℕ) → n * w ≤ length xs → records w n xs ≡ map words vs → Tabled n (map words vs) xs xs
tabled-same words w n vs xs h e = record {
  count = sym (length-records w n xs) ∙ ap length e;
  words = sym (ap (λ (rs : List (List ℕ)). table rs xs) (sym e) ∙ table_same w n xs h);
}

-- the records of a table, and its length
module _ (w n : ℕ) (rs : List (List ℕ)) (xs ys : List ℕ) (wide : Wide w rs) (t : Tabled n rs xs ys) where
  pub tabled-records : records w n ys ≡ rs
  tabled-records = ap (records w n) t.words ∙ records-table w n rs xs wide (sym t.count)

  pub tabled-length : n * w ≤ length xs → length ys ≡ length xs
  tabled-length h = ap length t.words ∙ length-table rs xs (omega (arith, length-flat w rs wide, ap (λ (m : ℕ). m * w) t.count))

-- ---- the records of one number taken out

module _ (w d n a : ℕ) (xs : List ℕ) (h : 1 ≤ d) (o : InOrder w d n xs) where
  fewer : length (replaced first_word a [] (records w n xs)) ≤ n
  fewer =
      let z : length {A = List ℕ} [] ≡ 0 = refl in
      omega (arith, z, length-replaced first_word a [] (records w n xs), length-records w n xs)

  nothing-new : replaced_run w n a [] xs ≡ replaced first_word a [] (records w n xs)
  unfolding records
  nothing-new = ap (λ (k : ℕ). replaced first_word a (records w k []) (records w n xs)) (zero-div w)

  pub in-order-run : Replaceable w n a [] xs
  in-order-run = record {
    fit = o.keys.fit;
    depth = d;
    some_words = h;
    ascends = o.order;
    whole = zero-mod w;
    room =
        let l : length (replaced_run w n a [] xs) ≤ n = omega (arith, ap length nothing-new, fewer) in
        omega (arith, mul-le-mul_right w l, o.words);
  }

  pub run_out : (m : ℕ) (ys : List ℕ) → Tabled m (replaced_run w n a [] xs) xs ys → Tabled m (replaced first_word a [] (records w n xs)) xs ys
  run_out m ys = subst (λ (rs : List (List ℕ)). Tabled m rs xs ys) nothing-new

-- ---- the one record with a number, by `find`

module _ (w n a : ℕ) (xs : List ℕ) (o : InOrder w 1 n xs) where
  found-is : find_in w 1 n a 0 xs ≡ find 1 (a ∷ []) (records w n xs)
  found-is = sym (find-says w 1 n a 0 xs o.keys.some_words o.keys.two_words o.keys.in_record o.words (find_in w 1 n a 0 xs) refl)

  pub found_inside : (i : ℕ) → At i ≡ find_in w 1 n a 0 xs → (i < n) × (i * w + w ≤ length xs)
  found_inside i e =
      let h : i < n = omega (arith, (at-says 1 (a ∷ []) (records w n xs) i (sym (e ∙ found-is))).0, length-records w n xs) in
      (h, omega (arith, row w n i h, o.words))

  -- its first word is the number, and it alone has that word
  pub found_word : (i : ℕ) → At i ≡ find_in w 1 n a 0 xs → get_or xs (i * w) 0 ≡ a
  found_word i e = ap (λ (k : List ℕ). get_or k 0 0) (sym (key-at w n xs i (found_inside i e).0 o.width o.words) ∙ (at-says 1 (a ∷ []) (records w n xs) i (sym (e ∙ found-is))).1)

  pub found_here : (i : ℕ) → i < n → get_or xs (i * w) 0 ≡ a → At i ≡ find_in w 1 n a 0 xs
  found_here i h e = sym
      (found-is
      ∙ find_at 1 (a ∷ []) (records w n xs) i o.order (omega (arith, length-records w n xs)) (key-at w n xs i h o.width o.words ∙ ap (λ (b : ℕ). b ∷ []) e))

  pub found-one : (i : ℕ) → At i ≡ find_in w 1 n a 0 xs → those first_word a (records w n xs) ≡ get_or (records w n xs) i [] ∷ []
  found-one i e = those-at 1 first_word (λ x. x ∷ []) (records w n xs) o.order (first-shape w (records w n xs) o.width o.wide) before-word a i (sym (e ∙ found-is))

  pub found_none : (i : ℕ) → Gap i ≡ find_in w 1 n a 0 xs → those first_word a (records w n xs) ≡ []
  found_none i e = those-gap 1 first_word (λ x. x ∷ []) (records w n xs) o.order (first-shape w (records w n xs) o.width o.wide) before-word a i (sym (e ∙ found-is))

  -- the record replaced, and the gap left
  pub found-at-splice : (i : ℕ) → At i ≡ find_in w 1 n a 0 xs → (new : List (List ℕ)) → replaced first_word a new (records w n xs) ≡ splice i (suc i) new (records w n xs)
  found-at-splice i e new = replaced-at 1 first_word (λ x. x ∷ []) (records w n xs) o.order (first-shape w (records w n xs) o.width o.wide) before-word a i (sym (e ∙ found-is)) new

  pub found-gap-splice : (i : ℕ) → Gap i ≡ find_in w 1 n a 0 xs → replaced first_word a [] (records w n xs) ≡ records w n xs
  unfolding splice
  found-gap-splice i e =
      replaced-gap 1 first_word (λ x. x ∷ []) (records w n xs) o.order (first-shape w (records w n xs) o.width o.wide) before-word a i (sym (e ∙ found-is)) []
      ∙ take-append-drop i (records w n xs)

  pub found-fit : {P : Type 0} → Unfit ≡ find_in w 1 n a 0 xs → P
  found-fit e = absurd (never-unfit w 1 n a 0 xs o.keys.some_words o.keys.two_words o.keys.in_record o.words Unfit e refl)

  -- a test of it
  module _ {A : Type 0} (of : List ℕ → A) (number : A → ℕ) (same : (r : List ℕ) → number (of r) ≡ first_word r) (p : A → Bool) where
    by-record : any (λ x. eqb (number x) a && p x) (map of (records w n xs)) ≡ any (λ r. p (of r)) (those first_word a (records w n xs))
    by-record =
        any-map of (λ x. eqb (number x) a && p x) (records w n xs)
        ∙ any_same (λ r. eqb (number (of r)) a && p (of r)) (λ r. eqb (first_word r) a && p (of r)) (λ r. ap (λ (m : ℕ). eqb m a && p (of r)) (same r)) (records w n xs)
        ∙ any-those first_word a (λ r. p (of r)) (records w n xs)

    pub any_at : (i : ℕ) → At i ≡ find_in w 1 n a 0 xs → any (λ x. eqb (number x) a && p x) (map of (records w n xs)) ≡ p (of (get_or (records w n xs) i []))
    unfolding any
    any_at i e = by-record ∙ ap (any (λ r. p (of r))) (found-one i e) ∙ or-false (p (of (get_or (records w n xs) i [])))

    pub any-gap : (i : ℕ) → Gap i ≡ find_in w 1 n a 0 xs → any (λ x. eqb (number x) a && p x) (map of (records w n xs)) ≡ false
    unfolding any
    any-gap i e = by-record ∙ ap (any (λ r. p (of r))) (found_none i e)

-- ---- a table of a valid state: exact, in order, within its size

pub record Sound {A : Type 0} (words : A → List ℕ) (of : List ℕ → A) (w d size n : ℕ) (xs : List ℕ) : Type 0 where
  pub within : n * w ≤ size
  pub room : size ≤ length xs
  pub exactly : exact words of (records w n xs) ≡ true
  pub order : in_order w d n xs ≡ true

pub sound : {A : Type 0} (words : A → List ℕ) (of : List ℕ → A) (w d most size n : ℕ) (xs : List ℕ) → 1 ≤ d → d ≤ 2 → d ≤ w → most * w ≤ size → size ≤ length xs → exact words of (records w n xs) ≡ true → leb (length (map of (records w n xs))) most ≡ true → ascending d (map words (map of (records w n xs))) ≡ true → Sound words of w d size n xs
sound words of w d most size n xs hd hd₂ hw hs hx e l a =
    let k : n ≤ most = omega (arith, leb-true (length (map of (records w n xs))) most l, length-map (records w n xs) of, length-records w n xs) in
    let b : n * w ≤ size = omega (arith, mul-le-mul_right w k) in
    record {
      within = b;
      room = hx;
      exactly = e;
      order = in-order-intro w d n xs hd hd₂ hw (omega arith) (sym (ap (ascending d) (words-of-exact words of (records w n xs) e)) ∙ a);
    }

module _ {A : Type 0} (words : A → List ℕ) (of : List ℕ → A) (w d size n : ℕ) (xs : List ℕ) (o : Sound words of w d size n xs) where
  back : map words (map of (records w n xs)) ≡ records w n xs
  back = words-of-exact words of (records w n xs) o.exactly

  -- as it was
  pub tabled-still : Tabled n (map words (map of (records w n xs))) xs xs
  tabled-still = tabled-same words w n (map of (records w n xs)) xs (omega (arith, o.within, o.room)) (sym back)

  -- other records for those of a number
  pub tabled-replaced : (number : A → ℕ) → ((x : A) → first_word (words x) ≡ number x) → (a m : ℕ) (new : List A) (ys : List ℕ) → Tabled m (replaced first_word a (map words new) (records w n xs)) xs ys → Tabled m (map words (replaced number a new (map of (records w n xs)))) xs ys
  tabled-replaced number f a m new ys =
      subst (λ (rs : List (List ℕ)). Tabled m rs xs ys)
      (sym (replaced-words number words first_word f a new (map of (records w n xs)) ∙ ap (replaced first_word a (map words new)) back))
