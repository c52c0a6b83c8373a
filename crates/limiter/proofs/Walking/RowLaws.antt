-- Laws: the records of a table changed in place, one after the other.
use mathlib.Core.Path.{◌≡◌, refl, sym, ap, ◌∙◌}
use mathlib.Core.Bool.{Bool, true, cond}
use mathlib.Core.List.{List, [], ◌∷◌, ◌++◌, map}
use Prim.Native.Nat.{ℕ, zero, suc, ◌+◌, ◌-◌, ◌*◌, ◌≤◌, ◌<◌}
use native.Mathlib.Nat.{le_of_suc-le-suc, not-suc-le-zero, mul-le-mul_right}
use native.Mathlib.Numerals.{add-one}
use native.Mathlib.Omega.{arith}
use borrow.Rule.Slice.PartMut.{mid_of, put_mid}
use borrow.Author.Tests.{le-leb, eq-eqb}
use lib.Dec.{leb, eqb}
use lib.ListN.{length, take, drop, get_or, length-append}
use lib.Seq.{take_all, take-suc, drop-drop, drop-cons, drop-length, length-take-le}
use Rattle.records.specs.Words.{paste}
use Rattle.records.specs.Records.{records, flat, table, splice, insert_at, insertable, inserted}
use Rattle.questions.proofs.Tests.{and_intro}
use Rattle.records.proofs.Words.RecordLaws.{row, record-at, length-records, fits_intro, flat_append}
use Rattle.records.proofs.Tables.TableLaws.{Wide, wide-take, length-flat, length-table, records-table}
use Rattle.records.proofs.Changes.KeepLaws.{drop_past, paste_more}

-- ---- read one after the other

-- the records from i on, through a map
pub rows-from : {B : Type 0} (w : ℕ) (f : List ℕ → B) (n : ℕ) (xs : List ℕ) (i : ℕ) → i < n → (v : B) → v ≡ f (get_or (records w n xs) i []) → map f (drop i (records w n xs)) ≡ v ∷ map f (drop (i + 1) (records w n xs))
rows-from w f n xs i h v e =
    let rs : List (List ℕ) = records w n xs in
    ap (map f) (drop-cons rs i [] (omega (arith, length-records w n xs)))
    ∙ (λ m. sym e m ∷ map f (drop (sym (add-one i) m) rs))

pub rows-done : {B : Type 0} (w : ℕ) (f : List ℕ → B) (n : ℕ) (xs : List ℕ) (i : ℕ) → i ≤ n → n ≤ i → map f (drop i (records w n xs)) ≡ []
rows-done w f n xs i l h =
    let rs : List (List ℕ) = records w n xs in
    let z : i ≡ length rs = omega (arith, length-records w n xs) in
    ap (λ (m : ℕ). map f (drop m rs)) z ∙ ap (map f) (drop-length rs)

-- ---- changed one after the other

-- an element through a map
pub get_d-mapped : {A B : Type 0} (f : A → B) (d : A) (e : B) (xs : List A) (i : ℕ) → i < length xs → get_or (map f xs) i e ≡ f (get_or xs i d)
get_d-mapped f d e [] i h = absurd (not-suc-le-zero h)
get_d-mapped f d e (x ∷ xs) zero h = refl
get_d-mapped f d e (x ∷ xs) (suc i) h = get_d-mapped f d e xs i (le_of_suc-le-suc h)

-- each record is w words long
pub wide_at : (w : ℕ) (rs : List (List ℕ)) → Wide w rs → (i : ℕ) → i < length rs → length (get_or rs i []) ≡ w
wide_at w [] p i h = absurd (not-suc-le-zero h)
wide_at w (r ∷ rs) p zero h = p.0
wide_at w (r ∷ rs) p (suc i) h = wide_at w rs p.1 i (le_of_suc-le-suc h)

-- the first i of n records in t₀ became those of gs, in place, which left t
pub record Mapping (w n : ℕ) (gs : List (List ℕ)) (t₀ t : List ℕ) (i : ℕ) : Type 0 where
  pub wide : Wide w gs
  pub many : length gs ≡ n
  pub words : n * w ≤ length t₀
  pub within : i ≤ n
  pub front : t ≡ table (take i gs) t₀

pub map-none : (w n : ℕ) (gs : List (List ℕ)) (t : List ℕ) → Wide w gs → length gs ≡ n → n * w ≤ length t → Mapping w n gs t t 0
unfolding table flat
map-none w n gs t g m h = record { wide = g; many = m; words = h; within = omega arith; front = refl }

module _ (w n : ℕ) (gs : List (List ℕ)) (t₀ t : List ℕ) (i : ℕ) (k : Mapping w n gs t₀ t i) where
  abbrev done : List (List ℕ)
  done = take i gs

  wide-done : Wide w done
  wide-done = wide-take w i gs k.wide

  count-done : length done ≡ i
  count-done = length-take-le i gs (omega (arith, k.within, k.many))

  flat-done : length (flat done) ≡ i * w
  flat-done = length-flat w done wide-done ∙ ap (λ (m : ℕ). m * w) count-done

  pub map-long : length t ≡ length t₀
  map-long = ap length k.front ∙ length-table done t₀ (omega (arith, flat-done, mul-le-mul_right w k.within, k.words))

  pub map-all : n ≤ i → t ≡ table gs t₀
  map-all h = k.front ∙ ap (λ (rs : List (List ℕ)). table rs t₀) (take_all i gs (omega (arith, k.many)))

  module _ (h : i < n) where
    -- record i stands within the words
    pub map-inside : i * w + w ≤ length t
    map-inside = omega (arith, row w n i h, k.words, map-long)

    -- and is as it was, where it is lent
    pub map-here : mid_of (i * w) (i * w + w - i * w) t ≡ get_or (records w n t₀) i []
    map-here =
        let z : i * w + w - i * w ≡ w = omega arith in
        (λ m. take (z m) (drop (i * w) (k.front m)))
        ∙ ap (take w) (drop_past done t₀ (i * w) (omega (arith, flat-done)))
        ∙ sym (record-at w n t₀ i h)

    -- what comes back for it is one more
    pub map_next : (t' r : List ℕ) → t' ≡ put_mid (i * w) (i * w + w - i * w) t r → r ≡ get_or gs i [] → Mapping w n gs t₀ t' (i + 1)
    unfolding paste
    map_next t' r e q =
        let next : List ℕ = get_or gs i [] in
        let z : i * w + w - i * w ≡ length next = omega (arith, wide_at w gs k.wide i (omega (arith, k.many))) in
        let c : t' ≡ paste (i * w) next t =
        e
        ∙ (λ m. take (i * w) t ++ (q m ++ drop (z m) (drop (i * w) t)))
        ∙ ap (λ (zs : List ℕ). take (i * w) t ++ (next ++ zs)) (drop-drop (length next) (i * w) t) in
        let more : done ++ (next ∷ []) ≡ take (i + 1) gs =
        sym (take-suc gs i [] (omega (arith, k.many))) ∙ ap (λ (m : ℕ). take m gs) (sym (add-one i)) in
        record {
          wide = k.wide;
          many = k.many;
          words = k.words;
          within = omega arith;
          front =
              c
              ∙ (λ m. paste (sym count-done m * w) next (k.front m))
              ∙ paste_more w done next t₀ wide-done
              ∙ ap (λ (rs : List (List ℕ)). table rs t₀) more;
        }

    -- and so is a record put in after those that are done
    pub map-put : (t' r : List ℕ) → 0 < w → t' ≡ inserted w i i r t → r ≡ get_or gs i [] → Mapping w n gs t₀ t' (i + 1)
    unfolding inserted insertable insert_at splice table
    map-put t' r pos e q =
        let next : List ℕ = get_or gs i [] in
        let more : List (List ℕ) = done ++ (next ∷ []) in
        let z : length next ≡ w = wide_at w gs k.wide i (omega (arith, k.many)) in
        let ok : insertable (length t) w i i (length next) ≡ true =
        and_intro (eqb (length next) w) _ (eq-eqb (length next) w z)
        (and_intro (leb i i) _ (le-leb i i (omega arith)) (fits_intro (length t) w (i + 1) pos (omega (arith, map-inside)))) in
        let kept : records w i t ≡ done = ap (records w i) k.front ∙ records-table w i done t₀ wide-done count-done in
        let c : t' ≡ table more t =
        e
        ∙ ap (λ (x : List ℕ). inserted w i i x t) q
        ∙ ap (λ (b : Bool). cond b (table (insert_at i next (records w i t)) t) t) ok
        ∙ ap (λ (rs : List (List ℕ)). table (take i rs ++ (next ∷ drop i rs)) t) kept
        ∙ (λ m. table (take_all i done (omega (arith, count-done)) m ++ (next ∷ (ap (λ (j : ℕ). drop j done) (sym count-done) ∙ drop-length done) m)) t) in
        let past : drop (length (flat more)) t ≡ drop (length (flat more)) t₀ =
        ap (drop (length (flat more))) k.front
        ∙ drop_past done t₀ (length (flat more)) (omega (arith, ap length (flat_append done (next ∷ [])) ∙ length-append (flat done) (flat (next ∷ [])))) in
        let all : more ≡ take (i + 1) gs = sym (take-suc gs i [] (omega (arith, k.many))) ∙ ap (λ (m : ℕ). take m gs) (sym (add-one i)) in
        record {
          wide = k.wide;
          many = k.many;
          words = k.words;
          within = omega arith;
          front = c ∙ ap (λ (zs : List ℕ). flat more ++ zs) past ∙ ap (λ (rs : List (List ℕ)). table rs t₀) all;
        }
