-- Entries and their words: copied one by one, read, and copied back.
use mathlib.Core.Path.{◌≡◌, refl, sym, ap, ◌∙◌, subst}
use mathlib.Core.Bool.{Bool, true, false, cond}
use mathlib.Core.List.{List, [], ◌∷◌, ◌++◌, map, append_assoc, append-nil, map-append}
use Prim.Native.Nat.{ℕ, zero, suc, ◌+◌, ◌*◌, ◌≤◌, ◌<◌, min}
use native.Mathlib.Numerals.{add-one}
use native.Mathlib.Omega.{arith}
use native.Mathlib.Nat.{le_of_lt, min-eq_left, min-eq_right}
use borrow.Author.Tests.{leb-true, leb-false}
use lib.Dec.{T, leb}
use lib.Ieee.{Float, binary64, of_bits, fits}
use lib.Ieee.Bits.{is_true}
use lib.ListN.{length, get_or, set, take, drop, length-take, length-set, length-map, length-append, take-append-drop}
use lib.Seq.{take-suc, take-append_seam, drop-append_seam, drop-cons, set_at, length-take-le, take-length, take_all, take-take}
use Rattle.std.specs.declared.option.Option.TheVariants.{None}
use Rattle.std.specs.declared.result.Result.{Result}
use Rattle.std.specs.declared.result.Result.TheVariants.{Ok, Err}
use Rattle.std.specs.Simd.{first_chunks}
use Rattle.questions.specs.declared.Refusal.{Refusal}
use Rattle.questions.specs.Questions.{Question, refused, answer, passes}
use Rattle.questions.proofs.Tests.{split, both}
use Rattle.questions.proofs.Answers.{given-passed}
use Rattle.questions.proofs.ListLaws.{all_take}
use Rattle.records.specs.Records.{records, flat, table}
use Rattle.records.proofs.Words.RecordLaws.{length-records, take-records, flat_append}
use Rattle.hot.specs.declared.hot_set.HotSet.{HotSet}
use Rattle.hot.specs.declared.hot_set.HotEntry.{HotEntry}
use Rattle.hot.specs.declared.hot_set.Updated.{Updated}
use Rattle.hot.specs.HotSet.Set.{words, entry, entries, Outcome}
use Rattle.hot.specs.HotSet.Calls.{ask_update, eviction_margin, entries_of, updated, rewritten, UpdatedWith}
use Rattle.hot.proofs.HotSet.Words.{length-words, length-flat, demand_fits, Fits, fits-entries, entries-table}
use Rattle.hot.proofs.HotSet.ValidLaws.{updated-fits}
use Rattle.hot.proofs.HotSet.Answers.{passed-set, update-passed-set}
use Rattle.hot.proofs.HotSet.Theorems.{kept}
use Rattle.hot_lent.specs.Entries.{lent_words, outcome, UpdatedEntries}

-- ---- the words of the lent entries
pub lent-long : (es : List HotEntry) → 6 * min (length es) 64 ≡ length (lent_words es)
unfolding lent_words
lent-long es = omega (arith, length-flat (take 64 es), length-take 64 es)

pub none-copied : ◌≡◌ {A = List ℕ} [] (flat [])
unfolding flat
none-copied = refl

flat-one : (r : List ℕ) → flat (r ∷ []) ≡ r
unfolding flat
flat-one r = append-nil r

-- one entry's words behind those of the first i
pub copied_more : (i : ℕ) (es : List HotEntry) (d : HotEntry) (ws rest : List ℕ) → i < length es → (i + 1) * 6 ≤ length ws → take (i * 6) ws ≡ flat (map words (take i es)) → take ((i + 1) * 6) (take (i * 6) ws ++ (words (get_or es i d) ++ rest)) ≡ flat (map words (take (i + 1) es))
copied_more i es d ws rest h room e =
    let r : List ℕ = words (get_or es i d) in
    let front : List ℕ = take (i * 6) ws in
    let long : length (front ++ r) ≡ (i + 1) * 6 = omega (arith, length-append front r, length-take-le (i * 6) ws (omega arith), length-words (get_or es i d)) in
    (λ k. take (sym long k) (sym (append_assoc front r rest) k))
    ∙ take-append_seam (front ++ r) rest
    ∙ (λ k. e k ++ sym (flat-one r) k)
    ∙ sym (flat_append (map words (take i es)) (r ∷ []))
    ∙ ap flat (sym (map-append words (take i es) (get_or es i d ∷ [])))
    ∙ ap (λ (l : List HotEntry). flat (map words l)) (sym (take-suc es i d h) ∙ ap (λ (n : ℕ). take n es) (sym (add-one i)))

-- all that count
pub all-copied : (es : List HotEntry) (n : ℕ) (ws : List ℕ) → n ≡ min (length es) 64 → take (n * 6) ws ≡ flat (map words (take n es)) → take (length (lent_words es)) ws ≡ lent_words es
unfolding lent_words
all-copied es n ws e p =
    ap (λ (k : ℕ). take k ws) (omega (arith, length-flat (take 64 es), length-take 64 es))
    ∙ p
    ∙ ap (λ (l : List HotEntry). flat (map words l)) (ap (λ (k : ℕ). take k es) e ∙ take-most)
  where
    take-most : take (min (length es) 64) es ≡ take 64 es
    take-most = split (leb (length es) 64)
        (λ h. let l = leb-true (length es) 64 h in ap (λ (k : ℕ). take k es) (min-eq_left l) ∙ take-length es ∙ sym (take_all 64 es l))
        (λ h. ap (λ (k : ℕ). take k es) (min-eq_right (le_of_lt (leb-false (length es) 64 h))))

-- ---- copied back

-- what a list has past its end
abbrev pub no_entry : HotEntry
no_entry = record { key = 0; demand = of_bits binary64 0; primary = false; cooling_since = None; since = 0 }

-- the entries of the first n records, written over those of a list one by one
pub stored : ℕ → List (List ℕ) → List HotEntry → List HotEntry
stored zero rs es = es
stored (suc n) rs es = set (stored n rs es) n (entry (get_or rs n []))

pub stored-none : (rs : List (List ℕ)) (es : List HotEntry) → es ≡ stored 0 rs es
unfolding stored
stored-none rs es = refl

pub stored_more : (n : ℕ) (rs : List (List ℕ)) (es : List HotEntry) (e : HotEntry) → e ≡ entry (get_or rs n []) → set (stored n rs es) n e ≡ stored (n + 1) rs es
unfolding stored
stored_more n rs es e h = ap (set (stored n rs es) n) h ∙ ap (λ (k : ℕ). stored k rs es) (sym (add-one n))

pub length-stored : (n : ℕ) (rs : List (List ℕ)) (es : List HotEntry) → length (stored n rs es) ≡ length es
unfolding stored
length-stored zero rs es = refl
length-stored (suc n) rs es = length-set (stored n rs es) n (entry (get_or rs n [])) ∙ length-stored n rs es

stored_is : (n : ℕ) (rs : List (List ℕ)) (es : List HotEntry) → n ≤ length es → n ≤ length rs → stored n rs es ≡ map entry (take n rs) ++ drop n es
unfolding stored
stored_is zero rs es h k = refl
stored_is (suc n) rs es h k =
    let e : HotEntry = entry (get_or rs n []) in
    let front : List HotEntry = map entry (take n rs) in
    ap (λ (l : List HotEntry). set l n e) (stored_is n rs es (omega arith) (omega arith) ∙ ap (λ (t : List HotEntry). front ++ t) (drop-cons es n no_entry (omega arith)))
    ∙ set_at front (get_or es n no_entry) (drop (suc n) es) e n (length-map (take n rs) entry ∙ length-take-le n rs (omega arith))
    ∙ sym (append_assoc front (e ∷ []) (drop (suc n) es))
    ∙ ap (λ (t : List HotEntry). t ++ drop (suc n) es) (sym (ap (map entry) (take-suc rs n [] (omega arith)) ∙ map-append entry (take n rs) (get_or rs n [] ∷ [])))

-- chunks of six words are records
chunks-are : (w n : ℕ) (xs : List ℕ) → first_chunks w n xs ≡ records w n xs
unfolding records
chunks-are w zero xs = refl
chunks-are w (suc n) xs = ap (λ (l : List (List ℕ)). take w xs ∷ l) (chunks-are w n (drop w xs))

-- the entries of the first n chunks, copied back
copied-back : (n m : ℕ) (ws : List ℕ) (es : List HotEntry) → n ≤ length es → n ≤ m → stored n (first_chunks 6 m ws) es ≡ entries n ws ++ drop n es
unfolding entries
copied-back n m ws es h k =
    ap (λ (l : List (List ℕ)). stored n l es) (chunks-are 6 m ws)
    ∙ stored_is n (records 6 m ws) es h (omega (arith, length-records 6 m ws))
    ∙ ap (λ (l : List (List ℕ)). map entry l ++ drop n es) (take-records 6 m n ws k)

-- ---- what an update leaves

not-refused : {A : Type 0} (qs : List Question) (n : ℕ) (a : A) → passes qs ≡ true → refused n ≡ answer qs a → ⊥
unfolding passes answer
not-refused [] n a p e = let z : ◌≡◌ {A = ℕ} 0 1 = cc in absurd (omega arith)
not-refused (q ∷ qs) n a p e = let b = both q.passed _ p in not-refused qs n a b.1 (rw b.0 at e)

entries-front : (es : List HotEntry) (t : List ℕ) → Fits es → entries (length es) (flat (map words es) ++ t) ≡ es
unfolding table
entries-front es t f =
    let l : List ℕ = flat (map words es) in
    ap (λ (r : List ℕ). entries (length es) (l ++ r)) (sym (drop-append_seam l t)) ∙ entries-table es (l ++ t) f

-- ---- an update of lent entries: their words, at the front of ws, are updated to ys, and the entries that are left copied back
module _
    (s : HotSet) (es : List HotEntry) (key : ℕ) (demand threshold : Float) (now : ℕ) (elsewhere : Bool)
    (n : ℕ) (ws : List ℕ) (e : n ≡ length (lent_words es)) (q : take (length (lent_words es)) ws ≡ lent_words es)
  where
    abbrev asks : List Question
    asks = ask_update s (lent_words es) demand

    abbrev o : Outcome
    o = outcome s es key demand threshold now elsewhere

    abbrev Made : Result Updated Refusal → List ℕ → Type 0
    Made r ys = UpdatedWith s (take n ws) key demand threshold now elsewhere r ys

    of-lent : {r : Result Updated Refusal} {ys : List ℕ} → Made r ys → UpdatedWith s (lent_words es) key demand threshold now elsewhere r ys
    of-lent {r = r} {ys = ys} = subst (λ (xs : List ℕ). UpdatedWith s xs key demand threshold now elsewhere r ys) (ap (λ (k : ℕ). take k ws) e ∙ q)

    pub update-refused : (x : Refusal) (ys : List ℕ) → Made (Err x) ys → UpdatedEntries s es key demand threshold now elsewhere (Err x) es
    update-refused x ys made =
        let u = of-lent made in
        record {
          answered = u.answered;
          left = split (passes asks)
              (λ p. absurd (not-refused asks _ (updated s o) p u.answered))
              (λ p. ap (λ (b : Bool). cond b (o.left ++ drop (length o.left) es) es) (sym p));
        }

    module _ (f : T (fits binary64 demand)) (v : Updated) (ys : List ℕ) (made : Made (Ok v) ys) where
      given-is : (passes asks ≡ true) × (v ≡ updated s o)
      given-is = given-passed asks v (updated s o) (of-lent made).answered

      count : v.set.len ≡ length o.left
      count = ap (λ (w : Updated). w.set.len) given-is.1

      -- there are places for them
      pub left-few : v.set.len ≤ min (length es) 64
      left-few =
          let p = update-passed-set s (lent_words es) demand given-is.0 in
          let k = (kept eviction_margin s (lent_words es) p key demand threshold now elsewhere).bound in
          let q = passed-set s (lent_words es) p in
          omega (arith, count, k, q.space, lent-long es)

      -- they stand at the front of the words
      left-read : (rest : List ℕ) → entries v.set.len (ys ++ rest) ≡ o.left
      unfolding table
      left-read rest =
          let w : ys ≡ table (map words o.left) (lent_words es) = (of-lent made).left ∙ ap (λ (b : Bool). cond b (rewritten o (lent_words es)) (lent_words es)) given-is.0 in
          ap (λ (k : ℕ). entries k (ys ++ rest)) count
          ∙ ap (λ (l : List ℕ). entries (length o.left) (l ++ rest)) w
          ∙ ap (entries (length o.left)) (append_assoc (flat (map words o.left)) _ rest)
          ∙ entries-front o.left _ (updated-fits eviction_margin s key demand threshold now elsewhere (entries_of s (lent_words es)) (is_true (fits binary64 demand) f) (fits-entries s.len (lent_words es)))

      pub update-stored : (m : ℕ) (rest : List ℕ) (fs : List HotEntry) → 64 ≤ m → fs ≡ stored v.set.len (first_chunks 6 m (ys ++ rest)) es → UpdatedEntries s es key demand threshold now elsewhere (Ok v) fs
      update-stored m rest fs w g = record {
        answered = (of-lent made).answered;
        left =
            g
            ∙ (let l = left-few in copied-back v.set.len m (ys ++ rest) es (omega arith) (omega arith))
            ∙ (λ i. left-read rest i ++ drop (count i) es)
            ∙ ap (λ (b : Bool). cond b (o.left ++ drop (length o.left) es) es) (sym given-is.0);
      }

-- ---- the entries that a set has in the words of lent entries are the first of these
pub entries-lent : (s : HotSet) (es : List HotEntry) → Fits es → s.len ≤ 64 → s.len ≤ length es → entries_of s (lent_words es) ≡ take s.len es
unfolding lent_words
entries-lent s es f a b =
    let n : ℕ = s.len in
    let first : List HotEntry = take n es in
    let rest : List HotEntry = drop n (take 64 es) in
    let parts : take 64 es ≡ first ++ rest = sym (take-append-drop n (take 64 es)) ∙ ap (λ (l : List HotEntry). l ++ rest) (take-take n 64 es a) in
    ap (λ (l : List HotEntry). entries n (flat (map words l))) parts
    ∙ ap (λ (l : List (List ℕ)). entries n (flat l)) (map-append words first rest)
    ∙ ap (entries n) (flat_append (map words first) (map words rest))
    ∙ ap (λ (k : ℕ). entries k (flat (map words first) ++ flat (map words rest))) (sym (length-take-le n es b))
    ∙ entries-front first (flat (map words rest)) (all_take demand_fits n es f)
