-- Laws: the keys that the cap takes out are those whose flag the cut does not set.
use mathlib.Core.Path.{◌≡◌, refl, sym, ap, ◌∙◌, subst}
use mathlib.Core.Bool.{Bool, true, false, cond, not, ◌&&◌, ◌||◌}
use mathlib.Core.List.{List, [], ◌∷◌, map}
use Prim.Native.Nat.{ℕ, ◌+◌, ◌-◌, ◌*◌, ◌^◌, ◌≤◌, ◌<◌}
use native.Mathlib.Omega.{arith}
use borrow.Author.Tests.{ltb-true, ltb-false, eqb-true, eq-eqb}
use lib.Dec.{T, ltb, eqb, lit<}
use lib.IntN.{pos}
use lib.Ieee.{Float, nan, binary64, fits, of_bits, to_bits, div, eq}
use lib.Ieee.Bits.{of_bits-to_bits, to_bits-lt}
use lib.Ieee.Fits.{cond-fits, div-fits, of_int-fits}
use lib.ListN.{length, take, drop, get_or, length-map, get_or-map}
use lib.Seq.{get_or-drop}
use Rattle.float.specs.Magnitude.{magnitude}
use Rattle.float.specs.Order.{place, total_less}
use Rattle.float.proofs.Orders.Order.{place-clear, place_set}
use Rattle.records.specs.declared.Found.{Found}
use Rattle.records.specs.declared.Found.TheVariants.{At, Gap, Unfit}
use Rattle.records.specs.Records.{records, table, find_in, ascending}
use Rattle.records.specs.Records as records
use Rattle.records.proofs.Words.RecordLaws.{length-records}
use Rattle.questions.proofs.Tests.{split, same_truth}
use Rattle.questions.specs.Questions.{refused, given}
use Rattle.questions.proofs.Answers.{alone-yes, given-passed}
use Rattle.demand.specs.declared.demand.Demand.{Demand}
use Rattle.hot.specs.declared.hot_set.HotEntry.{HotEntry}
use Rattle.demand.specs.Estimators.Estimator.{whole, alpha, unbiased, unbiased_from}
use Rattle.demand.specs.Estimators.Calls as estimator-calls
use Rattle.hot.specs.HotSet.Set.{entries, is_hot}
use Rattle.questions.specs.Lists.{all, any, only, present}
use Rattle.hot.specs.HotSet.Steps.{EntriesReady}
use Rattle.records.specs.Typed.{Tabled}
use Rattle.questions.proofs.ListLaws.{all-index, all_pass, map-map}
use Rattle.questions.proofs.OnlyLaws.{only_yes, only_no, only-all, map-only}
use Rattle.records.proofs.Words.RowLaws.{word-at}
use Rattle.records.proofs.Tables.TabledLaws.{table_same}
use Rattle.hot.proofs.HotSet.Table.{got-at, got-gap, never-unfit}
use Rattle.limiter.specs.declared.Parameters.{Parameters}
use Rattle.limiter.specs.State.{Settings, Estimate, KeyRecord, float_word, float_of, is_tracked, key_words, key_of, valid_key}
use Rattle.limiter.specs.Ticks.{Others, unbiased_rate, sorted, ranked_before, victims, capped}
use Rattle.limiter.specs.Steps.TickSteps.{flagged, below, Cut, staying, top, rate_place, rate_place_of, key_records, key_rank, weaker, stays_under, LentKeys}
use Rattle.limiter.proofs.States.KeyListLaws.{has, rising, rising-says}
use Rattle.limiter.proofs.States.RecordValidLaws.{key-says}
use Rattle.limiter.proofs.States.StateValidLaws.{key_of_key}
use Rattle.limiter.proofs.Walking.FlagLaws.{kept_by}
use Rattle.limiter.proofs.Walking.RankLaws.{ranked, staying-says}
use Rattle.gcra.specs.declared.Units.{Units}
use Rattle.std.specs.declared.option.Option.TheVariants.{Some}
use Rattle.std.specs.declared.result.Result.{Result}
use Rattle.std.specs.declared.result.Result.TheVariants.{Ok, Err}
use Rattle.questions.specs.declared.Refusal.{Refusal}
use Rattle.questions.specs.Refusals.{answer_of, number}

-- ---- hot keys

-- a search that found the key
abbrev pub is_at : Found → Bool
is_at (At i) = true
is_at (Gap i) = false
is_at Unfit = false

-- and one that did not
pub not-at : (f : Found) → ((i : ℕ) → f ≡ At i → ⊥) → false ≡ is_at f
not-at (At i) h = absurd (h i refl)
not-at (Gap i) h = refl
not-at Unfit h = refl

pub hot-found : (h : ℕ) (hot : List ℕ) (key : ℕ) → EntriesReady h hot → (f : Found) → f ≡ find_in 6 1 h key 0 hot → is_at f ≡ is_hot key (entries h hot)
hot-found h hot key k (At i) e = ap present (got-at h hot k key i e)
hot-found h hot key k (Gap i) e = ap present (got-gap h hot k key i e)
hot-found h hot key k Unfit e = never-unfit h hot k key e

-- ---- unbiased rates

pub rate-given : (d : Demand) (r : Result Float Refusal) (x : Float) → answer_of r ≡ estimator-calls.unbiased_rate d → r ≡ Ok x → x ≡ unbiased d
rate-given d r x e q = (given-passed (estimator-calls.ask d) x (unbiased d) (ap answer_of (sym q) ∙ e)).1

pub rate-never : (d : Demand) (r : Result Float Refusal) (n : Refusal) → answer_of r ≡ estimator-calls.unbiased_rate d → r ≡ Err n → magnitude d.current_rate ≡ true → ⊥
rate-never d r n e q m =
    let a : refused (number n) ≡ estimator-calls.unbiased_rate d = ap answer_of (sym q) ∙ e in
    let g : given (unbiased d) ≡ estimator-calls.unbiased_rate d = alone-yes 2 (unbiased d) m in
    let z : ◌≡◌ {A = ℕ} 0 1 = cc in
    omega arith

-- the estimator's unbiased rate, by the word of its rate
pub rate-of : (c rate last since : ℕ) (x : Float) → x ≡ of_bits binary64 rate → unbiased (record { current_rate = x; attempts_since_tick = 0; times = Some (record { last_tick = last; since = since }); time_constant = c }) ≡ unbiased_rate c (record { rate = float_of rate; attempts = 0; last = last; since = since })
unfolding unbiased_rate
rate-of c rate last since x e = ap (λ (y : Float). unbiased (record { current_rate = y; attempts_since_tick = 0; times = Some (record { last_tick = last; since = since }); time_constant = c })) e

-- every unbiased rate is an f64
rate-fits : (c : ℕ) (e : Estimate) → T (fits binary64 (unbiased_rate c e))
unfolding unbiased_rate unbiased_from
rate-fits c e =
    let part : Float = alpha (e.last - e.since) c in
    let rest : Float = cond (eq part (whole 0)) (whole 0) (div binary64 e.rate part) in
    let none-fits = of_int-fits binary64 (pos 0) in
    cond-fits binary64 (eqb (e.last - e.since) 0) (whole 0) rest none-fits (cond-fits binary64 (eq part (whole 0)) (whole 0) (div binary64 e.rate part) none-fits (div-fits binary64 e.rate part))

-- its attempts do not count
pub attempts-apart : (c : ℕ) (e : Estimate) → unbiased_rate c (record { rate = e.rate; attempts = 0; last = e.last; since = e.since }) ≡ unbiased_rate c e
unfolding unbiased_rate unbiased_from
attempts-apart c e = refl

-- ---- places in totalOrder

-- no f64 has the pattern whose place is the last
not_last : (x : Float) → T (fits binary64 x) → float_word x ≡ 2 ^ 63 - 1 → ⊥
unfolding of_bits to_bits
not_last x f e =
    let n : x ≡ nan = sym (of_bits-to_bits binary64 x f) ∙ ap float_of e ∙ refl in
    let z : 9221120237041090560 ≡ 2 ^ 63 - 1 = ap float_word (sym n) ∙ e in
    omega arith

-- so that every rate's place is below it
place-bound : (x : Float) → T (fits binary64 x) → place (float_word x) < top
place-bound x f =
    split (ltb (float_word x) 9223372036854775808)
    (λ e.
    let l = ltb-true (float_word x) 9223372036854775808 e in
    split (ltb (float_word x) 9223372036854775807)
    (λ g. omega (arith, place-clear (float_word x) l, ltb-true (float_word x) 9223372036854775807 g))
    (λ g. absurd (not_last x f (omega (arith, ltb-false (float_word x) 9223372036854775807 g)))))
    (λ e. let l = ltb-false (float_word x) 9223372036854775808 e in omega (arith, place_set (float_word x) l))

-- two patterns are one where their places are
place_same : (a b : ℕ) → a < 2 ^ 64 → b < 2 ^ 64 → eqb a b ≡ eqb (place a) (place b)
place_same a b h k = same_truth (eqb a b) (eqb (place a) (place b))
    (λ e. eq-eqb (place a) (place b) (ap place (eqb-true a b e)))
    (λ e. eq-eqb a b (back (eqb-true (place a) (place b) e)))
  where
    back : place a ≡ place b → a ≡ b
    back e = split (ltb a 9223372036854775808)
        (λ p. split (ltb b 9223372036854775808)
        (λ q. omega (arith, e, place-clear a (ltb-true a 9223372036854775808 p), place-clear b (ltb-true b 9223372036854775808 q)))
        (λ q. omega (arith, e, place-clear a (ltb-true a 9223372036854775808 p), place_set b (ltb-false b 9223372036854775808 q), ltb-false b 9223372036854775808 q)))
        (λ p. split (ltb b 9223372036854775808)
        (λ q. omega (arith, e, place_set a (ltb-false a 9223372036854775808 p), ltb-false a 9223372036854775808 p, place-clear b (ltb-true b 9223372036854775808 q)))
        (λ q. omega (arith, e, place_set a (ltb-false a 9223372036854775808 p), place_set b (ltb-false b 9223372036854775808 q))))

-- ---- a key by its words

module _ (u : Units) (n : ℕ) (xs : List ℕ) (i : ℕ) (h : i < n) where
  abbrev row : List ℕ
  row = get_or (records 22 n xs) i []

  word_of : (j : ℕ) → j < 22 → get_or row j 0 ≡ get_or xs (i * 22 + j) 0
  word_of j k = word-at 22 n xs i j h k

  first_of : get_or row 0 0 ≡ get_or xs (i * 22) 0
  first_of = word_of 0 (lit< tt) ∙ (let z : i * 22 + 0 ≡ i * 22 = omega arith in ap (λ (m : ℕ). get_or xs m 0) z)

  demand-word : (j k : ℕ) → 3 + j ≡ k → k < 22 → get_or (drop 3 row) j 0 ≡ get_or xs (i * 22 + k) 0
  demand-word j k e l = get_or-drop 3 row j 0 ∙ ap (λ (m : ℕ). get_or row m 0) e ∙ word_of k l

  -- its rank
  rank-by : (c : ℕ) (es : List HotEntry) → key_rank c es (key_of u row) ≡ cond (not (is_hot (get_or xs (i * 22) 0) es)) (rate_place_of c (get_or xs (i * 22 + 3) 0) (get_or xs (i * 22 + 5) 0) (get_or xs (i * 22 + 6) 0)) top
  unfolding key_rank key_of
  rank-by c es =
      ap (λ (x : Float). cond (not (is_hot (get_or row 0 0) es)) (place (float_word x)) top) (sym (attempts-apart c (key_of u row).demand))
      ∙ (λ m. cond (not (is_hot (first_of m) es)) (rate_place_of c (demand-word 0 3 refl (lit< tt) m) (demand-word 2 5 refl (lit< tt) m) (demand-word 3 6 refl (lit< tt) m)) top)

  -- of a hot key, and of one that is not
  pub rank-hot : (c : ℕ) (es : List HotEntry) → is_hot (get_or xs (i * 22) 0) es ≡ true → top ≡ key_rank c es (key_of u row)
  rank-hot c es e = sym (rank-by c es ∙ ap (λ (b : Bool). cond (not b) (rate_place_of c (get_or xs (i * 22 + 3) 0) (get_or xs (i * 22 + 5) 0) (get_or xs (i * 22 + 6) 0)) top) e)

  pub rank-cold : (c : ℕ) (es : List HotEntry) → is_hot (get_or xs (i * 22) 0) es ≡ false → rate_place_of c (get_or xs (i * 22 + 3) 0) (get_or xs (i * 22 + 5) 0) (get_or xs (i * 22 + 6) 0) ≡ key_rank c es (key_of u row)
  rank-cold c es e = sym (rank-by c es ∙ ap (λ (b : Bool). cond (not b) (rate_place_of c (get_or xs (i * 22 + 3) 0) (get_or xs (i * 22 + 5) 0) (get_or xs (i * 22 + 6) 0)) top) e)

  -- its demand is finite with a clear sign bit
  pub rate-finite : all (valid_key u) (key_records u n xs) ≡ true → magnitude (of_bits binary64 (get_or xs (i * 22 + 3) 0)) ≡ true
  unfolding key_of
  rate-finite a =
      ap (λ (w : ℕ). magnitude (float_of w)) (sym (demand-word 0 3 refl (lit< tt)))
      ∙ (key-says u (key_of u row)
      (ap (valid_key u) (sym (get_or-map (key_of u) (records 22 n xs) i []))
      ∙ all-index (valid_key u) (key_of u []) (key_records u n xs) a i (omega (arith, length-map (records 22 n xs) (key_of u), length-records 22 n xs)))
      ).demand.finite

-- ---- the cap

weaker-is : (c : ℕ) → weaker c ≡ ranked key_of_key (rate_place c)
unfolding ranked_before total_less
weaker-is c =
    let word : KeyRecord → ℕ = λ (k : KeyRecord). float_word (unbiased_rate c k.demand) in
    let small : (k : KeyRecord) → word k < 2 ^ 64 = λ k. to_bits-lt binary64 (unbiased_rate c k.demand) (rate-fits c k.demand) in
    (λ i a b. ltb (place (word a)) (place (word b)) || (place_same (word a) (word b) (small a) (small b) i && ltb a.key b.key))

-- the flags of a cut through the ranks
cap-flags : (c most : ℕ) (es : List HotEntry) (ks : List KeyRecord) → rising key_of_key ks ≡ true → (limit : ℕ) → Cut top (length ks - most) (map (key_rank c es) ks) limit → staying limit (length ks - most - below limit (map (key_rank c es) ks)) (map (key_rank c es) ks) ≡ map (stays_under c most es ks) ks
unfolding key_rank stays_under is_tracked
cap-flags c most es ks r limit k =
    let cold : ℕ → Bool = λ (j : ℕ). not (is_hot j es) in
    staying-says key_of_key (rate_place c) cold top (λ x. place-bound (unbiased_rate c x.demand) (rate-fits c x.demand)) ks r (length ks - most) limit k
    ∙ ap (λ (before : KeyRecord → KeyRecord → Bool). map (λ (x : KeyRecord). not (has key_of_key (take (length ks - most) (sorted before (only (λ (y : KeyRecord). cold y.key) ks))) x.key)) ks) (sym (weaker-is c))

-- what is left is what `capped` leaves
pub capped_is : (par : Parameters) (s : Settings) (o : Others) (now n : ℕ) (es : List HotEntry) (ks : List KeyRecord) → capped par s o now n es ks ≡ only (stays_under s.config.demand_time_constant s.config.max_tracked_keys es ks) ks
unfolding capped victims stays_under
capped_is par s o now n es ks = refl

-- the first of a list, and the others
abbrev head_or : {A : Type 0} → A → List A → A
head_or d [] = d
head_or d (x ∷ xs) = x

abbrev rest : {A : Type 0} → List A → List A
rest [] = []
rest (x ∷ xs) = xs

-- rows that are the words of what they stand for are so where some are left
pub only-exact : {A : Type 0} (f : A → A) (p : A → Bool) (xs : List A) → xs ≡ map f xs → only p xs ≡ map f (only p xs)
unfolding only
only-exact f p [] e = refl
only-exact f p (x ∷ xs) e =
    let h : x ≡ f x = ap (head_or x) e in
    let t : xs ≡ map f xs = ap rest e in
    split (p x)
    (λ q. only_yes p x xs q ∙ (λ i. h i ∷ only-exact f p xs t i) ∙ ap (map f) (sym (only_yes p x xs q)))
    (λ q. only_no p x xs q ∙ only-exact f p xs t ∙ ap (map f) (sym (only_no p x xs q)))

-- a key record's first word is its key
pub first-word : (u : Units) (x : KeyRecord) → records.key 1 (key_words u x) ≡ x.key ∷ []
unfolding key_words
first-word u x = refl

module _ (u : Units) (n : ℕ) (xs : List ℕ) (k : LentKeys u n xs) (c most : ℕ) (es : List HotEntry) where
  abbrev rows : List (List ℕ)
  rows = records 22 n xs

  abbrev keys : List KeyRecord
  keys = key_records u n xs

  abbrev left : List ℕ → Bool
  left x = stays_under c most es keys (key_of u x)

  many : length keys ≡ n
  many = length-map rows (key_of u) ∙ length-records 22 n xs

  rise : rising key_of_key keys ≡ true
  rise = rising-says key_of_key (key_words u) (first-word u) keys (ap (ascending 1) (sym k.exact) ∙ k.ascends)

  -- no more keys than the most: all stay
  pub cap-none : n ≤ most → Tabled n (only left rows) xs xs
  unfolding stays_under is_tracked any
  cap-none h =
      let z : length keys - most ≡ 0 = omega (arith, many) in
      let e : only left rows ≡ rows = only-all left rows (all_pass left [] rows (λ i l. ap (λ (m : ℕ). not (is_tracked (take m (sorted (weaker c) (only (λ (y : KeyRecord). not (is_hot y.key es)) keys))) (key_of u (get_or rows i [])).key)) z)) in
      record { count = sym (ap length e ∙ length-records 22 n xs); words = sym (ap (λ (rs : List (List ℕ)). table rs xs) e ∙ table_same 22 n xs k.fit) }

  -- else those that the cut leaves
  pub cap-done : (ranks : List ℕ) (limit lower : ℕ) (flags : List Bool) (m : ℕ) (ys : List ℕ) → take n ranks ≡ map (λ (x : List ℕ). key_rank c es (key_of u x)) rows → Cut top (n - most) (take n ranks) limit → lower ≡ below limit (take n ranks) → take n flags ≡ staying limit (n - most - lower) (take n ranks) → Tabled m (flagged flags rows) xs ys → Tabled m (only left rows) xs ys
  cap-done ranks limit lower flags m ys e cut b f t =
      let w : take n ranks ≡ map (key_rank c es) keys = e ∙ sym (map-map (key_rank c es) (key_of u) rows) in
      let g : take n flags ≡ map left rows =
      f
      ∙ (λ i. staying limit (n - most - b i) (take n ranks))
      ∙ (λ i. staying limit (sym many i - most - below limit (w i)) (w i))
      ∙ cap-flags c most es keys rise limit (subst (λ (v : ℕ). Cut top (v - most) (map (key_rank c es) keys) limit) (sym many) (subst (λ (ws : List ℕ). Cut top (n - most) ws limit) w cut))
      ∙ map-map (stays_under c most es keys) (key_of u) rows in
      kept_by 22 n left flags m xs ys g t

  -- they are the words of the keys that `capped` leaves
  pub cap-leaves : only left rows ≡ map (key_words u) (only (stays_under c most es keys) keys)
  cap-leaves =
      only-exact (λ (x : List ℕ). key_words u (key_of u x)) left rows (k.exact ∙ map-map (key_words u) (key_of u) rows)
      ∙ sym (map-map (key_words u) (key_of u) (only left rows))
      ∙ ap (map (key_words u)) (map-only (key_of u) (stays_under c most es keys) rows)
