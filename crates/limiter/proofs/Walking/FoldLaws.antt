-- Laws: an estimator's fold in its words, with alpha handed in.
use mathlib.Core.Path.{◌≡◌, refl, sym, ap, ◌∙◌, subst}
use mathlib.Core.Bool.{true}
use mathlib.Core.List.{List, [], ◌∷◌, ◌++◌, map, append_assoc}
use Prim.Native.Nat.{ℕ, suc, ◌+◌, ◌-◌, ◌*◌, ◌≤◌, ◌<◌}
use native.Mathlib.Numerals.{add-one}
use native.Mathlib.Omega.{arith}
use borrow.Rule.Slice.PartMut.{mid_of}
use borrow.Author.Tests.{eq-eqb, ne_eqb}
use lib.Dec.{lit≤}
use lib.Ieee.{Float, binary64, of_bits, to_bits}
use lib.Ieee.Bits.{of_bits-to_bits}
use lib.ListN.{length, take, drop, get_or, set, length-map, get_or-map}
use lib.Seq.{drop-cons, get_or-drop, set-get_or, sets-eq}
use Rattle.float.specs.Magnitude.{magnitude}
use Rattle.records.specs.Words.{paste}
use Rattle.records.specs.Records.{records}
use Rattle.records.proofs.Words.RecordLaws.{length-records}
use Rattle.records.proofs.Tables.TableLaws.{Wide}
use Rattle.records.proofs.Tables.TypedLaws.{wide-map}
use Rattle.questions.proofs.ListLaws.{all-index, map-map}
use Rattle.demand.specs.Estimators.Estimator.{alpha, folded_by, ticked_from}
use Rattle.demand.specs.Estimators.Estimator as estimator
use Rattle.hot.proofs.HotSet.Words.{bits_back}
use Rattle.limiter.specs.State.{Estimate, KeyRecord, valid_key, float_of, float_word, estimate_words, estimate_of, key_words, key_of}
use Rattle.limiter.specs.Ticks.{folded}
use Rattle.limiter.specs.Steps.TickSteps.{key_records, LentKeys, LentKey, folded_for, folded_row}
use Rattle.limiter.proofs.States.RecordValidLaws.{held, GoodEstimate}
use Rattle.limiter.proofs.Walking.RowLaws.{get_d-mapped, Mapping, map-here}
use Rattle.limiter.proofs.States.WrittenLaws.{key-long}
use Rattle.gcra.specs.declared.Units.{Units}

-- ---- numbers

-- with 004's alpha it is 004's fold
folded-is : (rate : Float) (attempts elapsed c : ℕ) → folded_by (alpha elapsed c) rate attempts elapsed ≡ estimator.folded rate attempts elapsed c
unfolding estimator.folded
folded-is rate attempts elapsed c = refl

-- ---- an estimate

-- no time has elapsed: as it was
fold-none : (c now : ℕ) (e : Estimate) → now - e.last ≡ 0 → folded c now e ≡ e
unfolding folded ticked_from
fold-none c now e h = rw (eq-eqb (now - e.last) 0 h)

fold-some : (c now : ℕ) (e : Estimate) → (now - e.last ≡ 0 → ⊥) → folded c now e ≡ record { rate = folded_by (alpha (now - e.last) c) e.rate e.attempts (now - e.last); attempts = 0; last = now; since = e.since }
unfolding folded ticked_from
fold-some c now e h = rw (ne_eqb (now - e.last) 0 h, folded-is e.rate e.attempts (now - e.last) c)

-- ---- its words

module _ (at : ℕ) (t : List ℕ) (h : at + 4 ≤ length t) where
  abbrev here : Estimate
  here = estimate_of (drop at t)

  word : (j : ℕ) → get_or (drop at t) j 0 ≡ get_or t (at + j) 0
  word j = get_or-drop at t j 0

  first : get_or (drop at t) 0 0 ≡ get_or t at 0
  first = word 0 ∙ (let z : at + 0 ≡ at = omega arith in ap (λ (m : ℕ). get_or t m 0) z)

  -- the words from a place on
  from : (i : ℕ) → i < length t → drop i t ≡ get_or t i 0 ∷ drop (i + 1) t
  from i k = drop-cons t i 0 k ∙ ap (λ (m : ℕ). get_or t i 0 ∷ drop m t) (sym (add-one i))

  -- three stores, and the fourth word as it was
  stored : (a b d : ℕ) → set (set (set t at a) (at + 1) b) (at + 2) d ≡ paste at (a ∷ b ∷ d ∷ get_or t (at + 3) 0 ∷ []) t
  unfolding paste
  stored a b d =
      let two : at + 2 ≡ suc (suc at) = omega arith in
      let end : at + 3 + 1 ≡ at + 4 = omega arith in
      (λ i. set (set (set t at a) (add-one at i) b) (two i) d)
      ∙ sets-eq (a ∷ b ∷ d ∷ []) t at (omega arith)
      ∙ append_assoc (take at t) (a ∷ b ∷ d ∷ []) (drop (at + 3) t)
      ∙ ap (λ (zs : List ℕ). take at t ++ (a ∷ b ∷ d ∷ zs)) (from (at + 3) (omega arith) ∙ ap (λ (m : ℕ). get_or t (at + 3) 0 ∷ drop m t) end)

  module _ (c now : ℕ) where
    -- a fold that changes it
    pub fold-stored : (v elapsed : ℕ) (a : Float) → elapsed ≡ now - get_or t (at + 2) 0 → (elapsed ≡ 0 → ⊥) → a ≡ alpha elapsed c → v ≡ to_bits binary64 (folded_by a (of_bits binary64 (get_or t at 0)) (get_or t (at + 1) 0) elapsed) → set (set (set t at v) (at + 1) 0) (at + 2) now ≡ paste at (estimate_words (folded c now here)) t
    fold-stored v elapsed a l z k e =
        stored v 0 now
        ∙ sym
        (ap (λ (x : Estimate). paste at (estimate_words x) t) (fold-some c now here (λ q. z (l ∙ sym (ap (λ (w : ℕ). now - w) (word 2)) ∙ q)))
        ∙ (λ i. paste at (float_word (folded_by (alpha (now - word 2 i) c) (float_of (first i)) (word 1 i) (now - word 2 i)) ∷ 0 ∷ now ∷ word 3 i ∷ []) t)
        ∙ (λ i. paste at (float_word (folded_by (alpha (sym l i) c) (float_of (get_or t at 0)) (get_or t (at + 1) 0) (sym l i)) ∷ 0 ∷ now ∷ get_or t (at + 3) 0 ∷ []) t)
        ∙ ap (λ (x : Float). paste at (float_word (folded_by x (float_of (get_or t at 0)) (get_or t (at + 1) 0) elapsed) ∷ 0 ∷ now ∷ get_or t (at + 3) 0 ∷ []) t) (sym k)
        ∙ ap (λ (w : ℕ). paste at (w ∷ 0 ∷ now ∷ get_or t (at + 3) 0 ∷ []) t) (sym e))

    -- and one that does not
    pub fold_same : magnitude (of_bits binary64 (get_or t at 0)) ≡ true → now - get_or t (at + 2) 0 ≡ 0 → t ≡ paste at (estimate_words (folded c now here)) t
    fold_same m z =
        sym
        (ap (λ (x : Estimate). paste at (estimate_words x) t) (fold-none c now here (ap (λ (w : ℕ). now - w) (word 2) ∙ z))
        ∙ (λ i. paste at (float_word (float_of (first i)) ∷ word 1 i ∷ word 2 i ∷ word 3 i ∷ []) t)
        ∙ ap (λ (w : ℕ). paste at (w ∷ get_or t (at + 1) 0 ∷ get_or t (at + 2) 0 ∷ get_or t (at + 3) 0 ∷ []) t) (bits_back (get_or t at 0) m)
        ∙ sym (stored (get_or t at 0) (get_or t (at + 1) 0) (get_or t (at + 2) 0))
        ∙ ap (λ (zs : List ℕ). set (set zs (at + 1) (get_or t (at + 1) 0)) (at + 2) (get_or t (at + 2) 0)) (set-get_or t at 0)
        ∙ ap (λ (zs : List ℕ). set zs (at + 2) (get_or t (at + 2) 0)) (set-get_or t (at + 1) 0)
        ∙ set-get_or t (at + 2) 0)

-- ---- one estimator of a key

-- a key with four estimates
abbrev pub with_estimates : KeyRecord → (d q n s : Estimate) → KeyRecord
with_estimates k d q n s = record { key = k.key; limit = k.limit; demand = d; requests = q; denials = n; shadow_denials = s; gcra = k.gcra }

-- an estimate that went through words
abbrev again : Estimate → Estimate
again e = record { rate = float_of (float_word e.rate); attempts = e.attempts; last = e.last; since = e.since }

again-same : (e : Estimate) → GoodEstimate e → again e ≡ e
again-same e g = (λ i. record { rate = of_bits-to_bits binary64 e.rate (held e.rate g.rate) i; attempts = e.attempts; last = e.last; since = e.since })

-- the estimate at a place in the words of a key
module _ (u : Units) (at : ℕ) (within : at + 4 ≤ 22) (K : Estimate → KeyRecord) (pasted : (d e : Estimate) → paste at (estimate_words e) (key_words u (K d)) ≡ key_words u (K e)) (there : (d : Estimate) → estimate_of (drop at (key_words u (K d))) ≡ again d) (first_word : (d : Estimate) → get_or (key_words u (K d)) at 0 ≡ float_word d.rate) (d : Estimate) (g : GoodEstimate d) where
  slot-ready : (r : List ℕ) → r ≡ key_words u (K d) → (at + 4 ≤ length r) × (magnitude (of_bits binary64 (get_or r at 0)) ≡ true)
  slot-ready r e = (
    omega (arith, ap length e, key-long u (K d)),
    ap (λ (x : List ℕ). magnitude (of_bits binary64 (get_or x at 0))) e
        ∙ ap (λ (w : ℕ). magnitude (of_bits binary64 w)) (first_word d)
        ∙ ap magnitude (of_bits-to_bits binary64 d.rate (held d.rate g.rate))
        ∙ g.finite,
  )

  slot-folded : (r r' : List ℕ) (b c now : ℕ) → r ≡ key_words u (K d) → b ≡ c → r' ≡ paste at (estimate_words (folded b now (estimate_of (drop at r)))) r → r' ≡ key_words u (K (folded c now d))
  slot-folded r r' b c now e t p =
      p
      ∙ (λ i. paste at (estimate_words (folded (t i) now (estimate_of (drop at (e i))))) (e i))
      ∙ ap (λ (x : Estimate). paste at (estimate_words (folded c now x)) (key_words u (K d))) (there d ∙ again-same d g)
      ∙ pasted d (folded c now d)

module _ (u : Units) (k : KeyRecord) (d q n s : Estimate) (r : List ℕ) (e : r ≡ key_words u (with_estimates k d q n s)) where
  abbrev demand_slot : Estimate → KeyRecord
  demand_slot x = with_estimates k x q n s

  abbrev request_slot : Estimate → KeyRecord
  request_slot x = with_estimates k d x n s

  abbrev denial_slot : Estimate → KeyRecord
  denial_slot x = with_estimates k d q x s

  abbrev shadow_slot : Estimate → KeyRecord
  shadow_slot x = with_estimates k d q n x

  pub ready-3 : GoodEstimate d → (7 ≤ length r) × (magnitude (of_bits binary64 (get_or r 3 0)) ≡ true)
  unfolding key_words paste
  ready-3 g = slot-ready u 3 (lit≤ tt) demand_slot (λ x y. refl) (λ x. refl) (λ x. refl) d g r e

  pub folded-3 : GoodEstimate d → (r' : List ℕ) (b c now : ℕ) → b ≡ c → r' ≡ paste 3 (estimate_words (folded b now (estimate_of (drop 3 r)))) r → r' ≡ key_words u (with_estimates k (folded c now d) q n s)
  unfolding key_words paste
  folded-3 g r' b c now = slot-folded u 3 (lit≤ tt) demand_slot (λ x y. refl) (λ x. refl) (λ x. refl) d g r r' b c now e

  pub ready-7 : GoodEstimate q → (11 ≤ length r) × (magnitude (of_bits binary64 (get_or r 7 0)) ≡ true)
  unfolding key_words paste
  ready-7 g = slot-ready u 7 (lit≤ tt) request_slot (λ x y. refl) (λ x. refl) (λ x. refl) q g r e

  pub folded-7 : GoodEstimate q → (r' : List ℕ) (b c now : ℕ) → b ≡ c → r' ≡ paste 7 (estimate_words (folded b now (estimate_of (drop 7 r)))) r → r' ≡ key_words u (with_estimates k d (folded c now q) n s)
  unfolding key_words paste
  folded-7 g r' b c now = slot-folded u 7 (lit≤ tt) request_slot (λ x y. refl) (λ x. refl) (λ x. refl) q g r r' b c now e

  pub ready-11 : GoodEstimate n → (15 ≤ length r) × (magnitude (of_bits binary64 (get_or r 11 0)) ≡ true)
  unfolding key_words paste
  ready-11 g = slot-ready u 11 (lit≤ tt) denial_slot (λ x y. refl) (λ x. refl) (λ x. refl) n g r e

  pub folded-11 : GoodEstimate n → (r' : List ℕ) (b c now : ℕ) → b ≡ c → r' ≡ paste 11 (estimate_words (folded b now (estimate_of (drop 11 r)))) r → r' ≡ key_words u (with_estimates k d q (folded c now n) s)
  unfolding key_words paste
  folded-11 g r' b c now = slot-folded u 11 (lit≤ tt) denial_slot (λ x y. refl) (λ x. refl) (λ x. refl) n g r r' b c now e

  pub ready-15 : GoodEstimate s → (19 ≤ length r) × (magnitude (of_bits binary64 (get_or r 15 0)) ≡ true)
  unfolding key_words paste
  ready-15 g = slot-ready u 15 (lit≤ tt) shadow_slot (λ x y. refl) (λ x. refl) (λ x. refl) s g r e

  pub folded-15 : GoodEstimate s → (r' : List ℕ) (b c now : ℕ) → b ≡ c → r' ≡ paste 15 (estimate_words (folded b now (estimate_of (drop 15 r)))) r → r' ≡ key_words u (with_estimates k d q n (folded c now s))
  unfolding key_words paste
  folded-15 g r' b c now = slot-folded u 15 (lit≤ tt) shadow_slot (λ x y. refl) (λ x. refl) (λ x. refl) s g r r' b c now e

-- ---- all keys

-- an element of a list that f leaves
exact-at : {A : Type 0} (f : A → A) (d : A) (xs : List A) (i : ℕ) → i < length xs → xs ≡ map f xs → get_or xs i d ≡ f (get_or xs i d)
exact-at f d xs i h e = ap (λ zs. get_or zs i d) e ∙ get_d-mapped f d d xs i h

-- record i of valid keys is that of one
pub lent_row : (u : Units) (n : ℕ) (xs : List ℕ) (i : ℕ) → LentKeys u n xs → i < n → LentKey u (get_or (records 22 n xs) i [])
lent_row u n xs i k h =
    let rs : List (List ℕ) = records 22 n xs in
    let l : i < length rs = omega (arith, length-records 22 n xs) in
    let e : rs ≡ map (λ (x : List ℕ). key_words u (key_of u x)) rs = k.exact ∙ map-map (key_words u) (key_of u) rs in
    record {
      exact = exact-at (λ (x : List ℕ). key_words u (key_of u x)) [] rs i l e;
      valid =
          ap (valid_key u) (sym (get_or-map (key_of u) rs i []))
          ∙ all-index (valid_key u) (key_of u []) (key_records u n xs) k.valids i (omega (arith, length-map rs (key_of u)));
    }

-- and so it is where it is lent
pub lent_key : (u : Units) (n : ℕ) (gs : List (List ℕ)) (xs t : List ℕ) (i : ℕ) → Mapping 22 n gs xs t i → LentKeys u n xs → i < n → LentKey u (mid_of (i * 22) (i * 22 + 22 - i * 22) t)
lent_key u n gs xs t i m k h = subst (λ (r : List ℕ). LentKey u r) (sym (map-here 22 n gs xs t i m h)) (lent_row u n xs i k h)

-- a folded key has 22 words
pub folded-wide : (u : Units) (c d now n : ℕ) (xs : List ℕ) → Wide 22 (map (folded_row u c d now) (records 22 n xs))
folded-wide u c d now n xs = wide-map (folded_row u c d now) 22 (λ r. key-long u (folded_for c d now (key_of u r))) (records 22 n xs)

-- as many, and each in its place
pub folded-many : (u : Units) (c d now n : ℕ) (xs : List ℕ) → length (map (folded_row u c d now) (records 22 n xs)) ≡ n
folded-many u c d now n xs = length-map (records 22 n xs) (folded_row u c d now) ∙ length-records 22 n xs

pub folded-at : (u : Units) (c d now n : ℕ) (xs : List ℕ) (i : ℕ) → i < n → folded_row u c d now (get_or (records 22 n xs) i []) ≡ get_or (map (folded_row u c d now) (records 22 n xs)) i []
folded-at u c d now n xs i h = sym (get_d-mapped (folded_row u c d now) [] [] (records 22 n xs) i (omega (arith, length-records 22 n xs)))

-- what `fold_keys` leaves are the words of the folded keys
pub folded-rows : (u : Units) (c d now n : ℕ) (xs : List ℕ) → map (folded_row u c d now) (records 22 n xs) ≡ map (key_words u) (map (folded_for c d now) (key_records u n xs))
folded-rows u c d now n xs =
    sym (ap (map (key_words u)) (map-map (folded_for c d now) (key_of u) (records 22 n xs)) ∙ map-map (key_words u) (λ (x : List ℕ). folded_for c d now (key_of u x)) (records 22 n xs))
