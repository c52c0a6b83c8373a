-- Laws: the rate of a key as the code works it out is the one that a tick gives it.
use mathlib.Core.Path.{◌≡◌, refl, sym, ap, ◌∙◌}
use mathlib.Core.Bool.{Bool, true, false, cond}
use mathlib.Core.List.{List, [], ◌∷◌, map}
use Prim.Native.Nat.{ℕ, zero, suc, ◌*◌, ◌≤◌, ◌<◌, zero-le, suc-le-suc}
use native.Mathlib.Nat.{le_of_suc-le-suc, not-suc-le-zero}
use native.Mathlib.Omega.{arith}
use borrow.Author.Tests.{eqb-true, eq-eqb, ne_eqb}
use lib.Dec.{eqb}
use lib.Ieee.{Float, binary64, mul, div}
use lib.ListN.{length, take, drop, get_or}
use lib.Seq.{get_or-drop}
use Rattle.float.specs.Order.{minimum_number}
use Rattle.records.specs.declared.Found.{Found}
use Rattle.records.specs.declared.Found.TheVariants.{At, Gap, Unfit}
use Rattle.records.specs.Records.{find_in}
use Rattle.questions.proofs.Tests.{contradiction, split, and_intro}
use Rattle.questions.specs.Lists.{only, present, those}
use Rattle.questions.specs.Questions.{◌asks◌, refused, given, passes}
use Rattle.questions.proofs.Answers.{answer-passed, given-passed}
use Rattle.demand.specs.declared.allocation.View.{View}
use Rattle.hot.specs.declared.hot_set.HotEntry.{HotEntry}
use Rattle.demand.specs.Allocation.{is_rate, is_floor_factor, is_cluster_size, shared, share}
use Rattle.demand.specs.Estimators.Estimator.{whole}
use Rattle.hot.specs.HotSet.Set.{entry, entries, get, is_hot}
use Rattle.peers.specs.Peers.State.{PeersState}
use Rattle.peers.specs.Peers.Readers.{total}
use Rattle.hot.specs.HotSet.Steps.{EntriesReady}
use Rattle.hot.proofs.HotSet.Words.{length-entries}
use Rattle.hot.proofs.HotSet.Map.{get_key}
use Rattle.hot.proofs.HotSet.Table.{nth, nth-is, key-rises, asc-entries, at-within, never-unfit, got-at, got-gap}
use Rattle.limiter.specs.declared.Limiter.{Limiter}
use Rattle.limiter.specs.declared.Parameters.{Parameters}
use Rattle.limiter.specs.declared.pass_two.RateTerms.{RateTerms}
use Rattle.limiter.specs.State.{KeyRecord, float_of, settings_of, key_of, units_in}
use Rattle.limiter.specs.Ticks.{Others, no_others, peers_others, is_elsewhere, rate_of, pass_two}
use Rattle.limiter.specs.Steps.PassTwoSteps.{terms_of, share_by, total_at, hot_rate, cold_rate, rate_by, with_rate, requoted}
use Rattle.gcra.specs.declared.Units.{Units}
use Rattle.std.specs.declared.result.Result.{Result}
use Rattle.std.specs.Result.{result_unwrap_or}
use Rattle.std.specs.declared.result.Result.TheVariants.{Ok, Err}
use Rattle.questions.specs.declared.Refusal.{Refusal}
use Rattle.questions.specs.Refusals.{answer_of, number}

-- ---- the share

-- what `share` answers is the share
share-given : (v : View) (r : Result Float Refusal) (x : Float) → answer_of r ≡ share v → r ≡ Ok x → x ≡ shared v
share-given v r x e q = (given-passed _ x (shared v) (ap answer_of (sym q) ∙ e)).1

-- it is refused nothing that passes 3, 5 and 7
share-never :
    (v : View) (r : Result Float Refusal) (n : Refusal) → answer_of r ≡ share v → r ≡ Err n → is_rate v.limit ≡ true
    → is_floor_factor v.floor_factor ≡ true
    → is_cluster_size v.cluster_size ≡ true → ⊥
unfolding passes
share-never v r n e q a b c =
    let qs = (3 asks is_rate v.limit) ∷ (5 asks is_floor_factor v.floor_factor) ∷ (7 asks is_cluster_size v.cluster_size) ∷ [] in
    let g : given (shared v) ≡ share v =
    answer-passed (shared v) qs (and_intro (is_rate v.limit) _ a
    (and_intro (is_floor_factor v.floor_factor) _ b (and_intro (is_cluster_size v.cluster_size) true c refl))) in
    let w : refused (number n) ≡ share v = ap answer_of (sym q) ∙ e in
    let z : ◌≡◌ {A = ℕ} 0 1 = cc in
    omega arith

-- so it is given
pub share-is :
    (v : View) (r : Result Float Refusal) (x : Float) → answer_of r ≡ share v → is_rate v.limit ≡ true → is_floor_factor v.floor_factor ≡ true
    → is_cluster_size v.cluster_size ≡ true → result_unwrap_or r x ≡ shared v
share-is v (Ok y) x e a b c = share-given v (Ok y) y e refl
share-is v (Err n) x e a b c = absurd (share-never v (Err n) n e refl a b c)

module _ (p : RateTerms) (limit own others : Float) where
  pub share-even : (z : Float) → p.even ≡ true → z ≡ whole p.cluster_size → div binary64 limit z ≡ share_by p limit own others
  unfolding share_by
  share-even z e q = rw e (ap (div binary64 limit) q)

  pub share-by :
      (x : Float) → p.even ≡ false → x ≡ shared (record {
        limit = limit;
        cluster_size = p.cluster_size;
        floor_factor = p.floor_factor;
        own = own;
        others = others;
      }) → x ≡ share_by p limit own others
  unfolding share_by
  share-by x e q = rw e q

  -- under the cap
  pub hot-is : (x y : Float) → x ≡ share_by p limit own others → y ≡ minimum_number x (mul binary64 limit p.cap) → y ≡ hot_rate p limit own others
  unfolding hot_rate
  hot-is x y e q = q ∙ ap (λ (z : Float). minimum_number z (mul binary64 limit p.cap)) e

module _ (p : RateTerms) (limit : Float) (elsewhere : Bool) (n x : Float) (e : n ≡ whole p.cluster_size) where
  pub cold_is :
      elsewhere ≡ false → x ≡ minimum_number (mul binary64 (div binary64 limit n) p.alpha) (mul binary64 limit p.cap)
      → x ≡ cold_rate p elsewhere limit
  unfolding cold_rate
  cold_is b q = rw b (q ∙ ap (λ (z : Float). minimum_number (mul binary64 (div binary64 limit z) p.alpha) (mul binary64 limit p.cap)) e)

  pub least-is :
      elsewhere ≡ true → (y : Float)
      → y ≡ minimum_number (div binary64 (mul binary64 limit p.floor_factor) n) (mul binary64 (div binary64 limit n) p.alpha)
      → x ≡ minimum_number y (mul binary64 limit p.cap) → x ≡ cold_rate p elsewhere limit
  unfolding cold_rate
  least-is b y h q =
      rw b
      (q
      ∙ ap (λ (v : Float). minimum_number v (mul binary64 limit p.cap))
      (h ∙ ap (λ (v : Float). minimum_number (div binary64 (mul binary64 limit p.floor_factor) v)
      (mul binary64 (div binary64 limit v) p.alpha)) e))

-- ---- the total of a hot key

-- it stands at the place of the key's entry, the first that has it
total-place :
    (d : Float) (key : ℕ) (es : List HotEntry) (ts : List Float) (i : ℕ) → i < length es → length es ≤ length ts → (nth es i).key ≡ key
    → ((j : ℕ) → j < i → (nth es j).key < key) → total_at key es ts ≡ get_or ts i d
unfolding total_at
total-place d key [] ts i h l e b = absurd (not-suc-le-zero h)
total-place d key (x ∷ es) [] i h l e b = absurd (not-suc-le-zero l)
total-place d key (x ∷ es) (t ∷ ts) zero h l e b = rw (eq-eqb x.key key e)
total-place d key (x ∷ es) (t ∷ ts) (suc i) h l e b =
    rw (ne_eqb x.key key (λ q. omega (arith, b 0 (suc-le-suc zero-le))))
    (total-place d key es ts i (le_of_suc-le-suc h) (le_of_suc-le-suc l) e (λ j m. b (suc j) (suc-le-suc m)))

-- of totals that are the peers'
pub total-is :
    (p : PeersState) (key : ℕ) (es : List HotEntry) (ts : List Float) → take (length es) ts ≡ map (λ (e : HotEntry). total e.key p) es
    → is_hot key es ≡ true → total_at key es ts ≡ total key p
unfolding total_at get those only
total-is p key [] ts e h = contradiction (sym h)
total-is p key (x ∷ es) [] e h = absurd (let z : ◌≡◌ {A = ℕ} 0 1 = cc in omega arith)
total-is p key (x ∷ es) (t ∷ ts) e h = split (eqb x.key key)
    (λ q. rw q (ap (λ (l : List Float). get_or l 0 (whole 0)) e ∙ ap (λ (k : ℕ). total k p) (eqb-true x.key key q)))
    (λ q. rw q (total-is p key es ts (ap (λ (l : List Float). drop 1 l) e) (rw q at h)))

-- ---- the key in a record's words
module _ (u : Units) (p : RateTerms) (r : List ℕ) (h : ℕ) (hot : List ℕ) (k : EntriesReady h hot) (ts : List Float) (elsewhere : Bool) where
  abbrev es : List HotEntry
  es = entries h hot

  rate-by :
      rate_by p es ts elsewhere (key_of u r) ≡ cond (is_hot (get_or r 0 0) es)
      (hot_rate p (float_of (get_or r 1 0)) (float_of (get_or r 3 0)) (total_at (get_or r 0 0) es ts)) (cold_rate p elsewhere (float_of (get_or r 1 0)))
  unfolding rate_by key_of
  rate-by =
      ap (λ (w : ℕ). cond (is_hot (get_or r 0 0) es) (hot_rate p (float_of (get_or r 1 0)) (float_of w) (total_at (get_or r 0 0) es ts))
      (cold_rate p elsewhere (float_of (get_or r 1 0)))) (get_or-drop 3 r 0 0)

  -- a key that is found is hot, and has its total there
  pub rate-found :
      (d : Float) (i : ℕ) (limit own x : Float) → length es ≤ length ts → At i ≡ find_in 6 1 h (get_or r 0 0) 0 hot → limit ≡ float_of (get_or r 1 0)
      → own ≡ float_of (get_or r 3 0)
      → x ≡ hot_rate p limit own (get_or ts i d) → x ≡ rate_by p es ts elsewhere (key_of u r)
  rate-found d i limit own x l e a b q =
      let key = get_or r 0 0 in
      let g = sym (got-at h hot k key i e) in
      let y : is_hot key es ≡ true = ap present g in
      let w : i < length es = omega (arith, at-within h hot k key i e, length-entries h hot) in
      let here : (nth es i).key ≡ key = ap (λ (x : HotEntry). x.key) (nth-is h hot i (at-within h hot k key i e).0) ∙ get_key key es (entry (drop (i * 6) hot)) g in
      let t : total_at key es ts ≡ get_or ts i d = total-place d key es ts i w l here (λ j m. omega (arith, here, key-rises es (asc-entries h hot k) j i m w)) in
      q
      ∙ (λ m. hot_rate p (a m) (b m) (sym t m))
      ∙ sym (rate-by ∙ ap (λ (c : Bool). cond c (hot_rate p (float_of (get_or r 1 0)) (float_of (get_or r 3 0)) (total_at (get_or r 0 0) es ts))
      (cold_rate p elsewhere (float_of (get_or r 1 0)))) y)

  -- one that is not is cold
  gap-rate :
      (i : ℕ) (limit x : Float) → Gap i ≡ find_in 6 1 h (get_or r 0 0) 0 hot → limit ≡ float_of (get_or r 1 0) → x ≡ cold_rate p elsewhere limit
      → x ≡ rate_by p es ts elsewhere (key_of u r)
  gap-rate i limit x e a q =
      let y : is_hot (get_or r 0 0) es ≡ false = sym (ap present (got-gap h hot k (get_or r 0 0) i e)) in
      q
      ∙ ap (cold_rate p elsewhere) a
      ∙ sym (rate-by ∙ ap (λ (c : Bool). cond c (hot_rate p (float_of (get_or r 1 0)) (float_of (get_or r 3 0)) (total_at (get_or r 0 0) es ts))
      (cold_rate p elsewhere (float_of (get_or r 1 0)))) y)

  pub rate-absent :
      (f : Found) (limit x : Float) → ((i : ℕ) → f ≡ At i → ⊥) → f ≡ find_in 6 1 h (get_or r 0 0) 0 hot → limit ≡ float_of (get_or r 1 0)
      → x ≡ cold_rate p elsewhere limit → x ≡ rate_by p es ts elsewhere (key_of u r)
  rate-absent (At i) limit x n e a q = absurd (n i refl)
  rate-absent (Gap i) limit x n e a q = gap-rate i limit x e a q
  rate-absent Unfit limit x n e a q = never-unfit h hot k (get_or r 0 0) e

-- ---- the rates that a tick gives
module _ (par : Parameters) (l : Limiter) (even : Bool) (o : Others) (now n : ℕ) (es : List HotEntry) (ts : List Float)
    (same : (k : KeyRecord) → is_hot k.key es ≡ true
    → o.share k ≡ share_by (terms_of l even n) k.limit.rate k.demand.rate (total_at k.key es ts)) where
  abbrev elsewhere : KeyRecord → Bool
  elsewhere k = is_elsewhere par (settings_of l) o now n k

  rate-is : (k : KeyRecord) (b : Bool) → b ≡ elsewhere k → rate_by (terms_of l even n) es ts b k ≡ rate_of par (settings_of l) o now n es k
  unfolding rate_by rate_of hot_rate cold_rate
  rate-is k b e = split (is_hot k.key es)
      (λ h. rw h (ap (λ (x : Float). minimum_number x (mul binary64 k.limit.rate (terms_of l even n).cap)) (sym (same k h))))
      (λ h. rw h (ap (λ (c : Bool). cold_rate (terms_of l even n) c k.limit.rate) e ∙ split (elsewhere k) (λ q. rw q) (λ q. rw q)))

  -- so that the keys have the quotas of pass two
  pub requoted-is :
      (bs : List Bool) (ks : List KeyRecord) → take (length ks) bs ≡ map elsewhere ks
      → requoted (units_in l) (terms_of l even n) es ts now bs ks ≡ pass_two par (settings_of l) o now n (units_in l) es ks
  unfolding requoted
  requoted-is [] [] e = refl
  requoted-is [] (k ∷ ks) e = absurd (let z : ◌≡◌ {A = ℕ} 0 1 = cc in omega arith)
  requoted-is (b ∷ bs) [] e = refl
  requoted-is (b ∷ bs) (k ∷ ks) e =
      let q : b ≡ elsewhere k = ap (λ (l : List Bool). get_or l 0 false) e in
      (λ i. with_rate (units_in l) (rate-is k b q i) now k ∷ requoted-is bs ks (ap (λ (l : List Bool). drop 1 l) e) i)

-- a plain tick shares evenly
pub even-share :
    (l : Limiter) (n : ℕ) (es : List HotEntry) (ts : List Float) (k : KeyRecord) → is_hot k.key es ≡ true
    → (no_others n).share k ≡ share_by (terms_of l true n) k.limit.rate k.demand.rate (total_at k.key es ts)
unfolding share_by
even-share l n es ts k h = refl

-- with peers it shares by their totals
pub peers-share :
    (l : Limiter) (p : PeersState) (n : ℕ) (es : List HotEntry) (ts : List Float) → take (length es) ts ≡ map (λ (e : HotEntry). total e.key p) es
    → (k : KeyRecord) → is_hot k.key es ≡ true
    → (peers_others (settings_of l) p n).share k ≡ share_by (terms_of l false n) k.limit.rate k.demand.rate (total_at k.key es ts)
unfolding share_by
peers-share l p n es ts e k h =
    ap (λ (x : Float). shared (record {
      limit = k.limit.rate;
      cluster_size = n;
      floor_factor = l.config.floor_factor;
      own =
          k.demand.rate;
      others = x;
    })) (sym (total-is p k.key es ts e h))
